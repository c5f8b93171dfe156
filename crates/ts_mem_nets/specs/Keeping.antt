-- What contracts see of a net in memory that has counts of its own, and keeps the texts with which it begins.
use Rattle.std.specs.Prelude.{◌≡◌, ℕ, List, IsSomeAnd}
use Rattle.std.specs.String.{string_bytes}
use Rattle.ts_link.specs.MemLink.{LinkState}
use Rattle.ts_mem_nets.specs.declared.keeping_net.Addresses.{Addresses}
use Rattle.ts_mem_nets.specs.declared.keeping_net.KeepingNet.{KeepingNet}
use Rattle.ts_txn.specs.MemNet.{NetState, seen_of}
use Rattle.ts_txn.specs.Net.{NetSeen}
use Rattle.ts_txn.specs.declared.net.Began.{Began}
use Rattle.ts_txn.specs.declared.net.Began.TheVariants as B
use Rattle.ts_txn.specs.declared.net.NetCounts.{NetCounts}

-- the clients and transactions of that net, and these counts
abbrev pub seen_with : NetState → NetCounts → NetSeen LinkState LinkState
seen_with net counts = record (seen_of net) { counts = counts }

-- these are the two texts
pub record AreTexts (listen origin : List ℕ) (texts : Addresses) : Type 0 where
  pub listen_is : string_bytes texts.listen ≡ listen
  pub origin_is : string_bytes texts.origin ≡ origin

-- a net that begins keeps the two texts, and one that does not stays as it was
abbrev pub KeepsTexts : List ℕ → List ℕ → Began → KeepingNet → KeepingNet → Type 0
KeepsTexts listen origin B.Ready old new = IsSomeAnd new.begun (AreTexts listen origin)
KeepsTexts listen origin _ old new = new ≡ old
