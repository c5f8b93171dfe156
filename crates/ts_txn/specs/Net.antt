-- What contracts see of a net, and what each of its answers says.
use Rattle.std.specs.Prelude.{◌≡◌, ℕ, ◌+◌, ◌++◌, List, [], ◌∷◌, Bool, true, false, ⊤}
use Rattle.ts_link.specs.Counts.{Counted}
use Rattle.ts_link.specs.Link.{Look}
use Rattle.ts_link.specs.declared.link.Link as link
use Rattle.ts_upstream.specs.declared.upstream.Upstream as upstream
use Rattle.ts_txn.specs.Making.{IsNewLink}
use Rattle.ts_txn.specs.declared.net.Accepted.{Accepted}
use Rattle.ts_txn.specs.declared.net.Accepted.TheVariants as A
use Rattle.ts_txn.specs.declared.net.Began.{Began}
use Rattle.ts_txn.specs.declared.net.Began.TheVariants as B
use Rattle.ts_txn.specs.declared.net.Dialed.{Dialed}
use Rattle.ts_txn.specs.declared.net.Dialed.TheVariants as D
use Rattle.ts_txn.specs.declared.net.NetCounts.{NetCounts}
use Rattle.ts_txn.specs.declared.retired.Noted.{Noted}
use Rattle.ts_txn.specs.declared.retired.Retired.{Retired}

-- What is seen of a net: how many clients it gave, how many transactions it was handed, and of how many it was
-- told after which the client went on; of each of them, where it tells, what was left, in order; and how many
-- answers of each kind it gave.
pub record NetSeen (C O : Type 0) : Type 0 where
  pub given : ℕ
  pub handed : ℕ
  pub retired : List (Retired C O)
  pub notes : ℕ
  pub noted : List (Noted O)
  pub counts : NetCounts

-- a net that gave no client and was handed nothing
pub record IsFreshNet {C O : Type 0} (net : NetSeen C O) : Type 0 where
  pub given : net.given ≡ 0
  pub handed : net.handed ≡ 0
  pub retired : net.retired ≡ []
  pub notes : net.notes ≡ 0
  pub noted : net.noted ≡ []

-- which counts an answer raises
pub record Raised : Type 0 where
  pub faults : Bool
  pub misdials : Bool
  pub waits : Bool
  pub ends : Bool

abbrev pub raises_none : Raised
raises_none = record { faults = false; misdials = false; waits = false; ends = false }

abbrev pub raised_by_begin : Began → Raised
raised_by_begin B.Ready = raises_none
raised_by_begin B.Failed = record raises_none { faults = true }
raised_by_begin B.NoMemory = raises_none

abbrev pub raised_by_accept : {C : Type 0} → Accepted C → Raised
raised_by_accept (A.Client c) = raises_none
raised_by_accept A.Again = record raises_none { waits = true }
raised_by_accept A.Closed = record raises_none { ends = true }
raised_by_accept A.Failed = record raises_none { faults = true }

abbrev pub raised_by_dial : {O : Type 0} → Dialed O → Raised
raised_by_dial (D.Origin o) = raises_none
raised_by_dial D.Failed = record raises_none { misdials = true }

-- each count rises with the answers that it counts, and with no other
pub record CountsRise {C O : Type 0} (raised : Raised) (old new : NetSeen C O) : Type 0 where
  pub faults : Counted raised.faults old.counts.faults new.counts.faults
  pub misdials : Counted raised.misdials old.counts.misdials new.counts.misdials
  pub waits : Counted raised.waits old.counts.waits new.counts.waits
  pub ends : Counted raised.ends old.counts.ends new.counts.ends

-- it was handed nothing
pub record IsHandedNothing {C O : Type 0} (old new : NetSeen C O) : Type 0 where
  pub handed : new.handed ≡ old.handed
  pub retired : new.retired ≡ old.retired
  pub notes : new.notes ≡ old.notes
  pub noted : new.noted ≡ old.noted

-- it gave no client and was handed nothing
pub record GivesNobody {C O : Type 0} (old new : NetSeen C O) : Type 0 where
  pub given : new.given ≡ old.given
  pub handed : IsHandedNothing old new

-- it was handed what is left of this transaction
pub record IsHanded {C O : Type 0} (tells : Bool) (retired : Retired C O) (old new : NetSeen C O) :
    Type 0 where
  pub handed : new.handed ≡ old.handed + 1
  pub told : tells ≡ true → new.retired ≡ old.retired ++ retired ∷ []
  pub notes : new.notes ≡ old.notes
  pub noted : new.noted ≡ old.noted
  pub given : new.given ≡ old.given
  pub counts : new.counts ≡ old.counts

-- it was handed what is left of this transaction, after which its client goes on
pub record IsNoted {C O : Type 0} (tells : Bool) (noted : Noted O) (old new : NetSeen C O) : Type 0 where
  pub notes : new.notes ≡ old.notes + 1
  pub told : tells ≡ true → new.noted ≡ old.noted ++ noted ∷ []
  pub handed : new.handed ≡ old.handed
  pub retired : new.retired ≡ old.retired
  pub given : new.given ≡ old.given
  pub counts : new.counts ≡ old.counts

-- some names came behind those that were there
pub record AddsNames (old new : List ℕ) : Type 0 where
  pub more : List ℕ
  pub behind : new ≡ old ++ more

-- The client that comes after so many: its name is its number among all that were given, it is the first link
-- of its connection and, where it tells, it gave and took nothing.
pub record IsNextClient (tells : Bool) (client : Look) (before given : ℕ) : Type 0 where
  pub number : given ≡ before + 1
  pub name : client.name ≡ given
  pub first : client.before ≡ ([], [])
  pub unused : tells ≡ true → IsNewLink client

-- an accept gives the next client, or none
abbrev pub GivesClient : {C O : Type 0} → link.Ghosts C → Accepted C → NetSeen C O → NetSeen C O → Type 0
GivesClient client (A.Client c) old new = IsNextClient client.tells (client.look c) old.given new.given
GivesClient client A.Again old new = new.given ≡ old.given
GivesClient client A.Closed old new = new.given ≡ old.given
GivesClient client A.Failed old new = new.given ≡ old.given

module _ {C O : Type 0} (origin : link.Ghosts O) (both : upstream.Ghosts O C) where
  -- The origin of a client: where it tells, it gave and took nothing; it belongs to any client, and refuses
  -- no upload.
  pub record IsNextOrigin (o : O) : Type 0 where
    pub unused : origin.tells ≡ true → IsNewLink (origin.look o)
    pub paired : (c : C) → both.paired c o
    pub takes : (list : List ℕ) → both.refuses o list → ⊥

  -- what a dial gives
  abbrev pub GivesOrigin : Dialed O → Type 0
  GivesOrigin (D.Origin o) = IsNextOrigin o
  GivesOrigin D.Failed = ⊤
