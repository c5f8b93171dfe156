-- Who comes to the acceptor, and what the net then gave and counted.
use Rattle.std.specs.Prelude.{◌≡◌, ℕ, ◌+◌, ⊤, Bool, true, false, Option, IfSome}
use Rattle.ts_link.specs.Counts.{Counted}
use Rattle.ts_link.specs.declared.link.Link as link
use Rattle.ts_upstream.specs.declared.upstream.Upstream as upstream
use Rattle.ts_txn.specs.Making.{IsNewLink}
use Rattle.ts_txn.specs.Net.{IsHandedNothing, IsNextOrigin, NetSeen}
use Rattle.ts_serve.specs.declared.arrival.Arrival.{Arrival}
use Rattle.ts_serve.specs.declared.arrival.Arrival.TheVariants as arrival

-- how many clients a net gave, once one came or none
abbrev pub given_after : {C O : Type 0} → ℕ → Arrival C O → ℕ
given_after given (arrival.Came client origin) = given + 1
given_after given _ = given

-- which of the answers that a net counts it is
abbrev pub is_nobody : {C O : Type 0} → Arrival C O → Bool
is_nobody arrival.Nobody = true
is_nobody _ = false

abbrev pub is_closed : {C O : Type 0} → Arrival C O → Bool
is_closed arrival.Closed = true
is_closed _ = false

abbrev pub is_failed : {C O : Type 0} → Arrival C O → Bool
is_failed arrival.Failed = true
is_failed _ = false

module _ {C O : Type 0} (clients : link.Ghosts C) (origins : link.Ghosts O) (both : upstream.Ghosts O C) where
  -- A client came with this number for its name, and its origin, if that was reached. Neither was used, where
  -- it tells; the origin belongs to any client and refuses no upload.
  pub record IsArrival (number : ℕ) (client : C) (origin : Option O) : Type 0 where
    pub named : (clients.look client).name ≡ number
    pub unused : clients.tells ≡ true → IsNewLink (clients.look client)
    pub reached : IfSome origin (IsNextOrigin origins both)

  -- the same of whoever came
  abbrev pub CameAs : ℕ → Arrival C O → Type 0
  CameAs number (arrival.Came client origin) = IsArrival number client origin
  CameAs number _ = ⊤

  -- a client came with this number, or each other answer was counted by the net
  pub record Receives (number : ℕ) (answer : Arrival C O) (old new : NetSeen C O) : Type 0 where
    pub came : CameAs number answer
    pub handed : IsHandedNothing old new
    pub waits : Counted (is_nobody answer) old.counts.waits new.counts.waits
    pub ends : Counted (is_closed answer) old.counts.ends new.counts.ends
    pub faults : Counted (is_failed answer) old.counts.faults new.counts.faults
    pub given : new.given ≡ given_after old.given answer

-- the net was not asked for a client; it may have been asked for the origin of one
pub record IsNotAccepting {C O : Type 0} (old new : NetSeen C O) : Type 0 where
  pub given : new.given ≡ old.given
  pub ends : new.counts.ends ≡ old.counts.ends
  pub faults : new.counts.faults ≡ old.counts.faults
