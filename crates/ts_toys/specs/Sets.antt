-- Events that a handler sets one after the other.
use Rattle.std.specs.Prelude.{◌≡◌, ℕ, ◌+◌, ◌≤◌, Bool, true, length}
use Rattle.ts_journal.specs.State.{State}
use Rattle.ts_group.specs.Context.{AllPlain}

-- so many events were set at most, and exactly so many where all were
pub record SetsEvents (all : Bool) (many : ℕ) (old new : State) : Type 0 where
  pub next : new.next ≤ old.next + many
  pub more : length old.pending ≤ length new.pending
  pub most : length new.pending ≤ length old.pending + many
  pub set : new.next + length old.pending ≡ old.next + length new.pending
  pub exact : all ≡ true → length new.pending ≡ length old.pending + many
  pub plain : AllPlain old.pending → AllPlain new.pending
