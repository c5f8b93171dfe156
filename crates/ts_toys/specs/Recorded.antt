-- A turn of a group that is recorded and given back at once.
use Rattle.std.specs.Prelude.{◌≡◌, ℕ, false, [], ◌∷◌}
use Rattle.ts_journal.specs.declared.entry.Entry.TheVariants.{Took, Gave}
use Rattle.ts_journal.specs.Log.{GoesOn}
use Rattle.ts_group.specs.declared.group.Group.{Group}

-- the journal goes on by this turn of this seat, and the world stays
pub record Records {W Q R T U : Type 0} (old new : Group W Q R T U) (turn seat : ℕ) : Type 0 where
  pub by : GoesOn old.cx.log new.cx.log (Took turn seat ∷ Gave turn ∷ [])
  pub idle : new.cx.log.state.held ≡ false
  pub turns : new.cx.log.state.turns ≡ turn
  pub next : new.cx.log.state.next ≡ old.cx.log.state.next
  pub pending : new.cx.log.state.pending ≡ old.cx.log.state.pending
  pub world : new.world ≡ old.world
