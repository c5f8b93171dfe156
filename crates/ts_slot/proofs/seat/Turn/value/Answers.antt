-- A turn with another value is the same turn else.
use Rattle.std.proofs.Common.{refl}
use Rattle.ts_slot.proofs.Turns.{turn_same}
use Rattle.ts_slot.proofs.seat.Turn.value.Goals as goal

pub returns : goal.returns
returns g c = (
  (refl, λ w. turn_same _ _ refl refl refl refl),
  record { writes_back = tt; value = c.deref_mut.ensures.value },
)
