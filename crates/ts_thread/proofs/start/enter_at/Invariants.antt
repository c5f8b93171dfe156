use Rattle.ts_slot.specs.Words.{view, IsSeatOf}
use Rattle.ts_thread.specs.Seats.{KeepsSeat}
use Rattle.ts_thread.proofs.start.enter_at.Given as goal

abbrev pub invariant-tries : goal.invariant-tries
invariant-tries g l = IsSeatOf l.slots l.seat × KeepsSeat (view l.initial.seat) (view l.seat) 0
