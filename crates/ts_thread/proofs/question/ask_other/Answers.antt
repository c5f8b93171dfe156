use Rattle.ts_lists.proofs.Places.{place_below}
use Rattle.ts_slot.specs.Words.{tags_of, view}
use Rattle.ts_thread.proofs.Seats.{won_left}
use Rattle.ts_thread.proofs.question.ask_other.Goals as goal

pub try_enter-requires-clause-group : goal.try_enter-requires-clause-group
try_enter-requires-clause-group g c = place_below (tags_of c.args.slots.now) c.args.k c.requires.asked.0
    c.requires.asked.1

pub returns-in-Ok-ask_won-clause-keeps : goal.returns-in-Ok-ask_won-clause-keeps
returns-in-Ok-ask_won-clause-keeps g c =
    won_left (view c.args.seat.now) (view c.try_enter.new.seat) (view c.ask_won.new.seat) c.args.k
    c.in-Ok.turn.number c.in-Ok.turn.boxed.value c.in-Ok.ensures.won c.ask_won.ensures.leaves

pub returns-in-Err-ask_won-clause-keeps : goal.returns-in-Err-ask_won-clause-keeps
returns-in-Err-ask_won-clause-keeps g c =
    won_left (view c.args.seat.now) (view c.try_enter.new.seat) (view c.ask_won.new.seat) c.args.k
    c.in-Ok.turn.number c.in-Ok.turn.boxed.value c.in-Ok.ensures.won c.ask_won.ensures.leaves
