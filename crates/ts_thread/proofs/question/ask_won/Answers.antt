use Rattle.std.proofs.Common.{sym, ◌∙◌}
use Rattle.ts_thread.proofs.Worked.{given_marks}
use Rattle.ts_thread.proofs.question.ask_won.Goals as goal

pub leave-requires-clause-marks : goal.leave-requires-clause-marks
leave-requires-clause-marks g c mark there =
    given_marks g.W.Slotted.fits c.value.result.now c.ask_turn-reply.new.group c.args.turn.found.value
    c.number-number.result c.args.turn.number c.number-owner.result c.args.seat.now.number
    c.ask_turn-reply.ensures.given
    (c.value.ensures.value ∙ sym c.requires.found.0)
    c.number-number.ensures
    c.number-owner.ensures
    mark
    there
