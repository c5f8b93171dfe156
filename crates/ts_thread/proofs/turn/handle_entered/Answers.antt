use Rattle.std.proofs.Common.{ℕ, sym, subst, ap, ◌∙◌}
use Rattle.ts_slot.specs.Words.{tags_of}
use Rattle.ts_thread.specs.Held.{HasTurn}
use Rattle.ts_thread.specs.Tokens.{is_shared}
use Rattle.ts_thread.proofs.Uses.{closes_desk, serve_ends}
use Rattle.ts_thread.proofs.Worked.{given_marks}
use Rattle.ts_thread.proofs.turn.handle_entered.Goals as goal

pub leave-requires-clause-marks : goal.leave-requires-clause-marks
leave-requires-clause-marks g c mark there =
    given_marks g.W.Slotted.fits c.value.result.now c.begin.new.group c.args.turn.found.value
    c.number-number.result c.args.turn.number c.number-owner.result c.args.desk.now.seat.number
    c.in-Err.ensures.err.0
    (c.value.ensures.value ∙ sym c.requires.found.same)
    c.number-number.ensures
    c.number-owner.ensures
    mark
    there

pub end_turn-told-requires-clause-desk : goal.end_turn-told-requires-clause-desk
end_turn-told-requires-clause-desk g c = c.handle_token-did.ensures.desk c.args.shared.now.queue.now c.requires.desk

pub returns-in_err-did-clause-closes : goal.returns-in_err-did-clause-closes
returns-in_err-did-clause-closes g c = closes_desk c.args.desk.now c.handle_token-did.new.desk
    c.end_turn-told.new.desk c.handle_token-did.ensures.keeps c.end_turn-told.ensures.leaves

pub returns-in_err-told-clause-closes : goal.returns-in_err-told-clause-closes
returns-in_err-told-clause-closes g c = closes_desk c.args.desk.now c.handle_token-did.new.desk
    c.end_turn-told.new.desk c.handle_token-did.ensures.keeps c.end_turn-told.ensures.leaves

pub returns-clause-closes : goal.returns-clause-closes
returns-clause-closes g c = closes_desk c.args.desk.now c.handle_token-did.new.desk c.end_turn-told.new.desk
    c.handle_token-did.ensures.keeps c.end_turn-told.ensures.leaves

pub returns-clause-serves : goal.returns-clause-serves
returns-clause-serves g c =
    let worked = c.in_ok-did.ensures in
    let begun = c.in_default.ensures in
    serve_ends g.W.Slotted.fits g.W.World.asking g.W.World.answers g.W.World.called g.W.World.heard
    g.W.World.left (tags_of c.args.shared.now.slots.now) c.args.token c.is_shared-hands_over.result c.args.turn.group
    c.args.turn.number c.args.moment c.args.turn.found.value c.value.result.now c.begin.new.group
    c.value-2.result.now c.handle_token-did.new.group c.args.desk.now c.handle_token-did.new.desk
    c.end_turn-told.new.desk c.in_ok-did.did
    (c.is_shared-hands_over.ensures ∙ ap (λ (n : ℕ). is_shared n) c.number-number.ensures)
    c.requires.found.group
    (c.value.ensures.value ∙ sym c.requires.found.same)
    begun.same
    (subst (λ (x : ℕ × ℕ). HasTurn g.W.Slotted.fits c.value.result.now c.begin.new.group x.0 x.1)
    (λ i. (c.number-number.ensures i, c.number-owner.ensures i)) begun.begun)
    c.value-2.ensures.value
    worked.worked.goes.news_from
    worked.works
    worked.worked.ran
    worked.shown
    c.end_turn-told.ensures.leaves
    c.in_ok-told.ensures.ends
