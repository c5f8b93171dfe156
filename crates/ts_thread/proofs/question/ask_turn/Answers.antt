use Rattle.std.proofs.Common.{sym, subst}
use Rattle.ts_thread.proofs.Groups.{has_gone, given_back}
use Rattle.ts_thread.proofs.Worked.{can_be_asked, asked_goes}
use Rattle.ts_thread.proofs.question.ask_turn.Goals as goal

pub ask-reply-requires-clause-can : goal.ask-reply-requires-clause-can
ask-reply-requires-clause-can g c =
    let fit = c.requires.fits in
    let now = c.begin.new.group in
    let fits = subst (λ w. g.W.Slotted.fits fit.0 w) (sym c.in-Ok.ensures.same.world) fit.1.0 in
    can_be_asked g.W.Slotted.fits g.W.World.sound g.W.World.only_asked g.W.World.is_first c.args.group.now now
    c.args.turn c.args.seat fit.0 c.in-Ok.ensures.begun c.in-Ok.ensures.same fit.1 fit.2 c.requires.turn.0
    c.requires.turn.1
    (g.met.W.World.rests fit.0 now.world now.cx.log.state now.cx.roles fits c.in-Ok.ensures.sound)

pub returns-clause-given : goal.returns-clause-given
returns-clause-given g c =
    let begun = c.in-Ok.ensures.begun in
    let asked = c.ask-reply.ensures in
    let goes = asked_goes g.W.Slotted.fits g.W.World.sound g.W.World.only_asked g.W.World.is_first
    g.W.World.answers c.ask-reply.result c.begin.new.group c.ask-reply.new.self c.args.question
    c.args.moment c.known.ensures.valid begun.held asked.replied asked.err asked.promises.tags in
    given_back g.W.Slotted.fits c.args.group.now c.ask-reply.new.self c.give.new.group c.args.turn c.args.seat
    (has_gone g.W.Slotted.fits c.args.group.now c.begin.new.group c.ask-reply.new.self c.args.turn
    c.args.seat begun goes) c.give.ensures.gives
