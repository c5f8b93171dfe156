-- Behind a step that goes on the ends of a body are roused, and behind another nothing is done.
use Rattle.std.proofs.Common.{refl, sym, subst}
use Rattle.ts_phases.specs.View.{view_of}
use Rattle.ts_relay.specs.BodyLinks.{OnlyOfEnds, is_late, pause_if}
use Rattle.ts_relay.specs.Duties.{SettlesAfter}
use Rattle.ts_relay.specs.declared.last_writes.BodyStep.TheVariants as S
use Rattle.ts_relay.proofs.BodyEvents.{settles_after, settles_none}
use Rattle.ts_relay.proofs.BodyTimes.{ends_none}
use Rattle.ts_relay.proofs.events.settle_after.Goals as goal

pub returns-in-Goes-clause-settles : goal.returns-in-Goes-clause-settles
returns-in-Goes-clause-settles g c =
    subst (λ x. SettlesAfter x c.settle_body.result (view_of g.C.Link g.O.Link c.args.core.now)
    c.args.main.now c.settle_body.new.main c.args.relay.now c.settle_body.new.relay c.args.cx.now
    c.settle_body.new.cx) (sym c.in-Goes.is)
    (settles_after S.Goes c.settle_body.result (view_of g.C.Link g.O.Link c.args.core.now) c.args.main.now
    c.settle_body.new.main c.args.relay.now c.settle_body.new.relay c.args.cx.now c.settle_body.new.cx
    c.settle_body.ensures.settles.goes c.settle_body.ensures.settles)

pub returns-in-Waits-clause-settles : goal.returns-in-Waits-clause-settles
returns-in-Waits-clause-settles g c =
    subst (λ x. SettlesAfter x c.settle_body-in-Waits.result (view_of g.C.Link g.O.Link c.args.core.now)
    c.args.main.now c.settle_body-in-Waits.new.main c.args.relay.now c.settle_body-in-Waits.new.relay
    c.args.cx.now c.settle_body-in-Waits.new.cx) (sym c.in-Waits.is)
    (settles_after S.Waits c.settle_body-in-Waits.result (view_of g.C.Link g.O.Link c.args.core.now)
    c.args.main.now c.settle_body-in-Waits.new.main c.args.relay.now c.settle_body-in-Waits.new.relay
    c.args.cx.now c.settle_body-in-Waits.new.cx
    c.settle_body-in-Waits.ensures.settles.goes c.settle_body-in-Waits.ensures.settles)

pub returns-in-Finishes-clause-settles : goal.returns-in-Finishes-clause-settles
returns-in-Finishes-clause-settles g c =
    subst (λ x. SettlesAfter x (S.Finishes c.in-Finishes.end) (view_of g.C.Link g.O.Link c.args.core.now)
    c.args.main.now c.args.main.now c.args.relay.now c.args.relay.now c.args.cx.now c.args.cx.now)
    (sym c.in-Finishes.is)
    (settles_none (S.Finishes c.in-Finishes.end) (view_of g.C.Link g.O.Link c.args.core.now) c.args.main.now
    c.args.relay.now c.args.cx.now c.requires.turn refl (λ X. tt))

pub returns-in-Closes-clause-settles : goal.returns-in-Closes-clause-settles
returns-in-Closes-clause-settles g c =
    subst (λ x. SettlesAfter x (S.Closes c.in-Closes.end) (view_of g.C.Link g.O.Link c.args.core.now)
    c.args.main.now c.args.main.now c.args.relay.now c.args.relay.now c.args.cx.now c.args.cx.now)
    (sym c.in-Closes.is)
    (settles_none (S.Closes c.in-Closes.end) (view_of g.C.Link g.O.Link c.args.core.now) c.args.main.now
    c.args.relay.now c.args.cx.now c.requires.turn refl (λ X. tt))

pub returns-in-Lacks-clause-settles : goal.returns-in-Lacks-clause-settles
returns-in-Lacks-clause-settles g c =
    subst (λ x. SettlesAfter x S.Lacks (view_of g.C.Link g.O.Link c.args.core.now) c.args.main.now
    c.args.main.now c.args.relay.now c.args.relay.now c.args.cx.now c.args.cx.now) (sym c.in-Lacks.is)
    (settles_none S.Lacks (view_of g.C.Link g.O.Link c.args.core.now) c.args.main.now c.args.relay.now
    c.args.cx.now c.requires.turn refl (λ X. tt))

pub returns-in-Goes-clause-due : goal.returns-in-Goes-clause-due
returns-in-Goes-clause-due g c =
    subst (λ x. OnlyOfEnds (pause_if (is_late x) c.args.pauses.0) (pause_if (is_late x) c.args.pauses.1)
    c.args.main.now c.args.relay.now.reader c.args.cx.now c.settle_body.new.cx) (sym c.in-Goes.is)
    c.settle_body.ensures.due

pub returns-in-Waits-clause-due : goal.returns-in-Waits-clause-due
returns-in-Waits-clause-due g c =
    subst (λ x. OnlyOfEnds (pause_if (is_late x) c.args.pauses.0) (pause_if (is_late x) c.args.pauses.1)
    c.args.main.now c.args.relay.now.reader c.args.cx.now c.settle_body-in-Waits.new.cx) (sym c.in-Waits.is)
    c.settle_body-in-Waits.ensures.due

pub returns-in-Finishes-clause-due : goal.returns-in-Finishes-clause-due
returns-in-Finishes-clause-due g c = ends_none _ _ c.args.main.now c.args.relay.now.reader c.args.cx.now

pub returns-in-Closes-clause-due : goal.returns-in-Closes-clause-due
returns-in-Closes-clause-due g c = ends_none _ _ c.args.main.now c.args.relay.now.reader c.args.cx.now

pub returns-in-Lacks-clause-due : goal.returns-in-Lacks-clause-due
returns-in-Lacks-clause-due g c = ends_none _ _ c.args.main.now c.args.relay.now.reader c.args.cx.now
