-- The next step is that of the phase, or one of the last writes.
use Rattle.std.proofs.Common.{sym, subst}
use Rattle.ts_group.specs.declared.world.Want.TheVariants as W
use Rattle.ts_relay.specs.declared.relay.TheConstants.{MAIN}
use Rattle.ts_txn.specs.CourseCover.{PassesNoBody}
use Rattle.ts_txn.specs.EventsOwed.{EventOwes}
use Rattle.ts_txn.specs.LoweringCourse.{PaysEvents}
use Rattle.ts_txn.specs.World.{HoldsOn}
use Rattle.ts_txn.proofs.NextSteps.{phase_taken}
use Rattle.ts_txn.proofs.course_events.make_next.Goals as goal

-- In a phase, which is taken out.
pub advance_phase-requires-clause-stands : goal.advance_phase-requires-clause-stands
advance_phase-requires-clause-stands g c =
    subst (λ x. HoldsOn g.C.Link g.O.Link g.O.Upstream g.P.Transform c.args.core.now x)
    (phase_taken c.args.course.now _ c.replace-was.result c.in-Phased.is c.replace-was.ensures.value)
    c.requires.stands

pub returns-in-Phased-clause-owes : goal.returns-in-Phased-clause-owes
returns-in-Phased-clause-owes g c =
    subst (λ x. EventOwes g.C.Link g.O.Link g.O.Upstream g.P.Transform c.args.core.now
    c.advance_phase.new.core c.args.cx.now c.advance_phase.new.cx MAIN c.args.main.now
    c.advance_phase.new.main x c.advance_phase.result.0 c.advance_phase.result.1)
    (sym (phase_taken c.args.course.now _ c.replace-was.result c.in-Phased.is c.replace-was.ensures.value))
    c.advance_phase.ensures.owes

pub returns-in-Phased-clause-pays : goal.returns-in-Phased-clause-pays
returns-in-Phased-clause-pays g c =
    subst (λ x. PaysEvents g.C.Link g.O.Link g.O.Upstream g.P.Transform c.args.core.now
    c.advance_phase.new.core x c.advance_phase.result.0 c.args.cx.now c.advance_phase.new.cx)
    (sym (phase_taken c.args.course.now _ c.replace-was.result c.in-Phased.is c.replace-was.ensures.value))
    c.advance_phase.ensures.pays

-- While the last is written.
pub write_rest-requires-clause-stands : goal.write_rest-requires-clause-stands
write_rest-requires-clause-stands g c =
    subst (λ x. HoldsOn g.C.Link g.O.Link g.O.Upstream g.P.Transform c.args.core.now x) c.in-Finishing.is
    c.requires.stands

pub returns-in-Finishing-clause-owes : goal.returns-in-Finishing-clause-owes
returns-in-Finishing-clause-owes g c =
    subst (λ x. EventOwes g.C.Link g.O.Link g.O.Upstream g.P.Transform c.args.core.now c.write_rest.new.core
    c.args.cx.now c.write_rest.new.cx MAIN c.args.main.now c.write_rest.new.main x c.write_rest.result
    W.Nothing)
    (sym c.in-Finishing.is) c.write_rest.ensures.owes

pub returns-in-Finishing-clause-pays : goal.returns-in-Finishing-clause-pays
returns-in-Finishing-clause-pays g c =
    subst (λ x. PaysEvents g.C.Link g.O.Link g.O.Upstream g.P.Transform c.args.core.now c.write_rest.new.core
    x c.write_rest.result c.args.cx.now c.write_rest.new.cx)
    (sym c.in-Finishing.is) c.write_rest.ensures.pays

-- No body is passed on.
pub unreachable-requires : goal.unreachable-requires
unreachable-requires g c = subst (λ x. PassesNoBody x) c.in-Relaying.is c.requires.none
