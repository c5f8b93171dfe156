-- Where nobody works at an event the transaction stays as it is, and else its first continuation is alone.
use Rattle.std.proofs.Common.{sym, subst, ◌∙◌}
use Rattle.ts_transform.proofs.Kept.{acts_none}
use Rattle.ts_txn.specs.EventsOwed.{EventOwes}
use Rattle.ts_txn.specs.LoweringCourse.{PaysEvents}
use Rattle.ts_txn.specs.World.{most_set}
use Rattle.ts_txn.proofs.Events.{idle}
use Rattle.ts_txn.proofs.Handling.{alone_then, sound_other, sound_quiet}
use Rattle.ts_txn.proofs.LoweringCourse.{stays_on}
use Rattle.ts_txn.proofs.NextSteps.{owes_alone, still_quiet}
use Rattle.ts_txn.proofs.course_events.advance_alone.Goals as goal

-- An event of another continuation.
pub returns-then-role-ne-MAIN-clause-owes : goal.returns-then-role-ne-MAIN-clause-owes
returns-then-role-ne-MAIN-clause-owes g c = record {
  keeps = sound_other g.C.Link g.O.Link g.O.Upstream g.P.Transform c.args.core.now c.args.main.now
      c.args.course.now c.requires.none c.args.cx.now c.args.role c.args.event c.requires.called
      c.if-role-ne-MAIN.true;
  rests = tt;
  within = acts_none most_set c.args.cx.now c.requires.turn;
  handles = idle g.C.Link g.O.Link g.O.Upstream c.args.core.now c.args.cx.now c.args.role c.args.main.now
      c.args.course.now c.requires.none;
}

pub returns-then-role-ne-MAIN-clause-pays : goal.returns-then-role-ne-MAIN-clause-pays
returns-then-role-ne-MAIN-clause-pays g c = stays_on g.C.Link g.O.Link g.O.Upstream g.P.Transform
    c.args.core.now c.args.course.now c.args.cx.now.log.state.pending

-- One at which nobody works.
pub returns-then-not-works-clause-owes : goal.returns-then-not-works-clause-owes
returns-then-not-works-clause-owes g c = record {
  keeps = sound_quiet g.C.Link g.O.Link g.O.Upstream g.P.Transform c.args.core.now c.args.main.now
      c.args.course.now c.requires.none c.args.cx.now c.args.role c.args.event c.requires.called
      (sym c.works.ensures ∙ c.if-not-works.true);
  rests = tt;
  within = acts_none most_set c.args.cx.now c.requires.turn;
  handles = idle g.C.Link g.O.Link g.O.Upstream c.args.core.now c.args.cx.now c.args.role c.args.main.now
      c.args.course.now c.requires.none;
}

pub returns-then-not-works-clause-pays : goal.returns-then-not-works-clause-pays
returns-then-not-works-clause-pays g c = stays_on g.C.Link g.O.Link g.O.Upstream g.P.Transform
    c.args.core.now c.args.course.now c.args.cx.now.log.state.pending

-- That of the next step.
pub make_next-is-requires-clause-alone : goal.make_next-is-requires-clause-alone
make_next-is-requires-clause-alone g c =
    alone_then g.C.Link g.O.Link g.O.Upstream g.P.Transform c.args.core.now c.args.main.now c.args.course.now
    c.requires.none c.args.cx.now c.args.role c.args.event c.requires.called c.unrouse.new.slot
    c.unrouse.ensures

pub make_next-is-requires-clause-quiet : goal.make_next-is-requires-clause-quiet
make_next-is-requires-clause-quiet g c = still_quiet c.args.main.now c.unrouse.new.slot c.unrouse.ensures

pub returns-clause-owes : goal.returns-clause-owes
returns-clause-owes g c =
    subst (λ x. EventOwes g.C.Link g.O.Link g.O.Upstream g.P.Transform c.args.core.now c.make_next-is.new.core
    c.args.cx.now c.make_next-is.new.cx c.args.role c.args.main.now c.make_next-is.new.main c.args.course.now
    x c.make_next-is.result.1) (sym c.replace.ensures.after)
    (owes_alone g.C.Link g.O.Link g.O.Upstream g.P.Transform c.args.core.now c.make_next-is.new.core
    c.args.cx.now c.make_next-is.new.cx c.args.role c.args.main.now c.unrouse.new.slot
    c.make_next-is.new.main c.unrouse.ensures c.args.course.now c.requires.none c.make_next-is.result.0
    c.make_next-is.result.1 c.make_next-is.ensures.owes)

pub returns-clause-pays : goal.returns-clause-pays
returns-clause-pays g c =
    subst (λ x. PaysEvents g.C.Link g.O.Link g.O.Upstream g.P.Transform c.args.core.now
    c.make_next-is.new.core c.args.course.now x c.args.cx.now c.make_next-is.new.cx)
    (sym c.replace.ensures.after) c.make_next-is.ensures.pays
