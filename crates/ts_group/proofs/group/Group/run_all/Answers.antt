-- One event more was handled: the run ends, or the next call is handled.
use Rattle.std.proofs.Common.{◌≡◌, ◌+◌, ◌*◌, refl, sym, ap, subst, arith}
use Rattle.ts_journal.specs.State.{State}
use Rattle.ts_group.specs.declared.world.TheConstants.{MOST_SET}
use Rattle.ts_group.specs.Answers.{Falls}
use Rattle.ts_group.proofs.Runs.{ran_more, handles, handles_none, run_next}
use Rattle.ts_group.proofs.Keeps.{falls_trans, promises_trans, sets_trans}
use Rattle.ts_group.proofs.group.Group.run_all.Goals as goal

pub returns-in-Ask-clause-gives : goal.returns-in-Ask-clause-gives
returns-in-Ask-clause-gives g c =
    let start = c.args.self.now in
    let now = c.run_one-want.new.self in
    let r = ran_more g.W.World.called start c.runs.self now c.args.moment c.args.first.number c.runs.events
    c.runs.event c.runs.invariant.run c.run_one-want.ensures.run in
    handles g.W.World.called start now c.args.moment c.args.first.number (c.runs.events + 1) r (omega arith)
    (omega arith)

pub returns-then-events-eq-MOST_EVENTS-clause-gives : goal.returns-then-events-eq-MOST_EVENTS-clause-gives
returns-then-events-eq-MOST_EVENTS-clause-gives g c =
    let start = c.args.self.now in
    let now = c.run_one-want.new.self in
    let r = ran_more g.W.World.called start c.runs.self now c.args.moment c.args.first.number c.runs.events
    c.runs.event c.runs.invariant.run c.run_one-want.ensures.run in (
      handles g.W.World.called start now c.args.moment c.args.first.number (c.runs.events + 1) r (omega arith)
          (omega arith),
      λ lt. absurd (omega arith),
    )

pub returns-in-None-clause-gives : goal.returns-in-None-clause-gives
returns-in-None-clause-gives g c =
    let start = c.args.self.now in
    let now = c.run_one-want.new.self in
    let r = ran_more g.W.World.called start c.runs.self now c.args.moment c.args.first.number c.runs.events
    c.runs.event c.runs.invariant.run c.run_one-want.ensures.run in
    handles_none g.W.World.called start now (record now { cx = c.next_call.new.self }) c.args.moment
    c.args.first.number (c.runs.events + 1) r (omega arith) (omega arith) refl
    c.next_call.ensures.same (c.in-None.ensures.still refl) (c.in-None.ensures.none refl)

pub runs-preserved : goal.runs-preserved
runs-preserved g c =
    let start = c.args.self.now in
    let a = c.run_one-want.new.self in
    let b = c.next_call.new.self in
    let w = a.world in
    let same = c.next_call.ensures.same in
    let r = ran_more g.W.World.called start c.runs.self a c.args.moment c.args.first.number c.runs.events
    c.runs.event c.runs.invariant.run c.run_one-want.ensures.run in
    let sound = c.in_default.ensures.keeps in
    let state : b.log.state ≡ a.cx.log.state = same.log.state in
    record {
      run = run_next g.W.World.called start a (record a { cx = b }) c.args.moment c.args.first.number
          (c.runs.events + 1) c.in-Some.call r refl same c.in-Some.ensures.found c.in-Some.ensures.ready;
      few = let f = c.runs.invariant.few in let e = c.if-events-eq-MOST_EVENTS.false in omega arith;
      sound = subst (λ rs. g.W.World.sound w b.log.state rs) (sym same.roles)
          (subst (λ (x : State). g.W.World.sound w x a.cx.roles) (sym state) sound);
      falls = subst (λ (x : State). Falls (g.W.World.left start.world start.cx.log.state) (c.runs.events + 1)
          (g.W.World.left w x)) (sym state)
          (falls_trans (g.W.World.left start.world start.cx.log.state)
          (g.W.World.left c.runs.self.world c.runs.self.cx.log.state) (g.W.World.left w a.cx.log.state)
          c.runs.events 1 c.runs.invariant.falls c.run_one-want.ensures.falls);
      promises = promises_trans g.W.Slotted.fits g.W.World.right g.W.World.may_ask start.world
          c.runs.self.world w c.runs.invariant.promises c.run_one-want.ensures.promises;
      sets = λ t h.
          let x = sets_trans g.W.Slotted.fits start.world c.runs.self.world (c.runs.events * (MOST_SET + 1))
          (MOST_SET + 1) ((c.runs.events + 1) * (MOST_SET + 1)) start.cx c.runs.self.cx a.cx
          c.runs.invariant.promises.tags c.runs.invariant.sets c.run_one-want.ensures.few (omega arith) t h in
          let e = ap (λ (s : State). s.next) state in
          omega arith;
    }
