use Rattle.std.proofs.Common.{◌∷◌, ◌++◌, refl, ap, sym, subst}
use Rattle.ts_thread.specs.declared.TheConstants.{MOST_TURNS}
use Rattle.ts_thread.specs.Goings.{AllGoOn}
use Rattle.ts_thread.proofs.Groups.{ok_to}
use Rattle.ts_thread.proofs.Rows.{all_refl, all_row}
use Rattle.ts_thread.proofs.step.step_first.Goals as goal

pub returns-in_default-next_due-clause-goes : goal.returns-in_default-next_due-clause-goes
returns-in_default-next_due-clause-goes g c = subst (λ gs. AllGoOn g.W.Slotted.fits g.W.World.sound
    g.W.World.only_asked g.W.World.is_first g.W.World.left MOST_TURNS _ (c.args.before.now ++ gs)
    (c.args.before.now ++ c.in-Some.group.now ∷ c.in-Some.after.now) 1) (sym c.in-Some.ensures.cases.0)
    (all_refl g.W.Slotted.fits g.W.World.sound g.W.World.only_asked g.W.World.is_first g.W.World.left
    MOST_TURNS _ (c.args.before.now ++ c.in-Some.group.now ∷ c.in-Some.after.now) 1)

-- no event was pending
pub returns-in_default-next_due-clause-steps : goal.returns-in_default-next_due-clause-steps
returns-in_default-next_due-clause-steps g c = record {
  before = c.args.before.now;
  before' = c.args.before.now;
  group = c.in-Some.group.now;
  group' = c.in-Some.group.now;
  after = c.in-Some.after.now;
  after' = c.in-Some.after.now;
  at_place = refl;
  old_is = ap (λ gs. c.args.before.now ++ gs) c.in-Some.ensures.cases.0;
  new_is = refl;
  turn = λ some. absurd (some (c.next_due.ensures.none c.in_default-next_due.is));
}

pub returns-clause-goes : goal.returns-clause-goes
returns-clause-goes g c =
    let step = c.turn_alone.ensures in
    subst (λ gs. AllGoOn g.W.Slotted.fits g.W.World.sound g.W.World.only_asked g.W.World.is_first
    g.W.World.left MOST_TURNS c.turn_alone.result (c.args.before.now ++ gs)
    (c.turn_alone.new.before ++ c.turn_alone.new.group ∷ c.turn_alone.new.after) 1)
    (sym c.in-Some.ensures.cases.0)
    (all_row g.W.Slotted.fits g.W.World.sound g.W.World.only_asked g.W.World.is_first g.W.World.left
    MOST_TURNS c.args.before.now c.turn_alone.new.before c.in-Some.after.now c.turn_alone.new.after
    c.in-Some.group.now c.turn_alone.new.group 1 step.before step.own step.after)

pub returns-clause-steps : goal.returns-clause-steps
returns-clause-steps g c = ok_to c.turn_alone.result (λ took. record {
  before = c.args.before.now;
  before' = c.turn_alone.new.before;
  group = c.in-Some.group.now;
  group' = c.turn_alone.new.group;
  after = c.in-Some.after.now;
  after' = c.turn_alone.new.after;
  at_place = refl;
  old_is = ap (λ gs. c.args.before.now ++ gs) c.in-Some.ensures.cases.0;
  new_is = refl;
  turn = λ some. took;
}) c.turn_alone.ensures.took
