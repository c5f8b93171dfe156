use Rattle.std.proofs.Common.{◌++◌, All, refl, ap, subst}
use Rattle.ts_lists.proofs.Elements.{all_middle}
use Rattle.ts_group.specs.Answers.{Finite}
use Rattle.ts_thread.proofs.end.drive_first.Goals as goal

pub drive-requires-clause-tells : goal.drive-requires-clause-tells
drive-requires-clause-tells g c =
    all_middle (Finite g.W.World.left) c.args.before.now c.in-Some.group.now c.in-Some.after.now
    (subst (λ gs. All (Finite g.W.World.left) (c.args.before.now ++ gs)) c.in-Some.ensures.cases.0
    c.requires.tells)

pub returns : goal.returns
returns g c = record {
  before = c.args.before.now;
  before' = c.drive.new.before;
  group = c.in-Some.group.now;
  group' = c.drive.new.group;
  after = c.in-Some.after.now;
  after' = c.drive.new.after;
  at_place = refl;
  old_is = ap (λ gs. c.args.before.now ++ gs) c.in-Some.ensures.cases.0;
  new_is = refl;
  drives = c.drive.ensures;
}
