-- Each duty keeps its event while continuations are made.
use Rattle.std.specs.Prelude.{◌≡◌, true}
use Rattle.ts_transform.specs.Carrying.{IsCarriedGroup}
use Rattle.ts_transform_tests.proofs.links.make_strangers.Given as goal

abbrev pub invariant-strangers : goal.invariant-strangers
invariant-strangers g l = record {
  turn : l.group.cx.log.state.held ≡ true;
  carried : IsCarriedGroup l.group;
}
