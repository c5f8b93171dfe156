-- Between two turns each duty has its event.
use Rattle.std.specs.Prelude.{◌≡◌, false}
use Rattle.ts_transform.specs.Carrying.{IsCarriedGroup}
use Rattle.ts_transform_tests.proofs.links.run.Given as goal

abbrev pub invariant-turns : goal.invariant-turns
invariant-turns g l = record {
  idle : l.group.cx.log.state.held ≡ false;
  carried : IsCarriedGroup l.group;
}
