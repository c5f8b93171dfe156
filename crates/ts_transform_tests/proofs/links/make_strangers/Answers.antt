-- Each duty keeps its event where a continuation is made.
use Rattle.std.proofs.Common.{sym, subst}
use Rattle.ts_transform.specs.Carrying.{IsCarried}
use Rattle.ts_transform.proofs.Joined.{carried_made}
use Rattle.ts_transform_tests.proofs.links.make_strangers.Goals as goal

pub strangers-preserved : goal.strangers-preserved
strangers-preserved g c =
    let world = c.strangers.group.world in
    let cx = c.cx.result.now in
    let now = c.make.new.self in
    record {
      turn = c.make.ensures.makes.turn;
      carried = carried_made cx now world c.make.ensures.makes.events c.make.ensures.makes.keys
          (subst (λ x. IsCarried world x.log.state.pending x.log.state.next x.roles) (sym c.cx.ensures.value)
          c.strangers.invariant.carried);
    }
