use Rattle.ts_request.proofs.FrontLink.{new_holds}
use Rattle.ts_request.proofs.front.Front.make.Goals as goal

pub invariant_of-result : goal.invariant_of-result
invariant_of-result g c =
    new_holds g.C.Link.tells c.in_ok-text.text (g.C.Link.look c.args.client) c.in_ok-text.ensures c.requires
