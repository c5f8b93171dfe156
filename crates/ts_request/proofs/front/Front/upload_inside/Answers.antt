use Rattle.ts_request.proofs.FrontLink.{uploads_holds}
use Rattle.ts_request.proofs.front.Front.upload_inside.Goals as goal

pub invariant_of-self : goal.invariant_of-self
invariant_of-self g c =
    uploads_holds g.C.Link.tells c.self.inside.text (g.C.Link.look c.self.inside.client)
    (g.C.Link.look c.upload.new.client) c.self.invariant c.upload.ensures.bytes.client
