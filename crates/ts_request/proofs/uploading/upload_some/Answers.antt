-- The step behind the beginning is one of the upload.
use Rattle.ts_request.proofs.Begun.{begun_step}
use Rattle.ts_request.proofs.uploading.upload_some.Goals as goal

pub returns-in-Ok : goal.returns-in-Ok
returns-in-Ok g c =
    begun_step g.C.Link g.O.Link g.O.Upstream g.P.Transform c.go_on.result c.args.front.now c.go_on.new.front
    c.args.carrier.now c.begin.new.carrier c.go_on.new.carrier c.in-Ok.ensures.ok c.go_on.ensures
