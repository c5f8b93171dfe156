-- There is nothing to move.
use Rattle.ts_intercept.proofs.Uploads.{uploads_nothing}
use Rattle.ts_intercept.proofs.uploading.upload_nothing.Goals as goal

pub returns-clause-uploads : goal.returns-clause-uploads
returns-clause-uploads g c =
    uploads_nothing g.C.Link g.O.Link g.O.Upstream
    (λ l. g.met.C.Link.goes_still l l (g.met.C.Link.stays l))
    (λ l. g.met.O.Link.goes_still l l (g.met.O.Link.stays l))
    c.args._client.now c.args.choice.now c.requires.nothing c.requires.paired

pub returns-clause-sound : goal.returns-clause-sound
returns-clause-sound g c = c.requires.sound
