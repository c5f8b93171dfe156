-- It was one upload of the link inside.
use Rattle.std.proofs.Common.{subst}
use Rattle.ts_intercept.specs.Uploading.{UploadsAs}
use Rattle.ts_intercept.specs.declared.choice.Choice.{Choice}
use Rattle.ts_intercept.proofs.chosen.ChosenUpstream.upload.Goals as goal

pub returns : goal.returns
returns g c =
    let up = c.upload_choice in
    subst (λ (x : Choice g.row.O.Denot). UploadsAs g.C.Link g.O.Link g.O.Upstream c.args.client.now x
    up.new.client up.new.choice up.result) c.self.view_is up.ensures.uploads
