-- One upload of the origin's was made.
use Rattle.std.proofs.Common.{sym, subst}
use Rattle.std.specs.Prelude.{Bool, Some}
use Rattle.std.proofs.lemmas.List.{drop_all}
use Rattle.ts_intercept.specs.Uploading.{UploadsAs}
use Rattle.ts_intercept.proofs.Calls.{handed_at, moved_sound}
use Rattle.ts_intercept.proofs.Uploads.{uploads_on}
use Rattle.ts_intercept.proofs.uploading.upload_on.Goals as goal

pub returns-clause-uploads : goal.returns-clause-uploads
returns-clause-uploads g c =
    let old = c.args.choice.now in
    let client = c.args.client.now in
    let up = c.upload-answer in
    subst (λ (u : Bool). UploadsAs g.C.Link g.O.Link g.O.Upstream client old up.new.client
    (record old { origin = Some up.new.self; uploaded = u }) up.result) (sym c.is_done-choice.ensures)
    (uploads_on g.C.Link g.O.Link g.O.Upstream client old up.new.client _ up.new.self up.result
    c.requires.stage c.in-Some.is (drop_all old.sent old.held.items c.requires.nothing.all_sent)
    ((handed_at g.O.Link.tells g.O.Link.look old c.requires.sound c.requires.stage).none_lost
    c.requires.nothing.there)
    c.requires.paired up.ensures.paired up.ensures.once up.ensures.causes up.ensures.bytes up.ensures.keeps
    up.ensures.falls up.ensures.sure)

pub returns-clause-sound : goal.returns-clause-sound
returns-clause-sound g c =
    let up = c.upload-answer in
    moved_sound g.O.Link.tells g.O.Link.look c.args.choice.now c.requires.sound _ up.new.self
    (g.C.Link.look c.args.client.now) (g.C.Link.look up.new.client) g.C.Link.tells c.requires.stage
    c.in-Some.is
    c.requires.nothing.all_sent up.ensures.bytes
