-- One write of what is held was made.
use Rattle.ts_intercept.proofs.Calls.{sent_stands}
use Rattle.ts_intercept.proofs.Uploads.{uploads_sent}
use Rattle.ts_intercept.proofs.uploading.upload_held.Goals as goal

pub returns-clause-uploads : goal.returns-clause-uploads
returns-clause-uploads g c =
    let sent = c.send_held in
    uploads_sent g.C.Link g.O.Link g.O.Upstream
    (λ l. g.met.C.Link.goes_still l l (g.met.C.Link.stays l)) g.met.C.Link.stays g.met.O.Link.goes_still
    g.met.O.Upstream.pair_stays g.met.O.Upstream.refusal_stays g.met.O.Upstream.left_rises
    c.args._client.now c.args.choice.now sent.new.choice sent.result c.sending.result c.requires.stage
    c.requires.origin c.requires.some c.requires.sound.few c.requires.paired sent.ensures.writes
    sent.ensures.goes sent.ensures.rest sent.ensures.within c.sending.ensures

pub returns-clause-sound : goal.returns-clause-sound
returns-clause-sound g c =
    let sent = c.send_held in
    sent_stands g.O.Link.tells g.O.Link.look c.args.choice.now c.requires.sound g.O.Link.goes sent.new.choice
    sent.result c.requires.stage sent.ensures.goes sent.ensures.writes sent.ensures.rest sent.ensures.within
