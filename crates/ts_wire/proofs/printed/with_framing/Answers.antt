use Rattle.std.proofs.lemmas.Result.{IfOk-weaker}
use Rattle.ts_wire.specs.OneHead.{SendsOneUpload}
use Rattle.ts_wire.proofs.SentBlank.{sent_ends_blank}
use Rattle.ts_wire.proofs.SentUpload.{sends_one_upload}
use Rattle.ts_wire.proofs.printed.with_framing.Goals as goal

pub returns-clause-one_head : goal.returns-clause-one_head
returns-clause-one_head c =
    IfOk-weaker _ _ (SendsOneUpload c.args.head.now c.args.framing)
    (λ text is. sends_one_upload c.args.head.now c.args.framing text is) c.framed_text.ensures

pub returns-clause-blank : goal.returns-clause-blank
returns-clause-blank c = sent_ends_blank
