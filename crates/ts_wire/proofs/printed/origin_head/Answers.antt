use Rattle.std.proofs.lemmas.Result.{IfOk-weaker}
use Rattle.ts_wire.specs.OneHead.{SendsOneRequest}
use Rattle.ts_wire.proofs.PlainForward.{forwards_unchanged}
use Rattle.ts_wire.proofs.SentRequest.{sends_one_request}
use Rattle.ts_wire.proofs.printed.origin_head.Goals as goal

pub returns-clause-one_head : goal.returns-clause-one_head
returns-clause-one_head c =
    IfOk-weaker _ _ (SendsOneRequest c.args.head.now c.args.target.now c.args.host.now c.args.fields.now)
    (λ text is. sends_one_request c.args.head.now c.args.target.now c.args.host.now c.args.fields.now text is)
    c.origin_text.ensures

pub returns-clause-forwards : goal.returns-clause-forwards
returns-clause-forwards c = forwards_unchanged c.args.head.now
