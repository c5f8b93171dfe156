use Rattle.std.proofs.lemmas.Result.{IfOk-weaker}
use Rattle.ts_wire.specs.OneHead.{SendsOneResponse}
use Rattle.ts_wire.proofs.PlainForward.{forwards_plainly}
use Rattle.ts_wire.proofs.SentResponse.{sends_one_response}
use Rattle.ts_wire.proofs.printed.client_head.Goals as goal

pub returns-clause-one_head : goal.returns-clause-one_head
returns-clause-one_head c =
    IfOk-weaker _ _ (SendsOneResponse c.args.status c.args.reason.now c.args.fields.now c.args.framing)
    (λ text is. sends_one_response c.args.status c.args.reason.now c.args.fields.now c.args.via c.args.framing
    c.requires.status text is) c.client_text.ensures

pub returns-clause-forwards : goal.returns-clause-forwards
returns-clause-forwards c = forwards_plainly
