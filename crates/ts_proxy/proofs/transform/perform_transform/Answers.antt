use Rattle.std.proofs.Common.{subst}
use Rattle.ts_config.specs.Bodies.{compose_lines}
use Rattle.ts_config.specs.Setup.{lines_of}
use Rattle.ts_proxy.specs.Outcome.{Text}
use Rattle.ts_proxy.specs.Performed.{IsCarriedOut, IsOfBody}
use Rattle.ts_proxy.specs.Words.{Transform}
use Rattle.ts_proxy.proofs.Performing.{performed-unread, performed-worked}
use Rattle.ts_proxy.proofs.transform.perform_transform.Goals as goal

pub returns : goal.returns
returns g c =
    performed-worked Transform c.args.task.now.config.now c.args.task.now.body.now g.S.Shelf.tells
    g.K.Sink.tells
    (g.S.Shelf.seen c.args.shelf.now) (g.S.Shelf.seen c.read_files.new.shelf) _ _ _ _
    (lines_of c.in-Ok.files.setup) c.in-Ok.files.input c.in-Ok.ensures.told c.in-Ok.ensures.same
    (subst (λ ls. IsCarriedOut IsOfBody (Text (compose_lines ls c.in-Ok.files.input)) g.K.Sink.tells
    (g.K.Sink.seen c.args.out.now) (g.K.Sink.seen c.send_body.new.out)
    c.send_body.result.answer c.send_body.result.journals.items) c.as_slice.ensures.value c.send_body.ensures)

pub returns-in-Err : goal.returns-in-Err
returns-in-Err g c =
    rw c.without.ensures.answer
    (performed-unread Transform c.args.task.now.config.now c.args.task.now.body.now g.S.Shelf.tells
    g.K.Sink.tells
    (g.S.Shelf.seen c.args.shelf.now) (g.S.Shelf.seen c.read_files.new.shelf) _
    c.in-Err.answer _ c.in-Err.ensures.told c.in-Err.ensures.named c.in-Err.ensures.cause
    c.without.ensures.none)
