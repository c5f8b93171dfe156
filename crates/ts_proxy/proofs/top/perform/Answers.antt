-- Each command comes to what its own part does, and one that serves no net leaves it as it is.
use Rattle.ts_proxy.proofs.Performing.{performed-made}
use Rattle.ts_proxy.proofs.top.perform.Goals as goal

pub returns-in-Generate-clause-performed : goal.returns-in-Generate-clause-performed
returns-in-Generate-clause-performed g c =
    rw c.in-Generate.is
    (performed-made c.in-Generate.numbers g.S.Shelf.tells g.K.Sink.tells
    (g.S.Shelf.seen c.args.shelf.now) _ _ _ _ c.perform_generate.ensures)

pub returns-in-Serve-clause-performed : goal.returns-in-Serve-clause-performed
returns-in-Serve-clause-performed g c = rw c.in-Serve.is (c.perform_serve.ensures.performed g.K.Sink.tells _)
