-- A client whose transaction has ended goes.
use Rattle.ts_serve.proofs.Tenants.{stood_in}
use Rattle.ts_serve.proofs.exchanges.PlacedExchangeHandler.leave.Goals as goal

pub returns-clause-becomes : goal.returns-clause-becomes
returns-clause-becomes g c = λ terms here. (
  c.retire.ensures.done terms (stood_in _ _ _ _ _ terms c.args.self
      c.args.journal here),
  tt,
)
