-- A turn whose value is looked at stays as it is.
use Rattle.std.proofs.Common.{ap}
use Rattle.ts_slot.specs.Lent.{with_value}
use Rattle.ts_serve.proofs.accept.open_turn.Goals as goal

pub returns-clause-same : goal.returns-clause-same
returns-clause-same g c = ap (with_value c.args.turn.now) c.value.ensures.value
