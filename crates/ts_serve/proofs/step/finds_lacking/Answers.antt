-- A turn whose value is looked at stays as it is, and tells of it what it shows.
use Rattle.std.proofs.Common.{◌∙◌, ap}
use Rattle.ts_serve.specs.TakingOut.{lacks_in}
use Rattle.ts_slot.specs.Lent.{with_value}
use Rattle.ts_serve.proofs.step.finds_lacking.Goals as goal

pub returns-clause-same : goal.returns-clause-same
returns-clause-same g c = ap (with_value c.args.turn.now) c.value.ensures.value

pub returns-clause-lacks : goal.returns-clause-lacks
returns-clause-lacks g c =
    c.lacks_memory.ensures ∙ ap (λ v. lacks_in g.W.Handler.is_lacking v.world) c.value.ensures.value
