-- Other terms of the setting show the same setup, and have the same groups for its plugins.
use Rattle.std.proofs.Common.{◌∙◌, sym}
use Rattle.ts_serve.proofs.Ending.{one_terms}
use Rattle.ts_serve.proofs.exchanges.PlacedExchangeHandler.terms.Goals as goal

pub returns-clause-only : goal.returns-clause-only
returns-clause-only g c = λ other are. one_terms other _ (are.setup ∙ sym (c.of.ensures ∙ c.deref.ensures))
    are.plugins_at
