-- Other terms of the setting show the same setup, have the same groups for its plugins, and name no
-- transactions.
use Rattle.std.proofs.Common.{◌∙◌, sym}
use Rattle.ts_serve.proofs.InSession.{one_terms}
use Rattle.ts_serve.proofs.sessions.SessionHandlerHandler.terms.Goals as goal

pub returns-clause-only : goal.returns-clause-only
returns-clause-only g c = λ other are. one_terms other _ (are.setup ∙ sym (c.of.ensures ∙ c.deref.ensures))
    are.plugins_at (are.behind ∙ sym c.of-2.ensures)
