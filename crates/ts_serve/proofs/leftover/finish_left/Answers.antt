-- Round after round, all groups fit the tags that they fitted, and were made as they were.
use Rattle.std.proofs.Common.{◌∙◌}
use Rattle.ts_serve.proofs.leftover.finish_left.Goals as goal

pub returns-in_err-handle_all_due-clause-fit : goal.returns-in_err-handle_all_due-clause-fit
returns-in_err-handle_all_due-clause-fit g c =
    λ tags fit. c.handle_all_due.ensures.fit tags (c.rounds.invariant.0 tags fit)

pub rounds-preserved-then-not-branch : goal.rounds-preserved-then-not-branch
rounds-preserved-then-not-branch g c = (
  λ tags fit. c.handle_all_due.ensures.fit tags (c.rounds.invariant.0 tags fit),
  c.handle_all_due.ensures.made ∙ c.rounds.invariant.1,
  c.handle_all_due.ensures.count ∙ c.rounds.invariant.2,
)

pub rounds-preserved : goal.rounds-preserved
rounds-preserved g c = (
  λ tags fit. c.handle_all_due.ensures.fit tags (c.rounds.invariant.0 tags fit),
  c.handle_all_due.ensures.made ∙ c.rounds.invariant.1,
  c.handle_all_due.ensures.count ∙ c.rounds.invariant.2,
)
