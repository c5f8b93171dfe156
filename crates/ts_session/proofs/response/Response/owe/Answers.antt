-- The bytes that were held were written.
use Rattle.std.proofs.Common.{subst}
use Rattle.ts_session.specs.Lines.{GoesOver}
use Rattle.ts_session.proofs.response.Response.owe.Goals as goal

pub returns-clause-over : goal.returns-clause-over
returns-clause-over c =
    subst (λ b. GoesOver c.args.self.now.lines b c.over-self.result) c.split_at.ensures.front c.over-self.ensures
