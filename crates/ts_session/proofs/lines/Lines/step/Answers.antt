-- A byte of a head that has ended is none of it.
use Rattle.std.proofs.Common.{[], ◌∷◌}
use Rattle.ts_session.proofs.LineFronts.{ended_over}
use Rattle.ts_session.proofs.lines.Lines.step.Goals as goal

pub returns-then-self : goal.returns-then-self
returns-then-self c = ended_over c.args.self (c.args.b ∷ []) c.if-self.true
