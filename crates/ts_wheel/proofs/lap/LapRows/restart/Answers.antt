use Rattle.std.proofs.Common.{ap, ◌∙◌}
use Rattle.ts_wheel.proofs.Spread.{spread-moved}
use Rattle.ts_wheel.proofs.lap.LapRows.restart.Goals as goal

pub returns-clause-empty : goal.returns-clause-empty
returns-clause-empty g c = spread-moved c.self.inside.start c.args.start c.self.inside.rows.items
    (ap (λ l. l.tokens) c.self.view_is ∙ c.requires.empty)
