use Rattle.std.proofs.Common.{sym, ◌∙◌}
use Rattle.ts_wheel.proofs.Joined.{joined-none}
use Rattle.ts_wheel.proofs.rows.Rows.is_empty.Goals as goal

pub returns : goal.returns
returns g c =
    let none = joined-none c.self.inside.rows.entries c.self.invariant in (
      (λ yes. sym c.self.view_is ∙ none.0 (c.is_empty.ensures.0 yes)),
      λ e. c.is_empty.ensures.1 (none.1 (c.self.view_is ∙ e)),
    )
