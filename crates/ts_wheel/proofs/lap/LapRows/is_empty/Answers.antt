use Rattle.std.proofs.Common.{sym, ap, ◌∙◌}
use Rattle.ts_wheel.specs.declared.TheConstants.{ROWS}
use Rattle.ts_wheel.proofs.Spread.{IsNext, none_next}
use Rattle.ts_wheel.proofs.lap.LapRows.is_empty.Goals as goal

pub returns-clause-empty : goal.returns-clause-empty
returns-clause-empty g c =
    let rows = c.self.inside.rows.items in
    let place = c.next_row-self-inside in
    let next : IsNext rows ROWS place.result = record {
      len = c.self.invariant.len;
      range = place.ensures.range;
      empty = place.ensures.empty;
      full =
          place.ensures.full;
    } in
    let none = none_next c.self.inside.start rows ROWS place.result next in
    let is = ap (λ l. l.tokens) c.self.view_is in ((λ yes. sym is ∙ none.0 yes), λ e. none.1 (is ∙ e))
