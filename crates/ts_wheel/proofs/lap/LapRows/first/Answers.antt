use Rattle.std.proofs.Common.{sym, ap, ◌∙◌, eq-eqb}
use Rattle.ts_wheel.specs.declared.TheConstants.{ROWS}
use Rattle.ts_wheel.specs.Due.{next_moment}
use Rattle.ts_wheel.proofs.Spread.{IsNext, none_next, first_next}
use Rattle.ts_wheel.proofs.lap.LapRows.first.Goals as goal

pub returns-then-place-eq-ROWS : goal.returns-then-place-eq-ROWS
returns-then-place-eq-ROWS g c =
    let rows = c.self.inside.rows.items in
    let place = c.next_row-place in
    let next : IsNext rows ROWS place.result = record {
      len = c.self.invariant.len;
      range = place.ensures.range;
      empty = place.ensures.empty;
      full =
          place.ensures.full;
    } in
    sym (ap next_moment ((none_next c.self.inside.start rows ROWS place.result next).0
    (eq-eqb place.result ROWS c.if-place-eq-ROWS.true))) ∙ ap (λ l. next_moment l.tokens) c.self.view_is

pub returns : goal.returns
returns g c =
    let rows = c.self.inside.rows.items in
    let place = c.next_row-place in
    let next : IsNext rows ROWS place.result = record {
      len = c.self.invariant.len;
      range = place.ensures.range;
      empty = place.ensures.empty;
      full =
          place.ensures.full;
    } in
    sym (first_next c.self.inside.start rows ROWS place.result next c.if-place-eq-ROWS.false) ∙ ap
    (λ l. next_moment l.tokens) c.self.view_is
