use Rattle.std.proofs.Common.{◌≡◌, ◌+◌, ◌<◌, ◌⊎◌, inl, inr, sym, ap, ◌∙◌}
use Rattle.ts_wheel.specs.declared.TheConstants.{ROWS}
use Rattle.ts_wheel.specs.Due.{first_due, after_due}
use Rattle.ts_wheel.proofs.Spread.{IsNext, late_next}
use Rattle.ts_wheel.proofs.lap.LapRows.take_due.Goals as goal
use Rattle.ts_wheel.proofs.lap.LapRows.take_due.Goals.{then-place-eq-ROWS-via-then-place-eq-ROWS, then-place-eq-ROWS-via-else-place-eq-ROWS+then-self-place}

pub returns-then-place-eq-ROWS-clause-token : goal.returns-then-place-eq-ROWS-clause-token
returns-then-place-eq-ROWS-clause-token g c =
    let rows = c.self.inside.rows.items in
    let place = c.next_row-place in
    let next : IsNext rows ROWS place.result = record {
      len = c.self.invariant.len;
      range = place.ensures.range;
      empty = place.ensures.empty;
      full =
          place.ensures.full;
    } in
    let way : (place.result ≡ ROWS) ⊎ (c.args.now < c.self.inside.start + place.result) = elim
    c.then-place-eq-ROWS.branch [
      | then-place-eq-ROWS-via-then-place-eq-ROWS w ↦ inl w.if-place-eq-ROWS.true
      | then-place-eq-ROWS-via-else-place-eq-ROWS+then-self-place w ↦ inr w.if-self-place.true
    ] in
    sym (late_next c.args.now c.self.inside.start rows ROWS place.result next way).0 ∙ ap
    (λ l. first_due c.args.now l.tokens) c.self.view_is

pub returns-then-place-eq-ROWS-clause-rest : goal.returns-then-place-eq-ROWS-clause-rest
returns-then-place-eq-ROWS-clause-rest g c =
    let rows = c.self.inside.rows.items in
    let place = c.next_row-place in
    let next : IsNext rows ROWS place.result = record {
      len = c.self.invariant.len;
      range = place.ensures.range;
      empty = place.ensures.empty;
      full =
          place.ensures.full;
    } in
    let way : (place.result ≡ ROWS) ⊎ (c.args.now < c.self.inside.start + place.result) = elim
    c.then-place-eq-ROWS.branch [
      | then-place-eq-ROWS-via-then-place-eq-ROWS w ↦ inl w.if-place-eq-ROWS.true
      | then-place-eq-ROWS-via-else-place-eq-ROWS+then-self-place w ↦ inr w.if-self-place.true
    ] in
    sym (late_next c.args.now c.self.inside.start rows ROWS place.result next way).1 ∙ ap
    (λ l. after_due c.args.now l.tokens) c.self.view_is
