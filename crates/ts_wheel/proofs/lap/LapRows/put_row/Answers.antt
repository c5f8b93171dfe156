use Rattle.std.proofs.Common.{◌∙◌, arith}
use Rattle.ts_wheel.proofs.lap.LapRows.put_row.Goals as goal

-- the lap's first place is lowered to that of the row
pub invariant_of-self : goal.invariant_of-self
invariant_of-self g c =
    let first = c.min-self-inside.ensures in
    let lap = c.self.invariant in
    let up = lap.first_fits in
    record {
      len = c.put_at.ensures.length ∙ lap.len;
      fits = lap.fits;
      first_fits = omega arith;
      empty = c.put_at.ensures.empty c.min-self-inside.result (omega arith)
          (λ k d lt. lap.empty k d (omega arith));
    }
