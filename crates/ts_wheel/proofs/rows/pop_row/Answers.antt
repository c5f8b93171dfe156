use Rattle.std.proofs.Common.{ℕ, ◌<◌, ◌++◌, ap, ◌∙◌, subst, All}
use Rattle.ts_wheel.specs.Rows.{all_at, row_tokens}
use Rattle.ts_wheel.proofs.Joined.{joined-rest, joined-later, some_row}
use Rattle.ts_wheel.proofs.rows.pop_row.Goals as goal

pub unwrap-due-requires : goal.unwrap-due-requires
unwrap-due-requires g c = c.pop_first.ensures.variant.1
    (some_row c.args.rows.now.entries c.args.due c.requires.first)

pub returns : goal.returns
returns g c =
    let first = c.unwrap-due.result in
    let left = c.pop_first.new.self.entries in
    let removal = rw c.unwrap-due.ensures at c.pop_first.ensures.removal in
    let above = rw c.unwrap-due.ensures at c.pop_first.ensures.all_above in
    let rest = joined-rest c.args.rows.now.entries left first c.args.due c.requires.full c.requires.first
    removal in
    record {
      full = (rest.1, rest.2);
      row = ap row_tokens removal ∙ ap (λ (m : ℕ). all_at m first.1.items ++ row_tokens left) rest.0;
      later = subst (λ (m : ℕ). All (λ e. m < e.0) (row_tokens left)) rest.0
          (joined-later first.0 left above);
    }
