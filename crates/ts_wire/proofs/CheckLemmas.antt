-- The first place that passes a test: an index, or the length where there is none.
use Rattle.std.proofs.Common.{◌≡◌, ℕ, ◌≤◌, ◌<◌, Bool, false, if◌then◌else◌, not, cond, List, length, Option, Some, None, ap, ◌∙◌, ⊎_elim, arith}
use Rattle.std.specs.Prelude.{unwrap_or, is_some}
use Rattle.std.specs.List.{position, position_or_len}
use Rattle.std.proofs.lemmas.Bool.{cases_lt, lt-ltb, le-ltb}
use Rattle.std.proofs.lemmas.List.Sums.{prefix_len-le-length}

pub position_or_len_unwrap : {X : Type 0} (p : X → Bool) (xs : List X) (r : Option ℕ) → r ≡ position p xs
    → unwrap_or r (length xs) ≡ position_or_len p xs
position_or_len_unwrap p xs r is =
    let n = position_or_len p xs in
    let within = prefix_len-le-length (λ x. not (p x)) xs in
    ap (λ o. unwrap_or o (length xs)) is
    ∙ ⊎_elim (λ (lt : n < length xs). ap (λ t. unwrap_or (cond t (Some n) None) (length xs))
    (lt-ltb n (length xs) lt))
    (λ (ge : length xs ≤ n). let same : length xs ≡ n = omega arith in
    ap (λ t. unwrap_or (cond t (Some n) None) (length xs)) (le-ltb n (length xs) ge) ∙ same)
    (cases_lt n (length xs))

-- where the first two of three cases do not hold, there is a value where the last one has one
pub last_case : {A : Type 0} (first second : Bool) (x y z : Option A) → first ≡ false → second ≡ false
    → is_some z ≡ is_some (if first then x else (if second then y else z))
last_case first second x y z h k = rw h (rw k (λ i. is_some z))
