-- The room in which a span holds bytes, as its parts change.
use Rattle.std.proofs.Common.{◌≡◌, ℕ, ◌+◌, ◌-◌, ◌≤◌, List, ◌++◌, length, take, drop, ap, ◌∙◌, arith}
use Rattle.std.specs.List.{slice_range}
use Rattle.std.proofs.lemmas.List.{drop-drop, drop-take, length-drop, length-take}
use Rattle.std.proofs.Math.Seq.{take-append-add}

-- a part of a list without its first bytes
pub drop_slice : (xs : List ℕ) (from to n : ℕ) → n ≤ to - from
    → drop n (slice_range xs from to) ≡ slice_range xs (from + n) to
drop_slice xs from to n within =
    let long : to - from ≡ n + (to - (from + n)) = omega arith in
    ap (λ k. drop n (take k (drop from xs))) long ∙ drop-take n (to - (from + n)) (drop from xs)
    ∙ ap (take (to - (from + n))) (drop-drop n from xs)

-- how long a part is
pub slice_long : (xs : List ℕ) (from to : ℕ) → to ≤ length xs → length (slice_range xs from to) ≡ to - from
slice_long xs from to within =
    omega (arith, length-take (to - from) (drop from xs), length-drop from xs)

-- a front with so many bytes behind it that came
pub front_more : (room into : List ℕ) (kept n : ℕ) → kept ≤ length room
    → take (kept + n) (take kept room ++ into) ≡ take kept room ++ take n into
front_more room into kept n within =
    let long : kept ≡ length (take kept room) = omega (arith, length-take kept room) in
    ap (λ k. take (k + n) (take kept room ++ into)) long ∙ take-append-add (take kept room) into n

-- what was moved to the front, with so many bytes behind it that came
pub slice_more : (old room new into : List ℕ) (from to n : ℕ) → to - from ≤ length room
    → take (to - from) room ≡ slice_range old from to → new ≡ take (to - from) room ++ into
    → slice_range new 0 ((to - from) + n) ≡ slice_range old from to ++ take n into
slice_more old room new into from to n within moved is =
    let all : ((to - from) + n) - 0 ≡ (to - from) + n = omega arith in
    ap (λ k. take k new) all ∙ ap (take ((to - from) + n)) is ∙ front_more room into (to - from) n within ∙ ap (λ l. l ++ take n into) moved
