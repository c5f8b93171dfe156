-- A limit that was fed has as many bytes fewer still to pass on.
use Rattle.std.proofs.Common.{◌≡◌, ℕ, zero, suc, ◌-◌, ◌+◌, ◌≤◌, min, Ok, Err, List, [], ◌∷◌, ◌++◌, length, take, ap, sym, ◌∙◌, subst, arith}
use Rattle.std.specs.Prelude.{Result, IfOk}
use Rattle.std.proofs.lemmas.List.{length-take-le}
use Rattle.std.proofs.lemmas.Grind.{common_steps}
use Rattle.ts_iobuf.specs.Buffer.{Buffer, GrowsBy, appended}
use Rattle.ts_transform.specs.Law.{Feeds}

-- the front of a list in two pieces
split_front : (n : ℕ) (xs ys : List ℕ) → take n (xs ++ ys) ≡ take n xs ++ take (n - length xs) ys
split_front zero xs ys = let none : zero - length xs ≡ 0 = omega arith in sym (ap (λ k. take k ys) none)
split_front (suc n) [] ys = let all : suc n - 0 ≡ suc n = omega arith in sym (ap (λ k. take k ys) all)
split_front (suc n) (x ∷ xs) ys =
    let same : suc n - suc (length xs) ≡ n - length xs = omega arith in
    ap (λ l. x ∷ l) (split_front n xs ys ∙ ap (λ k. take n xs ++ take k ys) (sym same))

-- the bytes that a buffer got
got : (old new : Buffer) (more : List ℕ) → GrowsBy old new more → appended old new ≡ more
got old new more grows = let is = grows.bytes in grind (arith, common_steps)

-- a limit that was fed c wrote the front of it, and keeps what it still writes
pub limit_feeds : (left : ℕ) (c : List ℕ) (old new : Buffer) → GrowsBy old new (take left c)
    → Feeds (take left) (take (left - length c)) c old new
limit_feeds left c old new grows =
    let is : appended old new ≡ take left c = got old new (take left c) grows in record {
      grows = subst (GrowsBy old new) (sym is) grows;
      law = λ z. split_front left c z ∙ ap (λ more. more ++ take (left - length c) z) (sym is);
    }

-- the same by a limit that was fed the front of some bytes, so long as it answered
pub limit_feeds_from : {E : Type 0} (left left' most : ℕ) (bytes : List ℕ) (old new : Buffer)
    → (answer : Result ℕ E)
    → IfOk answer (λ n. (1 ≤ n) × (n ≤ min most (length bytes)))
    → IfOk answer (λ n. left' ≡ left - n)
    → IfOk answer (λ n. GrowsBy old new (take left (take n bytes)))
    → IfOk answer (λ n. Feeds (take left) (take left') (take n bytes) old new)
limit_feeds_from left left' most bytes old new (Err e) count less grows = tt
limit_feeds_from left left' most bytes old new (Ok n) count less grows =
    let within : n ≤ length bytes = omega (arith, count.1) in
    let long : length (take n bytes) ≡ n = length-take-le n bytes within in
    subst (λ k. Feeds (take left) (take k) (take n bytes) old new) (ap (λ k. left - k) long ∙ sym less)
    (limit_feeds left (take n bytes) old new grows)
