-- A sum goes on with the bytes behind those that it took.
use Rattle.std.proofs.Common.{◌≡◌, ℕ, zero, suc, ◌+◌, ◌-◌, ◌<◌, ◌≤◌, List, [], ◌∷◌, ◌++◌, length, take, min}
use Rattle.std.proofs.Common.{⊎_elim, refl, sym, ap, subst, ◌∙◌, arith, length-append}
use Rattle.std.proofs.lemmas.List.{length-take, take_all}
use Rattle.ts_record.specs.Sum.{sum_of, sum_with}
use Rattle.ts_tap.specs.declared.sum.Sum.{Sum}
use Rattle.ts_tap.specs.Sums.{HasSummed}
use Rattle.ts_tap.specs.Watching.{Offers}
use Rattle.ts_tap.proofs.HeadEnds.{le_or_lt}

sum_behind : (s : ℕ) (a b : List ℕ) → sum_of s (a ++ b) ≡ sum_of (sum_of s a) b
sum_behind s [] b = refl
sum_behind s (x ∷ xs) b = sum_behind (sum_with s x) xs b

-- a front of a list that goes on
take_behind : (n : ℕ) (xs ys : List ℕ) → take n (xs ++ ys) ≡ take n xs ++ take (n - length xs) ys
take_behind zero xs ys =
    let none : 0 ≡ 0 - length xs = omega arith in ap (λ k. take k ys) none
take_behind (suc n) [] ys = let all : suc n ≡ suc n - 0 = omega arith in ap (λ k. take k ys) all
take_behind (suc n) (x ∷ xs) ys =
    let less : n - length xs ≡ suc n - suc (length xs) = omega arith in
    ap (λ l. x ∷ l) (take_behind n xs ys ∙ ap (λ k. take n xs ++ take k ys) less)

-- no more can be taken than there is
take_most : (n : ℕ) (xs : List ℕ) → take (min n (length xs)) xs ≡ take n xs
take_most n xs =
    ⊎_elim
    (λ (low : n ≤ length xs). let same : min n (length xs) ≡ n = omega (arith, low) in
    ap (λ k. take k xs) same)
    (λ (high : length xs < n). take_all (min n (length xs)) xs (omega (arith, high))
    ∙ sym (take_all n xs (omega (arith, high))))
    (le_or_lt n (length xs))

-- all of some bytes was taken, and of these the first n counted, which are those that were left to count
pub summed : (s t : Sum) (taken bytes : List ℕ) (n : ℕ) → HasSummed s taken
    → n ≡ min (s.most - s.count) (length bytes) → t.most ≡ s.most → t.count ≡ s.count + n
    → t.sum ≡ sum_of s.sum (take n bytes) → HasSummed t (taken ++ bytes)
summed s t taken bytes n was counts most count sum =
    let before = length-take s.most taken in
    let left : n ≡ min (s.most - length taken) (length bytes) = omega (arith, was.count, before, counts) in
    let front : take s.most taken ++ take n bytes ≡ take s.most (taken ++ bytes) =
    ap (λ k. take s.most taken ++ take k bytes) left
    ∙ ap (λ l. take s.most taken ++ l) (take_most (s.most - length taken) bytes)
    ∙ sym (take_behind s.most taken bytes) in
    let same : take s.most (taken ++ bytes) ≡ take t.most (taken ++ bytes) =
    ap (λ k. take k (taken ++ bytes)) (sym most) in
    let long : length (take s.most taken) + n ≡ length (take s.most taken ++ take n bytes) =
    omega (
      arith,
      left,
      length-take n bytes,
      length-append (take s.most taken) (take n bytes),
    ) in
    record {
      count = count ∙ ap (λ k. k + n) was.count ∙ long ∙ ap length (front ∙ same);
      sum = sum ∙ ap (λ k. sum_of k (take n bytes)) was.sum
          ∙ sym (sum_behind 0 (take s.most taken) (take n bytes)) ∙ ap (sum_of 0) (front ∙ same);
    }

-- so it takes all of an offer
pub offers_all : (s t : Sum) (bytes : List ℕ) (n : ℕ) → n ≡ min (s.most - s.count) (length bytes)
    → t.most ≡ s.most → t.count ≡ s.count + n → t.sum ≡ sum_of s.sum (take n bytes)
    → Offers HasSummed (λ (s : Sum). 0) s t (length bytes) bytes
offers_all s t bytes n counts most count sum = record {
  within = omega arith;
  takes = λ taken was. subst (λ (l : List ℕ). HasSummed t (taken ++ l))
      (sym (take_all (length bytes) bytes (omega arith)))
      (summed s t taken bytes n was counts most count sum);
  stays = omega arith;
  rises = λ left. absurd (omega (arith, left));
}
