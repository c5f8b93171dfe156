-- Lists of blocks: what is cut from their front, what is added behind, and the bytes that they have.
use Rattle.std.proofs.Common.{◌≡◌, ℕ, zero, suc, ◌+◌, ◌-◌, ◌≤◌, ◌<◌, List, [], ◌∷◌, ◌++◌, length, take, drop, min, Option, Some, None, MatchOption, get_or, slice_get, inl, inr, arith, refl, sym, ap, ◌∙◌, append_assoc, append-nil, length-append, length-drop, length-take, drop-drop}
use Rattle.std.proofs.lemmas.Bool.{cases_lt}
use Rattle.std.proofs.lemmas.Bool.Decides.{nat_tests}
use Rattle.std.proofs.lemmas.List.{drop_all, drop_min, drop_more, take_at}
use Rattle.std.proofs.lemmas.List.Elements.{All-from_recursion, recursion_from_All}
use Rattle.std.specs.Borrow.{Bor}
use Rattle.std.specs.List.{AllByRecursion}
use Rattle.std.specs.Option.{option_copied}
use Rattle.ts_iobuf.specs.Buffer.{blocks_after, one_block}
use Rattle.ts_iobuf.specs.Stored.{AreFull, joined}

-- where the first n bytes end in the first block
pub after-within : (n : ℕ) (x : List ℕ) (xs : List (List ℕ)) → n < length x
    → blocks_after n (x ∷ xs) ≡ drop n x ∷ xs
after-within n x xs h = grind (arith, nat_tests)

-- where they do not
pub after-passed : (n : ℕ) (x : List ℕ) (xs : List (List ℕ)) → length x ≤ n
    → blocks_after n (x ∷ xs) ≡ blocks_after (n - length x) xs
after-passed n x xs h = grind (arith, nat_tests)

-- what is left of two lists after the first n
pub drop-append : (n : ℕ) (x y : List ℕ) → drop n (x ++ y) ≡ drop n x ++ drop (n - length x) y
drop-append zero x y = let e : 0 - length x ≡ 0 = omega arith in ap (λ m. x ++ drop m y) (sym e)
drop-append (suc n) [] y =
    let e : suc n - length {A = ℕ} [] ≡ suc n = omega arith in ap (λ m. drop m y) (sym e)
drop-append (suc n) (a ∷ x) y =
    let e : suc n - length (a ∷ x) ≡ n - length x = omega arith in
    drop-append n x y ∙ ap (λ m. drop n x ++ drop m y) (sym e)

-- the first n of two lists
pub take-append : (n : ℕ) (x y : List ℕ) → take n (x ++ y) ≡ take n x ++ take (n - length x) y
take-append zero x y = let e : 0 - length x ≡ 0 = omega arith in ap (λ m. take m y) (sym e)
take-append (suc n) [] y =
    let e : suc n - length {A = ℕ} [] ≡ suc n = omega arith in ap (λ m. take m y) (sym e)
take-append (suc n) (a ∷ x) y =
    let e : suc n - length (a ∷ x) ≡ n - length x = omega arith in
    ap (λ l. a ∷ l) (take-append n x y ∙ ap (λ m. take n x ++ take m y) (sym e))

-- a part of two lists is its part of the first, and then what is left of it in the second
pub part-step : (most at : ℕ) (x y : List ℕ)
    → take most (drop at (x ++ y)) ≡ take most (drop at x)
    ++ take (most - length (take most (drop at x))) (drop (at - length x) y)
part-step most at x y =
    let e : most - length (drop at x) ≡ most - length (take most (drop at x)) =
    omega (arith, length-take most (drop at x)) in
    ap (take most) (drop-append at x y)
    ∙ take-append most (drop at x) (drop (at - length x) y)
    ∙ ap (λ m. take most (drop at x) ++ take m (drop (at - length x) y)) e

-- one block more, in which the first n bytes end or which they pass
after-cases : (n : ℕ) (x : List ℕ) (xs : List (List ℕ))
    → joined (blocks_after (n - length x) xs) ≡ drop (n - length x) (joined xs)
    → joined (blocks_after n (x ∷ xs)) ≡ drop n (joined (x ∷ xs))
after-cases n x xs further = elim (cases_lt n (length x)) [
  | inl within ↦
      let e : n - length x ≡ 0 = omega arith in
      ap joined (after-within n x xs within)
      ∙ ap (λ m. drop n x ++ drop m (joined xs)) (sym e)
      ∙ sym (drop-append n x (joined xs))
  | inr passed ↦
      ap joined (after-passed n x xs passed)
      ∙ further
      ∙ ap (λ l. l ++ drop (n - length x) (joined xs)) (sym (drop_all n x passed))
      ∙ sym (drop-append n x (joined xs))
]

-- the bytes that are left after the first n
pub joined-after : (n : ℕ) (xs : List (List ℕ)) → joined (blocks_after n xs) ≡ drop n (joined xs)
joined-after n [] = sym (drop_all n [] (omega arith))
joined-after n (x ∷ xs) = after-cases n x xs (joined-after (n - length x) xs)

-- one block more, in which the first n bytes end or which they pass
full-cases : (n : ℕ) (x : List ℕ) (xs : List (List ℕ)) → AllByRecursion (λ b. 0 < length b) xs
    → AllByRecursion (λ b. 0 < length b) (blocks_after (n - length x) xs)
    → AllByRecursion (λ b. 0 < length b) (blocks_after n (x ∷ xs))
full-cases n x xs here further = elim (cases_lt n (length x)) [
  | inl within ↦ rw (after-within n x xs within) (omega (arith, length-drop n x), here)
  | inr passed ↦ rw (after-passed n x xs passed) further
]

-- the same by recursion on the list
after-full-by : (n : ℕ) (xs : List (List ℕ)) → AllByRecursion (λ b. 0 < length b) xs
    → AllByRecursion (λ b. 0 < length b) (blocks_after n xs)
after-full-by n [] h = tt
after-full-by n (x ∷ xs) h = full-cases n x xs h.1 (after-full-by (n - length x) xs h.1)

-- the blocks that are left are full, if all were
pub after-full : (n : ℕ) (xs : List (List ℕ)) → AreFull xs → AreFull (blocks_after n xs)
after-full n xs h = All-from_recursion (λ b. 0 < length b) (blocks_after n xs)
    (after-full-by n xs (recursion_from_All (λ b. 0 < length b) xs h))

-- the blocks after the one in which the first bytes end
pub found-next : (xs more : List (List ℕ)) (i offset k : ℕ) → i < length xs → offset < length (get_or xs i [])
    → 0 < k → slice_get (blocks_after offset (drop i xs ++ more)) k ≡ slice_get (xs ++ more) (i + k)
found-next [] more i offset k h within later = absurd (omega arith)
found-next (x ∷ xs) more zero offset zero h within later = absurd (omega arith)
found-next (x ∷ xs) more zero offset (suc k) h within later =
    let e : 0 + suc k ≡ suc k = omega arith in
    ap (λ l. slice_get l (suc k)) (after-within offset x (xs ++ more) within)
    ∙ ap (λ m. slice_get (x ∷ (xs ++ more)) m) (sym e)
found-next (x ∷ xs) more (suc i) offset k h within later =
    let e : suc i + k ≡ suc (i + k) = omega arith in
    found-next xs more i offset k (omega arith) within later
    ∙ ap (λ m. slice_get (x ∷ (xs ++ more)) m) (sym e)

-- the bytes of two lists of blocks
pub joined-append : (xs ys : List (List ℕ)) → joined (xs ++ ys) ≡ joined xs ++ joined ys
joined-append [] ys = refl
joined-append (x ∷ xs) ys =
    ap (λ l. x ++ l) (joined-append xs ys) ∙ sym (append_assoc x (joined xs) (joined ys))

-- the bytes of a single block
pub joined-one : (b : List ℕ) → joined (one_block b) ≡ b
joined-one [] = refl
joined-one (a ∷ b) = append-nil (a ∷ b)

-- the bytes of a list with one block more
pub joined-more : (xs : List (List ℕ)) (b : List ℕ) → joined (xs ++ one_block b) ≡ joined xs ++ b
joined-more xs b = joined-append xs (one_block b) ∙ ap (λ l. joined xs ++ l) (joined-one b)

-- bytes that are one block
pub some-block : (b : List ℕ) → 0 < length b → one_block b ≡ b ∷ []
some-block [] h = absurd (omega arith)
some-block (a ∷ b) h = refl

-- at most one
pub length-one : (b : List ℕ) → length (one_block b) ≤ 1
length-one [] = omega arith
length-one (a ∷ b) = omega arith

-- a single block is full
full-one : (b : List ℕ) → AllByRecursion (λ b. 0 < length b) (one_block b)
full-one [] = tt
full-one (a ∷ b) = (omega arith, tt)

-- two lists of full blocks, by recursion on the first
full-behind : (xs ys : List (List ℕ)) → AllByRecursion (λ b. 0 < length b) xs
    → AllByRecursion (λ b. 0 < length b) ys → AllByRecursion (λ b. 0 < length b) (xs ++ ys)
full-behind [] ys h k = k
full-behind (x ∷ xs) ys h k = (h.0, full-behind xs ys h.1 k)

-- two lists of full blocks
pub full-append : (xs ys : List (List ℕ)) → AreFull xs → AreFull ys → AreFull (xs ++ ys)
full-append xs ys h k = All-from_recursion (λ b. 0 < length b) (xs ++ ys)
    (full-behind xs ys (recursion_from_All (λ b. 0 < length b) xs h)
    (recursion_from_All (λ b. 0 < length b) ys k))

-- a list of full blocks with one more
pub full-more : (xs : List (List ℕ)) (b : List ℕ) → AreFull xs → AreFull (xs ++ one_block b)
full-more xs b h = full-append xs (one_block b) h
    (All-from_recursion (λ b. 0 < length b) (one_block b) (full-one b))

-- full blocks without bytes are none
pub no-blocks : (xs : List (List ℕ)) → AreFull xs → joined xs ≡ [] → xs ≡ []
no-blocks [] full none = refl
no-blocks (x ∷ xs) full none =
    let some : 0 < length x = full 0 [] (omega arith) in
    absurd (omega (arith, some, ap length none, length-append x (joined xs)))

-- of a part of blocks that was taken up to this one, what is left once the part of this one is taken too
pub blocks-step : (xs : List (List ℕ)) (front b part got got' all : List ℕ) (i most at at' : ℕ)
    → i < length xs → b ≡ get_or xs i b → part ≡ take most (drop at b) → got' ≡ got ++ part
    → at' ≡ at - length b
    → got ++ take most (drop at (joined (drop i xs) ++ front)) ≡ all
    → got' ++ take (most - length part) (drop at' (joined (drop (i + 1) xs) ++ front)) ≡ all
blocks-step xs front b part got got' all i most at at' h is part_is got_is at_is so_far =
    let behind : List ℕ = joined (drop (i + 1) xs) ++ front in
    let ahead : joined (drop i xs) ++ front ≡ b ++ behind =
    ap (λ l. joined l ++ front) (drop_more xs i b h ∙ ap (λ y. y ∷ drop (i + 1) xs) (sym is))
    ∙ append_assoc b (joined (drop (i + 1) xs)) front in
    let taken : List ℕ = take most (drop at b) in
    let rest : List ℕ = take (most - length taken) (drop (at - length b) behind) in
    rw (got_is, at_is, part_is) (append_assoc got taken rest
    ∙ ap (λ l. got ++ l) (sym (ap (λ l. take most (drop at l)) ahead ∙ part-step most at b behind))
    ∙ so_far)

-- the first of the blocks that are lent, if there is one, is a part at the front of their bytes
pub first-block : (o : Option (Bor (List ℕ))) (bs : List (List ℕ)) (read : List ℕ)
    → option_copied o ≡ slice_get bs 0 → joined bs ≡ read → AreFull bs
    → MatchOption o (read ≡ []) (λ b. (0 < length b.now) × (length b.now ≤ length read)
    × (b.now ≡ take (length b.now) read))
first-block None [] read is all full = sym all
first-block None (x ∷ bs) read is all full = absurd (cc)
first-block (Some b) [] read is all full = absurd (cc)
first-block (Some b) (x ∷ bs) read is all full =
    let now : b.now ≡ x = cc in
    let front : take (length x) read ≡ x =
    ap (take (length x)) (sym all) ∙ take_at x (joined bs) (length x) refl in
    let some : 0 < length x = full 0 [] (omega arith) in
    rw now (some, omega (arith, ap length all, length-append x (joined bs)), sym front)

-- a place that is at most the end
pub drop-within : (p offset : ℕ) (xs : List ℕ)
    → drop (p + min offset (length xs - p)) xs ≡ drop offset (drop p xs)
drop-within p offset xs =
    sym (drop-drop (min offset (length xs - p)) p xs)
    ∙ ap (λ n. drop (min offset n) (drop p xs)) (sym (length-drop p xs))
    ∙ drop_min offset (drop p xs)
