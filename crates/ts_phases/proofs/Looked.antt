-- Bytes in blocks, of which the first were looked at, and what is left of them behind some blocks.
use Rattle.std.proofs.Common.{◌≡◌, ◌∙◌, ◌+◌, ◌-◌, ◌<◌, ◌≤◌, ◌++◌, ℕ, zero, suc, List, [], ◌∷◌, Some, None, ap, refl, sym, arith}
use Rattle.std.proofs.Common.{drop, fold, length, min, slice_get, take, length-append}
use Rattle.std.proofs.lemmas.List.{drop_all, take-append-drop, take_all}
use Rattle.std.proofs.lemmas.List.Sums.{fold-append}
use Rattle.std.specs.Prelude.{All, flat_map}
use Rattle.std.proofs.lemmas.List.Elements.{All-head, All-tail}
use Rattle.ts_phases.specs.declared.place.Place.{Place}
use Rattle.ts_phases.specs.Place.{place_next, place_of}

-- the blocks joined
abbrev joined : List (List ℕ) → List ℕ
joined blocks = flat_map (λ b. b) blocks

-- what of the bytes stands behind the first k blocks
abbrev pub behind_blocks : ℕ → List (List ℕ) → List ℕ → List ℕ
behind_blocks k blocks bytes = drop (length (joined (take k blocks))) bytes

-- behind a front and m bytes more
drop_past : (x ys : List ℕ) (m : ℕ) → drop (length x + m) (x ++ ys) ≡ drop m ys
drop_past [] ys m = ap (λ n. drop n ys) (let none : 0 + m ≡ m = omega arith in none)
drop_past (b ∷ x) ys m =
    let more : suc (length x) + m ≡ suc (length x + m) = omega arith in
    ap (λ n. drop n (b ∷ (x ++ ys))) more ∙ drop_past x ys m

behind_more : (k : ℕ) (x : List ℕ) (blocks : List (List ℕ))
    → behind_blocks (suc k) (x ∷ blocks) (x ++ joined blocks) ≡ behind_blocks k blocks (joined blocks)
behind_more k x blocks =
    ap (λ n. drop n (x ++ joined blocks)) (length-append x (joined (take k blocks)))
    ∙ drop_past x (joined blocks) (length (joined (take k blocks)))

-- behind k blocks stands the next one, and what is behind that
next_block : (k : ℕ) (blocks : List (List ℕ)) (b : List ℕ) → slice_get blocks k ≡ Some b
    → behind_blocks k blocks (joined blocks) ≡ b ++ behind_blocks (suc k) blocks (joined blocks)
next_block k [] b is = absurd (cc)
next_block zero (x ∷ blocks) b is =
    let same : x ≡ b = cc in
    ap (λ y. y ++ joined blocks) same
    ∙ ap (λ l. b ++ l) (sym (behind_more zero x blocks))
next_block (suc k) (x ∷ blocks) b is =
    behind_more k x blocks ∙ next_block k blocks b is ∙ ap (λ l. b ++ l) (sym (behind_more (suc k) x blocks))

-- what was looked at of a block and what is behind it
drop_both : (left : ℕ) (b more : List ℕ)
    → drop left (b ++ more) ≡ drop (min left (length b)) b ++ drop (left - min left (length b)) more
drop_both zero b more =
    let none : min zero (length b) ≡ 0 = omega arith in
    sym (ap (λ n. drop n b ++ drop (zero - n) more) none)
drop_both (suc left) [] more =
    let none : min (suc left) zero ≡ 0 = omega arith in
    let all : suc left ≡ suc left - 0 = omega arith in
    ap (λ n. drop n more) all ∙ sym (ap (λ n. drop n [] ++ drop (suc left - n) more) none)
drop_both (suc left) (x ∷ b) more =
    let less : min (suc left) (suc (length b)) ≡ suc (min left (length b)) = omega arith in
    let rest : left - min left (length b) ≡ suc left - suc (min left (length b)) = omega arith in
    drop_both left b more
    ∙ ap (λ n. drop (min left (length b)) b ++ drop n more) rest
    ∙ sym (ap (λ n. drop n (x ∷ b) ++ drop (suc left - n) more) less)

module _ (blocks : List (List ℕ)) (bytes : List ℕ) (are : joined blocks ≡ bytes) where
  -- a block more was passed
  pub block_passed : (k left n : ℕ) (b known more : List ℕ) (place : Place) → slice_get blocks k ≡ Some b
      → n ≡ min left (length b) → more ≡ drop n b → length known ≡ n
      → fold place_next place (drop left (behind_blocks k blocks bytes)) ≡ place_of bytes
      → fold place_next (fold place_next place more)
      (drop (left - length known) (behind_blocks (k + 1) blocks bytes)) ≡ place_of bytes
  block_passed k left n b known more place at n_is more_is known_is before =
      let next : suc k ≡ k + 1 = omega arith in
      let behind : List ℕ = behind_blocks (k + 1) blocks bytes in
      let split : behind_blocks k blocks bytes ≡ b ++ behind =
      ap (behind_blocks k blocks) (sym are) ∙ next_block k blocks b at
      ∙ ap (λ l. b ++ behind_blocks (suc k) blocks l) are ∙ ap (λ m. b ++ behind_blocks m blocks bytes) next in
      let left_is : drop left (b ++ behind) ≡ more ++ drop (left - length known) behind =
      drop_both left b behind ∙ ap (λ m. drop m b ++ drop (left - m) behind) (sym n_is)
      ∙ ap (λ m. m ++ drop (left - n) behind) (sym more_is)
      ∙ ap (λ m. more ++ drop (left - m) behind) (sym known_is) in
      sym (fold-append place_next place more (drop (left - length known) behind))
      ∙ ap (fold place_next place) (sym left_is) ∙ ap (λ l. fold place_next place (drop left l)) (sym split)
      ∙ before

  -- none is left
  none_behind : (k : ℕ) → length blocks ≤ k → behind_blocks k blocks bytes ≡ []
  none_behind k past =
      ap (λ l. drop (length (joined l)) bytes) (take_all k blocks past)
      ∙ ap (λ l. drop (length l) bytes) are ∙ drop_all (length bytes) bytes (omega arith)

  pub all_passed : (k left : ℕ) (place : Place) → length blocks ≤ k
      → fold place_next place (drop left (behind_blocks k blocks bytes)) ≡ place_of bytes
      → place ≡ place_of bytes
  all_passed k left place past before =
      sym (ap (λ l. fold place_next place (drop left l)) (none_behind k past) ∙ nothing left) ∙ before
    where
      nothing : (n : ℕ) → fold place_next place (drop n []) ≡ place
      nothing zero = refl
      nothing (suc n) = refl

-- past the last block there is none
pub past_blocks : (blocks : List (List ℕ)) (k : ℕ) → slice_get blocks k ≡ None → length blocks ≤ k
past_blocks [] k is = omega arith
past_blocks (x ∷ blocks) zero is = absurd (cc)
past_blocks (x ∷ blocks) (suc k) is = omega (arith, past_blocks blocks k is)

-- there are no more blocks than bytes
pub few_blocks : (blocks : List (List ℕ)) → All (λ b. 0 < length b) blocks
    → length blocks ≤ length (joined blocks)
few_blocks [] full = omega arith
few_blocks (x ∷ blocks) full =
    let some : 0 < length x = All-head (λ b. 0 < length b) x blocks full in
    omega (
      arith,
      some,
      few_blocks blocks (All-tail (λ b. 0 < length b) x blocks full),
      length-append x (joined blocks),
    )

-- before any block was passed, what was looked at tells the place
pub looked_first : (looked : ℕ) (blocks : List (List ℕ)) (bytes : List ℕ) (place : Place)
    → place ≡ place_of (take looked bytes)
    → fold place_next place (drop looked (behind_blocks 0 blocks bytes)) ≡ place_of bytes
looked_first looked blocks bytes place is =
    ap (λ q. fold place_next q (drop looked bytes)) is
    ∙ sym (fold-append place_next (place_of []) (take looked bytes) (drop looked bytes))
    ∙ ap place_of (take-append-drop looked bytes)
