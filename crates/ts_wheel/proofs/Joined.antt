-- Rows of an ordered map: what a change of one of them makes of the tokens.
use Rattle.std.proofs.Common.{◌≡◌, ℕ, ◌<◌, ◌≤◌, Bool, true, false, cond, List, [], ◌∷◌, ◌++◌, length, refl, ap, sym, ◌∙◌, subst, ⊎_elim, All, Global, Option, Some, None, Less, Equal, Greater, MutBor, eqb, arith}
use Rattle.std.specs.List.{AllByRecursion, slice_get}
use Rattle.std.specs.List.Sorted.{IsStrictlySortedBy}
use Rattle.std.specs.Ordering.{nat_cmp, match_ordering, is_eq}
use Rattle.std.specs.Option.{option_copied_mut, IsSome}
use Rattle.std.specs.Map.{lookup, set_value, remove_entry, keys_of}
use Rattle.std.specs.BTreeMap.{insert_entry, is_at}
use Rattle.std.specs.BTreeMap.Range.{IsLeBy, IsLtBy}
use Rattle.std.specs.declared.collections.VecDeque.{VecDeque}
use Rattle.std.proofs.lemmas.Bool.{cases_order, cases_Bool}
use Rattle.std.proofs.lemmas.Bool.Decides.{nat_tests}
use Rattle.std.proofs.lemmas.List.Elements.{All-nil, All-cons, All-head, All-tail, All-append}
use Rattle.std.proofs.lemmas.Map.Keys.{sorted_head, sorted_tail, le_from_not_gt}
use Rattle.ts_wheel.specs.Due.{added, next_moment}
use Rattle.ts_wheel.specs.Rows.{all_at, row_tokens, AllFull}
use Rattle.ts_wheel.proofs.Added.{added-front, added-behind, added-before, added-all_at, All-all_at}

cmp-less : (a b : ℕ) → a < b → nat_cmp a b ≡ Less
cmp-less a b h = grind (arith, nat_tests)

cmp-equal : (a b : ℕ) → a ≡ b → nat_cmp a b ≡ Equal
cmp-equal a b h = grind (arith, nat_tests)

cmp-greater : (a b : ℕ) → b < a → nat_cmp a b ≡ Greater
cmp-greater a b h = grind (arith, nat_tests)

less-cmp : (a b : ℕ) → nat_cmp a b ≡ Less → a < b
less-cmp a b h = grind (arith, nat_tests)

abbrev Entry : Type 0 → Type 0
Entry T = ℕ × VecDeque T Global

module _ {T : Type 0} where
  -- a token that is due before a row goes before it
  added-row : (due : ℕ) (t : T) (m : ℕ) (ts : List T) (rest : List (ℕ × T)) → 0 < length ts → due < m
      → added due t (all_at m ts ++ rest) ≡ (due, t) ∷ (all_at m ts ++ rest)
  added-row due t m [] rest full h = absurd (omega arith)
  added-row due t m (u ∷ us) rest full h = added-front due t (m, u) (all_at m us ++ rest) h

  -- a new row of one token
  pub joined-insert : (rows : List (Entry T)) (due : ℕ) (row : VecDeque T Global) (t : T) → AllFull rows
      → lookup (is_at (nat_cmp due)) rows ≡ None → row.items ≡ t ∷ []
      → row_tokens (insert_entry nat_cmp rows due row) ≡ added due t (row_tokens rows)
  joined-insert [] due row t full none e = ap (λ (ts : List T). all_at due ts ++ []) e
  joined-insert (r ∷ rs) due row t full none e = ⊎_elim
      (λ (same : due ≡ r.0). absurd (let h = ap
      (λ o. cond (is_eq o) (Some r.1) (lookup (is_at (nat_cmp due)) rs)) (cmp-equal due r.0 same) in let g
      = sym h ∙ none in cc))
      (λ s. ⊎_elim
      (λ (lt : due < r.0).
      ap (λ o. row_tokens (match_ordering o ((due, row) ∷ r ∷ rs) ((r.0, row) ∷ rs)
      (r ∷ insert_entry nat_cmp rs due row))) (cmp-less due r.0 lt)
      ∙ ap (λ (ts : List T). all_at due ts ++ row_tokens (r ∷ rs)) e
      ∙ sym (added-row due t r.0 r.1.items (row_tokens rs)
      (All-head (λ (x : Entry T). 0 < length x.1.items) r rs full) lt))
      (λ (gt : r.0 < due).
      let rest : lookup (is_at (nat_cmp due)) rs ≡ None = sym
      (ap (λ o. cond (is_eq o) (Some r.1) (lookup (is_at (nat_cmp due)) rs)) (cmp-greater due r.0 gt)) ∙
      none in
      ap (λ o. row_tokens (match_ordering o ((due, row) ∷ r ∷ rs) ((r.0, row) ∷ rs)
      (r ∷ insert_entry nat_cmp rs due row))) (cmp-greater due r.0 gt)
      ∙ ap (λ zs. all_at r.0 r.1.items ++ zs) (joined-insert rs due row t
      (All-tail (λ (x : Entry T). 0 < length x.1.items) r rs full) rest e)
      ∙ sym (added-behind due t (all_at r.0 r.1.items) (row_tokens rs)
      (All-all_at (λ (x : ℕ × T). x.0 ≤ due) r.0 r.1.items (λ u. omega arith))))
      s)
      (cases_order due r.0)

  -- the tokens of rows whose keys are all above a moment are due later
  joined-above : (m : ℕ) (rows : List (Entry T)) → AllByRecursion (λ k. nat_cmp m k ≡ Less) (keys_of rows)
      → All (λ e. m < e.0) (row_tokens rows)
  joined-above m [] h = All-nil (λ (e : ℕ × T). m < e.0)
  joined-above m (r ∷ rs) h = All-append (λ (e : ℕ × T). m < e.0) (all_at r.0 r.1.items) (row_tokens rs)
      (All-all_at (λ (e : ℕ × T). m < e.0) r.0 r.1.items (λ t. less-cmp m r.0 h.0))
      (joined-above m rs h.1)

  -- in rows whose keys are all above a moment there is none for it, nor for an earlier one
  lookup-above : (m due : ℕ) (rows : List (Entry T)) → due ≤ m
      → AllByRecursion (λ k. nat_cmp m k ≡ Less) (keys_of rows) → lookup (is_at (nat_cmp due)) rows ≡ None
  lookup-above m due [] le h = refl
  lookup-above m due (r ∷ rs) le h =
      let lt : m < r.0 = less-cmp m r.0 h.0 in
      ap (λ o. cond (is_eq o) (Some r.1) (lookup (is_at (nat_cmp due)) rs)) (cmp-less due r.0 (omega arith)) ∙
      lookup-above m due rs le h.1

  -- one token more at the end of a row
  pub joined-push : (rows : List (Entry T)) (due : ℕ) (old row : VecDeque T Global) (t : T)
      → IsStrictlySortedBy nat_cmp (keys_of rows) → lookup (is_at (nat_cmp due)) rows ≡ Some old
      → row.items ≡ old.items ++ t ∷ []
      → row_tokens (set_value (is_at (nat_cmp due)) rows row) ≡ added due t (row_tokens rows)
  joined-push [] due old row t sorted there e = absurd (cc)
  joined-push (r ∷ rs) due old row t sorted there e =
      let above : AllByRecursion (λ k. nat_cmp r.0 k ≡ Less) (keys_of rs) = sorted_head nat_cmp r.0
      (keys_of rs) sorted in
      ⊎_elim
      (λ (same : due ≡ r.0).
      let found : r.1 ≡ old = let h = sym (ap (λ o. cond (is_eq o) (Some r.1)
      (lookup (is_at (nat_cmp due)) rs)) (cmp-equal due r.0 same)) ∙ there in cc in
      let later : All (λ x. due < x.0) (row_tokens rs) = subst
      (λ (m : ℕ). All (λ (x : ℕ × T). m < x.0) (row_tokens rs)) (sym same) (joined-above r.0 rs above) in
      let row_is : row.items ≡ r.1.items ++ t ∷ [] = e ∙ ap (λ (q : VecDeque T Global). q.items ++ t ∷ [])
      (sym found) in
      ap (λ o. row_tokens (cond (is_eq o) ((r.0, row) ∷ rs) (r ∷ set_value (is_at (nat_cmp due)) rs row)))
      (cmp-equal due r.0 same)
      ∙ ap (λ (ts : List T). all_at r.0 ts ++ row_tokens rs) row_is
      ∙ ap (λ zs. zs ++ row_tokens rs) (sym (added-all_at r.0 t r.1.items))
      ∙ ap (λ (m : ℕ). added m t (all_at r.0 r.1.items) ++ row_tokens rs) (sym same)
      ∙ sym (added-before due t (all_at r.0 r.1.items) (row_tokens rs) later))
      (λ s. ⊎_elim
      (λ (lt : due < r.0). absurd (
      let h = sym (ap (λ o. cond (is_eq o) (Some r.1) (lookup (is_at (nat_cmp due)) rs))
      (cmp-less due r.0 lt)) ∙ there in
      let none = lookup-above r.0 due rs (omega arith) above in cc))
      (λ (gt : r.0 < due).
      let rest : lookup (is_at (nat_cmp due)) rs ≡ Some old = sym
      (ap (λ o. cond (is_eq o) (Some r.1) (lookup (is_at (nat_cmp due)) rs)) (cmp-greater due r.0 gt)) ∙
      there in
      ap (λ o. row_tokens (cond (is_eq o) ((r.0, row) ∷ rs) (r ∷ set_value (is_at (nat_cmp due)) rs row)))
      (cmp-greater due r.0 gt)
      ∙ ap (λ zs. all_at r.0 r.1.items ++ zs) (joined-push rs due old row t
      (sorted_tail nat_cmp r.0 (keys_of rs) sorted) rest e)
      ∙ sym (added-behind due t (all_at r.0 r.1.items) (row_tokens rs)
      (All-all_at (λ (x : ℕ × T). x.0 ≤ due) r.0 r.1.items (λ u. omega arith))))
      s)
      (cases_order due r.0)

  -- a row with the same tokens changes nothing
  pub joined-same : (rows : List (Entry T)) (due : ℕ) (old row : VecDeque T Global)
      → lookup (is_at (nat_cmp due)) rows ≡ Some old → row.items ≡ old.items
      → row_tokens (set_value (is_at (nat_cmp due)) rows row) ≡ row_tokens rows
  joined-same [] due old row there e = refl
  joined-same (r ∷ rs) due old row there e =
      elim (is_at (nat_cmp due) r.0) as (λ b. cond b (Some r.1) (lookup (is_at (nat_cmp due)) rs) ≡ Some old →
      row_tokens (cond b ((r.0, row) ∷ rs) (r ∷ set_value (is_at (nat_cmp due)) rs row)) ≡ row_tokens
      (r ∷ rs)) [
        | true ↦ λ found. let is : r.1 ≡ old = cc in ap (λ (ts : List T). all_at r.0 ts ++ row_tokens rs)
            (e ∙ ap (λ (q : VecDeque T Global). q.items) (sym is))
        | false ↦ λ found. ap (λ zs. all_at r.0 r.1.items ++ zs) (joined-same rs due old row found e)
      ] there

  pub AllFull-insert : (rows : List (Entry T)) (due : ℕ) (row : VecDeque T Global) → AllFull rows
      → 0 < length row.items → AllFull (insert_entry nat_cmp rows due row)
  AllFull-insert [] due row full some_token = All-cons (λ (x : Entry T). 0 < length x.1.items) (due, row) []
      some_token full
  AllFull-insert (r ∷ rs) due row full some_token =
      let F : Entry T → Type 0 = λ x. 0 < length x.1.items in
      elim (nat_cmp due r.0) as (λ o. AllFull (match_ordering o ((due, row) ∷ r ∷ rs) ((r.0, row) ∷ rs)
      (r ∷ insert_entry nat_cmp rs due row))) [
        | Less ↦ All-cons F (due, row) (r ∷ rs) some_token full
        | Equal ↦ All-cons F (r.0, row) rs some_token (All-tail F r rs full)
        | Greater ↦ All-cons F r (insert_entry nat_cmp rs due row) (All-head F r rs full)
            (AllFull-insert rs due row (All-tail F r rs full) some_token)
      ]

  pub AllFull-set_value : (rows : List (Entry T)) (due : ℕ) (row : VecDeque T Global) → AllFull rows
      → 0 < length row.items → AllFull (set_value (is_at (nat_cmp due)) rows row)
  AllFull-set_value [] due row full some_token = full
  AllFull-set_value (r ∷ rs) due row full some_token =
      let F : Entry T → Type 0 = λ x. 0 < length x.1.items in
      elim (is_at (nat_cmp due) r.0) as (λ b. AllFull
      (cond b ((r.0, row) ∷ rs) (r ∷ set_value (is_at (nat_cmp due)) rs row))) [
        | true ↦ All-cons F (r.0, row) rs some_token (All-tail F r rs full)
        | false ↦ All-cons F r (set_value (is_at (nat_cmp due)) rs row) (All-head F r rs full)
            (AllFull-set_value rs due row (All-tail F r rs full) some_token)
      ]

  pub AllFull-remove_entry : (rows : List (Entry T)) (due : ℕ) → AllFull rows
      → AllFull (remove_entry (is_at (nat_cmp due)) rows)
  AllFull-remove_entry [] due full = full
  AllFull-remove_entry (r ∷ rs) due full =
      let F : Entry T → Type 0 = λ x. 0 < length x.1.items in
      elim (is_at (nat_cmp due) r.0) as (λ b. AllFull (cond b rs (r ∷ remove_entry (is_at (nat_cmp due)) rs))) [
        | true ↦ All-tail F r rs full
        | false ↦ All-cons F r (remove_entry (is_at (nat_cmp due)) rs) (All-head F r rs full)
            (AllFull-remove_entry rs due (All-tail F r rs full))
      ]

  -- whatever was written into a row that is then removed
  remove_entry-set_value : (rows : List (Entry T)) (due : ℕ) (row : VecDeque T Global)
      → remove_entry (is_at (nat_cmp due)) (set_value (is_at (nat_cmp due)) rows row) ≡ remove_entry
      (is_at (nat_cmp due)) rows
  remove_entry-set_value [] due row = refl
  remove_entry-set_value (r ∷ rs) due row =
      let test : ℕ → Bool = is_at (nat_cmp due) in
      ⊎_elim
      (λ (yes : test r.0 ≡ true). ap (λ b. remove_entry test
      (cond b ((r.0, row) ∷ rs) (r ∷ set_value test rs row))) yes ∙ ap
      (λ b. cond b rs ((r.0, row) ∷ remove_entry test rs)) yes
      ∙ sym (ap (λ b. cond b rs (r ∷ remove_entry test rs)) yes))
      (λ (no : test r.0 ≡ false). ap (λ b. remove_entry test
      (cond b ((r.0, row) ∷ rs) (r ∷ set_value test rs row))) no ∙ ap
      (λ b. cond b (set_value test rs row) (r ∷ remove_entry test (set_value test rs row))) no
      ∙ ap (λ zs. r ∷ zs) (remove_entry-set_value rs due row)
      ∙ sym (ap (λ b. cond b rs (r ∷ remove_entry test rs)) no))
      (cases_Bool (test r.0))

  joined-emptied : (rows : List (Entry T)) (due : ℕ) (row : VecDeque T Global) → row.items ≡ []
      → row_tokens (remove_entry (is_at (nat_cmp due)) rows) ≡ row_tokens
      (set_value (is_at (nat_cmp due)) rows row)
  joined-emptied [] due row none = refl
  joined-emptied (r ∷ rs) due row none =
      elim (is_at (nat_cmp due) r.0) as (λ b. row_tokens
      (cond b rs (r ∷ remove_entry (is_at (nat_cmp due)) rs)) ≡ row_tokens
      (cond b ((r.0, row) ∷ rs) (r ∷ set_value (is_at (nat_cmp due)) rs row))) [
        | true ↦ sym (ap (λ (ts : List T). all_at r.0 ts ++ row_tokens rs) none)
        | false ↦ ap (λ zs. all_at r.0 r.1.items ++ zs) (joined-emptied rs due row none)
      ]

  -- a row that became empty is removed
  pub joined-remove : (rows : List (Entry T)) (due : ℕ) (row : VecDeque T Global) → row.items ≡ []
      → row_tokens (remove_entry (is_at (nat_cmp due)) (set_value (is_at (nat_cmp due)) rows row)) ≡
      row_tokens (set_value (is_at (nat_cmp due)) rows row)
  joined-remove rows due row none = ap row_tokens (remove_entry-set_value rows due row) ∙ joined-emptied rows
      due row none

  pub AllFull-removed : (rows : List (Entry T)) (due : ℕ) (row : VecDeque T Global) → AllFull rows
      → AllFull (remove_entry (is_at (nat_cmp due)) (set_value (is_at (nat_cmp due)) rows row))
  AllFull-removed rows due row full = subst (λ (rs : List (Entry T)). AllFull rs)
      (sym (remove_entry-set_value rows due row)) (AllFull-remove_entry rows due full)

  first_moment-row : (due : ℕ) (ts : List T) (rest : List (ℕ × T)) → 0 < length ts
      → next_moment (all_at due ts ++ rest) ≡ Some due
  first_moment-row due [] rest full = absurd (omega arith)
  first_moment-row due (t ∷ ts) rest full = refl

  -- the due moment of the first token is that of the first row
  pub first_moment-joined : (rows : List (Entry T)) (e : Entry T) → slice_get rows 0 ≡ Some e → AllFull rows
      → next_moment (row_tokens rows) ≡ Some e.0
  first_moment-joined [] e first full = absurd (cc)
  first_moment-joined (r ∷ rs) e first full =
      first_moment-row r.0 r.1.items (row_tokens rs)
      (All-head (λ (x : Entry T). 0 < length x.1.items) r rs full) ∙ ap (λ (x : Entry T). Some x.0)
      (let is : r ≡ e = cc in is)

  -- the first row has the first token's moment
  pub lookup-first : (rows : List (Entry T)) (due : ℕ) → AllFull rows
      → next_moment (row_tokens rows) ≡ Some due
      → (row : VecDeque T Global) × (lookup (is_at (nat_cmp due)) rows ≡ Some row) × (0 < length row.items)
  lookup-first [] due full first = absurd (cc)
  lookup-first (r ∷ rs) due full first =
      let some_token = All-head (λ (x : Entry T). 0 < length x.1.items) r rs full in
      let h = sym (first_moment-row r.0 r.1.items (row_tokens rs) some_token) ∙ first in
      let is : r.0 ≡ due = cc in (
        r.1,
        ap (λ o. cond (is_eq o) (Some r.1) (lookup (is_at (nat_cmp due)) rs))
            (cmp-equal due r.0 (sym is)),
        some_token,
      )

  -- the first token of the first row is taken
  pub joined-pop : (rows : List (Entry T)) (due : ℕ) (old row : VecDeque T Global) (t : T) → AllFull rows
      → next_moment (row_tokens rows) ≡ Some due → lookup (is_at (nat_cmp due)) rows ≡ Some old
      → old.items ≡ t ∷ row.items
      → row_tokens rows ≡ (due, t) ∷ row_tokens (set_value (is_at (nat_cmp due)) rows row)
  joined-pop [] due old row t full first there e = absurd (cc)
  joined-pop (r ∷ rs) due old row t full first there e =
      let some_token = All-head (λ (x : Entry T). 0 < length x.1.items) r rs full in
      let h = sym (first_moment-row r.0 r.1.items (row_tokens rs) some_token) ∙ first in
      let is : due ≡ r.0 = cc in
      let g = sym (ap (λ o. cond (is_eq o) (Some r.1) (lookup (is_at (nat_cmp due)) rs))
      (cmp-equal due r.0 is)) ∙ there in
      let same : r.1 ≡ old = cc in
      ap (λ (q : VecDeque T Global). all_at r.0 q.items ++ row_tokens rs) same
      ∙ ap (λ (ts : List T). all_at r.0 ts ++ row_tokens rs) e
      ∙ ap (λ (m : ℕ). (m, t) ∷ (all_at r.0 row.items ++ row_tokens rs)) (sym is)
      ∙ sym (ap (λ o. (due, t) ∷ row_tokens (cond (is_eq o) ((r.0, row) ∷ rs)
      (r ∷ set_value (is_at (nat_cmp due)) rs row))) (cmp-equal due r.0 is))

  -- a row that is found has a token
  pub lookup-full : (rows : List (Entry T)) (due : ℕ) (row : VecDeque T Global) → AllFull rows
      → lookup (is_at (nat_cmp due)) rows ≡ Some row → 0 < length row.items
  lookup-full [] due row full there = absurd (cc)
  lookup-full (r ∷ rs) due row full there =
      elim (is_at (nat_cmp due) r.0) as (λ b. cond b (Some r.1) (lookup (is_at (nat_cmp due)) rs) ≡ Some row →
      0 < length row.items) [
        | true ↦ λ found. let is : r.1 ≡ row = cc in subst (λ (q : VecDeque T Global). 0 < length q.items) is
            (All-head (λ (x : Entry T). 0 < length x.1.items) r rs full)
        | false ↦ λ found. lookup-full rs due row (All-tail (λ (x : Entry T). 0 < length x.1.items) r rs full)
            found
      ] there

module _ {T : Type 0} where
  -- where no key is below a moment, no token is due before it
  pub joined-from : (m : ℕ) (rows : List (Entry T)) → All (IsLeBy nat_cmp m) (keys_of rows)
      → All (λ e. m ≤ e.0) (row_tokens rows)
  joined-from m [] h = All-nil (λ (e : ℕ × T). m ≤ e.0)
  joined-from m (r ∷ rs) h = All-append (λ (e : ℕ × T). m ≤ e.0) (all_at r.0 r.1.items) (row_tokens rs)
      (All-all_at (λ (e : ℕ × T). m ≤ e.0) r.0 r.1.items
      (λ t. le_from_not_gt m r.0 (All-head (IsLeBy nat_cmp m) r.0 (keys_of rs) h)))
      (joined-from m rs (All-tail (IsLeBy nat_cmp m) r.0 (keys_of rs) h))

  -- where all keys are above a moment, all tokens are due later
  pub joined-later : (m : ℕ) (rows : List (Entry T)) → All (IsLtBy nat_cmp m) (keys_of rows)
      → All (λ e. m < e.0) (row_tokens rows)
  joined-later m [] h = All-nil (λ (e : ℕ × T). m < e.0)
  joined-later m (r ∷ rs) h = All-append (λ (e : ℕ × T). m < e.0) (all_at r.0 r.1.items) (row_tokens rs)
      (All-all_at (λ (e : ℕ × T). m < e.0) r.0 r.1.items
      (λ t. less-cmp m r.0 (All-head (IsLtBy nat_cmp m) r.0 (keys_of rs) h)))
      (joined-later m rs (All-tail (IsLtBy nat_cmp m) r.0 (keys_of rs) h))

  -- full rows have no token exactly where there is none of them
  pub joined-none : (rows : List (Entry T)) → AllFull rows
      → (length rows ≡ 0 → row_tokens rows ≡ []) × (row_tokens rows ≡ [] → length rows ≡ 0)
  joined-none [] full = ((λ e. refl), λ e. refl)
  joined-none (r ∷ rs) full = (
    (λ e. absurd (omega arith)),
    λ e. let h = sym (first_moment-row r.0 r.1.items (row_tokens rs)
        (All-head (λ (x : Entry T). 0 < length x.1.items) r rs full)) ∙ ap next_moment e in absurd (cc),
  )

  -- there is a row where there is a first token
  pub some_row : (rows : List (Entry T)) (due : ℕ) → next_moment (row_tokens rows) ≡ Some due
      → 0 < length rows
  some_row [] due first = absurd (cc)
  some_row (r ∷ rs) due first = omega arith

  -- the first row is taken whole
  pub joined-rest : (rows rest : List (Entry T)) (p : Entry T) (due : ℕ) → AllFull rows
      → next_moment (row_tokens rows) ≡ Some due → rows ≡ p ∷ rest
      → (p.0 ≡ due) × AllFull rest × (0 < length p.1.items)
  joined-rest rows rest p due full first is =
      let all : AllFull (p ∷ rest) = subst (λ (rs : List (Entry T)). AllFull rs) is full in
      let some_token = All-head (λ (x : Entry T). 0 < length x.1.items) p rest all in
      let moment = sym (first_moment-row p.0 p.1.items (row_tokens rest) some_token) ∙ sym
      (ap (λ (rs : List (Entry T)). next_moment (row_tokens rs)) is) ∙ first in (
        (let same : p.0 ≡ due = cc in same),
        All-tail (λ (x : Entry T). 0 < length x.1.items) p rest all,
        some_token,
      )

pub some_found : {X : Type 0} (r : Option (MutBor X)) (x : X) → option_copied_mut r ≡ Some x → IsSome r
some_found None x e = absurd (cc)
some_found (Some r) x e = refl

-- what the length of a row says of its tokens
pub some_left : {X : Type 0} (n : ℕ) (ts : List X) → n ≡ length ts → eqb n 0 ≡ false → 0 < length ts
some_left n ts e test = grind (arith, nat_tests)

pub none_left : {X : Type 0} (n : ℕ) (ts : List X) → n ≡ length ts → eqb n 0 ≡ true → ts ≡ []
none_left n [] e test = refl
none_left n (t ∷ ts) e test = absurd (grind (arith, nat_tests))
