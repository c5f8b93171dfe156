-- The notes of a client, one after the other, and whose they are: no two places of the row are of one client,
-- and none that was handed over is in the row.
use Rattle.std.proofs.Common.{◌≡◌, ◌≢◌, ◌∙◌, ℕ, zero, suc, ◌+◌, ◌<◌, ◌≤◌, ◌⊎◌, inl, inr, cond, eqb, List, []}
use Rattle.std.proofs.Common.{◌∷◌, ◌++◌, All, Bool, length, get_or, set, replicate, refl, sym, ap, subst}
use Rattle.std.proofs.Common.{append-nil, arith}
use Rattle.std.specs.List.{sum_by}
use Rattle.std.proofs.lemmas.Bool.Decides.{eqb_tells, nat_tests}
use Rattle.std.proofs.lemmas.List.{get_or-set_other, length-set}
use Rattle.std.proofs.lemmas.List.Elements.{filter-append}
use Rattle.std.proofs.lemmas.List.Sums.{get_or-le-sum_by}
use Rattle.ts_slot.specs.Lists.{same}
use Rattle.ts_slot.specs.Views.{within}
use Rattle.ts_txn.specs.Net.{NetSeen}
use Rattle.ts_txn.specs.declared.retired.Noted.{Noted}
use Rattle.ts_txn.specs.declared.retired.Retired.{Retired}
use Rattle.ts_serve.specs.Balance.{IsBalanced, IsSameClient, had_number, has_number, is_given}
use Rattle.ts_serve.specs.Notes.{AreInOrder, notes_of}
use Rattle.ts_serve.specs.declared.connection.Connection.{Connection}
use Rattle.ts_serve.specs.declared.connection.Connection.TheVariants.{Accepted, Free}
use Rattle.ts_serve.specs.declared.whose.Whose.{Whose}
use Rattle.ts_serve.proofs.Balance.{row_set}

-- ---- notes

module _ {O : Type 0} where
  -- a note of the client stands behind its others
  pub notes_push : (x : ℕ) (notes : List (Noted O)) (note : Noted O) → note.number ≡ x
      → notes_of x (notes ++ note ∷ []) ≡ notes_of x notes ++ note ∷ []
  notes_push x notes note is =
      let one : cond (eqb note.number x) (note ∷ []) [] ≡ note ∷ [] =
      elim (eqb_tells note.number x) [
        | inl same ↦ ap (λ (b : Bool). cond b (note ∷ []) []) same.0
        | inr other ↦ absurd (other.1 is)
      ] in
      filter-append (λ (n : Noted O). eqb n.number x) notes (note ∷ [])
      ∙ ap (λ (l : List (Noted O)). notes_of x notes ++ l) one

  -- one of another client is not among them
  pub notes_beside : (x : ℕ) (notes : List (Noted O)) (note : Noted O) → note.number ≢ x
      → notes_of x (notes ++ note ∷ []) ≡ notes_of x notes
  notes_beside x notes note is =
      let none : cond (eqb note.number x) (note ∷ []) [] ≡ [] =
      elim (eqb_tells note.number x) [
        | inl same ↦ absurd (is same.1)
        | inr other ↦ ap (λ (b : Bool). cond b (note ∷ []) []) other.0
      ] in
      filter-append (λ (n : Noted O). eqb n.number x) notes (note ∷ [])
      ∙ (ap (λ (l : List (Noted O)). notes_of x notes ++ l) none ∙ append-nil (notes_of x notes))

  -- a note at the place behind the last one keeps the order
  pub order_push : (place : ℕ) (notes : List (Noted O)) (note : Noted O) → AreInOrder place notes
      → note.place ≡ place + length notes → AreInOrder place (notes ++ note ∷ [])
  order_push place [] note order is = (omega arith, tt)
  order_push place (n ∷ notes) note order is =
      let here : note.place ≡ place + 1 + length notes = omega arith in
      (order.0, order_push (place + 1) notes note order.1 here)

  pub one_more : (notes : List (Noted O)) (note : Noted O) → length (notes ++ note ∷ []) ≡ length notes + 1
  one_more [] note = refl
  one_more (n ∷ notes) note = let rest = one_more notes note in omega arith

-- ---- the row

-- a free place is of no client
pub is_free : (whose : Whose) (started : Bool) (made : ℕ) → Free ≡ Accepted whose started made → ⊥
is_free whose started made is = absurd (cc)

-- two connections that are one are of one client, with a group that was made with as many turns
pub one_accepted : (a b : Whose) (s t : Bool) (i j : ℕ) → Accepted a s i ≡ Accepted b t j → (a ≡ b) × (i ≡ j)
one_accepted a b s t i j is = (cc, cc)

-- whose connection it is, it was before
pub was_client : (c : Connection) (whose : Whose) (started : Bool) (made : ℕ)
    → IsSameClient c (Accepted whose started made) → (started' : Bool) × (c ≡ Accepted whose started' made)
was_client Free whose started made is = absurd (is_free whose started made (sym is))
was_client (Accepted was s m) whose started made is =
    let again : Accepted whose started made ≡ Accepted was is.0 m = is.1 in (s, cc)

-- a row in which nobody is
pub all_free : (places k : ℕ) → get_or (replicate places Free) k Free ≡ Free
all_free zero k = refl
all_free (suc places) zero = refl
all_free (suc places) (suc k) = all_free places k

-- behind the row nobody is
past : (row : List Connection) (k : ℕ) (c : Connection) → get_or row k Free ≡ c
    → (k < length row) ⊎ (Free ≡ c)
past [] k c is = inr is
past (r ∷ row) zero c is = inl (omega arith)
past (r ∷ row) (suc k) c is = elim (past row k c is) [ inl low ↦ inl (omega arith) | inr free ↦ inr free ]

-- so the place of whoever is in the row is one of the row
pub is_within : (row : List Connection) (k : ℕ) (whose : Whose) (started : Bool) (made : ℕ)
    → get_or row k Free ≡ Accepted whose started made → k < length row
is_within row k whose started made at = elim (past row k (Accepted whose started made) at) [
  | inl low ↦ low
  | inr free ↦ absurd (is_free whose started made free)
]

-- who is in the row counts
at_least : (f : Connection → ℕ) (row : List Connection) (k : ℕ) (c : Connection) → k < length row
    → get_or row k Free ≡ c → f c ≤ sum_by f row
at_least f row k c below found = subst (λ b. f b ≤ sum_by f row) found (get_or-le-sum_by f row k Free below)

-- and who is in two places counts twice
at_two : (f : Connection → ℕ) (row : List Connection) (j k : ℕ) (b c : Connection) → f Free ≡ 0
    → j < length row
    → k < length row → j ≢ k → get_or row j Free ≡ b → get_or row k Free ≡ c → f b + f c ≤ sum_by f row
at_two f row j k b c none low high other found_j found_k =
    let less = row_set f row k c Free high found_k in
    let there : get_or (set row k Free) j Free ≡ b = get_or-set_other row k j Free Free other ∙ found_j in
    let long = length-set row k Free in
    let one = at_least f (set row k Free) j b (omega arith) there in
    omega arith

same_self : (x : ℕ) → same x x ≡ 1
same_self x = grind (arith, nat_tests)

same_one : (x y : ℕ) → x ≡ y → same x y ≡ 1
same_one x y is = subst (λ z. same x z ≡ 1) is (same_self x)

within_one : (a b x : ℕ) → within a b x ≤ 1
within_one a b x = grind (arith, nat_tests)

module _ {C O : Type 0} (Done : Retired C O → Type 0) (misdials : ℕ) (row : List Connection)
    (net : NetSeen C O)
    (balance : IsBalanced Done misdials row net) where
  -- two places of the row are of two clients
  pub not_twice : (j k : ℕ) (a b : Whose) (s t : Bool) (m n : ℕ) → j ≢ k → get_or row j Free ≡ Accepted a s m
      → get_or row k Free ≡ Accepted b t n → a.number ≢ b.number
  not_twice j k a b s t m n other found_j found_k is =
      let both = at_two (has_number a.number) row j k (Accepted a s m) (Accepted b t n) refl
      (is_within row j a s m found_j) (is_within row k b t n found_k) other found_j found_k in
      let one : same a.number a.number ≡ 1 = same_self a.number in
      let two : same b.number a.number ≡ 1 = same_one b.number a.number (sym is) in
      let once = balance.once a.number in
      let most = within_one 1 (net.given + 1) a.number in
      absurd (omega arith)

  -- who is in the row came
  pub was_given : (k : ℕ) (whose : Whose) (started : Bool) (made : ℕ)
      → get_or row k Free ≡ Accepted whose started made → is_given net whose.number ≡ 1
  was_given k whose started made found =
      let there = at_least (has_number whose.number) row k (Accepted whose started made)
      (is_within row k whose started made found) found in
      let one : same whose.number whose.number ≡ 1 = same_self whose.number in
      let once = balance.once whose.number in
      let most = within_one 1 (net.given + 1) whose.number in
      omega arith

  -- and was not handed over
  pub not_retired : (k : ℕ) (whose : Whose) (started : Bool) (made : ℕ)
      → get_or row k Free ≡ Accepted whose started made → All (λ r. r.parts.number ≢ whose.number) net.retired
  not_retired k whose started made found i d low is =
      let there = at_least (has_number whose.number) row k (Accepted whose started made)
      (is_within row k whose started made found) found in
      let one : same whose.number whose.number ≡ 1 = same_self whose.number in
      let gone : had_number whose.number (get_or net.retired i d)
      ≤ sum_by (had_number whose.number) net.retired =
      get_or-le-sum_by (had_number whose.number) net.retired i d low in
      let two : had_number whose.number (get_or net.retired i d) ≡ 1 =
      same_one (get_or net.retired i d).parts.number whose.number is in
      let once = balance.once whose.number in
      let most = within_one 1 (net.given + 1) whose.number in
      absurd (omega arith)

-- where nothing can be a note, nothing was noted
pub none_noted : {A : Type 0} (xs : List A) → All (λ x. ⊥) xs → xs ≡ []
none_noted [] all = refl
none_noted (x ∷ xs) all = absurd (all 0 x (omega arith))
