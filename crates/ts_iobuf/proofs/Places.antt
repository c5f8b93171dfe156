-- Laws of the readers' places: what moving one reader and counting from a later byte do to what each reads.
use Rattle.std.proofs.Common.{◌≡◌, ◌≢◌, ℕ, zero, suc, ◌+◌, ◌-◌, ◌≤◌, ◌<◌, ◌==◌, List, [], ◌∷◌, Option, Some, None, Bool, true, false, length, map, take, drop, ◌++◌, arith, refl, sym, ap, subst, ◌∙◌, IfSome, IsSomeAnd, All, slice_get, slice_set, unwrap_or, is_some, get_or, eq-eqb, eqb-true, drop-drop, ◌⊎◌, inl, inr}
use Rattle.std.proofs.lemmas.Bool.{cases_eq}
use Rattle.std.proofs.lemmas.List.{get_or_default}
use Rattle.std.proofs.lemmas.List.Edits.{map_over_more}
use Rattle.std.specs.Option.{option_map}
use Rattle.std.specs.List.{AllByRecursion}
use Rattle.ts_iobuf.specs.declared.readers.ReaderId.{ReaderId}
use Rattle.ts_iobuf.specs.declared.readers.Slot.{Slot}
use Rattle.ts_iobuf.specs.Places.{place_if, place_at, place_in, moved, least_of, least_place, lowered, StandsWithin, bytes_from}

least_of-le : (o : Option ℕ) (most : ℕ) → least_of o most ≤ most
least_of-le None most = omega arith
least_of-le (Some p) most = omega arith

-- the least place is at most `most`
pub least_place-le : (ss : List Slot) (most : ℕ) → least_place ss most ≤ most
least_place-le [] most = omega arith
least_place-le (s ∷ ss) most = omega (
  arith,
  least_place-le ss (least_of s.place most),
  least_of-le s.place
      most,
)

least_of-below : (o : Option ℕ) (most b : ℕ) → b ≤ least_of o most → IfSome o (λ p. b ≤ p)
least_of-below None most b h = tt
least_of-below (Some p) most b h = omega arith

-- what is at most the least place is at most each place
below_least : (ss : List Slot) (most b : ℕ) → b ≤ least_place ss most
    → AllByRecursion (λ s. IfSome s.place (λ p. b ≤ p)) ss
below_least [] most b h = tt
below_least (s ∷ ss) most b h = (
  least_of-below s.place most b (omega (arith, h, least_place-le ss (least_of s.place most))),
  below_least
      ss (least_of s.place most) b h,
)

if_place : (b : Bool) (o : Option ℕ) (P : ℕ → Type 0) → IfSome o P → IfSome (place_if b o) P
if_place true o P h = h
if_place false o P h = tt

-- what holds of every place holds of a reader's
pub place_at-all : (ss : List Slot) (i g : ℕ) (P : ℕ → Type 0) → AllByRecursion (λ s. IfSome s.place P) ss
    → IfSome (place_at (slice_get ss i) g) P
place_at-all [] i g P h = tt
place_at-all (s ∷ ss) zero g P h = if_place (s.generation == g) s.place P h.0
place_at-all (s ∷ ss) (suc i) g P h = place_at-all ss i g P h.1

place_if-map : (b : Bool) (o : Option ℕ) (f : ℕ → ℕ)
    → place_if b (option_map f o) ≡ option_map f (place_if b o)
place_if-map true o f = refl
place_if-map false o f = refl

-- where a reader stands after the slots were lowered
place_at-lowered : (ss : List Slot) (d i g : ℕ)
    → place_at (slice_get (map (lowered d) ss) i) g ≡ option_map (λ p. p - d) (place_at (slice_get ss i) g)
place_at-lowered [] d i g = refl
place_at-lowered (s ∷ ss) d zero g = place_if-map (s.generation == g) s.place (λ p. p - d)
place_at-lowered (s ∷ ss) d (suc i) g = place_at-lowered ss d i g

-- a slot of this index and generation
abbrev slot_at : ℕ → Option ℕ → Slot
slot_at g x = record { generation = g; place = x }

-- the reader that moved
place_at-moved : (ss : List Slot) (i g p : ℕ) (x : Option ℕ) → place_at (slice_get ss i) g ≡ Some p
    → place_at (slice_get (slice_set ss i (slot_at g x)) i) g ≡ x
place_at-moved [] i g p x h = absurd (cc)
place_at-moved (s ∷ ss) zero g p x h = ap (λ b. place_if b x) (eq-eqb g g refl)
place_at-moved (s ∷ ss) (suc i) g p x h = place_at-moved ss i g p x h

if_known : (b : Bool) (o : Option ℕ) (p : ℕ) → place_if b o ≡ Some p → b ≡ true
if_known true o p h = refl
if_known false o p h = absurd (cc)

other_generation : (a g k : ℕ) (o x : Option ℕ) (b c : Bool) → b ≡ (g == k) → c ≡ (a == k) → a ≡ g
    → (k ≡ g → ⊥) → place_if b x ≡ place_if c o
other_generation a g k o x true c e f same h = absurd (h (sym (eqb-true g k (sym e))))
other_generation a g k o x false true e f same h = absurd (h (sym (eqb-true a k (sym f)) ∙ same))
other_generation a g k o x false false e f same h = refl

-- another reader
place_at-moved_other : (ss : List Slot) (i g j k p : ℕ) (x : Option ℕ) → place_at (slice_get ss i) g ≡ Some p
    → (j ≡ i → k ≡ g → ⊥)
    → place_at (slice_get (slice_set ss i (slot_at g x)) j) k ≡ place_at (slice_get ss j) k
place_at-moved_other [] i g j k p x h n = absurd (cc)
place_at-moved_other (s ∷ ss) zero g zero k p x h n =
    other_generation s.generation g k s.place x (g == k) (s.generation == k) refl refl
    (eqb-true s.generation g (if_known (s.generation == g) s.place p h)) (n refl)
place_at-moved_other (s ∷ ss) zero g (suc j) k p x h n = refl
place_at-moved_other (s ∷ ss) (suc i) g zero k p x h n = refl
place_at-moved_other (s ∷ ss) (suc i) g (suc j) k p x h n = place_at-moved_other ss i g j k p x h
    (λ e f. n (ap suc e) f)

-- the bytes that a place reads, counted from a later byte
from_lowered : (o : Option ℕ) (d : ℕ) (bytes : List ℕ) → IfSome o (λ p. d ≤ p)
    → bytes_from (option_map (λ p. p - d) o) (drop d bytes) ≡ bytes_from o bytes
from_lowered None d bytes h = refl
from_lowered (Some p) d bytes h = let e : d + (p - d) ≡ p = omega arith in drop-drop (p - d) d bytes ∙ ap
    (λ n. drop n bytes) e

-- all by recursion, and all by index
pub all_by_recursion : (ss : List Slot) (P : Slot → Type 0) → All P ss → AllByRecursion P ss
all_by_recursion [] P h = tt
all_by_recursion (s ∷ ss) P h = (
  h 0 s (omega arith),
  all_by_recursion ss P
      (λ k d below. h (suc k) d (omega arith)),
)

all_by_index : (ss : List Slot) (P : Slot → Type 0) → AllByRecursion P ss → All P ss
all_by_index [] P h k d below = absurd (omega arith)
all_by_index (s ∷ ss) P h zero d below = h.0
all_by_index (s ∷ ss) P h (suc k) d below = all_by_index ss P h.1 k d (omega arith)

all-set : (ss : List Slot) (i : ℕ) (x : Slot) (P : Slot → Type 0) → AllByRecursion P ss → P x
    → AllByRecursion P (slice_set ss i x)
all-set [] i x P h here = tt
all-set (s ∷ ss) zero x P h here = (here, h.1)
all-set (s ∷ ss) (suc i) x P h here = (h.0, all-set ss i x P h.1 here)

lowered-within : (o : Option ℕ) (d most : ℕ) → IfSome o (λ p. p ≤ most)
    → IfSome (option_map (λ p. p - d) o) (λ p. p ≤ most - d)
lowered-within None d most h = tt
lowered-within (Some p) d most h = omega arith

all-lowered : (ss : List Slot) (d most : ℕ) → AllByRecursion (λ s. IfSome s.place (λ p. p ≤ most)) ss
    → AllByRecursion (λ s. IfSome s.place (λ p. p ≤ most - d)) (map (lowered d) ss)
all-lowered [] d most h = tt
all-lowered (s ∷ ss) d most h = (lowered-within s.place d most h.0, all-lowered ss d most h.1)

-- the slots after a reader moved, and every place was counted from the least one
abbrev pub settled : List Slot → ReaderId → ℕ → ℕ → List Slot
settled ss r n most = map (lowered (least_place (moved ss r n) most)) (moved ss r n)

pub settled-within : (ss : List Slot) (r : ReaderId) (n most p : ℕ) → place_in ss r ≡ Some p → p + n ≤ most
    → StandsWithin most ss
    → StandsWithin (most - least_place (moved ss r n) most) (settled ss r n most)
settled-within ss r n most p is fits h =
    let there : unwrap_or (place_in ss r) 0 + n ≤ most = rw is (fits) in
    all_by_index (settled ss r n most) (λ s. IfSome s.place (λ q. q ≤ most - least_place (moved ss r n) most))
    (all-lowered (moved ss r n) (least_place (moved ss r n) most) most
    (all-set ss r.index (slot_at r.generation (Some (unwrap_or (place_in ss r) 0 + n)))
    (λ s. IfSome s.place (λ q. q ≤ most))
    (all_by_recursion ss (λ s. IfSome s.place (λ q. q ≤ most)) h) there))

is_some-map : (o : Option ℕ) (f : ℕ → ℕ) → is_some (option_map f o) ≡ is_some o
is_some-map None f = refl
is_some-map (Some p) f = refl

same_reader : (q r : ReaderId) → ((q.index ≡ r.index) × (q.generation ≡ r.generation)) ⊎
    (q.index ≡ r.index → q.generation ≡ r.generation → ⊥)
same_reader q r = elim (cases_eq q.index r.index) [
  | inl e ↦ elim (cases_eq q.generation r.generation) [ inl f ↦ inl (e, f) | inr n ↦ inr (λ _ f. n f) ]
  | inr n ↦ inr (λ e _. n e)
]

abbrev reader_at : ℕ → ℕ → ReaderId
reader_at i g = record { index = i; generation = g }

the_reader : (q r : ReaderId) → q.index ≡ r.index → q.generation ≡ r.generation → q ≡ r
the_reader q r e f = ap (λ i. reader_at i q.generation) e ∙ ap (λ g. reader_at r.index g) f

moved-live : (ss : List Slot) (r q : ReaderId) (n p : ℕ) → place_in ss r ≡ Some p
    → is_some (place_in (moved ss r n) q) ≡ is_some (place_in ss q)
moved-live ss r q n p is = elim (same_reader q r) [
  | inl e ↦ let P : ReaderId → Type 0 = λ x. is_some (place_in (moved ss r n) x) ≡ is_some (place_in ss x) in
      subst P (sym (the_reader q r e.0 e.1))
      (ap is_some (place_at-moved ss r.index r.generation p (Some (unwrap_or (place_in ss r) 0 + n)) is) ∙ sym
      (ap is_some is))
  | inr d ↦ ap is_some (place_at-moved_other ss r.index r.generation q.index q.generation p
      (Some (unwrap_or (place_in ss r) 0 + n)) is d)
]

-- the same readers are live
pub settled-live : (ss : List Slot) (r q : ReaderId) (n most p : ℕ) → place_in ss r ≡ Some p
    → is_some (place_in (settled ss r n most) q) ≡ is_some (place_in ss q)
settled-live ss r q n most p is =
    let d = least_place (moved ss r n) most in
    ap is_some (place_at-lowered (moved ss r n) d q.index q.generation)
    ∙ is_some-map (place_in (moved ss r n) q) (λ p. p - d)
    ∙ moved-live ss r q n p is

-- no place is before the least one
least-before : (ss : List Slot) (r q : ReaderId) (n most : ℕ)
    → IfSome (place_in (moved ss r n) q) (λ p. least_place (moved ss r n) most ≤ p)
least-before ss r q n most =
    place_at-all (moved ss r n) q.index q.generation (λ p. least_place (moved ss r n) most ≤ p)
    (below_least (moved ss r n) most (least_place (moved ss r n) most) (omega arith))

settled-reads : (ss : List Slot) (r q : ReaderId) (n most : ℕ) (bytes : List ℕ)
    → bytes_from (place_in (settled ss r n most) q) (drop (least_place (moved ss r n) most) bytes) ≡
    bytes_from (place_in (moved ss r n) q) bytes
settled-reads ss r q n most bytes =
    let d = least_place (moved ss r n) most in
    ap (λ o. bytes_from o (drop d bytes)) (place_at-lowered (moved ss r n) d q.index q.generation)
    ∙ from_lowered (place_in (moved ss r n) q) d bytes (least-before ss r q n most)

-- the reader that moved passes over n bytes
pub settled-moved : (ss : List Slot) (r : ReaderId) (n most p : ℕ) (bytes : List ℕ) → place_in ss r ≡ Some p
    → bytes_from (place_in (settled ss r n most) r) (drop (least_place (moved ss r n) most) bytes) ≡ drop n
    (bytes_from (place_in ss r) bytes)
settled-moved ss r n most p bytes is =
    let e : unwrap_or (place_in ss r) 0 ≡ p = ap (λ o. unwrap_or o 0) is in
    settled-reads ss r r n most bytes
    ∙ ap (λ o. bytes_from o bytes) (place_at-moved ss r.index r.generation p
    (Some (unwrap_or (place_in ss r) 0 + n)) is)
    ∙ ap (λ m. drop (m + n) bytes) e
    ∙ sym (drop-drop n p bytes)
    ∙ ap (λ o. drop n (bytes_from o bytes)) (sym is)

-- any other reader reads what it read
pub settled-others : (ss : List Slot) (r q : ReaderId) (n most p : ℕ) (bytes : List ℕ)
    → place_in ss r ≡ Some p → q ≢ r
    → bytes_from (place_in (settled ss r n most) q) (drop (least_place (moved ss r n) most) bytes) ≡
    bytes_from (place_in ss q) bytes
settled-others ss r q n most p bytes is other =
    settled-reads ss r q n most bytes
    ∙ ap (λ o. bytes_from o bytes)
    (place_at-moved_other ss r.index r.generation q.index q.generation p
    (Some (unwrap_or (place_in ss r) 0 + n)) is (λ e f. other (the_reader q r e f)))

-- one slot more is lowered
pub lowered_more : (by : ℕ) (xs ys : List Slot) (i : ℕ) (r d : Slot) → i < length xs → length ys ≡ length xs
    → ys ≡ map (lowered by) (take i xs) ++ drop i xs → r ≡ lowered by (get_or ys i d)
    → slice_set ys i r ≡ map (lowered by) (take (i + 1) xs) ++ drop (i + 1) xs
lowered_more by xs ys i r d below same is e =
    ap (λ s. slice_set ys i s) e
    ∙ map_over_more (lowered by) xs ys i (get_or ys i d) below is
    (get_or_default ys i d (get_or ys i d) (omega arith))

-- the slots after the three steps of `move_on`: one reader moved, the least place found, every place counted
-- from it
pub settled-steps : (ss mid ss' : List Slot) (r : ReaderId) (n most d : ℕ) → mid ≡ moved ss r n
    → d ≡ least_place mid most
    → ss' ≡ map (lowered d) mid → (ss' ≡ settled ss r n most) × (d ≡ least_place (moved ss r n) most)
settled-steps ss mid ss' r n most d e f g =
    let least : d ≡ least_place (moved ss r n) most = f ∙ ap (λ m. least_place m most) e in
    (g ∙ ap (λ m. map (lowered d) m) e ∙ ap (λ k. map (lowered k) (moved ss r n)) least, least)

-- a reader of which a fact is known stands somewhere
pub the_some : (o : Option ℕ) (P : ℕ → Type 0) → IsSomeAnd o P
    → (o ≡ Some (unwrap_or o 0)) × P (unwrap_or o 0)
the_some None P h = absurd h
the_some (Some p) P h = (refl, h)
