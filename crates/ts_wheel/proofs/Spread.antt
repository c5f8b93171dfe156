-- The rows of a lap: what a write to one of them makes of its tokens.
use Rattle.std.proofs.Common.{◌≡◌, ℕ, zero, suc, ◌+◌, ◌<◌, ◌≤◌, List, [], ◌∷◌, ◌++◌, length, get_or, set, refl, ap, sym, ◌∙◌, subst, append_assoc, All, Global, Some, None, IsTrue, eqb, eq-eqb, ◌≢◌, ◌⊎◌, ⊎_elim, length-append, arith}
use Rattle.std.proofs.lemmas.Bool.{cases_lt}
use Rattle.std.proofs.lemmas.Bool.Decides.{nat_tests}
use Rattle.std.proofs.lemmas.List.{append-nil, get_or_append_left}
use Rattle.std.proofs.lemmas.List.Elements.{All-nil, All-append, All-head, All-weaker}
use Rattle.ts_lists.proofs.Elements.{all_rest}
use Rattle.std.specs.declared.collections.VecDeque.{VecDeque}
use Rattle.ts_wheel.specs.Due.{added, first_due, after_due, next_moment}
use Rattle.ts_wheel.specs.Rows.{Lap, all_at, spread, AreEmptyBelow, HasToken}
use Rattle.ts_wheel.proofs.Added.{added-behind, added-before, added-all_at, All-all_at, first_due-late, none_due}

abbrev Row : Type 0 → Type 0
Row T = VecDeque T Global

module _ {T : Type 0} where
  -- no token of a lap is due before its first row
  pub spread-from : (from : ℕ) (rows : List (Row T)) → All (λ e. from ≤ e.0) (spread from rows)
  spread-from from [] = All-nil (λ (e : ℕ × T). from ≤ e.0)
  spread-from from (r ∷ rs) = All-append (λ (e : ℕ × T). from ≤ e.0) (all_at from r.items)
      (spread (from + 1) rs)
      (All-all_at (λ (e : ℕ × T). from ≤ e.0) from r.items (λ t. omega arith))
      (All-weaker (λ (e : ℕ × T). from + 1 ≤ e.0) (λ (e : ℕ × T). from ≤ e.0) (λ e h. omega arith)
      (spread (from + 1) rs) (spread-from (from + 1) rs))

  -- and none after its last
  pub spread-to : (from : ℕ) (rows : List (Row T)) → All (λ e. e.0 < from + length rows) (spread from rows)
  spread-to from [] = All-nil (λ (e : ℕ × T). e.0 < from + 0)
  spread-to from (r ∷ rs) = All-append (λ (e : ℕ × T). e.0 < from + length (r ∷ rs)) (all_at from r.items)
      (spread (from + 1) rs)
      (All-all_at (λ (e : ℕ × T). e.0 < from + length (r ∷ rs)) from r.items (λ t. omega arith))
      (All-weaker (λ (e : ℕ × T). e.0 < from + 1 + length rs) (λ (e : ℕ × T). e.0 < from + length (r ∷ rs))
      (λ e h. omega arith) (spread (from + 1) rs) (spread-to (from + 1) rs))

  tail_empty : (place : ℕ) (r : Row T) (rs : List (Row T)) → AreEmptyBelow (suc place) (r ∷ rs)
      → AreEmptyBelow place rs
  tail_empty place r rs h k d lt = h (suc k) d (omega arith)

  head_empty : (place : ℕ) (r : Row T) (rs : List (Row T)) → AreEmptyBelow (suc place) (r ∷ rs) → r.items ≡ []
  head_empty place r rs h = h 0 r (omega arith)

  -- rows of which none has a token have none
  pub spread-empty : (from : ℕ) (rows : List (Row T)) → AreEmptyBelow (length rows) rows
      → spread from rows ≡ []
  spread-empty from [] h = refl
  spread-empty from (r ∷ rs) h = ap (λ (ts : List T). all_at from ts ++ spread (from + 1) rs)
      (head_empty (length rs) r rs h) ∙ spread-empty (from + 1) rs (tail_empty (length rs) r rs h)

  moved_row : (from to : ℕ) (ts : List T) (rs : List (Row T))
      → (spread (from + 1) rs ≡ [] → spread (to + 1) rs ≡ [])
      → all_at from ts ++ spread (from + 1) rs ≡ [] → all_at to ts ++ spread (to + 1) rs ≡ []
  moved_row from to [] rs rest h = rest h
  moved_row from to (t ∷ ts) rs rest h = absurd (cc)

  -- rows have no token or have one, whatever their moments
  pub spread-moved : (from to : ℕ) (rows : List (Row T)) → spread from rows ≡ [] → spread to rows ≡ []
  spread-moved from to [] h = refl
  spread-moved from to (r ∷ rs) h = moved_row from to r.items rs (spread-moved (from + 1) (to + 1) rs) h

  -- a row with the same tokens changes nothing
  pub spread-set_same : (from : ℕ) (rows : List (Row T)) (k : ℕ) (old r : Row T) → old ≡ get_or rows k old
      → r.items ≡ old.items → spread from (set rows k r) ≡ spread from rows
  spread-set_same from [] k old r there e = refl
  spread-set_same from (x ∷ xs) zero old r there e = ap
      (λ (ts : List T). all_at from ts ++ spread (from + 1) xs) (e ∙ ap (λ (q : Row T). q.items) there)
  spread-set_same from (x ∷ xs) (suc k) old r there e = ap (λ zs. all_at from x.items ++ zs)
      (spread-set_same (from + 1) xs k old r there e)

  -- one token more at the end of a row
  pub spread-set_push : (from : ℕ) (rows : List (Row T)) (k : ℕ) (old r : Row T) (t : T) → k < length rows
      → old ≡ get_or rows k old → r.items ≡ old.items ++ t ∷ []
      → spread from (set rows k r) ≡ added (from + k) t (spread from rows)
  spread-set_push from [] k old r t h there e = absurd (omega arith)
  spread-set_push from (x ∷ xs) zero old r t h there e =
      let above : All (λ e. from + 0 < e.0) (spread (from + 1) xs) = All-weaker
      (λ (e : ℕ × T). from + 1 ≤ e.0) (λ (e : ℕ × T). from + 0 < e.0) (λ e h. omega arith)
      (spread (from + 1) xs) (spread-from (from + 1) xs) in
      let here : from ≡ from + 0 = omega arith in
      let row : all_at from r.items ≡ added (from + 0) t (all_at from x.items) = ap (all_at from)
      (e ∙ ap (λ (q : Row T). q.items ++ t ∷ []) there) ∙ sym (added-all_at from t x.items) ∙ ap
      (λ (n : ℕ). added n t (all_at from x.items)) here in
      ap (λ zs. zs ++ spread (from + 1) xs) row ∙ sym
      (added-before (from + 0) t (all_at from x.items) (spread (from + 1) xs) above)
  spread-set_push from (x ∷ xs) (suc k) old r t h there e =
      let below : All (λ e. e.0 ≤ from + suc k) (all_at from x.items) = All-all_at
      (λ (e : ℕ × T). e.0 ≤ from + suc k) from x.items (λ t. omega arith) in
      let here : from + 1 + k ≡ from + suc k = omega arith in
      ap (λ zs. all_at from x.items ++ zs) (spread-set_push (from + 1) xs k old r t (omega arith) there e ∙ ap
      (λ (n : ℕ). added n t (spread (from + 1) xs)) here)
      ∙ sym (added-behind (from + suc k) t (all_at from x.items) (spread (from + 1) xs) below)

  -- the first token of the first row that has one is taken
  pub spread-pop : (from : ℕ) (rows : List (Row T)) (k : ℕ) (old r : Row T) (t : T) → k < length rows
      → AreEmptyBelow k rows → old ≡ get_or rows k old → old.items ≡ t ∷ r.items
      → spread from rows ≡ (from + k, t) ∷ spread from (set rows k r)
  spread-pop from [] k old r t h empty there e = absurd (omega arith)
  spread-pop from (x ∷ xs) zero old r t h empty there e =
      let here : from ≡ from + 0 = omega arith in
      ap (λ (ts : List T). all_at from ts ++ spread (from + 1) xs)
      (sym (ap (λ (q : Row T). q.items) there) ∙ e) ∙ ap
      (λ (n : ℕ). (n, t) ∷ (all_at from r.items ++ spread (from + 1) xs)) here
  spread-pop from (x ∷ xs) (suc k) old r t h empty there e =
      let none : x.items ≡ [] = head_empty k x xs empty in
      let here : from + 1 + k ≡ from + suc k = omega arith in
      ap (λ (ts : List T). all_at from ts ++ spread (from + 1) xs) none
      ∙ spread-pop (from + 1) xs k old r t (omega arith) (tail_empty k x xs empty) there e
      ∙ ap (λ (n : ℕ). (n, t) ∷ spread (from + 1) (set xs k r)) here
      ∙ sym (ap (λ (ts : List T). (from + suc k, t) ∷ (all_at from ts ++ spread (from + 1) (set xs k r)))
      none)

  -- where all tokens are due before a bound that none is due before, there is none
  pub none_between : (from : ℕ) (l : List (ℕ × T)) → All (λ e. from ≤ e.0) l → All (λ e. e.0 < from) l
      → l ≡ []
  none_between from [] a b = refl
  none_between from (e ∷ es) a b = absurd (let x : from ≤ e.0 = All-head (λ (f : ℕ × T). from ≤ f.0) e es a in
      let y : e.0 < from = All-head (λ (f : ℕ × T). f.0 < from) e es b in omega arith)

  -- a row is put behind all tokens
  pub spread-put : (from : ℕ) (rows : List (Row T)) (k : ℕ) (r : Row T) → k < length rows
      → All (λ e. e.0 < from + k) (spread from rows)
      → spread from (set rows k r) ≡ spread from rows ++ all_at (from + k) r.items
  spread-put from [] k r h all = absurd (omega arith)
  spread-put from (x ∷ xs) zero r h all =
      let here : from ≡ from + 0 = omega arith in
      let low : All (λ e. e.0 < from) (spread from (x ∷ xs)) = subst
      (λ (n : ℕ). All (λ (e : ℕ × T). e.0 < n) (spread from (x ∷ xs))) (sym here) all in
      let none : spread from (x ∷ xs) ≡ [] = none_between from (spread from (x ∷ xs))
      (spread-from from (x ∷ xs)) low in
      let rest : spread (from + 1) xs ≡ [] = none_between (from + 1) (spread (from + 1) xs)
      (spread-from (from + 1) xs)
      (All-weaker (λ (e : ℕ × T). e.0 < from) (λ (e : ℕ × T). e.0 < from + 1) (λ e h. omega arith)
      (spread (from + 1) xs) (all_rest (λ (e : ℕ × T). e.0 < from) (all_at from x.items)
      (spread (from + 1) xs) low)) in
      ap (λ zs. all_at from r.items ++ zs) rest ∙ append-nil (all_at from r.items) ∙ ap
      (λ (n : ℕ). all_at n r.items) here ∙ sym (ap (λ zs. zs ++ all_at (from + 0) r.items) none)
  spread-put from (x ∷ xs) (suc k) r h all =
      let here : from + 1 + k ≡ from + suc k = omega arith in
      let low : All (λ e. e.0 < from + 1 + k) (spread (from + 1) xs) = subst
      (λ (n : ℕ). All (λ (e : ℕ × T). e.0 < n) (spread (from + 1) xs)) (sym here)
      (all_rest (λ (e : ℕ × T). e.0 < from + suc k) (all_at from x.items) (spread (from + 1) xs) all) in
      ap (λ zs. all_at from x.items ++ zs) (spread-put (from + 1) xs k r (omega arith) low ∙ ap
      (λ (n : ℕ). spread (from + 1) xs ++ all_at n r.items) here)
      ∙ sym (append_assoc (all_at from x.items) (spread (from + 1) xs) (all_at (from + suc k) r.items))

  first_moment-row : (due : ℕ) (ts : List T) (rest : List (ℕ × T)) → 0 < length ts
      → next_moment (all_at due ts ++ rest) ≡ Some due
  first_moment-row due [] rest full = absurd (omega arith)
  first_moment-row due (t ∷ ts) rest full = refl

  -- the due moment of the first token is that of the first row that has one
  pub first_moment-spread : (from : ℕ) (rows : List (Row T)) (k : ℕ) → k < length rows → AreEmptyBelow k rows
      → HasToken rows k → next_moment (spread from rows) ≡ Some (from + k)
  first_moment-spread from [] k h empty full = absurd (omega arith)
  first_moment-spread from (x ∷ xs) zero h empty full = first_moment-row from x.items (spread (from + 1) xs)
      (full x) ∙ ap (λ (n : ℕ). Some n) (let here : from ≡ from + 0 = omega arith in here)
  first_moment-spread from (x ∷ xs) (suc k) h empty full =
      let none : x.items ≡ [] = head_empty k x xs empty in
      let here : from + 1 + k ≡ from + suc k = omega arith in
      ap (λ (ts : List T). next_moment (all_at from ts ++ spread (from + 1) xs)) none
      ∙ first_moment-spread (from + 1) xs k (omega arith) (tail_empty k x xs empty) (λ d. full d)
      ∙ ap (λ (n : ℕ). Some n) here

module _ {T : Type 0} where
  get_or-append_here : (rows : List (Row T)) (r d : Row T) → get_or (rows ++ r ∷ []) (length rows) d ≡ r
  get_or-append_here [] r d = refl
  get_or-append_here (x ∷ xs) r d = get_or-append_here xs r d

  -- one more row without tokens
  pub one_more_empty : (rows : List (Row T)) (n : ℕ) (r : Row T) → length rows ≡ n → AreEmptyBelow n rows
      → r.items ≡ []
      → (length (rows ++ r ∷ []) ≡ n + 1) × AreEmptyBelow (n + 1) (rows ++ r ∷ [])
  one_more_empty rows n r len empty none = (
    omega (arith, length-append rows (r ∷ [])),
    λ k d lt. ⊎_elim
        (λ (h : k < n). ap (λ (q : Row T). q.items) (get_or_append_left rows (r ∷ []) d k (omega arith)) ∙
        empty k d h)
        (λ (h : n ≤ k).
        let at : k ≡ length rows = omega arith in
        ap (λ (i : ℕ). (get_or (rows ++ r ∷ []) i d).items) at ∙ ap (λ (q : Row T). q.items)
        (get_or-append_here rows r d) ∙ none)
        (cases_lt k n),
  )

  get_or-any : (rows : List (Row T)) (n : ℕ) (d e : Row T) → n < length rows
      → get_or rows n d ≡ get_or rows n e
  get_or-any [] n d e h = absurd (omega arith)
  get_or-any (x ∷ xs) zero d e h = refl
  get_or-any (x ∷ xs) (suc n) d e h = get_or-any xs n d e (omega arith)

  -- one row more below which none has a token
  pub next_empty : (rows : List (Row T)) (n : ℕ) (r : Row T) → r ≡ get_or rows n r → n < length rows
      → AreEmptyBelow n rows → r.items ≡ [] → AreEmptyBelow (n + 1) rows
  next_empty rows n r there in' empty none k d lt = ⊎_elim
      (λ (h : k < n). empty k d h)
      (λ (h : n ≤ k).
      let at : k ≡ n = omega arith in
      ap (λ (i : ℕ). (get_or rows i d).items) at ∙ ap (λ (q : Row T). q.items)
      (get_or-any rows n d r in' ∙ sym there) ∙ none)
      (cases_lt k n)

  -- rows of which so many have no token, where that is all of them
  pub spread-none : (from : ℕ) (rows : List (Row T)) (n : ℕ) → length rows ≡ n → AreEmptyBelow n rows
      → spread from rows ≡ []
  spread-none from rows n len empty = spread-empty from rows (λ k d lt. empty k d (omega arith))

  pub lap-none : (from : ℕ) (rows : List (Row T)) (n : ℕ) → length rows ≡ n → AreEmptyBelow n rows
      → ◌≡◌ {A = Lap T} (record { start = from; tokens = spread from rows })
      (record { start = from; tokens = [] })
  lap-none from rows n len empty = let lap : List (ℕ × T)
      → Lap T = λ ts. record { start = from; tokens = ts } in ap lap (spread-none from rows n len empty)

  -- the first row with a token, or the number of rows
  pub record IsNext (rows : List (Row T)) (n place : ℕ) : Type 0 where
    pub len : length rows ≡ n
    pub range : place ≤ n
    pub empty : AreEmptyBelow place rows
    pub full : place < n → HasToken rows place

  pub none_next : (from : ℕ) (rows : List (Row T)) (n place : ℕ) → IsNext rows n place
      → (IsTrue (eqb place n) → spread from rows ≡ []) × (spread from rows ≡ [] → IsTrue (eqb place n))
  none_next from rows n place h = (
    (λ t. let at : place ≡ n = grind (arith, nat_tests) in spread-none from rows n h.len
        (λ k d lt. h.empty k d (omega arith))),
    λ e. ⊎_elim
        (λ (lt : place < n). let first = sym (first_moment-spread from rows place
        (let len = h.len in omega arith) h.empty (h.full lt)) ∙ ap next_moment e in absurd (cc))
        (λ (ge : n ≤ place). let range = h.range in eq-eqb place n (omega arith))
        (cases_lt place n),
  )

  pub first_next : (from : ℕ) (rows : List (Row T)) (n place : ℕ) → IsNext rows n place → place ≢ n
      → next_moment (spread from rows) ≡ Some (from + place)
  first_next from rows n place h other =
      let range = h.range in
      let len = h.len in
      let lt : place < n = omega arith in
      first_moment-spread from rows place (omega arith) h.empty (h.full lt)

  late_first : (now m : ℕ) (l : List (ℕ × T)) → next_moment l ≡ Some m → now < m → first_due now l ≡ None
  late_first now m [] first late = refl
  late_first now m (e ∷ es) first late = let is : e.0 ≡ m = cc in first_due-late now e es (omega arith)

  -- where no row has a token, or the first that has one is due later, none is taken
  pub late_next : (now from : ℕ) (rows : List (Row T)) (n place : ℕ) → IsNext rows n place
      → (place ≡ n) ⊎ (now < from + place)
      → (first_due now (spread from rows) ≡ None) × (after_due now (spread from rows) ≡ spread from rows)
  late_next now from rows n place h way =
      let range = h.range in
      let none : first_due now (spread from rows) ≡ None = ⊎_elim
      (λ (at : place ≡ n). ap (first_due now) ((none_next from rows n place h).0 (eq-eqb place n at)))
      (λ (late : now < from + place). ⊎_elim
      (λ (lt : place < n). late_first now (from + place) (spread from rows)
      (first_next from rows n place h (λ e. absurd (omega arith))) late)
      (λ (ge : n ≤ place). ap (first_due now) ((none_next from rows n place h).0
      (eq-eqb place n (omega arith))))
      (cases_lt place n))
      way in
      (none, none_due now (spread from rows) none)
