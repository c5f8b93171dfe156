-- Bytes that are put into a list and taken out of it, and what the transform lines and a chain make of them.
use Rattle.std.proofs.Common.{◌≡◌, ℕ, zero, suc, ◌+◌, ◌≤◌, List, [], ◌∷◌, ◌++◌, length, map, filter, take}
use Rattle.std.proofs.Common.{Bool, true, false, cond, arith, refl, sym, ap, subst}
use Rattle.std.specs.Prelude.{◌==◌, not, if◌then◌else◌}
use Rattle.ts_config.specs.Bodies.{whole_of}
use Rattle.ts_config.specs.declared.setup.TransformLine.{TransformLine}
use Rattle.ts_config.specs.declared.setup.TransformLine.TheVariants as t
use Rattle.ts_transform.specs.Flow.{passing}
use Rattle.ts_transform.specs.Stage.{passed, rest_of}
use Rattle.ts_transform.specs.declared.pump.Stage.{Stage}
use Rattle.ts_passing.specs.Inserted.{AllChangeNoMore, ChangesNoMore, Edit, IsEdited, Kept, PutIn, TakenOut}
use Rattle.ts_passing.specs.Inserted.{count_in, count_out, edited_from, edited_to}

-- ---- an edit more

module _ (i o : ℕ) (xs ys : List ℕ) where
  kept_on : (b : ℕ) → IsEdited i o xs ys → IsEdited i o (b ∷ xs) (b ∷ ys)
  kept_on b h = record {
    edits = Kept b ∷ h.edits;
    from = ap (λ (zs : List ℕ). b ∷ zs) h.from;
    to = ap (λ (zs : List ℕ). b ∷ zs) h.to;
    few_in = h.few_in;
    few_out = h.few_out;
  }

  put_on : (b j : ℕ) → i + 1 ≤ j → IsEdited i o xs ys → IsEdited j o xs (b ∷ ys)
  put_on b j more h = record {
    edits = PutIn b ∷ h.edits;
    from = h.from;
    to = ap (λ (zs : List ℕ). b ∷ zs) h.to;
    few_in = let few : count_in h.edits ≤ i = h.few_in in omega (arith, few, more);
    few_out = h.few_out;
  }

  taken_on : (b p : ℕ) → o + 1 ≤ p → IsEdited i o xs ys → IsEdited i p (b ∷ xs) ys
  taken_on b p more h = record {
    edits = TakenOut b ∷ h.edits;
    from = ap (λ (zs : List ℕ). b ∷ zs) h.from;
    to = h.to;
    few_in = h.few_in;
    few_out = let few : count_out h.edits ≤ o = h.few_out in omega (arith, few, more);
  }

  -- what has few edits has no more than many
  edited_more : (j p : ℕ) → i ≤ j → o ≤ p → IsEdited i o xs ys → IsEdited j p xs ys
  edited_more j p more also h = record {
    edits = h.edits;
    from = h.from;
    to = h.to;
    few_in = let few : count_in h.edits ≤ i = h.few_in in omega (arith, few, more);
    few_out = let few : count_out h.edits ≤ o = h.few_out in omega (arith, few, also);
  }

-- nothing is edited, and edits are of what they are
edited_none : (i o : ℕ) → IsEdited i o [] []
edited_none i o = record { edits = []; from = refl; to = refl; few_in = omega arith; few_out = omega arith }

edited_self : (es : List Edit) → IsEdited (count_in es) (count_out es) (edited_from es) (edited_to es)
edited_self es = record { edits = es; from = refl; to = refl; few_in = omega arith; few_out = omega arith }

-- all bytes are kept, were put in, or were taken out
edited_same : (i o : ℕ) (xs : List ℕ) → IsEdited i o xs xs
edited_same i o [] = edited_none i o
edited_same i o (x ∷ xs) = kept_on i o xs xs x (edited_same i o xs)

edited_in : (i o : ℕ) (xs : List ℕ) → length xs ≤ i → IsEdited i o [] xs
edited_in i o [] few = edited_none i o
edited_in zero o (x ∷ xs) few = absurd (omega (arith, few))
edited_in (suc i) o (x ∷ xs) few =
    put_on i o [] xs x (suc i) (omega arith) (edited_in i o xs (omega (arith, few)))

edited_out : (i o : ℕ) (xs : List ℕ) → length xs ≤ o → IsEdited i o xs []
edited_out i o [] few = edited_none i o
edited_out i zero (x ∷ xs) few = absurd (omega (arith, few))
edited_out i (suc o) (x ∷ xs) few =
    taken_on i o xs [] x (suc o) (omega arith) (edited_out i o xs (omega (arith, few)))

edited_length : (es : List Edit) → length (edited_to es) ≤ length (edited_from es) + count_in es
edited_length [] = omega arith
edited_length (Kept b ∷ es) = omega (arith, edited_length es)
edited_length (PutIn b ∷ es) = omega (arith, edited_length es)
edited_length (TakenOut b ∷ es) = omega (arith, edited_length es)

changed_length : (n : ℕ) (xs ys : List ℕ) → IsEdited n n xs ys → length ys ≤ length xs + n
changed_length n xs ys h =
    let all : length (edited_to h.edits) ≤ length (edited_from h.edits) + count_in h.edits =
    edited_length h.edits in
    let few : count_in h.edits ≤ n = h.few_in in
    omega (arith, all, few, ap length h.from, ap length h.to)

-- ---- a function of the bytes, whatever the edits are

-- it makes as few edits of them
abbrev Follows : (List ℕ → List ℕ) → Type 0
Follows f = (es : List Edit) → IsEdited (count_in es) (count_out es) (f (edited_from es)) (f (edited_to es))

followed : (f : List ℕ → List ℕ) → Follows f → ChangesNoMore f
followed f follows n xs ys h =
    subst (λ (zs : List ℕ). IsEdited n n (f zs) (f ys)) h.from
    (subst (λ (zs : List ℕ). IsEdited n n (f (edited_from h.edits)) (f zs)) h.to
    (edited_more (count_in h.edits) (count_out h.edits) (f (edited_from h.edits)) (f (edited_to h.edits)) n n
    h.few_in h.few_out (follows h.edits)))

appended : (ts : List ℕ) → Follows (λ xs. xs ++ ts)
appended ts [] = edited_same 0 0 ts
appended ts (Kept b ∷ es) = kept_on _ _ _ _ b (appended ts es)
appended ts (PutIn b ∷ es) = put_on _ _ _ _ b _ (omega arith) (appended ts es)
appended ts (TakenOut b ∷ es) = taken_on _ _ _ _ b _ (omega arith) (appended ts es)

prepended : (ts : List ℕ) → Follows (λ xs. ts ++ xs)
prepended [] es = edited_self es
prepended (t ∷ ts) es = kept_on _ _ _ _ t (prepended ts es)

mapped : (f : ℕ → ℕ) → Follows (map f)
mapped f [] = edited_none 0 0
mapped f (Kept b ∷ es) = kept_on _ _ _ _ (f b) (mapped f es)
mapped f (PutIn b ∷ es) = put_on _ _ _ _ (f b) _ (omega arith) (mapped f es)
mapped f (TakenOut b ∷ es) = taken_on _ _ _ _ (f b) _ (omega arith) (mapped f es)

-- a byte stays or not
module _ (i o : ℕ) (xs ys : List ℕ) (b : ℕ) (h : IsEdited i o xs ys) where
  kept_if : (stays : Bool) → IsEdited i o (cond stays (b ∷ xs) xs) (cond stays (b ∷ ys) ys)
  kept_if true = kept_on i o xs ys b h
  kept_if false = h

  put_if : (stays : Bool) → IsEdited (i + 1) o xs (cond stays (b ∷ ys) ys)
  put_if true = put_on i o xs ys b (i + 1) (omega arith) h
  put_if false = edited_more i o xs ys (i + 1) o (omega arith) (omega arith) h

  taken_if : (stays : Bool) → IsEdited i (o + 1) (cond stays (b ∷ xs) xs) ys
  taken_if true = taken_on i o xs ys b (o + 1) (omega arith) h
  taken_if false = edited_more i o xs ys i (o + 1) (omega arith) (omega arith) h

filtered : (p : ℕ → Bool) → Follows (filter p)
filtered p [] = edited_none 0 0
filtered p (Kept b ∷ es) = kept_if _ _ _ _ b (filtered p es) (p b)
filtered p (PutIn b ∷ es) = put_if _ _ _ _ b (filtered p es) (p b)
filtered p (TakenOut b ∷ es) = taken_if _ _ _ _ b (filtered p es) (p b)

-- ---- a front of the bytes

length_taken : (n : ℕ) (xs : List ℕ) → length (take n xs) ≤ n
length_taken zero xs = omega arith
length_taken (suc n) [] = omega arith
length_taken (suc n) (x ∷ xs) = omega (arith, length_taken n xs)

-- A front of each of two lists: where more were put in than taken out so far, so much less is in the first,
-- and the other way round.
taken : (es : List Edit) (m n i o : ℕ) → n + o ≡ m + i → count_in es ≤ i → count_out es ≤ o
    → IsEdited i o (take m (edited_from es)) (take n (edited_to es))
taken [] zero zero i o sum fits also = edited_none i o
taken [] zero (suc n) i o sum fits also = edited_none i o
taken [] (suc m) zero i o sum fits also = edited_none i o
taken [] (suc m) (suc n) i o sum fits also = edited_none i o
taken (Kept b ∷ es) zero n i o sum fits also =
    edited_in i o (take n (b ∷ edited_to es)) (omega (arith, length_taken n (b ∷ edited_to es), sum))
taken (Kept b ∷ es) (suc m) zero i o sum fits also =
    edited_out i o (take (suc m) (b ∷ edited_from es))
    (omega (arith, length_taken (suc m) (b ∷ edited_from es), sum))
taken (Kept b ∷ es) (suc m) (suc n) i o sum fits also =
    kept_on i o _ _ b (taken es m n i o (omega (arith, sum)) fits also)
taken (PutIn b ∷ es) m zero i o sum fits also =
    edited_out i o (take m (edited_from es)) (omega (arith, length_taken m (edited_from es), sum))
taken (PutIn b ∷ es) m (suc n) zero o sum fits also = absurd (omega (arith, fits))
taken (PutIn b ∷ es) m (suc n) (suc i) o sum fits also =
    put_on i o _ _ b (suc i) (omega arith) (taken es m n i o (omega (arith, sum)) (omega (arith, fits)) also)
taken (TakenOut b ∷ es) zero n i o sum fits also =
    edited_in i o (take n (edited_to es)) (omega (arith, length_taken n (edited_to es), sum))
taken (TakenOut b ∷ es) (suc m) n i zero sum fits also = absurd (omega (arith, also))
taken (TakenOut b ∷ es) (suc m) n i (suc o) sum fits also =
    taken_on i o _ _ b (suc o) (omega arith) (taken es m n i o (omega (arith, sum)) fits (omega (
      arith,
      also,
    )))

front_changes : (most : ℕ) → ChangesNoMore (take most)
front_changes most n xs ys h =
    subst (λ (zs : List ℕ). IsEdited n n (take most zs) (take most ys)) h.from
    (subst (λ (zs : List ℕ). IsEdited n n (take most (edited_from h.edits)) (take most zs)) h.to
    (taken h.edits most most n n refl h.few_in h.few_out))

-- ---- the transform lines

pub changed_append : (ts : List ℕ) → ChangesNoMore (λ xs. xs ++ ts)
changed_append ts = followed (λ xs. xs ++ ts) (appended ts)

changed_prepend : (ts : List ℕ) → ChangesNoMore (λ xs. ts ++ xs)
changed_prepend ts = followed (λ xs. ts ++ xs) (prepended ts)

-- bytes that come behind others are put in
pub changed_behind : (xs ts : List ℕ) → IsEdited (length ts) (length ts) xs (xs ++ ts)
changed_behind [] ts = edited_in (length ts) (length ts) ts (omega arith)
changed_behind (x ∷ xs) ts = kept_on _ _ _ _ x (changed_behind xs ts)

pub line_changes : (l : TransformLine) → ChangesNoMore (whole_of l)
line_changes (t.Append file text) = changed_append text
line_changes (t.Prepend text) = changed_prepend text
line_changes (t.Map from to) = followed _ (mapped (λ b. if b == from then to else b))
line_changes (t.Drop byte) = followed _ (filtered (λ b. not (b == byte)))
line_changes (t.Limit most) = front_changes most
line_changes _ = λ n xs ys h. h

-- ---- a transform that was fed

abbrev tail_of : List ℕ → List ℕ
tail_of [] = []
tail_of (x ∷ xs) = xs

-- the first byte of one of the lists is left away
module _ (b : ℕ) where
  without_from : (xs : List ℕ) (es : List Edit) → edited_from es ≡ b ∷ xs
      → IsEdited (count_in es + 1) (count_out es) xs (edited_to es)
  without_from xs [] is = absurd (let wrong : ◌≡◌ {A = List ℕ} [] (b ∷ xs) = is in cc)
  without_from xs (Kept c ∷ es) is =
      put_on _ _ _ _ c _ (omega arith)
      (subst (λ (zs : List ℕ). IsEdited (count_in es) (count_out es) zs (edited_to es)) (ap tail_of is)
      (edited_self es))
  without_from xs (PutIn c ∷ es) is = put_on _ _ _ _ c _ (omega arith) (without_from xs es is)
  without_from xs (TakenOut c ∷ es) is =
      edited_more (count_in es) (count_out es) _ _ _ _ (omega arith) (omega arith)
      (subst (λ (zs : List ℕ). IsEdited (count_in es) (count_out es) zs (edited_to es)) (ap tail_of is)
      (edited_self es))

  without_to : (ys : List ℕ) (es : List Edit) → edited_to es ≡ b ∷ ys
      → IsEdited (count_in es) (count_out es + 1) (edited_from es) ys
  without_to ys [] is = absurd (let wrong : ◌≡◌ {A = List ℕ} [] (b ∷ ys) = is in cc)
  without_to ys (Kept c ∷ es) is =
      taken_on _ _ _ _ c _ (omega arith)
      (subst (λ (zs : List ℕ). IsEdited (count_in es) (count_out es) (edited_from es) zs) (ap tail_of is)
      (edited_self es))
  without_to ys (TakenOut c ∷ es) is = taken_on _ _ _ _ c _ (omega arith) (without_to ys es is)
  without_to ys (PutIn c ∷ es) is =
      edited_more (count_in es) (count_out es) _ _ _ _ (omega arith) (omega arith)
      (subst (λ (zs : List ℕ). IsEdited (count_in es) (count_out es) (edited_from es) zs) (ap tail_of is)
      (edited_self es))

  -- of both, where it is the same
  without_first : (xs ys : List ℕ) (es : List Edit) → edited_from es ≡ b ∷ xs → edited_to es ≡ b ∷ ys
      → IsEdited (count_in es) (count_out es) xs ys
  without_first xs ys [] from to = absurd (let wrong : ◌≡◌ {A = List ℕ} [] (b ∷ xs) = from in cc)
  without_first xs ys (Kept c ∷ es) from to =
      subst (λ (zs : List ℕ). IsEdited (count_in es) (count_out es) zs ys) (ap tail_of from)
      (subst (λ (zs : List ℕ). IsEdited (count_in es) (count_out es) (edited_from es) zs) (ap tail_of to)
      (edited_self es))
  without_first xs ys (PutIn c ∷ es) from to =
      subst (λ (zs : List ℕ). IsEdited (count_in es + 1) (count_out es) xs zs) (ap tail_of to)
      (without_from xs es from)
  without_first xs ys (TakenOut c ∷ es) from to =
      subst (λ (zs : List ℕ). IsEdited (count_in es) (count_out es + 1) zs ys) (ap tail_of from)
      (without_to ys es to)

-- so is a front that is the same
without_front : (n : ℕ) (ts xs ys : List ℕ) → IsEdited n n (ts ++ xs) (ts ++ ys) → IsEdited n n xs ys
without_front n [] xs ys h = h
without_front n (t ∷ ts) xs ys h =
    without_front n ts xs ys
    (edited_more (count_in h.edits) (count_out h.edits) (ts ++ xs) (ts ++ ys) n n h.few_in h.few_out
    (without_first t (ts ++ xs) (ts ++ ys) h.edits h.from h.to))

-- one that took some bytes still changes no more
pub fed_changes : (rest rest' : List ℕ → List ℕ) (c more : List ℕ) → ChangesNoMore rest
    → ((z : List ℕ) → rest (c ++ z) ≡ more ++ rest' z) → ChangesNoMore rest'
fed_changes rest rest' c more changes law n xs ys edited =
    let fed : IsEdited n n (rest (c ++ xs)) (rest (c ++ ys)) =
    changes n (c ++ xs) (c ++ ys) (changed_prepend c n xs ys edited) in
    without_front n more (rest' xs) (rest' ys)
    (subst (λ (us : List ℕ). IsEdited n n us (more ++ rest' ys)) (law xs)
    (subst (λ (us : List ℕ). IsEdited n n (rest (c ++ xs)) us) (law ys) fed))

-- and so does one that is the same
pub same_changes : (rest rest' : List ℕ → List ℕ) → ((z : List ℕ) → rest' z ≡ rest z) → ChangesNoMore rest
    → ChangesNoMore rest'
same_changes rest rest' same changes n xs ys edited =
    subst (λ (us : List ℕ). IsEdited n n us (rest' ys)) (sym (same xs))
    (subst (λ (us : List ℕ). IsEdited n n (rest xs) us) (sym (same ys)) (changes n xs ys edited))

-- ---- what changes before a chain passes each boundary

-- so many bytes pass the boundary before each stage, and the client's
abbrev pub stage_passes : {P : Type 0} → List (Stage P) → ℕ → ℕ
stage_passes [] bytes = bytes
stage_passes (s ∷ ss) bytes = bytes + stage_passes ss bytes

pub passing_more : {P : Type 0} (rest : P → List ℕ → List ℕ) (ss : List (Stage P)) → AllChangeNoMore rest ss
    → (n : ℕ) (xs ys : List ℕ) → IsEdited n n xs ys
    → passing rest ss ys ≤ passing rest ss xs + stage_passes ss n
passing_more rest [] all n xs ys edited = changed_length n xs ys edited
passing_more rest (s ∷ ss) all n xs ys edited =
    let first : length ys ≤ length xs + n = changed_length n xs ys edited in
    let behind : passing rest ss (passed rest s ys) ≤ passing rest ss (passed rest s xs) + stage_passes ss n =
    passing_more rest ss all.1 n (passed rest s xs) (passed rest s ys)
    (changed_prepend s.after n (rest_of rest s.part xs) (rest_of rest s.part ys) (all.0 n xs ys edited)) in
    omega (arith, first, behind)
