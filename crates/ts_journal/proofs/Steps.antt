-- The machine's tests mean what its words say.
use Rattle.std.proofs.Common.{◌≡◌, ℕ, ◌+◌, ◌≤◌, ◌⊎◌, inl, inr, ◌&&◌, ◌||◌, true, not, cond, eqb, ltb, leb, List, [], ◌∷◌, Option, Some, None, refl, sym, ap, subst, ◌∙◌}
use Rattle.std.specs.Prelude.{is_some, unwrap_or}
use Rattle.std.specs.Option.{MatchOption}
use Rattle.std.proofs.lemmas.Bool.{false≢true, ltb-true, leb-true, eqb-true, lt-ltb, le-leb, eq-eqb, and_parts, and_from, or_cases, or_left, or_right, not-true, not_from_false}
use Rattle.ts_journal.specs.declared.entry.TheConstants.{MOST_KEYS, GREATEST}
use Rattle.ts_journal.specs.declared.entry.Pending.{Pending}
use Rattle.ts_journal.specs.declared.entry.Latest.{Latest}
use Rattle.ts_journal.specs.declared.entry.Entry.{Entry}
use Rattle.ts_journal.specs.declared.entry.Entry.TheVariants.{Took, Gave, Made, Set, Handled, Cancelled, Dropped, Destroyed}
use Rattle.ts_journal.specs.State.{State, pending_at, generation_at, numbers_of, latest_of}
use Rattle.ts_journal.specs.Machine.{HasSeries, MayBelong, Allowed, after, has_generation, is_live, same_series, is_latest, has_series, may_belong, is_due, is_empty, is_allowed, run, IsLawful, replay}
use Rattle.ts_journal.specs.Laws.{StepIsAllowed, RunIsLawful}
use Rattle.ts_journal.proofs.Cases.{split}
use Rattle.ts_journal.proofs.Keys.{key_by}

generation_from : (o : Option ℕ) (g : ℕ) → has_generation o g ≡ true → o ≡ Some g
generation_from None g h = absurd (false≢true h)
generation_from (Some k) g h = ap Some (eqb-true k g h)

generation_to : (o : Option ℕ) (g : ℕ) → o ≡ Some g → has_generation o g ≡ true
generation_to o g e = subst (λ v. has_generation v g ≡ true) (sym e) (eq-eqb g g refl)

none_from : {A : Type 0} (o : Option A) → not (is_some o) ≡ true → o ≡ None
none_from None h = refl
none_from (Some x) h = absurd (false≢true h)

some_from : {A : Type 0} (o : Option A) → is_some o ≡ true → (x : A) × (o ≡ Some x)
some_from None h = absurd (false≢true h)
some_from (Some x) h = (x, refl)

due_from : (o : Option Pending) (moment : ℕ) → is_due o moment ≡ true
    → (p : Pending) × (o ≡ Some p) × (p.due ≤ moment)
due_from None moment h = absurd (false≢true h)
due_from (Some p) moment h = (p, refl, leb-true p.due moment h)

empty_from : (ns : List ℕ) → is_empty ns ≡ true → ns ≡ []
empty_from [] h = refl
empty_from (n ∷ ns) h = absurd (false≢true h)

latest_by : (a b : Latest) → a.key ≡ b.key → a.series ≡ b.series → a.period ≡ b.period → a ≡ b
latest_by a b k s p = ap (λ n. record { key = n; series = a.series; period = a.period }) k ∙ ap
    (λ n. record { key = b.key; series = n; period = a.period }) s ∙ ap
    (λ n. record { key = b.key; series = b.series; period = n }) p

series_from : (a b : Latest) → same_series a b ≡ true → a ≡ b
series_from a b h =
    let x = and_parts ((eqb a.key.index b.key.index && eqb a.key.generation b.key.generation) && eqb a.series
    b.series) (eqb a.period b.period) h in
    let y = and_parts (eqb a.key.index b.key.index && eqb a.key.generation b.key.generation)
    (eqb a.series b.series) x.0 in
    let z = and_parts (eqb a.key.index b.key.index) (eqb a.key.generation b.key.generation) y.0 in
    latest_by a b (key_by a.key b.key (eqb-true _ _ z.0) (eqb-true _ _ z.1)) (eqb-true _ _ y.1)
    (eqb-true _ _ x.1)

series_to : (a b : Latest) → a ≡ b → same_series a b ≡ true
series_to a b e =
    let all : same_series b b ≡ true = and_from
    ((eqb b.key.index b.key.index && eqb b.key.generation b.key.generation) && eqb b.series b.series)
    (eqb b.period b.period)
    (and_from (eqb b.key.index b.key.index && eqb b.key.generation b.key.generation) (eqb b.series b.series)
    (and_from (eqb b.key.index b.key.index) (eqb b.key.generation b.key.generation) (eq-eqb _ _ refl)
    (eq-eqb _ _ refl)) (eq-eqb _ _ refl)) (eq-eqb _ _ refl) in
    subst (λ v. same_series v b ≡ true) (sym e) all

latest_from : (o : Option Latest) (l : Latest) → is_latest o l ≡ true → o ≡ Some l
latest_from None l h = absurd (false≢true h)
latest_from (Some m) l h = ap Some (series_from m l h)

latest_to : (o : Option Latest) (l : Latest) → o ≡ Some l → is_latest o l ≡ true
latest_to o l e = subst (λ v. is_latest v l ≡ true) (sym e) (series_to l l refl)

any_from : (l : Latest) (ps : List Pending) → has_series l ps ≡ true → HasSeries l ps
any_from l [] h = false≢true h
any_from l (p ∷ ps) h = elim (or_cases (same_series (latest_of p) l) (has_series l ps) h)
    [ inl e ↦ inl (series_from (latest_of p) l e) | inr r ↦ inr (any_from l ps r) ]

any_to : (l : Latest) (ps : List Pending) → HasSeries l ps → has_series l ps ≡ true
any_to l [] h = absurd h
any_to l (p ∷ ps) (inl e) = or_left (same_series (latest_of p) l) (has_series l ps)
    (series_to (latest_of p) l e)
any_to l (p ∷ ps) (inr r) = or_right (same_series (latest_of p) l) (has_series l ps) (any_to l ps r)

belongs_from : (s : State) (l : Latest) (number : ℕ) → may_belong s l number ≡ true → MayBelong s l number
belongs_from s l number h =
    let later = is_latest s.latest l || has_series l s.pending in
    elim (or_cases (eqb l.series number) (ltb l.series number && ltb 0 l.period && later) h) [
      | inl e ↦ inl (eqb-true l.series number e)
      | inr r ↦
          let x = and_parts (ltb l.series number && ltb 0 l.period) later r in
          let y = and_parts (ltb l.series number) (ltb 0 l.period) x.0 in
          let z : (s.latest ≡ Some l) ⊎ HasSeries l s.pending = elim
          (or_cases (is_latest s.latest l) (has_series l s.pending) x.1)
          [ inl e ↦ inl (latest_from s.latest l e) | inr a ↦ inr (any_from l s.pending a) ] in
          inr (ltb-true l.series number y.0, ltb-true 0 l.period y.1, z)
    ]

belongs_to : (s : State) (l : Latest) (number : ℕ) → MayBelong s l number → may_belong s l number ≡ true
belongs_to s l number (inl e) = or_left (eqb l.series number)
    (ltb l.series number && ltb 0 l.period && (is_latest s.latest l || has_series l s.pending))
    (eq-eqb l.series number e)
belongs_to s l number (inr (a, b, c)) =
    let later = is_latest s.latest l || has_series l s.pending in
    let z : later ≡ true = elim c [
      | inl e ↦ or_left (is_latest s.latest l) (has_series l s.pending)
          (latest_to s.latest l e)
      | inr r ↦ or_right (is_latest s.latest l) (has_series l s.pending)
          (any_to l s.pending r)
    ] in
    or_right (eqb l.series number) (ltb l.series number && ltb 0 l.period && later)
    (and_from (ltb l.series number && ltb 0 l.period) later
    (and_from (ltb l.series number) (ltb 0 l.period) (lt-ltb _ _ a) (lt-ltb _ _ b)) z)

allowed_from : (s : State) (e : Entry) → is_allowed s e ≡ true → Allowed s e
allowed_from s (Took turn seat) h = let x = and_parts (not s.held) (ltb s.turns turn) h in
    (not-true s.held x.0, ltb-true s.turns turn x.1)
allowed_from s (Gave turn) h = let x = and_parts s.held (eqb turn s.turns) h in
    (x.0, eqb-true turn s.turns x.1)
allowed_from s (Made key) h =
    let next = eqb key.generation (unwrap_or (generation_at key.index s.newest) 0 + 1) in
    let free = not (is_some (generation_at key.index s.live)) in
    let a = and_parts (s.held && ltb key.index MOST_KEYS && free && next) (leb key.generation GREATEST) h in
    let b = and_parts (s.held && ltb key.index MOST_KEYS && free) next a.0 in
    let c = and_parts (s.held && ltb key.index MOST_KEYS) free b.0 in
    let d = and_parts s.held (ltb key.index MOST_KEYS) c.0 in (
      d.0,
      ltb-true key.index MOST_KEYS d.1,
      none_from (generation_at key.index s.live) c.1,
      eqb-true
          key.generation _ b.1,
      leb-true key.generation GREATEST a.1,
    )
allowed_from s (Set number key event due series period) h =
    let a = and_parts (s.held && eqb number s.next && ltb number GREATEST && is_live s.live key)
    (may_belong s (record { key = key; series = series; period = period }) number) h in
    let b = and_parts (s.held && eqb number s.next && ltb number GREATEST) (is_live s.live key) a.0 in
    let c = and_parts (s.held && eqb number s.next) (ltb number GREATEST) b.0 in
    let d = and_parts s.held (eqb number s.next) c.0 in (
      d.0,
      eqb-true number s.next d.1,
      ltb-true number GREATEST c.1,
      generation_from _ _ b.1,
      belongs_from s
          (record { key = key; series = series; period = period }) number a.1,
    )
allowed_from s (Handled number moment) h = let x = and_parts s.held
    (is_due (pending_at number s.pending) moment) h in let p = due_from _ _ x.1 in (x.0, p.0, p.1, p.2)
allowed_from s (Cancelled number) h = let x = and_parts s.held (is_some (pending_at number s.pending)) h in
    let p = some_from _ x.1 in (x.0, p.0, p.1)
allowed_from s (Dropped number) h = let x = and_parts s.held (is_some (pending_at number s.pending)) h in let
    p = some_from _ x.1 in (x.0, p.0, p.1)
allowed_from s (Destroyed key) h =
    let x = and_parts (s.held && is_live s.live key) (is_empty (numbers_of key s.pending)) h in
    let y = and_parts s.held (is_live s.live key) x.0 in
    (y.0, generation_from _ _ y.1, empty_from _ x.1)

allowed_to : (s : State) (e : Entry) → Allowed s e → is_allowed s e ≡ true
allowed_to s (Took turn seat) (a, b) = and_from (not s.held) (ltb s.turns turn) (not_from_false s.held a)
    (lt-ltb s.turns turn b)
allowed_to s (Gave turn) (a, b) = and_from s.held (eqb turn s.turns) a (eq-eqb turn s.turns b)
allowed_to s (Made key) (held, low, empty, is_next, fits) =
    let next = eqb key.generation (unwrap_or (generation_at key.index s.newest) 0 + 1) in
    let free = not (is_some (generation_at key.index s.live)) in
    let f : free ≡ true = subst (λ v. not (is_some v) ≡ true) (sym empty) refl in
    and_from (s.held && ltb key.index MOST_KEYS && free && next) (leb key.generation GREATEST)
    (and_from (s.held && ltb key.index MOST_KEYS && free) next
    (and_from (s.held && ltb key.index MOST_KEYS) free
    (and_from s.held (ltb key.index MOST_KEYS) held (lt-ltb _ _ low)) f)
    (eq-eqb _ _ is_next))
    (le-leb _ _ fits)
allowed_to s (Set number key event due series period) (held, is_next, fits, live, belongs) =
    and_from (s.held && eqb number s.next && ltb number GREATEST && is_live s.live key)
    (may_belong s (record { key = key; series = series; period = period }) number)
    (and_from (s.held && eqb number s.next && ltb number GREATEST) (is_live s.live key)
    (and_from (s.held && eqb number s.next) (ltb number GREATEST)
    (and_from s.held (eqb number s.next) held (eq-eqb _ _ is_next)) (lt-ltb _ _ fits))
    (generation_to _ _ live))
    (belongs_to s (record { key = key; series = series; period = period }) number belongs)
allowed_to s (Handled number moment) (held, p, there, due) =
    and_from s.held (is_due (pending_at number s.pending) moment) held
    (subst (λ v. is_due v moment ≡ true) (sym there) (le-leb _ _ due))
allowed_to s (Cancelled number) (held, p, there) = and_from s.held (is_some (pending_at number s.pending))
    held (subst (λ v. is_some v ≡ true) (sym there) refl)
allowed_to s (Dropped number) (held, p, there) = and_from s.held (is_some (pending_at number s.pending)) held
    (subst (λ v. is_some v ≡ true) (sym there) refl)
allowed_to s (Destroyed key) (held, live, none) =
    and_from (s.held && is_live s.live key) (is_empty (numbers_of key s.pending))
    (and_from s.held (is_live s.live key) held (generation_to _ _ live))
    (subst (λ v. is_empty v ≡ true) (sym none) refl)

pub step_is_allowed_lem : StepIsAllowed
step_is_allowed_lem s e =
    split (is_allowed s e) (λ t. MatchOption (cond t (Some (after s e)) None) (Allowed s e → ⊥)
    (λ t. Allowed s e × (t ≡ after s e)))
    (λ h. (allowed_from s e h, refl))
    (λ h a. false≢true (sym h ∙ allowed_to s e a))

pub run_is_lawful_lem : RunIsLawful
run_is_lawful_lem s [] = (tt, refl)
run_is_lawful_lem s (e ∷ es) =
    split (is_allowed s e) (λ t. MatchOption (run (cond t (Some (after s e)) None) es)
    (IsLawful s (e ∷ es) → ⊥) (λ t. IsLawful s (e ∷ es) × (t ≡ replay s (e ∷ es))))
    (λ h. more (run (Some (after s e)) es) (allowed_from s e h) (run_is_lawful_lem (after s e) es))
    (λ h a. false≢true (sym h ∙ allowed_to s e a.0))
  where
    more : (o : Option State) → Allowed s e
        → MatchOption o (IsLawful (after s e) es → ⊥)
        (λ t. IsLawful (after s e) es × (t ≡ replay (after s e) es))
        → MatchOption o (IsLawful s (e ∷ es) → ⊥) (λ t. IsLawful s (e ∷ es) × (t ≡ replay s (e ∷ es)))
    more None a f = λ b. f b.1
    more (Some t) a (l, r) = ((a, l), r)
