-- The order of a wheel is that of due moment and adding.
use Rattle.std.proofs.Common.{◌≡◌, ℕ, ◌<◌, ◌≤◌, Bool, true, false, cond, eqb, ltb, List, [], ◌∷◌, ◌++◌, refl, ap, sym, ◌∙◌, subst, ⊎_elim, Option, Some, None, arith}
use Rattle.std.proofs.lemmas.Bool.{cases_lt}
use Rattle.std.proofs.lemmas.Bool.Decides.{nat_tests}
use Rattle.ts_wheel.specs.Due.{added, first_due, after_due}
use Rattle.ts_wheel.specs.Order.{earlier, due_of, without_first, led, in_order, GivesDue}
use Rattle.ts_wheel.proofs.Added.{ltb-yes, ltb-no, leb-yes, leb-no, added-front, added-later, first_due-late, first_due-now, after_due-late, after_due-now}

eqb-itself : (a : ℕ) → eqb a a ≡ true
eqb-itself a = grind (arith, nat_tests)

eqb-other : (a b : ℕ) → b < a → eqb a b ≡ false
eqb-other a b h = grind (arith, nat_tests)

module _ {T : Type 0} where
  led-skip : (e f : ℕ × T) (fs : List (ℕ × T)) → f.0 < e.0 → led e (f ∷ fs) ≡ f ∷ led e fs
  led-skip e f fs h = ap (λ (b : Bool). cond b (f ∷ led e fs) (e ∷ f ∷ fs)) (ltb-yes f.0 e.0 h)

  led-front : (e f : ℕ × T) (fs : List (ℕ × T)) → e.0 ≤ f.0 → led e (f ∷ fs) ≡ e ∷ f ∷ fs
  led-front e f fs h = ap (λ (b : Bool). cond b (f ∷ led e fs) (e ∷ f ∷ fs)) (ltb-no f.0 e.0 h)

  -- the first and the last token of an order of adding may be put into the wheel's order in either order
  led-added : (e : ℕ × T) (due : ℕ) (t : T) (l : List (ℕ × T)) → led e (added due t l) ≡ added due t (led e l)
  led-added e due t [] = ⊎_elim (λ (h : due < e.0). led-skip e (due, t) [] h ∙ sym (added-front due t e [] h))
      (λ (h : e.0 ≤ due). led-front e (due, t) [] h ∙ sym (added-later due t e [] h))
      (cases_lt due e.0)
  led-added e due t (f ∷ fs) = ⊎_elim
      (λ (h : due < f.0). ⊎_elim
      (λ (k : f.0 < e.0). let lt : due < e.0 = omega arith in
      ap (led e) (added-front due t f fs h) ∙ led-skip e (due, t) (f ∷ fs) lt ∙ ap (λ zs. (due, t) ∷ zs)
      (led-skip e f fs k)
      ∙ sym (ap (added due t) (led-skip e f fs k) ∙ added-front due t f (led e fs) h))
      (λ (k : e.0 ≤ f.0). ⊎_elim
      (λ (m : due < e.0). ap (led e) (added-front due t f fs h) ∙ led-skip e (due, t) (f ∷ fs) m ∙ ap
      (λ zs. (due, t) ∷ zs) (led-front e f fs k)
      ∙ sym (ap (added due t) (led-front e f fs k) ∙ added-front due t e (f ∷ fs) m))
      (λ (m : e.0 ≤ due). ap (led e) (added-front due t f fs h) ∙ led-front e (due, t) (f ∷ fs) m
      ∙ sym (ap (added due t) (led-front e f fs k) ∙ added-later due t e (f ∷ fs) m ∙ ap (λ zs. e ∷ zs)
      (added-front due t f fs h)))
      (cases_lt due e.0))
      (cases_lt f.0 e.0))
      (λ (h : f.0 ≤ due). ⊎_elim
      (λ (k : f.0 < e.0). ap (led e) (added-later due t f fs h) ∙ led-skip e f (added due t fs) k ∙ ap
      (λ zs. f ∷ zs) (led-added e due t fs)
      ∙ sym (ap (added due t) (led-skip e f fs k) ∙ added-later due t f (led e fs) h))
      (λ (k : e.0 ≤ f.0). let le : e.0 ≤ due = omega arith in
      ap (led e) (added-later due t f fs h) ∙ led-front e f (added due t fs) k
      ∙ sym (ap (added due t) (led-front e f fs k) ∙ added-later due t e (f ∷ fs) le ∙ ap (λ zs. e ∷ zs)
      (added-later due t f fs h)))
      (cases_lt f.0 e.0))
      (cases_lt due f.0)

  pub in_order-added : (tokens : List (ℕ × T)) (due : ℕ) (t : T)
      → in_order (tokens ++ (due, t) ∷ []) ≡ added due t (in_order tokens)
  in_order-added [] due t = refl
  in_order-added (e ∷ es) due t = ap (led e) (in_order-added es due t) ∙ led-added e due t (in_order es)

  -- the first token is due after the moment, if there is one
  abbrev IsLate : ℕ → List (ℕ × T) → Type 0
  IsLate now [] = Unit {0}
  IsLate now (e ∷ es) = now < e.0

  led-late : (now : ℕ) (e : ℕ × T) (l : List (ℕ × T)) → now < e.0 → IsLate now l → IsLate now (led e l)
  led-late now e [] h late = h
  led-late now e (f ∷ fs) h late = elim (ltb f.0 e.0) as
      (λ b. IsLate now (cond b (f ∷ led e fs) (e ∷ f ∷ fs))) [ true ↦ late | false ↦ h ]

  led-first : (now : ℕ) (e : ℕ × T) (l : List (ℕ × T)) → e.0 ≤ now → IsLate now l → led e l ≡ e ∷ l
  led-first now e [] h late = refl
  led-first now e (f ∷ fs) h late = led-front e f fs (omega arith)

  without-other : (e : ℕ × T) (due : ℕ) (es : List (ℕ × T)) → due < e.0
      → without_first due (e ∷ es) ≡ e ∷ without_first due es
  without-other e due es h = ap (λ (b : Bool). cond b es (e ∷ without_first due es)) (eqb-other e.0 due h)

  without-first : (e : ℕ × T) (es : List (ℕ × T)) → without_first e.0 (e ∷ es) ≡ es
  without-first e es = ap (λ (b : Bool). cond b es (e ∷ without_first e.0 es)) (eqb-itself e.0)

  -- the wheel's order begins with what `due_of` gives, or with a token that is not due
  abbrev Begins : ℕ → List (ℕ × T) → Option (ℕ × T) → Type 0
  Begins now es None = IsLate now (in_order es)
  Begins now es (Some x) = (in_order es ≡ x ∷ in_order (without_first x.0 es)) × (x.0 ≤ now)

  skipped : (now : ℕ) (e : ℕ × T) (es : List (ℕ × T)) (x : ℕ × T) → x.0 < e.0
      → in_order es ≡ x ∷ in_order (without_first x.0 es) → x.0 ≤ now → Begins now (e ∷ es) (Some x)
  skipped now e es x lt is le = (
    ap (led e) is ∙ led-skip e x (in_order (without_first x.0 es)) lt ∙ ap
        (λ ws. x ∷ in_order ws) (sym (without-other e x.0 es lt)),
    le,
  )

  leads : (now : ℕ) (e : ℕ × T) (es : List (ℕ × T)) → led e (in_order es) ≡ e ∷ in_order es → e.0 ≤ now
      → Begins now (e ∷ es) (Some e)
  leads now e es is le = (is ∙ ap (λ ws. e ∷ in_order ws) (sym (without-first e es)), le)

  late_begins : (now : ℕ) (e : ℕ × T) (es : List (ℕ × T)) (d : Option (ℕ × T)) → now < e.0 → Begins now es d
      → Begins now (e ∷ es) d
  late_begins now e es None h begins = led-late now e (in_order es) h begins
  late_begins now e es (Some x) h begins = skipped now e es x (omega (arith, begins.1)) begins.0 begins.1

  due_begins : (now : ℕ) (e : ℕ × T) (es : List (ℕ × T)) (d : Option (ℕ × T)) → e.0 ≤ now → Begins now es d
      → Begins now (e ∷ es) (Some (earlier e d))
  due_begins now e es None h begins = leads now e es (led-first now e (in_order es) h begins) h
  due_begins now e es (Some x) h begins = ⊎_elim
      (λ (lt : x.0 < e.0). subst (λ (b : Bool). Begins now (e ∷ es) (Some (cond b x e)))
      (sym (ltb-yes x.0 e.0 lt)) (skipped now e es x lt begins.0 begins.1))
      (λ (le : e.0 ≤ x.0). subst (λ (b : Bool). Begins now (e ∷ es) (Some (cond b x e)))
      (sym (ltb-no x.0 e.0 le))
      (leads now e es (ap (led e) begins.0 ∙ led-front e x (in_order (without_first x.0 es)) le ∙ ap
      (λ zs. e ∷ zs) (sym begins.0)) h))
      (cases_lt x.0 e.0)

  begins : (now : ℕ) (es : List (ℕ × T)) → Begins now es (due_of now es)
  begins now [] = tt
  begins now (e ∷ es) = ⊎_elim
      (λ (h : now < e.0). subst (λ (b : Bool). Begins now (e ∷ es)
      (cond b (Some (earlier e (due_of now es))) (due_of now es))) (sym (leb-no e.0 now h))
      (late_begins now e es (due_of now es) h (begins now es)))
      (λ (h : e.0 ≤ now). subst (λ (b : Bool). Begins now (e ∷ es)
      (cond b (Some (earlier e (due_of now es))) (due_of now es))) (sym (leb-yes e.0 now h))
      (due_begins now e es (due_of now es) h (begins now es)))
      (cases_lt now e.0)

  late_takes : (now : ℕ) (l : List (ℕ × T)) → IsLate now l → (first_due now l ≡ None) × (after_due now l ≡ l)
  late_takes now [] late = (refl, refl)
  late_takes now (e ∷ es) late = (first_due-late now e es late, after_due-late now e es late)

  takes_of : (now : ℕ) (es : List (ℕ × T)) (d : Option (ℕ × T)) → Begins now es d → GivesDue now es d
  takes_of now es None late = late_takes now (in_order es) late
  takes_of now es (Some x) begin = (
    ap (first_due now) begin.0 ∙ first_due-now now x (in_order (without_first x.0 es)) begin.1,
    ap (after_due now) begin.0 ∙ after_due-now now x (in_order (without_first x.0 es)) begin.1,
  )

  pub due_takes : (tokens : List (ℕ × T)) (now : ℕ) → GivesDue now tokens (due_of now tokens)
  due_takes tokens now = takes_of now tokens (due_of now tokens) (begins now tokens)
