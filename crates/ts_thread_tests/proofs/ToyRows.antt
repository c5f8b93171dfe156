-- Rows of toy worlds: that they can be run, and what they are at their end.
use Rattle.std.proofs.Common.{◌≡◌, ℕ, zero, suc, ◌+◌, ◌*◌, ◌<◌, ◌≤◌, List, [], ◌∷◌, ◌++◌, length, length-append, Bool, true, false, Option, refl, sym, ap, subst, All, arith}
use mathlib.Core.Option.{some}
use lib.ListN.{get_elem?}
use Rattle.std.specs.Prelude.{IsSome, unwrap_or}
use Rattle.std.specs.Bool.{OnTrue}
use Rattle.std.specs.List.{AllZip}
use Rattle.std.proofs.lemmas.List.Elements.{All-nil, All-cons, All-head, All-tail}
use Rattle.ts_journal.specs.State.{State}
use Rattle.ts_group.specs.declared.action.Named.{Named}
use Rattle.ts_group.specs.declared.group.Group.{Group}
use Rattle.ts_group.specs.declared.slot.TheConstants.{MOST_IN_TURN}
use Rattle.ts_group.specs.Answers.{Holds}
use Rattle.ts_group.specs.Context.{IsFresh}
use Rattle.ts_group.specs.Slot.{IsAtRest}
use Rattle.ts_toys.specs.declared.toy.TheConstants.{MOST_WORK}
use Rattle.ts_thread.specs.declared.TheConstants.{MOST_ALONE}
use Rattle.ts_thread.specs.Goings.{IsIdle}
use Rattle.ts_thread.specs.Started.{CanStart}
use Rattle.ts_thread.specs.Tags.{CanAsk, GroupFits, GroupsFit}
use Rattle.ts_thread.specs.Threads.{HasHadTurns}
use Rattle.ts_thread.specs.Whole.{EachTells, EndSoon}
use Rattle.ts_thread.proofs.Ended.{fit_count}
use Rattle.ts_thread_tests.specs.ToyRows.{AreToys, HasEnded}
use Rattle.ts_thread_tests.proofs.Ends.{all_more}

-- what holds of everything holds of all in a list
all_of : {X : Type 0} (P : X → Type 0) (xs : List X) → ((x : X) → P x) → All P xs
all_of P [] f = All-nil P
all_of P (x ∷ xs) f = All-cons P x xs (f x) (all_of P xs f)

zip_append : {A B : Type 0} (P : A → B → Type 0) (xs : List A) (ys : List B) (a : A) (b : B) → AllZip P xs ys
    → P a b → AllZip P (xs ++ a ∷ []) (ys ++ b ∷ [])
zip_append P [] [] a b all one = (one, tt)
zip_append P [] (y ∷ ys) a b all one = absurd all
zip_append P (x ∷ xs) [] a b all one = absurd all
zip_append P (x ∷ xs) (y ∷ ys) a b all one = (all.0, zip_append P xs ys a b all.1 one)

-- so many numbers were given away at most, whether the group is only asked or not
next_bound : (b : Bool) (s : State) → IsAtRest b s → s.next ≤ MOST_IN_TURN * s.turns + 1
next_bound true s rest = let few = rest.1 in omega arith
next_bound false s rest = rest.1

at_rest : (b : Bool) (s : State) → b ≡ false → (s.held ≡ false) × (s.next ≤ MOST_IN_TURN * s.turns + 1)
    → IsAtRest b s
at_rest b s e rest = subst (λ c. IsAtRest c s) (sym e) (rest.0, rest.1, tt)

is_first_of : (b : Bool) (turns : ℕ) → turns ≡ 0 → OnTrue b (turns ≡ 0)
is_first_of true turns e = e
is_first_of false turns e = tt

-- the tag at a place, where worlds of each tag are not only asked
tag_at : {T : Type 0} (oa : T → Bool) (Tagged : T → Type 0) (ts : List T) (k : ℕ)
    → ((t : T) → Tagged t → oa t ≡ false) → All Tagged ts → k < length ts
    → (t : T) × (get_elem? ts k ≡ some t) × (oa t ≡ false)
tag_at oa Tagged [] k works all low = absurd (omega arith)
tag_at oa Tagged (t ∷ ts) zero works all low = (t, refl, works t (All-head Tagged t ts all))
tag_at oa Tagged (t ∷ ts) (suc k) works all low = tag_at oa Tagged ts k works (All-tail Tagged t ts all)
    (omega arith)

module _ {W Q R T U : Type 0} (Fits : T → W → Type 0) (Sound : W → State → List Named → Type 0)
    (oa isf : T → Bool) where
  fresh_fits : (t : T) (g : Group W Q R T U) → oa t ≡ false → Fits t g.world → Holds Sound g → IsFresh 0 g.cx
      → GroupFits Fits Sound oa isf t g
  fresh_fits t g works fits sound fresh = (
    fits,
    sound,
    at_rest (oa t) g.cx.log.state works (subst (λ s. (s.held ≡ false) × (s.next ≤ MOST_IN_TURN * s.turns + 1))
        (sym fresh.state) (refl, omega arith)),
    is_first_of (isf t) g.cx.log.base.made (ap (λ b. b.made) fresh.base),
  )

  module _ (Tagged : T → Type 0) where
    pub toys_begin : (ts : List T) (gs : List (Group W Q R T U)) → ts ≡ [] → gs ≡ []
        → AreToys Fits Sound oa isf Tagged 0 ts gs
    toys_begin ts gs untagged none = subst (λ us. AreToys Fits Sound oa isf Tagged 0 us gs) (sym untagged)
        (subst (λ hs. AreToys Fits Sound oa isf Tagged 0 [] hs) (sym none) (record {
          fits = tt;
          tagged = All-nil Tagged;
          new = All-nil (HasHadTurns 0);
          count_is = refl;
        }))

    pub toys_next : (n : ℕ) (ts us : List T) (gs hs : List (Group W Q R T U)) (t : T) (g : Group W Q R T U)
        → AreToys Fits Sound oa isf Tagged n ts gs → us ≡ ts ++ t ∷ [] → hs ≡ gs ++ g ∷ []
        → Tagged t → oa t ≡ false → Fits t g.world → Holds Sound g → IsFresh 0 g.cx
        → AreToys Fits Sound oa isf Tagged (n + 1) us hs
    toys_next n ts us gs hs t g was more moreover tagged works fits sound fresh =
        let few : g.cx.log.state.turns ≤ 0 = (let e : g.cx.log.state.turns ≡ 0 = ap (λ (s : State). s.turns)
        fresh.state in omega arith) in
        subst (λ vs. AreToys Fits Sound oa isf Tagged (n + 1) vs hs) (sym more)
        (subst (λ ks. AreToys Fits Sound oa isf Tagged (n + 1) (ts ++ t ∷ []) ks) (sym moreover) (record {
          fits = zip_append (λ u h. GroupFits Fits Sound oa isf u h) ts gs t g was.fits
              (fresh_fits t g works fits sound fresh);
          tagged = all_more Tagged ts t was.tagged tagged;
          new = all_more (HasHadTurns 0) gs g was.new few;
          count_is = let e = was.count_is in omega (arith, length-append gs (g ∷ []));
        }))

    -- toys can be started, all of them
    pub toys_start : (n : ℕ) (ts : List T) (gs : List (Group W Q R T U)) → ((t : T) → Tagged t → oa t ≡ false)
        → AreToys Fits Sound oa isf Tagged n ts gs → CanStart oa ts n
    toys_start n ts gs works are k low = tag_at oa Tagged ts k works are.tagged
        (let e = fit_count (λ u h. GroupFits Fits Sound oa isf u h) ts gs are.fits in let m = are.count_is in
        omega arith)

    -- each toy has a tag
    toys_tags : (n : ℕ) (ts : List T) (gs : List (Group W Q R T U)) → AreToys Fits Sound oa isf Tagged n ts gs
        → length ts ≡ n
    toys_tags n ts gs are =
        let e = fit_count (λ u h. GroupFits Fits Sound oa isf u h) ts gs are.fits in
        let m = are.count_is in omega arith

    -- as many groups as toys were made fit the same tags
    pub toys_count : (n : ℕ) (ts : List T) (gs hs : List (Group W Q R T U))
        → AreToys Fits Sound oa isf Tagged n ts gs → GroupsFit Fits Sound oa isf ts hs → length hs ≡ n
    toys_count n ts gs hs are fits =
        let e = fit_count (λ u h. GroupFits Fits Sound oa isf u h) ts gs are.fits in
        let f = fit_count (λ u h. GroupFits Fits Sound oa isf u h) ts hs fits in
        let m = are.count_is in omega arith

    -- groups whose worlds have counted their work when nothing is pending
    pub all_ended : (Counted : W → Type 0) (ts : List T) (gs : List (Group W Q R T U))
        → ((t : T) (w : W) (s : State) (roles : List Named) → Tagged t → Fits t w → Sound w s roles → length
        s.pending ≡ 0 → Counted w)
        → All Tagged ts → GroupsFit Fits Sound oa isf ts gs → All IsIdle gs → All (HasEnded Counted) gs
    all_ended Counted [] [] ends tagged fits idle = All-nil (HasEnded Counted)
    all_ended Counted [] (g ∷ gs) ends tagged fits idle = absurd fits
    all_ended Counted (t ∷ ts) [] ends tagged fits idle = absurd fits
    all_ended Counted (t ∷ ts) (g ∷ gs) ends tagged fits idle =
        let none : g.cx.log.state.pending ≡ [] = All-head IsIdle g gs idle in
        All-cons (HasEnded Counted) g gs (
          none,
          ends t g.world g.cx.log.state g.cx.roles (All-head Tagged t ts tagged) fits.0.0 fits.0.1
              (ap (λ ps. length ps) none),
        )
        (all_ended Counted ts gs ends (All-tail Tagged t ts tagged) fits.1 (All-tail IsIdle g gs idle))

  module _ (Left : W → State → Option ℕ) (little : (t : T) (w : W) (s : State) (roles : List Named) → Fits t w
      → Sound w s roles → IsSome (Left w s) × (unwrap_or (Left w s) 0 ≤ MOST_WORK + s.next)) where
    -- worlds that tell little tell it
    toys_tell : (ts : List T) → EachTells Q R U Fits Sound oa isf Left ts
    toys_tell ts = all_of (λ t. (g : Group W Q R T U) → GroupFits Fits Sound oa isf t g → IsSome
        (Left g.world g.cx.log.state)) ts (λ t g fit.
        (little t g.world g.cx.log.state g.cx.roles fit.0 fit.1).0)

    -- and end soon
    toys_end : (turns : ℕ) (ts : List T)
        → turns + length ts * (MOST_IN_TURN * turns + 1 + MOST_WORK) + 1 < MOST_ALONE
        → EndSoon Q R U Fits Sound oa isf Left MOST_ALONE turns ts
    toys_end turns ts low = record {
      most = MOST_IN_TURN * turns + 1 + MOST_WORK;
      each = all_of (λ t. (g : Group W Q R T U) → GroupFits Fits Sound oa isf t g → HasHadTurns turns g →
          unwrap_or (Left g.world g.cx.log.state) 0 ≤ MOST_IN_TURN * turns + 1 + MOST_WORK) ts
          (λ t g fit had.
          let tells = little t g.world g.cx.log.state g.cx.roles fit.0 fit.1 in
          let next = next_bound (oa t) g.cx.log.state fit.2 in
          let bound = tells.1 in
          omega arith);
      enough = low;
    }

    -- a row of toys tells it
    pub row_tells : (Tagged : T → Type 0) (n : ℕ) (ts : List T) (gs : List (Group W Q R T U))
        → AreToys Fits Sound oa isf Tagged n ts gs → EachTells Q R U Fits Sound oa isf Left ts
    row_tells Tagged n ts gs are = toys_tell ts

    -- and ends soon, where so many toys do
    pub row_ends : (Tagged : T → Type 0) (turns n : ℕ) (ts : List T) (gs : List (Group W Q R T U))
        → AreToys Fits Sound oa isf Tagged n ts gs
        → turns + n * (MOST_IN_TURN * turns + 1 + MOST_WORK) + 1 < MOST_ALONE
        → EndSoon Q R U Fits Sound oa isf Left MOST_ALONE turns ts
    row_ends Tagged turns n ts gs are low = toys_end turns ts
        (subst (λ (m : ℕ). turns + m * (MOST_IN_TURN * turns + 1 + MOST_WORK) + 1 < MOST_ALONE)
        (sym (toys_tags Tagged n ts gs are)) low)

-- worlds that ask nobody can ask whom they may
pub toys_can_ask : {W Q R T : Type 0} (Fits : T → W → Type 0) (oa : T → Bool) (MayAsk : W → ℕ → Type 0)
    (Right : W → ℕ → Q → R → Type 0) (Answers : W → Q → R → Type 0) (ts : List T)
    → ((w : W) (k : ℕ) → MayAsk w k → ⊥)
    → ((w v : W) (k : ℕ) (q : Q) (r : R) → Answers v q r → Right w k q r)
    → CanAsk Fits oa MayAsk Right Answers ts
toys_can_ask Fits oa MayAsk Right Answers ts alone fair = record {
  others = λ j k t w at fit may. absurd (alone w k may);
  replies = λ j k t u w v q r at fit there fits answers. fair w v k q r answers;
}

-- of each tag this holds
pub all_any : {T : Type 0} (ts : List T) → All (λ (t : T). Unit {0}) ts
all_any {T} ts = all_of (λ (t : T). Unit {0}) ts (λ t. tt)
