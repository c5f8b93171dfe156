-- A stage that moved a piece has ended exactly where it had before.
use Rattle.std.proofs.Common.{◌⊎◌, inl, inr, ◌∙◌, ◌≡◌, ℕ, zero, suc, List, [], ◌∷◌, Bool, true, false, Option, Some, None, slice_get, length, refl, sym, ap, subst}
use Rattle.std.proofs.lemmas.List.{length-map}
use Rattle.ts_transform.specs.declared.continuation.StageContinuation.{StageContinuation}
use Rattle.ts_transform.specs.Driving.{unroused, unroused_for, gone, changed, all_unroused}
use Rattle.ts_transform.specs.declared.pump.Stage.{Stage}
use Rattle.ts_transform.specs.declared.pump.Pumped.TheVariants.{Moved}
use Rattle.ts_transform.specs.Flow.{ChainState, StepsAt, PumpsAt, PumpsOnce, ended_at}

pub moved_goes : {P : Type 0} (rest : P → List ℕ → List ℕ) (from : List ℕ) (ss : List (Stage P)) (at n : ℕ)
    (from' : List ℕ) (ss' : List (Stage P))
    → StepsAt rest from ss at (Moved n) from' ss' → ended_at ss' at ≡ ended_at ss at
moved_goes rest from [] at n from' ss' h = absurd h
moved_goes rest from (s ∷ ss) at n from' [] h = absurd h
moved_goes rest from (s ∷ ss) zero n from' (s' ∷ ss') h = h.0.1
moved_goes rest from (s ∷ ss) (suc at) n from' (s' ∷ ss') h = moved_goes rest s.after ss at n s'.after ss' h.1

-- a stage whose event was handled has the continuation that it had
pub unroused_key : (b : Bool) (ts : List (Option StageContinuation)) (at : ℕ) (t : StageContinuation)
    → slice_get ts at ≡ Some (Some t)
    → (u : StageContinuation) × (slice_get (unroused_for b ts at) at ≡ Some (Some u)) × (u.key ≡ t.key)
unroused_key false ts at t is = (t, is, refl)
unroused_key true [] at t is = absurd (let wrong : ◌≡◌ {A = Option (Option StageContinuation)} None
    (Some (Some t)) = is in cc)
unroused_key true (x ∷ ts) zero t is =
    let same : x ≡ Some t = cc in
    subst (λ y. (u : StageContinuation) × (◌≡◌ {A = Option (Option StageContinuation)} (Some (unroused y))
    (Some (Some u))) × (u.key ≡ t.key)) (sym same) (record t { roused = false }, refl, refl)
unroused_key true (x ∷ ts) (suc at) t is = unroused_key true ts at t is

pub pumped_once : {P : Type 0} (rest : P → List ℕ → List ℕ) (c d : ChainState P) (at : ℕ)
    → (d ≡ c) ⊎ PumpsAt rest at c d → PumpsOnce rest c d
pumped_once rest c d at (inl same) = inl same
pumped_once rest c d at (inr pumps) = inr (at, pumps)

pub unroused_twice : (t : Option StageContinuation) → unroused (unroused t) ≡ unroused t
unroused_twice None = refl
unroused_twice (Some t) = refl

same_changed : (ts : List (Option StageContinuation)) (at : ℕ)
    → all_unroused (changed unroused ts at) ≡ all_unroused ts
same_changed [] at = refl
same_changed (t ∷ ts) zero = ap (λ u. u ∷ all_unroused ts) (unroused_twice t)
same_changed (t ∷ ts) (suc at) = ap (λ us. unroused t ∷ us) (same_changed ts at)

-- there are as many
pub same_length : (ts us : List (Option StageContinuation)) → all_unroused us ≡ all_unroused ts
    → length us ≡ length ts
same_length ts us same = sym (length-map us unroused) ∙ ap length same ∙ length-map ts unroused

-- a continuation whose event was handled changes in nothing but that it is not roused
pub same_unroused : (ts us : List (Option StageContinuation)) (at : ℕ) → us ≡ changed unroused ts at
    → all_unroused us ≡ all_unroused ts
same_unroused ts us at is = ap all_unroused is ∙ same_changed ts at

-- whether it was roused or not, one that is destroyed is gone
gone_changed : (ts : List (Option StageContinuation)) (at : ℕ)
    → changed gone (changed unroused ts at) at ≡ changed gone ts at
gone_changed [] at = refl
gone_changed (t ∷ ts) zero = refl
gone_changed (t ∷ ts) (suc at) = ap (λ us. t ∷ us) (gone_changed ts at)

pub gone_unroused : (b : Bool) (ts us : List (Option StageContinuation)) (at : ℕ) → us ≡ unroused_for b ts at
    → changed gone us at ≡ changed gone ts at
gone_unroused false ts us at is = ap (λ vs. changed gone vs at) is
gone_unroused true ts us at is = ap (λ vs. changed gone vs at) is ∙ gone_changed ts at
