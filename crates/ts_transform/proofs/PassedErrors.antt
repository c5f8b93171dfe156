-- Which continuations have passed an error on, and how many calls they may still make upstream.
use Rattle.std.proofs.Common.{◌≡◌, ◌≤◌, ◌+◌, inl, inr, length, ℕ, zero, suc, List, [], ◌∷◌, Bool, true, false, not, Option, Some, None, if◌then◌else◌, arith, refl, sym, ap, ◌∙◌}
use Rattle.ts_journal.specs.declared.entry.Pending.{Pending}
use Rattle.ts_group.specs.declared.action.Named.{Named}
use Rattle.ts_group.specs.Context.{Context}
use Rattle.ts_transform.specs.declared.continuation.StageContinuation.{StageContinuation}
use Rattle.ts_transform.specs.Flow.{ChainState}
use Rattle.ts_transform.specs.Driving.{HasNobodyToTell, IsOfStageIf, AreOfStages, IsRousedIf, IsRoused, unroused, all_unroused, calls_of, error_passed, gone, changed, is_there, is_there_at, is_there_before, may_pass_error, may_pass_error_at, upstream_calls}
use Rattle.ts_transform.specs.Cover.{IsDriven}
use Rattle.ts_transform.specs.Acting.{GivesUpCall}
use Rattle.ts_transform.proofs.Handled.{length-changed}

unroused_may_pass : (t : Option StageContinuation) → may_pass_error (unroused t) ≡ may_pass_error t
unroused_may_pass None = refl
unroused_may_pass (Some t) = refl

unroused_calls : (t : Option StageContinuation) → calls_of (unroused t) ≡ calls_of t
unroused_calls None = refl
unroused_calls (Some t) = refl

-- they may make as many calls, whoever is roused
of_unroused : (ts : List (Option StageContinuation)) → upstream_calls (all_unroused ts) ≡ upstream_calls ts
of_unroused [] = refl
of_unroused (t ∷ ts) = rw (unroused_calls t, of_unroused ts) refl

pub calls_same : (ts us : List (Option StageContinuation)) → all_unroused us ≡ all_unroused ts
    → upstream_calls us ≡ upstream_calls ts
calls_same ts us same = sym (of_unroused us) ∙ ap upstream_calls same ∙ of_unroused ts

at_unroused : (ts : List (Option StageContinuation)) (at : ℕ)
    → may_pass_error_at (all_unroused ts) at ≡ may_pass_error_at ts at
at_unroused [] at = refl
at_unroused (t ∷ ts) zero = unroused_may_pass t
at_unroused (t ∷ ts) (suc at) = at_unroused ts at

pub may_pass_same : (ts us : List (Option StageContinuation)) (at : ℕ) → all_unroused us ≡ all_unroused ts
    → may_pass_error_at us at ≡ may_pass_error_at ts at
may_pass_same ts us at same = sym (at_unroused us at) ∙ ap (λ vs. may_pass_error_at vs at) same ∙ at_unroused
    ts at

-- one that passes an error on has one call less to make
passed_one : (t : Option StageContinuation) → may_pass_error t ≡ true
    → calls_of (error_passed t) + 1 ≡ calls_of t
passed_one None is = absurd (let wrong : false ≡ true = is in cc)
passed_one (Some t) is = by_flag t.passed_error is
  where
    by_flag : (b : Bool) → not b ≡ true → ◌≡◌ {A = ℕ} 2 (if b then 1 else 2)
    by_flag true is = absurd (let wrong : false ≡ true = is in cc)
    by_flag false is = refl

passed_none : (t : Option StageContinuation) → may_pass_error t ≡ false
    → calls_of (error_passed t) ≡ calls_of t
passed_none None is = refl
passed_none (Some t) is = by_flag t.passed_error is
  where
    by_flag : (b : Bool) → not b ≡ false → ◌≡◌ {A = ℕ} 1 (if b then 1 else 2)
    by_flag true is = refl
    by_flag false is = absurd (let wrong : true ≡ false = is in cc)

passed_falls : (ts : List (Option StageContinuation)) (at : ℕ) → may_pass_error_at ts at ≡ true
    → upstream_calls (changed error_passed ts at) + 1 ≡ upstream_calls ts
passed_falls [] at is = absurd (let wrong : false ≡ true = is in cc)
passed_falls (t ∷ ts) zero is = omega (arith, passed_one t is)
passed_falls (t ∷ ts) (suc at) is = omega (arith, passed_falls ts at is)

passed_stays : (ts : List (Option StageContinuation)) (at : ℕ) → may_pass_error_at ts at ≡ false
    → upstream_calls (changed error_passed ts at) ≡ upstream_calls ts
passed_stays [] at is = refl
passed_stays (t ∷ ts) zero is = ap (λ n. n + upstream_calls ts) (passed_none t is)
passed_stays (t ∷ ts) (suc at) is = ap (λ n. calls_of t + n) (passed_stays ts at is)

pub passed_less : (ts us : List (Option StageContinuation)) (at : ℕ) → us ≡ changed error_passed ts at
    → may_pass_error_at ts at ≡ true → upstream_calls us + 1 ≡ upstream_calls ts
passed_less ts us at is first = ap (λ vs. upstream_calls vs + 1) is ∙ passed_falls ts at first

pub passed_same : (ts us : List (Option StageContinuation)) (at : ℕ) → us ≡ changed error_passed ts at
    → may_pass_error_at ts at ≡ false → upstream_calls us ≡ upstream_calls ts
passed_same ts us at is before = ap upstream_calls is ∙ passed_stays ts at before

-- one that was destroyed makes none
gone_at : (ts : List (Option StageContinuation)) (at : ℕ)
    → upstream_calls (changed gone ts at) ≤ upstream_calls ts
gone_at [] at = omega arith
gone_at (t ∷ ts) zero = omega arith
gone_at (t ∷ ts) (suc at) = omega (arith, gone_at ts at)

pub gone_fewer : (ts us : List (Option StageContinuation)) (at : ℕ) → us ≡ changed gone ts at
    → upstream_calls us ≤ upstream_calls ts
gone_fewer ts us at is = omega (arith, ap upstream_calls is, gone_at ts at)

some_calls : (t : StageContinuation) → 1 ≤ calls_of (Some t)
some_calls t = by_flag t.passed_error
  where
    by_flag : (b : Bool) → 1 ≤ (if b then 1 else 2)
    by_flag true = omega arith
    by_flag false = omega arith

there_falls : (ts : List (Option StageContinuation)) (at : ℕ) → is_there_at ts at ≡ true
    → upstream_calls (changed gone ts at) + 1 ≤ upstream_calls ts
there_falls [] at is = absurd (let wrong : false ≡ true = is in cc)
there_falls (None ∷ ts) zero is = absurd (let wrong : false ≡ true = is in cc)
there_falls (Some t ∷ ts) zero is = omega (arith, some_calls t)
there_falls (t ∷ ts) (suc at) is = omega (arith, there_falls ts at is)

pub gives_up : (ts us : List (Option StageContinuation)) (at : ℕ) (a b : Context) → us ≡ changed gone ts at
    → length b.log.state.pending ≤ length a.log.state.pending → GivesUpCall ts us at a b
gives_up ts us at a b is count = record {
  pending = count;
  calls = gone_fewer ts us at is;
  fewer = λ there. omega (arith, ap upstream_calls is, there_falls ts at there);
}

-- who is there is so whether it is roused or not
there_one : (t : Option StageContinuation) → is_there (Some (unroused t)) ≡ is_there (Some t)
there_one None = refl
there_one (Some t) = refl

there_unroused : (ts : List (Option StageContinuation)) (at : ℕ)
    → is_there_at (all_unroused ts) at ≡ is_there_at ts at
there_unroused [] at = refl
there_unroused (t ∷ ts) zero = there_one t
there_unroused (t ∷ ts) (suc at) = there_unroused ts at

pub there_same : (ts us : List (Option StageContinuation)) (at : ℕ) → all_unroused us ≡ all_unroused ts
    → is_there_at us at ≡ is_there_at ts at
there_same ts us at same = sym (there_unroused us at) ∙ ap (λ vs. is_there_at vs at) same ∙ there_unroused ts
    at

before_same : (ts us : List (Option StageContinuation)) (at : ℕ) → all_unroused us ≡ all_unroused ts
    → is_there_before us at ≡ is_there_before ts at
before_same ts us zero same = refl
before_same ts us (suc at) same = there_same ts us at same

pub nobody_same : (ts us : List (Option StageContinuation)) (at : ℕ) → all_unroused us ≡ all_unroused ts
    → HasNobodyToTell ts at → HasNobodyToTell us at
nobody_same ts us at same (inl none) = inl (there_same ts us at same ∙ none)
nobody_same ts us at same (inr none) = inr (before_same ts us at same ∙ none)

passed_if : (pending : List Pending) (roles : List Named) (role : ℕ) (t : Option StageContinuation)
    → IsOfStageIf pending roles role t → IsOfStageIf pending roles role (error_passed t)
passed_if pending roles role None s = tt
passed_if pending roles role (Some t) s = record { named = s.named; event = s.event }

passed_of_stages : (pending : List Pending) (roles : List Named) (role at : ℕ)
    (ts : List (Option StageContinuation))
    → AreOfStages pending roles role ts → AreOfStages pending roles role (changed error_passed ts at)
passed_of_stages pending roles role at [] s = tt
passed_of_stages pending roles role zero (t ∷ ts) (here, others) =
    (passed_if pending roles role t here, others)
passed_of_stages pending roles role (suc at) (t ∷ ts) (here, others) =
    (here, passed_of_stages pending roles (role + 1) at ts others)

roused_if : (t : Option StageContinuation) → IsRousedIf t → IsRousedIf (error_passed t)
roused_if None roused = roused
roused_if (Some t) roused = roused

passed_roused : (ts : List (Option StageContinuation)) (at j : ℕ) → IsRoused ts j
    → IsRoused (changed error_passed ts at) j
passed_roused [] at j roused = roused
passed_roused (t ∷ ts) zero zero roused = roused_if t roused
passed_roused (t ∷ ts) zero (suc j) roused = roused
passed_roused (t ∷ ts) (suc at) zero roused = roused
passed_roused (t ∷ ts) (suc at) (suc j) roused = passed_roused ts at j roused

-- the stages are driven as before
pub passed_driven : {P : Type 0} (first : ℕ) (c : ChainState P) (ts us : List (Option StageContinuation))
    (at : ℕ) (pending : List Pending) (roles : List Named) → us ≡ changed error_passed ts at
    → IsDriven first c ts pending roles → IsDriven first c us pending roles
passed_driven first c ts us at pending roles is s = rw is (record {
  len = length-changed error_passed ts at ∙ s.len;
  of_stages = passed_of_stages pending roles first at ts s.of_stages;
  cover = λ j must. passed_roused ts at j (s.cover j must);
})
