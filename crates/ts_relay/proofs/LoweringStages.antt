-- An event of a stage: what the stage has done pays for the events that it set, and for those of the two ends
-- of the body.
use Rattle.std.proofs.Common.{◌≡◌, ◌⊎◌, inl, inr, ℕ, zero, suc, ◌+◌, ◌*◌, ◌≤◌, List, [], ◌∷◌, length, Bool}
use Rattle.std.proofs.Common.{true, false, arith, refl, sym, ap, subst, ◌∙◌}
use Rattle.std.proofs.Math.Nat.{le_of_eq}
use Rattle.std.specs.Prelude.{Option}
use Rattle.ts_group.specs.Context.{Context}
use Rattle.ts_journal.specs.declared.entry.Event.{Event}
use Rattle.ts_journal.specs.declared.entry.Event.TheVariants.{Error}
use Rattle.ts_transform.specs.Acting.{ActsAt, StillGives}
use Rattle.ts_transform.specs.Driving.{upstream_calls, may_pass_error_at}
use Rattle.ts_transform.specs.Flow.{AnswersAt, ChainState, IsBefore, PumpsOnce, StepsAt, done_at, ended_at}
use Rattle.ts_transform.specs.Flow.{left_to_do}
use Rattle.ts_transform.specs.Stage.{Steps, cuts}
use Rattle.ts_transform.specs.declared.continuation.StageContinuation.{StageContinuation}
use Rattle.ts_transform.specs.declared.pump.Pumped.{Pumped}
use Rattle.ts_transform.specs.declared.pump.Pumped.TheVariants.{Moved, Ended}
use Rattle.ts_transform.specs.declared.pump.Part.{Part}
use Rattle.ts_transform.specs.declared.pump.Stage.{Stage}
use Rattle.ts_config.specs.declared.setup.Setup.{Setup}
use Rattle.ts_transform.proofs.Acting.{nothing_more}
use Rattle.ts_transform.proofs.Covering.{moved-some}
use Rattle.ts_transform.proofs.Moving.{stepped-less}
use Rattle.ts_transform.proofs.PassedErrors.{calls_same, gone_fewer, passed_less, passed_same}
use Rattle.ts_relay.specs.LoweringBody.{IsOfLines}
use Rattle.ts_passing.proofs.InsertedStages.{pumped_lines}

-- ---- a stage worked, or the chain is as it was

stage_same : {P : Type 0} (s s' : Stage P) → s'.part ≡ s.part → s'.after ≡ s.after → s' ≡ s
stage_same {P} s s' part behind =
    ap (λ (p : Option (Part P)). record { part = p; after = s'.after }) part ∙ ap (λ (xs : List ℕ).
    record { part = s.part; after = xs }) behind

stages_same : {P : Type 0} (s s' : Stage P) (ss ss' : List (Stage P)) → s' ≡ s → ss' ≡ ss
    → ◌≡◌ {A = List (Stage P)} (s' ∷ ss') (s ∷ ss)
stages_same {P} s s' ss ss' one others = ap (λ (x : Stage P). x ∷ ss') one ∙ ap (λ (xs : List (Stage P)). s
    ∷ xs) others

-- a step drops no stage
still_some : {P : Type 0} (rest : P → List ℕ → List ℕ) (from : List ℕ) (s : Stage P) (ss : List (Stage P))
    (at : ℕ) (r : Pumped) (from' : List ℕ) → StepsAt rest from (s ∷ ss) at r from' [] → ⊥
still_some rest from s ss zero r from' steps = steps
still_some rest from s ss (suc at) r from' steps = steps

-- a step that leaves its stage, and cuts off none before it, leaves the chain
stepped_rests : {P : Type 0} (rest : P → List ℕ → List ℕ) (r : Pumped)
    → ((s s' : Stage P) (from from' : List ℕ) → Steps rest from s r from' s' → (from' ≡ from) × (s' ≡ s))
    → ((done : Bool) → cuts r done ≡ false)
    → (from : List ℕ) (ss : List (Stage P)) (at : ℕ) (from' : List ℕ) (ss' : List (Stage P))
    → StepsAt rest from ss at r from' ss' → (from' ≡ from) × (ss' ≡ ss)
stepped_rests rest r still keeps from [] at from' ss' steps = absurd steps
stepped_rests rest r still keeps from (s ∷ ss) at from' [] steps = absurd (still_some rest from s ss at r
    from'
    steps)
stepped_rests rest r still keeps from (s ∷ ss) zero from' (s' ∷ ss') steps =
    let one = still s s' from from' steps.0 in
    (one.0, stages_same s s' ss ss' one.1 steps.1)
stepped_rests rest r still keeps from (s ∷ ss) (suc at) from' (s' ∷ ss') steps =
    let behind = stepped_rests rest r still keeps s.after ss at s'.after ss' steps.1 in
    let before : (from' ≡ from) × (s'.part ≡ s.part) =
    subst (λ b. IsBefore b from s from' s') (keeps (done_at ss at)) steps.0 in
    (before.0, stages_same s s' ss ss' (stage_same s s' before.1 behind.0) behind.1)

chain_same : {P : Type 0} (c d : ChainState P) → d.first ≡ c.first → d.stages ≡ c.stages → d.given ≡ c.given
    → d ≡ c
chain_same {P} c d first stages given =
    ap (λ (xs : List ℕ). record { first = xs; stages = d.stages; given = d.given }) first
    ∙ ap (λ (ss : List (Stage P)). record { first = c.first; stages = ss; given = d.given }) stages
    ∙ ap (λ (g : Bool). record { first = c.first; stages = c.stages; given = g }) given

-- what fell, fell by one at least
one_less : (a b n : ℕ) → a + n ≤ b → 1 ≤ n → a + 1 ≤ b
one_less a b n sum some = omega (arith, sum, some)

module _ {P : Type 0} (rest : P → List ℕ → List ℕ) (c d : ChainState P) where
  abbrev pub WorksOrStays : Type 0
  WorksOrStays = (d ≡ c) ⊎ (left_to_do rest d [] + 1 ≤ left_to_do rest c [])

  -- each answer of a stage's work
  pumped_works : (at : ℕ) (r : Pumped) → AnswersAt c.given c.first c.stages at r
      → StepsAt rest c.first c.stages at r d.first d.stages → d.given ≡ c.given → WorksOrStays
  pumped_works at (Moved n) answers steps given =
      inr (one_less (left_to_do rest d []) (left_to_do rest c []) n (stepped-less rest c.given c.first
      c.stages at (Moved n) d.first d.stages answers steps [] (nothing_more c.given))
      (moved-some c.given c.first c.stages at n answers))
  pumped_works at Ended answers steps given =
      inr (one_less (left_to_do rest d []) (left_to_do rest c []) 1 (stepped-less rest c.given c.first
      c.stages at Ended d.first d.stages answers steps [] (nothing_more c.given)) (omega arith))
  pumped_works at r answers steps given =
      let same = stepped_rests rest r (λ s s' from from' h. (h.0, h.1)) (λ done. refl) c.first c.stages at
      d.first d.stages steps in
      inl (chain_same c d same.0 same.1 given)

  pub once_works : PumpsOnce rest c d → WorksOrStays
  once_works (inl same) = inl same
  once_works (inr (at, p)) = pumped_works at p.pumped p.answers p.steps p.given

-- ---- no more calls are to be made upstream

less_one : (m n : ℕ) → m + 1 ≡ n → m ≤ n
less_one m n more = omega (arith, more)

module _ {P : Type 0} (rest : P → List ℕ → List ℕ) (pause : P → ℕ) (at : ℕ) (c d : ChainState P)
    (ts vs us : List (Option StageContinuation)) (was now : Bool) (a b : Context) where
  acts_calls : (event : Event) → ActsAt rest pause at event c d ts vs us was now a b → (ended may : Bool)
      → ended_at c.stages at ≡ ended → may_pass_error_at ts at ≡ may
      → upstream_calls us ≤ upstream_calls ts
  acts_calls event acts true may is passes = gone_fewer ts us at (acts.closed is).1
  acts_calls Error acts false true is passes = less_one (upstream_calls us) (upstream_calls ts)
      (passed_less ts us at (acts.error_passed refl is) passes)
  acts_calls Error acts false false is passes = le_of_eq (passed_same ts us at (acts.error_passed refl is)
      passes)
  acts_calls event acts false may is passes = le_of_eq (calls_same ts us
      (acts.same (λ e. absurd (let wrong : event ≡ Error = e in cc)) is))

  pub calls_fall : (event : Event) → ActsAt rest pause at event c d ts vs us was now a b
      → upstream_calls us ≤ upstream_calls ts
  calls_fall event acts = acts_calls event acts (ended_at c.stages at) (may_pass_error_at ts at) refl refl

-- ---- what the stage did, or nothing changed and no event was set

still_sum : (l l' e e' p p' : ℕ) → l' ≡ l → e' ≤ e → 100 * (l' + e') + p' ≤ 100 * (l + e) + p
    → (l' + e' + 1 ≤ l + e) ⊎ ((l' ≡ l) × (e' ≡ e) × (p' ≤ p))
still_sum l l' e e' p p' same fewer pays = by_calls (le_split e' e fewer)
  where
    le_split : (m n : ℕ) → m ≤ n → (m + 1 ≤ n) ⊎ (m ≡ n)
    le_split zero zero less = inr refl
    le_split zero (suc n) less = inl (omega arith)
    le_split (suc m) zero less = absurd (omega (arith, less))
    le_split (suc m) (suc n) less = by_next (le_split m n (omega (arith, less)))
      where
        by_next : (m + 1 ≤ n) ⊎ (m ≡ n) → (suc m + 1 ≤ suc n) ⊎ (suc m ≡ suc n)
        by_next (inl h) = inl (omega (arith, h))
        by_next (inr h) = inr (ap suc h)

    by_calls : (e' + 1 ≤ e) ⊎ (e' ≡ e) → (l' + e' + 1 ≤ l + e) ⊎ ((l' ≡ l) × (e' ≡ e) × (p' ≤ p))
    by_calls (inl h) = inl (omega (arith, same, h))
    by_calls (inr h) = inr (same, h, omega (arith, same, h, pays))

module _ {P : Type 0} (rest : P → List ℕ → List ℕ) (c d : ChainState P)
    (ts us : List (Option StageContinuation)) (a b : Context) where
  -- the chain has less to do, with the calls that may be made; or nothing changed that an end could see
  abbrev pub StageDid : Type 0
  StageDid = (left_to_do rest d [] + upstream_calls us + 1 ≤ left_to_do rest c [] + upstream_calls ts)
      ⊎ ((d ≡ c) × (upstream_calls us ≡ upstream_calls ts) × (length b.log.state.pending ≤ length
      a.log.state.pending))

  more_done : (l l' e e' : ℕ) → l' + 1 ≤ l → e' ≤ e → l' + e' + 1 ≤ l + e
  more_done l l' e e' less fewer = omega (arith, less, fewer)

  pub stage_did : (soon : P → List ℕ → Option (List ℕ)) → StillGives rest soon c d ts us a b → upstream_calls
      us ≤ upstream_calls ts → StageDid
  stage_did soon gives fewer = by_work (once_works rest c d gives.once)
    where
      by_still : d ≡ c → (left_to_do rest d [] + upstream_calls us + 1 ≤ left_to_do rest c [] + upstream_calls
          ts)
          ⊎ ((left_to_do rest d [] ≡ left_to_do rest c []) × (upstream_calls us ≡ upstream_calls ts)
          × (length b.log.state.pending ≤ length a.log.state.pending)) → StageDid
      by_still same (inl less) = inl less
      by_still same (inr still) = inr (same, still.1, still.2)

      by_work : WorksOrStays rest c d → StageDid
      by_work (inr less) = inl (more_done (left_to_do rest c []) (left_to_do rest d []) (upstream_calls ts)
          (upstream_calls us) less fewer)
      by_work (inl same) = by_still same (still_sum (left_to_do rest c []) (left_to_do rest d [])
          (upstream_calls ts) (upstream_calls us) (length a.log.state.pending) (length b.log.state.pending)
          (ap (λ (x : ChainState P). left_to_do rest x []) same) fewer (gives.pays [] (nothing_more c.given)))

-- ---- the chain stays one of the configuration's

pub handled_lines : {P : Type 0} (setup : Setup) (rest : P → List ℕ → List ℕ) (c d : ChainState P)
    → PumpsOnce rest c d → IsOfLines setup rest c → IsOfLines setup rest d
handled_lines {P} setup rest c d (inl same) of = subst (λ (x : ChainState P). IsOfLines setup rest x)
    (sym same) of
handled_lines setup rest c d (inr (at, p)) of = pumped_lines setup.transforms.items rest at c d p (stepped_len rest p.pumped
    c.first c.stages at d.first d.stages p.steps) of
  where
    stepped_len : {P : Type 0} (rest : P → List ℕ → List ℕ) (r : Pumped) (from : List ℕ) (ss : List (Stage P))
        (at : ℕ) (from' : List ℕ) (ss' : List (Stage P)) → StepsAt rest from ss at r from' ss'
        → length ss' ≡ length ss
    stepped_len rest r from [] at from' ss' steps = absurd steps
    stepped_len rest r from (s ∷ ss) at from' [] steps = absurd (still_some rest from s ss at r from' steps)
    stepped_len {P} rest r from (s ∷ ss) zero from' (s' ∷ ss') steps = let same : length ss' ≡ length ss =
        ap length steps.1 in omega (arith, same)
    stepped_len rest r from (s ∷ ss) (suc at) from' (s' ∷ ss') steps = let behind : length ss' ≡ length ss =
        stepped_len rest r s.after ss at s'.after ss' steps.1 in omega (arith, behind)
