-- What is left of a driven chain when one of its stages acted, when bytes came to it, and when bytes were
-- taken from it.
use Rattle.std.proofs.Common.{◌≡◌, ◌≢◌, ◌+◌, ◌++◌, ◌⊎◌, inl, inr, ℕ, zero, suc, List, [], ◌∷◌, Bool, true, false, length, take, drop, eqb, Option, Result, Ok, Err, sym, ap, subst, ◌∙◌}
use Rattle.std.proofs.lemmas.Bool.Decides.{eqb_tells}
use Rattle.ts_journal.specs.declared.entry.Event.{Event}
use Rattle.ts_group.specs.declared.action.SetFault.{SetFault}
use Rattle.ts_group.specs.declared.action.SetFault.TheVariants as F
use Rattle.ts_group.specs.Context.{Context}
use Rattle.ts_transform.specs.declared.continuation.StageContinuation.{StageContinuation}
use Rattle.ts_transform.specs.declared.driven.DrivenChain.{DrivenChain}
use Rattle.ts_transform.specs.declared.pump.Stage.{Stage}
use Rattle.ts_transform.specs.Flow.{ChainState, MustPump, MustWork, Takes}
use Rattle.ts_transform.specs.Driving.{IsCause, IsRoused, KeepsStages, unroused_at}
use Rattle.ts_transform.specs.Cover.{AreAllLive, IsDriven}
use Rattle.ts_transform.specs.Acting.{ActsAt, StillGives}
use Rattle.ts_transform.specs.Loss.{IsCauseOf, loss_of}
use Rattle.ts_transform.specs.Driven.{HasAllLive, Loses, MayLose}
use Rattle.ts_transform.specs.World.{GoesOnWith}
use Rattle.ts_transform.specs.declared.world.ChainWorld.{ChainWorld}
use Rattle.ts_transform.proofs.Acting.{acts_run, nothing_more}
use Rattle.ts_transform.proofs.Carrying.{pumped_len}
use Rattle.ts_transform.proofs.Kept.{cause_weaker}
use Rattle.ts_lists.proofs.Fronts.{taken_table}
use Rattle.ts_transform.proofs.Taking.{takes-len, takes-others}

-- a stage acted, whose place its role tells
pub acts_in : {P : Type 0} (rest : P → List ℕ → List ℕ) (pause : P → ℕ) (place at : ℕ) (event : Event)
    (c d : ChainState P) (ts xs us : List (Option StageContinuation)) (n : ℕ) (ok was now : Bool)
    (a b : Context)
    → place ≡ at → ts ≡ xs → n ≡ length ts → (now ≡ true → ok ≡ true) → (ok ≡ true → now ≡ was)
    → ActsAt rest pause place event c d ts (unroused_at event ts place) us true ok a b
    → ActsAt rest pause at event c d xs (unroused_at event xs at) (take n (us ++ drop (length us) xs)) was now
    a b
acts_in rest pause place at event c d ts xs us n ok was now a b here same len then as_was h =
    taken_table (λ vs. ActsAt rest pause at event c d xs (unroused_at event xs at) vs was now a b) n us xs
    (h.len ∙ sym len)
    (subst (λ vs. ActsAt rest pause at event c d vs (unroused_at event vs at) us was now a b) same
    (subst (λ j. ActsAt rest pause j event c d ts (unroused_at event ts j) us was now a b) here
    (acts_run rest pause place event c d ts (unroused_at event ts place) us ok was now a b then as_was h)))

-- a world of one chain goes on with its body
pub goes_on_with : {P : Type 0} (rest : P → List ℕ → List ℕ) (soon : P → List ℕ → Option (List ℕ))
    (v w : ChainWorld P) (a b : Context)
    → StillGives rest soon v.driven.chain w.driven.chain v.driven.table.items w.driven.table.items a b
    → GoesOnWith rest v w a b
goes_on_with rest soon v w a b h = record {
  once = h.once;
  len = pumped_len rest v.driven.chain w.driven.chain h.once;
  flow = h.flows.flow [] (nothing_more v.driven.chain.given);
  pays = h.pays [] (nothing_more v.driven.chain.given);
}

-- the cause of a fault is that of the loss
pub loss_cause : (Live : Type 0) (fault : SetFault) (now : Context) → IsCause Live fault now
    → IsCauseOf Live (loss_of fault) now
loss_cause Live F.NoMemory now cause = tt
loss_cause Live F.Dead now cause = cause
loss_cause Live F.Spent now cause = cause

pub may_lose : {P T : Type 0} (r : Result T SetFault) (d e : DrivenChain P) (a b : Context) → Loses r d e a b
    → MayLose (HasAllLive d a) d e b
may_lose (Ok x) d e a b loses = inl loses
may_lose (Err fault) d e a b (lost, why, cause) = inr (fault, lost, why, cause)

-- what was found is what was found before its chain changed
pub loses_found : {P T : Type 0} (r : Result T SetFault) (d e : DrivenChain P) (c : ChainState P)
    (a b : Context) → (HasAllLive d a → AreAllLive c d.table.items a) → Loses r (record d { chain = c }) e a b
    → Loses r d e a b
loses_found (Ok x) d e c a b found loses = loses
loses_found (Err fault) d e c a b found (lost, why, cause) = (lost, why, cause_weaker fault b found cause)

-- whether a stage behind the first must work does not depend on what comes to the first
must-behind : {P : Type 0} (up up' : Bool) (from from' : List ℕ) (ss : List (Stage P)) (j : ℕ)
    → MustPump up from ss (suc j) → MustPump up' from' ss (suc j)
must-behind up up' from from' [] j must = must
must-behind up up' from from' (s ∷ ss) j must = must

-- more came to a driven chain, and its first stage was roused
pub fed : {P : Type 0} (first : ℕ) (c d : ChainState P) (ts us : List (Option StageContinuation))
    (a b : Context) → c.stages ≡ d.stages → KeepsStages a b ts us → (MustWork d 0 → IsRoused us 0)
    → IsDriven first c ts a.log.state.pending a.roles → IsDriven first d us b.log.state.pending b.roles
fed {P} first c d ts us a b same stages ready h = record {
  len = stages.len ∙ h.len ∙ ap length same;
  of_stages = stages.of_stages first h.of_stages;
  cover = cover;
}
  where
    cover : (j : ℕ) → MustWork d j → IsRoused us j
    cover zero must = ready must
    cover (suc j) must = stages.still (suc j) (h.cover (suc j)
        (must-behind d.given c.given d.first c.first c.stages j
        (subst (λ ss. MustPump d.given d.first ss (suc j)) (sym same) must)))

-- bytes were taken from a driven chain, and its last stage was roused
pub drained : {P : Type 0} (first n : ℕ) (c d : ChainState P) (ts us : List (Option StageContinuation))
    (a b : Context) → Takes c.first c.stages n d.first d.stages → d.given ≡ c.given → KeepsStages a b ts us
    → ((j : ℕ) → j + 1 ≡ length d.stages → MustWork d j → IsRoused us j)
    → IsDriven first c ts a.log.state.pending a.roles → IsDriven first d us b.log.state.pending b.roles
drained {P} first n c d ts us a b takes given stages ready h = record
    { len = stages.len ∙ h.len ∙ sym as_many; of_stages = stages.of_stages first h.of_stages; cover = cover }
  where
    as_many : length d.stages ≡ length c.stages
    as_many = takes-len c.first c.stages n d.first d.stages takes

    cover : (j : ℕ) → MustWork d j → IsRoused us j
    cover j must = by_place (eqb_tells (j + 1) (length d.stages))
      where
        by_place : ((eqb (j + 1) (length d.stages) ≡ true) × (j + 1 ≡ length d.stages)) ⊎
            ((eqb (j + 1) (length d.stages) ≡ false) × (j + 1 ≢ length d.stages)) → IsRoused us j
        by_place (inl (t, last)) = ready j last must
        by_place (inr (t, other)) = stages.still j
            (h.cover j (takes-others c.given c.first c.stages n d.first d.stages takes j
            (λ last. other (last ∙ sym as_many)) (subst (λ b. MustPump b d.first d.stages j) given must)))
