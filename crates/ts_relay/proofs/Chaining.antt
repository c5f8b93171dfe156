-- What a step of a body leaves of its chain and of what is pending.
use Rattle.std.proofs.Common.{◌≡◌, ℕ, ◌+◌, ◌≤◌, ◌⊎◌, inl, inr, List, Option, Some, true, Result, Ok, Err}
use Rattle.std.proofs.Common.{refl, sym, ap, subst, arith, ◌∙◌}
use Rattle.std.specs.Prelude.{⊤}
use Rattle.ts_journal.specs.declared.entry.TheConstants.{GREATEST}
use Rattle.ts_journal.proofs.Later.{extends_later}
use Rattle.ts_group.specs.Context.{Context, IsOrderly}
use Rattle.ts_group.specs.Entries.{Grows}
use Rattle.ts_group.specs.declared.action.SetFault.{SetFault}
use Rattle.ts_group.specs.declared.action.SetFault.TheVariants as F
use Rattle.ts_group.proofs.Grows.{grows_refl, grows_trans}
use Rattle.ts_transform.specs.Cover.{IsRousing, OnlyRouses}
use Rattle.ts_transform.specs.Flow.{ChainState, EndsInOrder, TakesAway}
use Rattle.ts_transform.specs.Driving.{AddsEvents, SetsFew, SetsOnly}
use Rattle.ts_transform.specs.declared.continuation.StageContinuation.{StageContinuation}
use Rattle.ts_transform.specs.Driven.{Gives, Loses, SameSeats, StaysDriven}
use Rattle.ts_transform.specs.declared.driven.DrivenChain.{DrivenChain}
use Rattle.ts_transform.specs.declared.loss.Loss.{Loss}
use Rattle.ts_transform.specs.declared.loss.Loss.TheVariants as L
use Rattle.ts_transform.proofs.Carrying.{takes_order}
use Rattle.ts_transform.proofs.Joined.{runs_before}
use Rattle.ts_transform.proofs.Kept.{few_refl, few_trans, keeps_refl, keeps_trans}
use Rattle.ts_transform.proofs.Setting.{named_kept, only_none, only_trans, only_weaker}
use Rattle.ts_relay.specs.Relaying.{DrivesOn, IsNotSpent, IsOfRoleFrom, OnlyOfStages, StepsChain, step_after}
use Rattle.ts_relay.specs.declared.last_writes.BodyStep.{BodyStep}
use Rattle.ts_relay.specs.declared.last_writes.BodyStep.TheVariants as S

-- ---- nothing was done

drives_still : {P : Type 0} (step : BodyStep) (d : DrivenChain P) (now : Context) → DrivesOn step d d now
drives_still S.Lacks d now = tt
drives_still _ d now = inl refl

pub chain_still : {P : Type 0} (step : BodyStep) (most : ℕ) (d : DrivenChain P) (a : Context)
    → a.log.state.held ≡ true → StepsChain step most d d a a
chain_still step most d a turn = record {
  adds = record { grows = grows_refl a; keeps = keeps_refl a turn; few = few_refl a most };
  driven = λ first h. h;
  on = drives_still step d a;
  spent = λ lacks spent. refl;
  falls = λ runs. runs;
  seats = record { same = refl; seated = λ others h. h };
  only = λ first named. only_none (IsOfRoleFrom first a.roles) a;
  ordered = λ h. h;
}

-- ---- a stage was roused, or could not be

pub drives_after : {P : Type 0} (r : Result ⊤ SetFault) (d e : DrivenChain P) (before now : Context)
    → Loses r d e before now → DrivesOn (step_after r) d e now
drives_after (Ok x) d e before now loses = inl loses.0
drives_after (Err F.Spent) d e before now loses = inr loses.2
drives_after _ d e before now loses = tt

-- used-up numbers do not lack memory
pub not_spent : {P : Type 0} (r : Result ⊤ SetFault) (d e : DrivenChain P) (a b : Context) (step : BodyStep)
    → step ≡ step_after r → Loses r d e a b → IsNotSpent step e
not_spent (Ok x) d e a b step is loses lacks spent = absurd (let wrong : S.Goes ≡ S.Lacks = sym is
    ∙ lacks in cc)
not_spent (Err F.Spent) d e a b step is loses lacks spent = absurd (let wrong : S.Goes ≡ S.Lacks = sym is
    ∙ lacks in cc)
not_spent (Err F.NoMemory) d e a b step is loses lacks spent = absurd (let wrong : ◌≡◌ {A = Option Loss}
    (Some L.NoMemory) (Some L.Spent) = sym loses.1 ∙ spent in cc)
not_spent (Err F.Dead) d e a b step is loses lacks spent = absurd (let wrong : ◌≡◌ {A = Option Loss}
    (Some L.Dead) (Some L.Spent) = sym loses.1 ∙ spent in cc)

pub goes_unspent : {P : Type 0} (e : DrivenChain P) → IsNotSpent S.Goes e
goes_unspent e lacks spent = let wrong : S.Goes ≡ S.Lacks = lacks in cc

pub lost_unspent : {P : Type 0} (loss : Loss) (e : DrivenChain P) → e.lost ≡ Some loss → (loss ≡ L.Spent → ⊥)
    → IsNotSpent S.Lacks e
lost_unspent loss e lost other lacks spent =
    let both : ◌≡◌ {A = Option Loss} (Some loss) (Some L.Spent) = sym lost ∙ spent in
    other (let same : loss ≡ L.Spent = cc in same)

-- whatever rouses a stage is of one
of_rouses : {P : Type 0} (pause : P → ℕ) (c : ChainState P) (ts : List (Option StageContinuation))
    (a b : Context) → OnlyRouses pause c ts a b → OnlyOfStages ts a b
of_rouses pause c ts a b only first named =
    only_weaker (IsRousing pause first c ts a.moment a.roles) (IsOfRoleFrom first a.roles) a b
    (λ p h. record { place = h.at; role_is = h.of_stage.role_is }) (only first named)

pub chain_after : {P Live : Type 0} (most : ℕ) (r : Result ⊤ SetFault) (d e : DrivenChain P) (a b : Context)
    → AddsEvents most Live r a b → StaysDriven d e a b → Loses r d e a b
    → SameSeats d e a b → (pause : P → ℕ) → OnlyRouses pause e.chain d.table.items a b
    → (EndsInOrder true d.chain.stages → EndsInOrder true e.chain.stages)
    → StepsChain (step_after r) most d e a b
chain_after most r d e a b adds driven loses seats pause only ordered = record {
  adds = record { grows = adds.grows; keeps = adds.keeps; few = adds.few };
  driven = driven;
  on = drives_after r d e a b loses;
  spent = λ lacks spent. absurd (not_spent r d e a b (step_after r) refl loses lacks spent);
  falls = runs_before r d e a b loses;
  seats = seats;
  only = of_rouses pause e.chain d.table.items a b only;
  ordered = ordered;
}

-- ---- one step behind another

pub grows_next : (a b : Context) → IsOrderly a → Grows a b → a.log.state.next ≤ b.log.state.next
grows_next a b orderly grows = (extends_later a.log b.log grows.log.own orderly.valid grows.log.by).next

on_then : {P : Type 0} (d e f : DrivenChain P) (b c : Context) → b.log.state.next ≤ c.log.state.next
    → (e.running ≡ d.running) ⊎ (GREATEST ≤ b.log.state.next)
    → (f.running ≡ e.running) ⊎ (GREATEST ≤ c.log.state.next) → (f.running ≡ d.running)
    ⊎ (GREATEST ≤ c.log.state.next)
on_then d e f b c later (inl on) (inl next) = inl (next ∙ on)
on_then d e f b c later (inl on) (inr spent) = inr spent
on_then d e f b c later (inr spent) next = inr (omega (arith, spent, later))

drives_then : {P : Type 0} (step : BodyStep) (d e f : DrivenChain P) (b c : Context)
    → b.log.state.next ≤ c.log.state.next → DrivesOn S.Goes d e b → DrivesOn step e f c
    → DrivesOn step d f c
drives_then S.Lacks d e f b c later on next = tt
drives_then _ d e f b c later on next = on_then d e f b c later on next

pub chain_then : {P : Type 0} (step : BodyStep) (m n : ℕ) (d e f : DrivenChain P) (a b c : Context)
    → IsOrderly b → StepsChain S.Goes m d e a b → StepsChain step n e f b c → IsNotSpent step f
    → StepsChain step (m + n) d f a c
chain_then step m n d e f a b c orderly h k unspent = record {
  adds = record {
    grows = grows_trans h.adds.grows k.adds.grows;
    keeps = keeps_trans h.adds.keeps
        k.adds.keeps;
    few = few_trans m n h.adds.few k.adds.few;
  };
  driven = λ first was. k.driven first (h.driven first was);
  on = drives_then step d e f b c (grows_next b c orderly k.adds.grows) h.on k.on;
  spent = λ lacks spent. absurd (unspent lacks spent);
  falls = λ runs. h.falls (k.falls runs);
  seats = record {
    same = k.seats.same ∙ h.seats.same;
    seated = λ others was. k.seats.seated others
        (h.seats.seated others was);
  };
  only = λ first named. only_trans (IsOfRoleFrom first a.roles) a b c (h.only first named) k.adds.keeps
      (subst (λ roles. SetsOnly (IsOfRoleFrom first roles) b c) h.adds.keeps.roles
      (k.only first (named_kept first a b d.table.items e.table.items h.adds.keeps h.seats.same named)));
  ordered = λ was. k.ordered (h.ordered was);
}

few_more : (m n : ℕ) (a b : Context) → m ≤ n → SetsFew m a b → SetsFew n a b
few_more m n a b more few = record {
  next = omega (arith, more, few.next);
  pending = omega (
    arith,
    more,
    few.pending,
  );
}

-- fewer events are no more
pub chain_more : {P : Type 0} (step : BodyStep) (m n : ℕ) (d e : DrivenChain P) (a b : Context) → m ≤ n
    → StepsChain step m d e a b → StepsChain step n d e a b
chain_more step m n d e a b more h = record {
  adds = record { grows = h.adds.grows; keeps = h.adds.keeps; few = few_more m n a b more h.adds.few };
  driven = h.driven;
  on = h.on;
  spent = h.spent;
  falls = h.falls;
  seats = h.seats;
  only = h.only;
  ordered = h.ordered;
}

-- ---- a stage ends only behind those before it

pub taken_order : {P : Type 0} (rest : P → List ℕ → List ℕ) (n : ℕ) (c d : ChainState P)
    → TakesAway rest n c d → EndsInOrder true c.stages → EndsInOrder true d.stages
taken_order rest n c d takes ordered = takes_order true c.first c.stages n d.first d.stages takes.takes
    ordered

-- where bytes came to the chain, or its end, its stages are as they were
same_order : {P : Type 0} (c d : ChainState P) → d.stages ≡ c.stages → EndsInOrder true c.stages
    → EndsInOrder true d.stages
same_order c d same ordered = subst (EndsInOrder true) (sym same) ordered

pub given_end : {P : Type 0} (c d : ChainState P) → d ≡ record c { given = true } → EndsInOrder true c.stages
    → EndsInOrder true d.stages
given_end c d is = same_order c d (ap (λ (k : ChainState _). k.stages) is)

pub given_bytes : {P : Type 0} (rest : P → List ℕ → List ℕ) (r : Result ⊤ SetFault) (part : List ℕ)
    (c d : ChainState P) → Gives r rest part c d → EndsInOrder true c.stages → EndsInOrder true d.stages
given_bytes rest (Ok x) part c d gives = same_order c d (ap (λ (k : ChainState _). k.stages) gives.chain)
given_bytes rest (Err fault) part c d (inl gives) = same_order c d (ap (λ (k : ChainState _). k.stages)
    gives.chain)
given_bytes rest (Err fault) part c d (inr (lacks, same)) = same_order c d
    (ap (λ (k : ChainState _). k.stages) same)
