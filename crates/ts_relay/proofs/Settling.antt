-- What holds of each step of a body, and of the answer that the step is settled as.
use Rattle.std.proofs.Common.{Result, Err, sym, subst}
use Rattle.std.specs.Prelude.{⊤}
use Rattle.ts_group.specs.declared.action.SetFault.{SetFault}
use Rattle.ts_group.specs.declared.action.SetFault.TheVariants as F
use Rattle.ts_relay.specs.Duties.{SettledAs, UnlessLacking, WhileGoes}
use Rattle.ts_relay.specs.Feeding.{OnGoes}
use Rattle.ts_relay.specs.Relaying.{step_after}
use Rattle.ts_relay.specs.declared.last_writes.BodyStep.{BodyStep}
use Rattle.ts_relay.specs.declared.last_writes.BodyStep.TheVariants as S

pub unless_lacking : (X : Type 0) (step : BodyStep) → X → UnlessLacking step X
unless_lacking X S.Lacks h = tt
unless_lacking X _ h = h

pub only_goes : (X : Type 0) (step : BodyStep) → OnGoes step X → OnGoes step ⊤
only_goes X S.Goes goes = tt
only_goes X S.Lacks goes = tt
only_goes X _ goes = absurd goes

pub on_then : (X : Type 0) (step : BodyStep) → OnGoes step ⊤ → X → OnGoes step X
on_then X S.Goes on h = h
on_then X S.Lacks on h = tt
on_then X _ on h = absurd on

pub while_on : (X : Type 0) (step : BodyStep) → OnGoes step X → WhileGoes step X
while_on X S.Goes h = h
while_on X S.Waits h = absurd h
while_on X _ h = tt

pub while_then : (X Y : Type 0) (step : BodyStep) → (X → Y) → WhileGoes step X → WhileGoes step Y
while_then X Y S.Goes next h = next h
while_then X Y S.Waits next h = next h
while_then X Y _ next h = tt

-- a step that asks for no more than an event goes on, or lacks memory
pub goes_after : (answer : Result ⊤ SetFault) → OnGoes (step_after answer) ⊤
goes_after (Err F.Spent) = tt
goes_after _ = tt

-- what holds of a step holds of what it is settled as, if it holds of a body that goes on and of one that
-- lacks memory
pub settled_has : (T : BodyStep → Type 0) → (T S.Waits → T S.Goes) → (T S.Goes → T S.Lacks)
    → (step result : BodyStep) → SettledAs step result → T step → T result
settled_has T goes lacks S.Goes S.Goes settled h = h
settled_has T goes lacks S.Goes S.Lacks settled h = lacks h
settled_has T goes lacks S.Goes _ settled h = absurd settled
settled_has T goes lacks S.Waits S.Goes settled h = goes h
settled_has T goes lacks S.Waits S.Lacks settled h = lacks (goes h)
settled_has T goes lacks S.Waits _ settled h = absurd settled
settled_has T goes lacks _ result settled h = subst T (sym settled) h

pub settled_while : (X : Type 0) (step result : BodyStep) → SettledAs step result → WhileGoes step X
    → WhileGoes result X
settled_while X = settled_has (λ x. WhileGoes x X) (λ h. h) (λ h. tt)
