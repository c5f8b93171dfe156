-- Where the step of a phase leads: a transaction goes on, or has ended, and behind a step at most one
-- event is set (Developer's Guide, "Continuations" and "Actions and Events").
use Rattle.std.specs.Prelude.{◌≡◌, ℕ, Bool, true, false, ⊤}
use Rattle.ts_phases.specs.declared.phase.Phase.{Phase}
use Rattle.ts_phases.specs.declared.phase.Phase.TheVariants as P
use Rattle.ts_phases.specs.declared.phase.Next.{Next}
use Rattle.ts_phases.specs.declared.phase.Next.TheVariants as N
use Rattle.ts_phases.specs.declared.phase.Step.{Step}

-- the transaction was not started
abbrev pub is_fresh : Phase → Bool
is_fresh P.Fresh = true
is_fresh _ = false

abbrev pub is_ended : Phase → Bool
is_ended (P.Ended end) = true
is_ended _ = false

-- the transaction was started and has not ended
abbrev pub Proceeds : Phase → Type 0
Proceeds P.Fresh = ⊥
Proceeds (P.Ended end) = ⊥
Proceeds _ = ⊤

-- what a step answers: the transaction goes on where a next step is made, and else it has ended
abbrev pub StepsTo : Next → Phase → Type 0
StepsTo N.Go phase = Proceeds phase
StepsTo N.Wait phase = Proceeds phase
StepsTo N.Done phase = is_ended phase ≡ true

abbrev pub StepLeads : Step → Type 0
StepLeads s = StepsTo s.next s.phase

-- how many events are set at most behind the step of a phase
abbrev pub set_after : Next → ℕ
set_after N.Done = 0
set_after next = 1
