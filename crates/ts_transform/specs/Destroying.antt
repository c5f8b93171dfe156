-- What is left where the continuations of stages were destroyed.
use Rattle.std.specs.Prelude.{◌≡◌, ℕ, ◌+◌, ◌<◌, ◌≤◌, ◌⊎◌, List, length, Option, Some}
use Rattle.ts_journal.specs.declared.entry.Pending.{Pending}
use Rattle.ts_journal.specs.State.{pending_at}
use Rattle.ts_group.specs.Context.{Context}
use Rattle.ts_group.specs.Changes.{IsLess}
use Rattle.ts_transform.specs.Driving.{AreNamed, HasLiveIf, IsNamedIf, IsOfStageIf, Lessens}
use Rattle.ts_transform.specs.Seats.{HasKey}
use Rattle.ts_transform.specs.declared.continuation.StageContinuation.{StageContinuation}

-- A continuation keeps its role, its event, and its life.
pub record KeepsOwn (role : ℕ) (t : Option StageContinuation) (a b : Context) : Type 0 where
  pub named : IsNamedIf b.roles role t
  pub of_stage : IsOfStageIf a.log.state.pending a.roles role t
      → IsOfStageIf b.log.state.pending b.roles role t
  pub live : HasLiveIf a.log.state.live t → HasLiveIf b.log.state.live t

-- So does each of a role outside those of the stages, which have the roles from the first on.
abbrev pub KeepsOutside : ℕ → List (Option StageContinuation) → Context → Context → Type 0
KeepsOutside first ts a b = AreNamed a.roles first ts → (role : ℕ) (t : Option StageContinuation)
    → (role < first) ⊎ (first + length ts ≤ role) → IsNamedIf a.roles role t → KeepsOwn role t a b

-- The continuations were destroyed: nothing was set, of what was pending all is left but their events, and
-- all others keep what they have.
pub record Clears (ts : List (Option StageContinuation)) (a b : Context) : Type 0 where
  pub lessens : Lessens a b
  pub less : IsLess a.log.state b.log.state
  pub none : (n : ℕ) (p : Pending) → pending_at n b.log.state.pending ≡ Some p → HasKey ts p.key → ⊥
  pub stays : (n : ℕ) (p : Pending) → pending_at n a.log.state.pending ≡ Some p → (HasKey ts p.key → ⊥)
      → pending_at n b.log.state.pending ≡ Some p
  pub others : (first : ℕ) → KeepsOutside first ts a b
