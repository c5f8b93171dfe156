-- A chain's world as it begins.
use Rattle.std.proofs.Common.{◌≡◌, ◌<◌, ℕ, zero, suc, ◌+◌, List, [], ◌∷◌, ◌++◌, Bool, true, false, Option, Some, None, length, arith, sym, ap, ◌∙◌}
use Rattle.ts_journal.specs.State.{State, pending_at}
use Rattle.ts_group.specs.Context.{Context, role_at}
use Rattle.ts_group.specs.Changes.{SameEvents, KeepsKeys}
use Rattle.ts_transform.specs.declared.continuation.StageContinuation.{StageContinuation}
use Rattle.ts_transform.specs.declared.pump.Stage.{Stage}
use Rattle.ts_transform.specs.Stage.{has_ended}
use Rattle.ts_transform.specs.Flow.{ChainState, MustPump, MustWork}
use Rattle.ts_transform.specs.Driving.{IsOfStageIf, AreOfStages, IsRoused}
use Rattle.ts_transform.specs.Cover.{IsDriven}

pub same_events_trans : (a b c : State) → SameEvents a b → SameEvents b c → SameEvents a c
same_events_trans a b c h k = record { pending = k.pending ∙ h.pending; next = k.next ∙ h.next }

pub keys_trans : (a b c : Context) → KeepsKeys a.log.state b.log.state a.roles b.roles
    → KeepsKeys b.log.state c.log.state b.roles c.roles → KeepsKeys a.log.state c.log.state a.roles c.roles
keys_trans a b c h k = record {
  live = λ key was. k.live key (h.live key was);
  roles = λ i role was. k.roles i
      role (h.roles i role was);
}

-- a continuation was made, and those that were there keep their roles and their events
pub made_if : (a b : Context) → SameEvents a.log.state b.log.state
    → KeepsKeys a.log.state b.log.state a.roles b.roles → (role : ℕ) (t : Option StageContinuation)
    → IsOfStageIf a.log.state.pending a.roles role t → IsOfStageIf b.log.state.pending b.roles role t
made_if a b events keys role None h = tt
made_if a b events keys role (Some t) h = record {
  named = keys.roles t.key.index role h.named;
  event = λ roused. let e = h.event roused in
      record {
        event = e.event;
        there = ap (pending_at e.event.number) events.pending ∙ e.there;
        of_key =
            e.of_key;
        works = e.works;
      };
}

-- the new one stands behind them
pub made_all : (a b : Context) → SameEvents a.log.state b.log.state
    → KeepsKeys a.log.state b.log.state a.roles b.roles
    → (role : ℕ) (ts : List (Option StageContinuation)) (t : StageContinuation)
    → role_at t.key.index b.roles ≡ Some (role + length ts) → t.roused ≡ false
    → AreOfStages a.log.state.pending a.roles role ts
    → AreOfStages b.log.state.pending b.roles role (ts ++ Some t ∷ [])
made_all a b events keys role [] t named same h = (
  record {
    named = named ∙ ap Some (omega arith);
    event = λ roused. absurd (let wrong : true ≡ false = sym roused ∙ same in cc);
  },
  tt,
)
made_all a b events keys role (u ∷ ts) t named same (here, others) = (
  made_if a b events keys role u here,
  made_all a b events keys (role + 1) ts t
      (named ∙ ap Some (omega arith)) same others,
)

-- a stage that must work is one of the chain's
must-within : {P : Type 0} (up : Bool) (from : List ℕ) (ss : List (Stage P)) (at : ℕ) → MustPump up from ss at
    → at < length ss
must-within up from [] at must = absurd must
must-within up from (s ∷ ss) zero must = omega arith
must-within up from (s ∷ ss) (suc at) must = omega (arith, must-within (has_ended s) s.after ss at must)

-- where each stage of the chain is roused that must work, all are driven
pub begun : {P : Type 0} (first : ℕ) (a : Context) (c : ChainState P) (ts : List (Option StageContinuation))
    → length ts ≡ length c.stages → AreOfStages a.log.state.pending a.roles first ts
    → ((j : ℕ) → j < length c.stages → MustWork c j → IsRoused ts j)
    → IsDriven first c ts a.log.state.pending a.roles
begun first a c ts len of_stages ready = record {
  len = len;
  of_stages = of_stages;
  cover = λ j must. ready j (must-within c.given c.first c.stages j must) must;
}
