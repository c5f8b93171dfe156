-- What the handler of a stage does.
use Rattle.std.specs.Prelude.{◌≡◌, ℕ, ◌+◌, ◌*◌, ◌<◌, ◌≤◌, ◌⊎◌, List, [], length, Bool, true, false, Option, Result, IfErr, is_ok}
use Rattle.std.specs.Bool.{OnTrue}
use Rattle.ts_journal.specs.declared.entry.Event.{Event}
use Rattle.ts_journal.specs.declared.entry.Event.TheVariants.{Error, WriteComplete}
use Rattle.ts_journal.specs.declared.entry.Pending.{Pending}
use Rattle.ts_group.specs.declared.action.SetFault.{SetFault}
use Rattle.ts_group.specs.Context.{Context}
use Rattle.ts_transform.specs.Flow.{ChainState, KeepsFlow, MayPump, MustWork, PumpsOnce, ended_at, left_to_do}
use Rattle.ts_transform.specs.Driving.{AreNamed, HasNobodyToTell, IsCause, IsClosed, IsHandled, IsToldBefore, Keeps, SetsFew, all_unroused, changed, error_passed, gone, is_there_at, may_pass_error_at, upstream_calls, works_at}
use Rattle.ts_transform.specs.Cover.{AreAllLive, CallsBefore, IsDriven, IsDrivenFor, OnlySets}
use Rattle.ts_transform.specs.Seats.{KeepsSeated}
use Rattle.ts_transform.specs.declared.continuation.StageContinuation.{StageContinuation}

-- there is a stage at the place, and each stage has a continuation or had one
pub record IsStage {P : Type 0} (c : ChainState P) (ts : List (Option StageContinuation))
    (at : ℕ) : Type 0 where
  pub within : at < length ts
  pub len : length ts ≡ length c.stages

-- the stage at a place tells nobody that it had ended: it had not, or it has nobody to tell
abbrev pub TellsNobody : {P : Type 0} → ChainState P → List (Option StageContinuation) → ℕ → Type 0
TellsNobody c ts at = ended_at c.stages at ≡ true → HasNobodyToTell ts at

-- the stage at a place had ended and tells nobody so, or its event is one at which it has nothing to do: it
-- is told that its output has ended, or of an error after another, or it need not work
abbrev pub HasNothingToDo : {P : Type 0} → Event → ChainState P → List (Option StageContinuation) → ℕ → Type 0
HasNothingToDo event c ts at = TellsNobody c ts at × ((ended_at c.stages at ≡ true) ⊎ (event ≡ WriteComplete)
    ⊎ ((event ≡ Error) × (may_pass_error_at ts at ≡ false))
    ⊎ ((works_at event ≡ true) × (MustWork c at → ⊥)))

-- each thing that is left to do counts as so many events, which is more than are set where it is done
abbrev pub step_weight : ℕ
step_weight = 100

-- What the handler of the stage at a place does at an event: the chain and the continuations were c and ts,
-- and are d and us, and vs are those of ts once the event was handled; whether nothing was lost before, and
-- now.
pub record ActsAt {P : Type 0} (rest : P → List ℕ → List ℕ) (pause : P → ℕ) (at : ℕ) (event : Event)
    (c d : ChainState P) (ts vs us : List (Option StageContinuation)) (was now : Bool)
    (a b : Context) : Type 0 where
  -- of the stages only its own works, by one pump, and only at an event for that
  pub own : MayPump rest at c d
  pub idle : works_at event ≡ false → d ≡ c
  pub still : (MustWork c at → ⊥) → d ≡ c
  pub only : OnlySets pause c d vs at event a b
  -- where it had ended, its continuation is destroyed, and no stage works
  pub closed : ended_at c.stages at ≡ true → IsClosed a b ts at × (us ≡ changed gone ts at) × (d ≡ c)
  -- While nothing was lost: where it ends, the stage before it is told so, and where it finds itself ended,
  -- if it still has its continuation; where it did something, that stage is called if it must work, was not
  -- roused, and makes no pause; and the first time that it gets an error, it passes that on.
  pub ended : now ≡ true → ended_at c.stages at ≡ false → ended_at d.stages at ≡ true
      → IsToldBefore b.log.state.pending WriteComplete us at
  pub told : now ≡ true → ended_at c.stages at ≡ true → is_there_at ts at ≡ true → (first : ℕ)
      → AreNamed a.roles first ts → IsToldBefore b.log.state.pending WriteComplete us at
  pub ready : now ≡ true → (d ≡ c → ⊥) → CallsBefore pause d ts us b.log.state.pending at
  pub passed : now ≡ true → event ≡ Error → ended_at c.stages at ≡ false → may_pass_error_at ts at ≡ true
      → IsToldBefore b.log.state.pending Error us at
  pub error_passed : event ≡ Error → ended_at c.stages at ≡ false → us ≡ changed error_passed ts at
  pub quiet : event ≡ Error → may_pass_error_at ts at ≡ false → TellsNobody c ts at → SetsFew 0 a b
  -- at any other event no continuation changes but for who is roused; and where the chain is as it was, no
  -- event is added, unless it tells that it had ended
  pub same : (event ≡ Error → ⊥) → ended_at c.stages at ≡ false → all_unroused us ≡ all_unroused ts
  pub rests : (event ≡ Error → ⊥) → TellsNobody c ts at → d ≡ c
      → length b.log.state.pending ≤ length a.log.state.pending
  pub len : length us ≡ length ts
  -- nothing is lost where it has nothing to do
  pub sure : HasNothingToDo event c ts at → now ≡ was

-- A stage works by one pump at most, the flow stays, and what is left to do falls enough to pay for the
-- events that are set: whatever still comes while the end was not given, and for nothing more from then on.
pub record Pumps {P : Type 0} (rest : P → List ℕ → List ℕ) (soon : P → List ℕ → Option (List ℕ)) (at : ℕ)
    (c d : ChainState P) (a b : Context) : Type 0 where
  pub own : MayPump rest at c d
  pub flows : KeepsFlow rest soon c d
  pub len : length d.stages ≡ length c.stages
  pub pays : (z : List ℕ) → OnTrue c.given (z ≡ []) →
      step_weight * left_to_do rest d z + length b.log.state.pending ≤ step_weight * left_to_do rest c z +
      length a.log.state.pending

-- What the work of a stage does: it pumps, and where it need not work nothing is done and nothing lost.
pub record WorksAt {P T : Type 0} (rest : P → List ℕ → List ℕ) (soon : P → List ℕ → Option (List ℕ))
    (at : ℕ) (result : Result T SetFault) (c d : ChainState P) (a b : Context) : Type 0 where
  pub pumps : Pumps rest soon at c d a b
  pub rests : (MustWork c at → ⊥) → (is_ok result ≡ true) × (d ≡ c) × (b ≡ a)

-- A stage that ended tells the one before it so; and one that did something calls that.
pub record TellsBefore {P : Type 0} (pause : P → ℕ) (at : ℕ) (c d : ChainState P)
    (ts us : List (Option StageContinuation)) (pending : List Pending) : Type 0 where
  pub ended : ended_at c.stages at ≡ false → ended_at d.stages at ≡ true
      → IsToldBefore pending WriteComplete us at
  pub ready : (d ≡ c → ⊥) → CallsBefore pause d ts us pending at

-- Driven stages are driven again, whatever role is the first, when the one at a place has acted, which works
-- at its event or does not.
abbrev pub Covers : {P : Type 0} → Bool → ℕ → ChainState P → ChainState P → List (Option StageContinuation)
    → List (Option StageContinuation) → Context → Context → Type 0
Covers works at c d ts us a b = (first : ℕ) → IsDrivenFor works first at c ts a.log.state.pending a.roles
    → IsDriven first d us b.log.state.pending b.roles

-- So are they when its event was handled.
abbrev pub CoversHandled : {P : Type 0} → ℕ → Event → ChainState P → ChainState P
    → List (Option StageContinuation) → List (Option StageContinuation) → Context → Context → Type 0
CoversHandled at event c d ts us a b = (first : ℕ) (before : List Pending)
    → IsHandled before a.log.state.pending a.roles (first + at) event
    → IsDriven first c ts before a.roles → IsDriven first d us b.log.state.pending b.roles

-- The calls that continuations may still make upstream pay for each event that is set.
abbrev pub PaysCalls : List (Option StageContinuation) → List (Option StageContinuation) → Context → Context
    → Type 0
PaysCalls ts us a b = step_weight * upstream_calls us + length b.log.state.pending ≤ step_weight *
    upstream_calls ts + length a.log.state.pending

-- Where the continuation at a place is destroyed, the calls that others may still make are no more; and if it
-- was there, it gives up one of its own, which pays for an event that was set.
pub record GivesUpCall (ts us : List (Option StageContinuation)) (at : ℕ) (a b : Context) : Type 0 where
  pub pending : length b.log.state.pending ≤ length a.log.state.pending
  pub calls : upstream_calls us ≤ upstream_calls ts
  pub fewer : is_there_at ts at ≡ true → upstream_calls us + 1 ≤ upstream_calls ts

-- What is left to do pays for each event that is set, whatever still comes: while the end was not given, and
-- for nothing more from then on.
abbrev pub Pays : {P : Type 0} → (P → List ℕ → List ℕ) → ChainState P → ChainState P
    → List (Option StageContinuation) → List (Option StageContinuation) → Context → Context → Type 0
Pays rest c d ts us a b = (z : List ℕ) → OnTrue c.given (z ≡ []) →
    step_weight * (left_to_do rest d z + upstream_calls us) + length b.log.state.pending
    ≤ step_weight * (left_to_do rest c z + upstream_calls ts) + length a.log.state.pending

-- What a handler leaves of the work of a chain: its flow stays, and what is left to do pays.
pub record GivesOn {P : Type 0} (rest : P → List ℕ → List ℕ) (soon : P → List ℕ → Option (List ℕ))
    (c d : ChainState P) (ts us : List (Option StageContinuation)) (a b : Context) : Type 0 where
  pub flows : KeepsFlow rest soon c d
  pub pays : Pays rest c d ts us a b

-- The chain is as it was; or no continuation was made or destroyed, and those of its stages stay live.
abbrev pub KeepsLive : {P : Type 0} → ChainState P → ChainState P → List (Option StageContinuation)
    → List (Option StageContinuation) → Context → Context → Type 0
KeepsLive c d ts us a b = (d ≡ c)
    ⊎ (Keeps a b × (AreAllLive c ts a → AreAllLive d us b))

-- The continuations stay live while the chain goes on; whatever is set is of one of them; and where an event
-- could not be set, it says why: a continuation was found dead, or there is another cause.
pub record LivesOn {P T : Type 0} (result : Result T SetFault) (c d : ChainState P)
    (ts us : List (Option StageContinuation)) (a b : Context) : Type 0 where
  pub live : KeepsLive c d ts us a b
  pub seated : KeepsSeated ts us a b
  pub cause : IfErr result (λ fault. IsCause (AreAllLive c ts a) fault b)

-- A handler goes on with the work of a chain: at most one stage worked, and what still comes out stays,
-- whatever still comes in while the end was not given, and for nothing more from then on. As many
-- continuations are there, and without any nothing is done.
pub record StillGives {P : Type 0} (rest : P → List ℕ → List ℕ) (soon : P → List ℕ → Option (List ℕ))
    (c d : ChainState P) (ts us : List (Option StageContinuation)) (a b : Context) : Type 0 where
  pub once : PumpsOnce rest c d
  pub flows : KeepsFlow rest soon c d
  pub pays : Pays rest c d ts us a b
  pub given : d.given ≡ c.given
  pub len : length us ≡ length ts
  pub fresh : length ts ≡ 0 → d ≡ c
