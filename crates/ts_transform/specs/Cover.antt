-- Each stage that must work is roused, so none of them is forgotten.
use Rattle.std.specs.Prelude.{◌≡◌, ◌≢◌, ℕ, ◌≤◌, ◌+◌, ◌⊎◌, List, length, Bool, true, false, Option}
use Rattle.ts_journal.specs.declared.entry.Event.{Event}
use Rattle.ts_journal.specs.declared.entry.Event.TheVariants.{Error, WriteComplete}
use Rattle.ts_journal.specs.declared.entry.Pending.{Pending}
use Rattle.ts_group.specs.declared.action.Named.{Named}
use Rattle.ts_group.specs.Context.{Context}
use Rattle.ts_transform.specs.Stage.{MOST_WAITING}
use Rattle.ts_transform.specs.Flow.{ChainState, MustWork, client_wait, ended_at, pause_at}
use Rattle.ts_transform.specs.Driving.{AreLive, AreNamed, AreOfStages, HasLive, IsCalledUnless, IsRoused, IsRousingOf, IsTellingBefore, SetsOnly, is_there_at}
use Rattle.ts_transform.specs.declared.continuation.StageContinuation.{StageContinuation}

-- each stage that must work is roused
abbrev pub Cover : {P : Type 0} → ChainState P → List (Option StageContinuation) → Type 0
Cover c ts = (j : ℕ) → MustWork c j → IsRoused ts j

-- the same of all but one
abbrev pub CoverBut : {P : Type 0} → ℕ → ChainState P → List (Option StageContinuation) → Type 0
CoverBut at c ts = (j : ℕ) → j ≢ at → MustWork c j → IsRoused ts j

-- the stages round one are roused that must work
pub record IsRoundRoused {P : Type 0} (c : ChainState P) (ts : List (Option StageContinuation))
    (at : ℕ) : Type 0 where
  pub after : MustWork c (at + 1) → IsRoused ts (at + 1)
  pub before : (j : ℕ) → j + 1 ≡ at → MustWork c j → IsRoused ts j
  pub self : MustWork c at → IsRoused ts at

-- the stage before a place, if it must work and makes no pause, was roused or is called
abbrev pub CallsBefore : {P : Type 0} → (P → ℕ) → ChainState P → List (Option StageContinuation)
    → List (Option StageContinuation) → List Pending → ℕ → Type 0
CallsBefore pause c before ts pending at = (j : ℕ) → j + 1 ≡ at → pause_at pause c.stages j ≡ 0 → MustWork c j
    → IsCalledUnless before pending ts j

-- An event that rouses a stage: one at which it works, after its pause. The stage must work, and was not
-- roused before.
pub record IsRousing {P : Type 0} (pause : P → ℕ) (first : ℕ) (c : ChainState P)
    (ts : List (Option StageContinuation)) (moment : ℕ) (roles : List Named) (p : Pending) : Type 0 where
  pub at : ℕ
  pub rests : IsRoused ts at → ⊥
  pub must : MustWork c at
  pub of_stage : IsRousingOf (first + at) (pause_at pause c.stages at) moment roles p

-- only events were set that rouse stages, whatever role is the first
abbrev pub OnlyRouses : {P : Type 0} → (P → ℕ) → ChainState P → List (Option StageContinuation) → Context
    → Context → Type 0
OnlyRouses pause c ts a b = (first : ℕ) → AreNamed a.roles first ts
    → SetsOnly (IsRousing pause first c ts a.moment a.roles) a b

-- An event that the stage at a place may set when it handled one: it rouses a stage that must work; it tells
-- the stage before that it has ended, where it had ended before only if it still has its continuation; or it
-- passes an error on to that.
abbrev pub MaySet : {P : Type 0} → (P → ℕ) → ℕ → ChainState P → ChainState P → List (Option StageContinuation)
    → ℕ → Event → ℕ → List Named → Pending → Type 0
MaySet pause first old new ts at event moment roles p =
    IsRousing pause first new ts moment roles p
    ⊎ (IsTellingBefore WriteComplete first at roles p
    × (ended_at old.stages at ≡ true → is_there_at ts at ≡ true) × (ended_at new.stages at ≡ true))
    ⊎ (IsTellingBefore Error first at roles p × (event ≡ Error))

-- only such events were set, whatever role is the first
abbrev pub OnlySets : {P : Type 0} → (P → ℕ) → ChainState P → ChainState P → List (Option StageContinuation)
    → ℕ → Event → Context → Context → Type 0
OnlySets pause old new ts at event a b = (first : ℕ) → AreNamed a.roles first ts
    → SetsOnly (MaySet pause first old new ts at event a.moment a.roles) a b

-- The continuations of a chain's stages have the roles from the first on, each that is roused has an event,
-- and each stage that must work is roused.
pub record IsDriven {P : Type 0} (first : ℕ) (c : ChainState P) (ts : List (Option StageContinuation))
    (pending : List Pending) (roles : List Named) : Type 0 where
  pub len : length ts ≡ length c.stages
  pub of_stages : AreOfStages pending roles first ts
  pub cover : Cover c ts

-- Each continuation of a chain's stages is live, and each stage that has not ended has one.
pub record AreAllLive {P : Type 0} (c : ChainState P) (ts : List (Option StageContinuation))
    (now : Context) : Type 0 where
  pub live : AreLive now.log.state.live ts
  pub there : (j : ℕ) → ended_at c.stages j ≡ false → HasLive now.log.state.live ts j

-- the same but for one stage, whose event was handled
pub record IsDrivenBut {P : Type 0} (first at : ℕ) (c : ChainState P) (ts : List (Option StageContinuation))
    (pending : List Pending) (roles : List Named) : Type 0 where
  pub len : length ts ≡ length c.stages
  pub of_stages : AreOfStages pending roles first ts
  pub cover : CoverBut at c ts

-- what holds before the handler of a stage works, by whether it works at the event
abbrev pub IsDrivenFor : {P : Type 0} → Bool → ℕ → ℕ → ChainState P → List (Option StageContinuation)
    → List Pending → List Named → Type 0
IsDrivenFor true first at c ts pending roles = IsDrivenBut first at c ts pending roles
IsDrivenFor false first at c ts pending roles = IsDriven first c ts pending roles

-- the last stage is roused where it has not ended and is full, so that it goes on once its client has taken
-- bytes
abbrev pub IsAwake : {P : Type 0} → ChainState P → List (Option StageContinuation) → Type 0
IsAwake c ts = (j : ℕ) → j + 1 ≡ length c.stages → ended_at c.stages j ≡ false → MOST_WAITING ≤ length
    (client_wait c) → IsRoused ts j
