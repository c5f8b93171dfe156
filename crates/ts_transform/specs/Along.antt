-- What a handler of a chain between two links may set, and when it loses nothing.
use Rattle.std.specs.Prelude.{◌≡◌, ℕ, ◌+◌, ◌⊎◌, List, true, false, Option, None}
use Rattle.ts_journal.specs.declared.entry.Event.{Event}
use Rattle.ts_journal.specs.declared.entry.Pending.{Pending}
use Rattle.ts_group.specs.declared.action.Named.{Named}
use Rattle.ts_group.specs.Context.{Context}
use Rattle.ts_transform.specs.Flow.{ChainState, MustRead, MustWrite}
use Rattle.ts_transform.specs.Driving.{ActsWithin, AreNamed, IsNamedIf, IsRousingOf, Keeps, SetsOnly, unroused_at, works_at}
use Rattle.ts_transform.specs.Cover.{IsRousing, MaySet}
use Rattle.ts_transform.specs.Acting.{HasNothingToDo, IsStage}
use Rattle.ts_transform.specs.Driven.{Acts}
use Rattle.ts_transform.specs.declared.driven.DrivenChain.{DrivenChain}
use Rattle.ts_link.specs.Counts.{one_more}
use Rattle.ts_link.specs.Link.{Look}
use Rattle.ts_transform.specs.Carrying.{IsCarriedTo, LacksMemory, MayBreak, StaysLinked}
use Rattle.ts_transform.specs.declared.continuation.StageContinuation.{StageContinuation}
use Rattle.ts_transform.specs.declared.link_world.LinkWorld.{LinkWorld}
use Rattle.ts_transform.specs.declared.link_world.TheConstants.{FIRST, READER, WRITER}
use Rattle.ts_link.specs.declared.clock.TheConstants.{RETRY_AFTER}

-- An event that rouses one of the two ends, which must work: at once, or after the pause of one that found
-- its link not ready.
pub record RousesAnEnd {P : Type 0} (c : ChainState P) (moment : ℕ) (roles : List Named) (p : Pending) : Type
    0 where
  pub after : ℕ
  pub soon : (after ≡ 0) ⊎ (after ≡ RETRY_AFTER)
  pub of_end : (MustWrite c × IsRousingOf WRITER after moment roles p)
      ⊎ (MustRead c × IsRousingOf READER after moment roles p)

-- An event for a duty: it rouses a stage that must work, or an end that must.
abbrev pub IsForDuty : {P : Type 0} → (P → ℕ) → ChainState P → List (Option StageContinuation) → ℕ
    → List Named
    → Pending → Type 0
IsForDuty pause c ts moment roles p = IsRousing pause FIRST c ts moment roles p ⊎ RousesAnEnd c moment roles p

-- An event that may be set where one of a role is handled: for a duty, or as the handler of the stage of that
-- role may set it.
abbrev pub MaySetAlong : {P : Type 0} → (P → ℕ) → ℕ → Event → ChainState P → ChainState P
    → List (Option StageContinuation) → ℕ → List Named → Pending → Type 0
MaySetAlong pause role event c d ts moment roles p =
    IsForDuty pause d ts moment roles p
    ⊎ ((at : ℕ) × (role ≡ FIRST + at) × MaySet pause FIRST c d (unroused_at event ts at) at event moment roles
    p)

-- the continuations of a world have their roles
pub record AreNamedAlong {I K P : Type 0} (w : LinkWorld I K P) (roles : List Named) : Type 0 where
  pub stages : AreNamed roles FIRST w.driven.table.items
  pub writer : IsNamedIf roles WRITER w.writer
  pub reader : IsNamedIf roles READER w.reader

-- only events for a duty are set by an end, and at most one
pub record SetsForDuty {I K P : Type 0} (pause : P → ℕ) (v w : LinkWorld I K P) (a b : Context) : Type 0 where
  pub within : ActsWithin 1 a b
  pub only : AreNamedAlong v a.roles
      → SetsOnly (IsForDuty pause w.driven.chain v.driven.table.items a.moment a.roles) a b

-- the output was written to once, or memory lacked
abbrev pub WritesOnce : {I K P : Type 0} → (K → Look) → LinkWorld I K P → LinkWorld I K P → Type 0
WritesOnce output v w = ((output w.output).writes ≡ one_more (output v.output).writes) ⊎ LacksMemory w

-- the input was read once, or memory lacked
abbrev pub ReadsOnce : {I K P : Type 0} → (I → Look) → LinkWorld I K P → LinkWorld I K P → Type 0
ReadsOnce input v w = ((input w.input).reads ≡ one_more (input v.input).reads) ⊎ LacksMemory w

-- An end that must work does so at an event of its role at which it works.
abbrev pub DoesDuty : {I K P : Type 0} → (I → Look) → (K → Look) → ℕ → Event → LinkWorld I K P
    → LinkWorld I K P
    → Type 0
DoesDuty input output role event v w = works_at event ≡ true
    → (role ≡ WRITER → MustWrite v.driven.chain → WritesOnce output v w)
    × (role ≡ READER → MustRead v.driven.chain → ReadsOnce input v w)

-- nothing was lost, the chain is as it was, and so is each end that must work
pub record LeavesDuties {I K P : Type 0} (v w : LinkWorld I K P) : Type 0 where
  pub running : w.driven.running ≡ v.driven.running
  pub chain : w.driven.chain ≡ v.driven.chain
  pub writer : MustWrite v.driven.chain → w.writer ≡ v.writer
  pub reader : MustRead v.driven.chain → w.reader ≡ v.reader

-- An end has nothing to do at an event: it does not work at it, or it need not work.
abbrev pub EndRests : Event → Type 0 → Type 0
EndRests event Must = (works_at event ≡ false) ⊎ (Must → ⊥)

-- An end handles an event: it does its duty, where it has one and works at the event, and else nothing.
pub record HandlesEnd {I K P : Type 0} (event : Event) (Must Done : Type 0) (v w : LinkWorld I K P)
    (a b : Context) : Type 0 where
  pub does : works_at event ≡ true → Must → Done
  pub rests : EndRests event Must → LeavesDuties v w
  pub sure : works_at event ≡ false → (w ≡ v) × (b ≡ a)

-- An event of a role is one at which there is nothing to do: its end, or the stage of that role, has nothing
-- to do.
abbrev pub HasNothingAlong : {I K P : Type 0} → ℕ → Event → LinkWorld I K P → Type 0
HasNothingAlong role event w =
    ((role ≡ WRITER) × EndRests event (MustWrite w.driven.chain))
    ⊎ ((role ≡ READER) × EndRests event (MustRead w.driven.chain))
    ⊎ ((at : ℕ) × (role ≡ FIRST + at) × IsStage w.driven.chain w.driven.table.items at
    × HasNothingToDo event w.driven.chain w.driven.table.items at)

-- Where an event of a role is handled, before the ends are roused that must work: whether it runs may only
-- fall, for a cause, and not where there was nothing to do; an end does its duty; and only such events are
-- set.
pub record WorksAlong {I K P : Type 0} (rest : P → List ℕ → List ℕ) (pause : P → ℕ) (input : I → Look)
    (output : K → Look) (role : ℕ) (event : Event) (v w : LinkWorld I K P) (a b : Context) : Type 0 where
  pub does : DoesDuty input output role event v w
  pub stage : (at : ℕ) → role ≡ FIRST + at → IsStage v.driven.chain v.driven.table.items at
      → Acts rest pause at event v.driven w.driven a b
  pub loses : MayBreak v w a b
  pub live : StaysLinked v w a b
  pub started : w.writer ≡ None → v.writer ≡ None
  pub only : AreNamedAlong v a.roles → SetsOnly
      (MaySetAlong pause role event v.driven.chain w.driven.chain v.driven.table.items a.moment a.roles) a b
  pub sure : HasNothingAlong role event v → LeavesDuties v w

-- The stage at a place acted, and then the ends were roused: what it did stays so, but that its chain is
-- aborted where memory lacked.
pub record HasActed {I K P : Type 0} (rest : P → List ℕ → List ℕ) (pause : P → ℕ) (at : ℕ) (event : Event)
    (v w : LinkWorld I K P) (a b : Context) : Type 0 where
  pub acted : DrivenChain P
  pub between : Context
  pub acts : Acts rest pause at event v.driven acted a between
  pub keeps : Keeps between b
  pub table : w.driven.table.items ≡ acted.table.items
  pub chain : LacksMemory w ⊎ (w.driven.chain ≡ acted.chain)

-- A handler does the duty of its end, and its stage acts as any driven stage does; it loses something for a
-- cause alone, and nothing where there was nothing to do; while nothing is lost, only such events are set.
pub record ActsAlong {I K P : Type 0} (rest : P → List ℕ → List ℕ) (pause : P → ℕ) (input : I → Look)
    (output : K → Look) (role : ℕ) (event : Event) (v w : LinkWorld I K P) (a b : Context) : Type 0 where
  pub does : v.driven.running ≡ true → DoesDuty input output role event v w
  pub stage : v.driven.running ≡ true → (at : ℕ) → role ≡ FIRST + at
      → IsStage v.driven.chain v.driven.table.items at → HasActed rest pause at event v w a b
  pub loses : MayBreak v w a b
  pub only : w.driven.running ≡ true → SetsOnly
      (MaySetAlong pause role event v.driven.chain w.driven.chain v.driven.table.items a.moment a.roles) a b
  pub sure : HasNothingAlong role event v → w.driven.running ≡ v.driven.running

-- So it does where an event of a role is handled.
abbrev pub HandlesAlong : {I K P : Type 0} → (P → List ℕ → List ℕ) → (P → ℕ) → (I → Look) → (K → Look) → ℕ
    → Event → LinkWorld I K P
    → LinkWorld I K P → Context → Context → Type 0
HandlesAlong rest pause input output role event v w a b = (before : List Pending) (next : ℕ)
    → IsCarriedTo role event v before next a → ActsAlong rest pause input output role event v w a b
