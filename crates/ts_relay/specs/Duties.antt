-- Who must work while a body is passed on, and that each duty has an event of a continuation that does it
-- (Developer's Guide, "Continuations" and "Transformations").
use Rattle.std.specs.Prelude.{◌≡◌, ◌≢◌, ℕ, ◌+◌, ◌≤◌, ◌⊎◌, List, [], ◌∷◌, length, Bool, true, false}
use Rattle.std.specs.Prelude.{Option, None, ⊤}
use Rattle.ts_journal.specs.declared.entry.TheConstants.{GREATEST}
use Rattle.ts_journal.specs.declared.entry.Event.{Event}
use Rattle.ts_journal.specs.declared.entry.Pending.{Pending}
use Rattle.ts_group.specs.declared.action.Named.{Named}
use Rattle.ts_transform.specs.Flow.{EndsInOrder, IsFinished, MustRead, MustWrite, Rests}
use Rattle.ts_group.specs.Context.{Context}
use Rattle.ts_transform.specs.Driving.{ActsWithin, IsHandled, IsOfStageIf, IsRousedIf, KeepsStage, unroused}
use Rattle.ts_transform.specs.Seats.{KeepsSeated}
use Rattle.ts_transform.specs.Carrying.{IsJoined}
use Rattle.ts_transform.specs.declared.continuation.StageContinuation.{StageContinuation}
use Rattle.ts_relay.specs.declared.relay.TheConstants.{MAIN, READER}
use Rattle.ts_phases.specs.View.{View}
use Rattle.ts_relay.specs.Feeding.{OnGoes}
use Rattle.ts_relay.specs.Relaying.{AddsSome, set_by_stage}
use Rattle.ts_relay.specs.declared.last_writes.BodyStep.{BodyStep}
use Rattle.ts_relay.specs.declared.last_writes.BodyStep.TheVariants as S
use Rattle.ts_relay.specs.declared.relay.Relay.{Relay}

-- the reader must read on: more of the body may come, and more may be given to the chain
abbrev pub MustReadOn : {P : Type 0} → Relay P → Type 0
MustReadOn r = (r.short ≡ None) × MustRead r.driven.chain

-- what the client gets of the body ends here: the chain has given all, or it rests, and no more of the body
-- comes
abbrev pub MustEnd : {P : Type 0} → Relay P → Type 0
MustEnd r = IsFinished r.driven.chain ⊎ ((r.short ≢ None) × Rests r.driven.chain)

-- the first bytes of a body are on their way: the reader has some at hand, or a stage of a chain that never
-- pauses has work at once, and the chain was given no more pieces than it has stages
abbrev pub IsUnderWay : {P : Type 0} → View → Relay P → Type 0
IsUnderWay v r = ((v.origin.inbox ≢ []) × MustReadOn r)
    ⊎ ((r.pauses ≡ false) × (r.fed ≤ length r.driven.chain.stages) × (Rests r.driven.chain → ⊥))

-- the whole head waits for the first bytes of its body: none was framed yet, and some are on their way
abbrev pub HoldsHead : {P : Type 0} → View → Relay P → Type 0
HoldsHead v r = (length v.client.outbox ≡ v.sent.head) × (v.sent.cuts.items ≡ []) × IsUnderWay v r

-- what waits for the client must be written
abbrev pub MustWriteOut : {P : Type 0} → View → Relay P → Type 0
MustWriteOut v r = (v.client.outbox ≢ []) × (HoldsHead v r → ⊥)

-- the first continuation must write: something waits for the client that is not a head which waits for its
-- body, or the chain gave something, or what the client gets ends here
abbrev pub MustSend : {P : Type 0} → View → Relay P → Type 0
MustSend v r = MustWriteOut v r ⊎ MustWrite r.driven.chain ⊎ MustEnd r

-- While no event of a stage was lost, the continuations of a body have their roles, each that is roused has
-- an event, and so has each stage that must work.
abbrev pub IsBodyJoined : {P : Type 0} → Option StageContinuation → Relay P → List Pending → List Named
    → Type 0
IsBodyJoined main r pending roles = r.driven.running ≡ true
    → IsJoined r.driven.chain r.driven.table.items main r.reader pending roles

-- the continuations of a body: the first one, the reader, and those of the stages
abbrev pub relay_seats : {P : Type 0} → Relay P → List (Option StageContinuation)
relay_seats r = r.reader ∷ r.driven.table.items

abbrev pub body_seats : {P : Type 0} → Option StageContinuation → Relay P → List (Option StageContinuation)
body_seats main r = main ∷ relay_seats r

-- the first continuation and the reader are roused, where they must work
pub record AreBodyEndsRoused {P : Type 0} (v : View) (main : Option StageContinuation)
    (r : Relay P) : Type 0 where
  pub writes : MustSend v r → IsRousedIf main
  pub reads : MustReadOn r → IsRousedIf r.reader

-- so each duty of a body is done, unless the event numbers are used up
abbrev pub IsBodyCovered : {P : Type 0} → View → Option StageContinuation → Relay P → ℕ → Type 0
IsBodyCovered v main r next = ((r.driven.running ≡ true) × AreBodyEndsRoused v main r) ⊎ (GREATEST ≤ next)

-- whether the first continuation must work
pub record TellsDuty {P : Type 0} (must : Bool) (v : View) (r : Relay P) : Type 0 where
  pub must_send : must ≡ true → MustSend v r
  pub only : MustSend v r → must ≡ true

-- how many events are set at most: where an end of a body is roused, where both are, where an event of a
-- body is handled, and where a body begins of so many stages: of each stage, of the last where there is no
-- body, and of both ends
abbrev pub set_by_end : ℕ
set_by_end = 1

abbrev pub set_by_ends : ℕ
set_by_ends = 2

abbrev pub set_by_event : ℕ
set_by_event = 6

abbrev pub set_by_beginning : ℕ → ℕ
set_by_beginning stages = (stages + set_by_stage) + set_by_ends

-- What is left where a continuation was roused, or could not be: it is, if it must work, or the event
-- numbers are used up.
pub record RousesOne (step : BodyStep) (must : Bool) (t u : Option StageContinuation)
    (a b : Context) : Type 0 where
  pub adds : AddsSome set_by_end a b
  pub stage : KeepsStage a b t u
  pub seated : KeepsSeated (t ∷ []) (u ∷ []) a b
  pub roused : OnGoes step ((must ≡ true → IsRousedIf u) ⊎ (GREATEST ≤ b.log.state.next))
  pub rests : (must ≡ true → IsRousedIf t) → b ≡ a

-- The same of the first continuation and of the reader.
pub record RousesBoth (step : BodyStep) (writes reads : Bool) (t u r s : Option StageContinuation)
    (a b : Context) : Type 0 where
  pub adds : AddsSome set_by_ends a b
  pub main : (role : ℕ) → IsOfStageIf a.log.state.pending a.roles role t
      → IsOfStageIf b.log.state.pending b.roles role u
  pub reader : (role : ℕ) → IsOfStageIf a.log.state.pending a.roles role r
      → IsOfStageIf b.log.state.pending b.roles role s
  pub same : (unroused u ≡ unroused t) × (unroused s ≡ unroused r)
  pub seated : (ts : List (Option StageContinuation)) → KeepsSeated (t ∷ r ∷ ts) (u ∷ s ∷ ts) a b
  pub roused : OnGoes step (((writes ≡ true → IsRousedIf u) × (reads ≡ true → IsRousedIf s))
      ⊎ (GREATEST ≤ b.log.state.next))
  pub rests : (writes ≡ true → IsRousedIf t) → (reads ≡ true → IsRousedIf r) → b ≡ a

-- The same of a body: the reader must work where it must read on.
abbrev pub EndsRouse : {P : Type 0} → BodyStep → Bool → Option StageContinuation → Option StageContinuation
    → Relay P → Relay P → Context → Context → Type 0
EndsRouse step writes t u r s a b = (reads : Bool) × (MustReadOn r → reads ≡ true)
    × (reads ≡ true → MustReadOn r) × RousesBoth step writes reads t u r.reader s.reader a b

-- the stages run, or the event numbers are used up
abbrev pub RunsOr : {P : Type 0} → Relay P → ℕ → Type 0
RunsOr r next = (r.driven.running ≡ true) ⊎ (GREATEST ≤ next)

-- a fact of a body that is passed on after a step, which may also lead to its end
abbrev pub WhileGoes : BodyStep → Type 0 → Type 0
WhileGoes S.Goes P = P
WhileGoes S.Waits P = P
WhileGoes step P = ⊤

-- a fact of a body after a step, but where memory lacked
abbrev pub UnlessLacking : BodyStep → Type 0 → Type 0
UnlessLacking S.Lacks P = ⊤
UnlessLacking step P = P

-- What is left where both ends of a body were roused that must work.
pub record SettlesBody {P : Type 0} (step : BodyStep) (v : View) (t u : Option StageContinuation)
    (r s : Relay P) (a b : Context) : Type 0 where
  pub adds : AddsSome set_by_ends a b
  pub joined : IsBodyJoined t r a.log.state.pending a.roles → IsBodyJoined u s b.log.state.pending b.roles
  pub covered : RunsOr r a.log.state.next → OnGoes step (IsBodyCovered v u s b.log.state.next)
  pub goes : OnGoes step ⊤
  pub later : a.log.state.next ≤ b.log.state.next
  pub seated : KeepsSeated (body_seats t r) (body_seats u s) a b
  pub rests : AreBodyEndsRoused v t r → b ≡ a

-- after a step that goes on a body is settled, and else nothing is done
abbrev pub SettledAs : BodyStep → BodyStep → Type 0
SettledAs S.Goes result = OnGoes result ⊤
SettledAs S.Waits result = OnGoes result ⊤
SettledAs step result = result ≡ step

pub record SettlesAfter {P : Type 0} (step result : BodyStep) (v : View) (t u : Option StageContinuation)
    (r s : Relay P) (a b : Context) : Type 0 where
  pub adds : AddsSome set_by_ends a b
  pub joined : IsBodyJoined t r a.log.state.pending a.roles → IsBodyJoined u s b.log.state.pending b.roles
  pub covered : RunsOr r a.log.state.next → WhileGoes step
      (OnGoes result (IsBodyCovered v u s b.log.state.next))
  pub settled : SettledAs step result
  pub later : a.log.state.next ≤ b.log.state.next
  pub seated : KeepsSeated (body_seats t r) (body_seats u s) a b
  pub rests : AreBodyEndsRoused v t r → b ≡ a

-- Which side an event of a body may touch: of the first continuation the client's, of the reader the
-- origin's, and of any other neither.
pub record DoesOwnWork (role : ℕ) (v w : View) : Type 0 where
  pub main : role ≡ MAIN → w.origin ≡ v.origin
  pub reader : role ≡ READER → (w.client ≡ v.client) × (w.sent ≡ v.sent)
  pub others : role ≢ MAIN → role ≢ READER → w ≡ v

-- What is left where an event of a role was handled while a body is passed on.
pub record HandlesBody {P : Type 0} (step : BodyStep) (role : ℕ) (event : Event) (v w : View)
    (t u : Option StageContinuation) (r s : Relay P) (a b : Context) : Type 0 where
  pub acts : ActsWithin set_by_event a b
  pub joined : (before : List Pending) → IsHandled before a.log.state.pending a.roles role event
      → IsBodyJoined t r before a.roles → IsBodyJoined u s b.log.state.pending b.roles
  pub covered : IsBodyCovered v t r a.log.state.next → WhileGoes step (IsBodyCovered w u s b.log.state.next)
  pub own : DoesOwnWork role v w
  pub runs : IsBodyCovered v t r a.log.state.next → UnlessLacking step (RunsOr s b.log.state.next)
  pub seated : KeepsSeated (body_seats t r) (body_seats u s) a b
  pub ordered : EndsInOrder true r.driven.chain.stages → EndsInOrder true s.driven.chain.stages

-- What is left where a body of so many stages began, whose first continuation had its role: it is passed on,
-- or memory lacked.
pub record BeginsBody {P : Type 0} (step : BodyStep) (stages : ℕ) (v : View) (t u : Option StageContinuation)
    (s : Relay P) (a b : Context) : Type 0 where
  pub acts : ActsWithin (set_by_beginning stages) a b
  pub joined : IsOfStageIf a.log.state.pending a.roles MAIN t
      → IsBodyJoined u s b.log.state.pending b.roles
  pub covered : WhileGoes step (IsBodyCovered v u s b.log.state.next)
  pub goes : OnGoes step ⊤
  pub runs : UnlessLacking step (RunsOr s b.log.state.next)
  pub seated : KeepsSeated (t ∷ []) (body_seats u s) a b
  pub ordered : EndsInOrder true s.driven.chain.stages

-- how many events are set at most where a body is left
abbrev pub set_leaving : BodyStep → ℕ
set_leaving S.Goes = 0
set_leaving S.Waits = 0
set_leaving step = 1
