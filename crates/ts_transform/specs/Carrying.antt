-- A chain between two links: what a step of it moves, and who must work.
use Rattle.std.specs.Prelude.{◌≡◌, ◌≢◌, ℕ, ◌+◌, ◌<◌, ◌≤◌, ◌⊎◌, ◌++◌, List, [], ◌∷◌, length, Bool, true, false, Option, Some, None, ⊤}
use Rattle.std.specs.Bool.{OnTrue}
use Rattle.ts_journal.specs.declared.entry.TheConstants.{GREATEST}
use Rattle.ts_journal.specs.declared.entry.Entry.{Entry}
use Rattle.ts_journal.specs.declared.entry.Entry.TheVariants.{Gave, Took}
use Rattle.ts_journal.specs.declared.entry.Event.{Event}
use Rattle.ts_journal.specs.declared.entry.Pending.{Pending}
use Rattle.ts_group.specs.declared.action.Named.{Named}
use Rattle.ts_group.specs.declared.action.SetFault.{SetFault}
use Rattle.ts_group.specs.declared.group.Group.{Group}
use Rattle.ts_group.specs.Context.{Context}
use Rattle.ts_journal.specs.Log.{GoesOn, Log}
use Rattle.ts_link.specs.Counts.{Rose}
use Rattle.ts_link.specs.Link.{Look}
use Rattle.ts_transform.specs.Stage.{MOST_WAITING}
use Rattle.ts_transform.specs.Flow.{ChainState, EndsInOrder, MustRead, MustWrite, flow, wants}
use Rattle.ts_transform.specs.Driving.{HasLiveIf, IsHandled, IsNamedIf, IsOfStageIf, IsRousedIf, IsRousingOf, Keeps, SetsFew, SetsOnly, most_for_ends}
use Rattle.ts_transform.specs.Cover.{IsDriven}
use Rattle.ts_transform.specs.Driven.{HasAllLive, IsOfNoStage, MayLose}
use Rattle.ts_transform.specs.declared.continuation.StageContinuation.{StageContinuation}
use Rattle.ts_transform.specs.declared.link_world.LinkWorld.{LinkWorld}
use Rattle.ts_transform.specs.declared.driven.DrivenChain.{DrivenChain}
use Rattle.ts_vconn.specs.declared.moves.TheConstants.{MOST_PULLED}
use Rattle.ts_transform.specs.declared.link_world.TheConstants.{FIRST, READER, WRITER}
use Rattle.ts_link.specs.declared.clock.TheConstants.{RETRY_AFTER}
use Rattle.ts_transform.specs.declared.link_drive.DriveFault.{DriveFault}
use Rattle.ts_transform.specs.declared.link_drive.DriveFault.TheVariants as D
use Rattle.ts_transform.specs.declared.loss.Loss.{Loss}
use Rattle.ts_transform.specs.declared.loss.Loss.TheVariants.{NoMemory, Spent}
use Rattle.ts_transform.specs.Loss.{IsCauseOf, loss_of}

-- nothing more comes to a chain: its end was given, or it wants no more
abbrev pub GetsNoMore : {P : Type 0} → ChainState P → Type 0
GetsNoMore c = (c.given ≡ true) ⊎ (wants c ≡ false)

-- The input gave some bytes and the output took some, and what the chain still gives is that much further on:
-- for whatever still comes before its end was given, and for nothing from then on.
pub record Carries {P : Type 0} (rest : P → List ℕ → List ℕ) (in_tells out_tells : Bool) (i j o p : Look)
    (c d : ChainState P) : Type 0 where
  pub gave : List ℕ
  pub took : List ℕ
  pub given : in_tells ≡ true → j.given ≡ i.given ++ gave
  pub taken : out_tells ≡ true → p.taken ≡ o.taken ++ took
  pub flow : (z : List ℕ) → OnTrue d.given (z ≡ []) → flow rest c (gave ++ z) ≡ took ++ flow rest d z
  -- once its end was given nothing comes, and it stays given; and so it is once the chain wants no more
  pub closed : c.given ≡ true → (gave ≡ []) × (d.given ≡ true)
  pub early : wants c ≡ false → (gave ≡ []) × (wants d ≡ false)

-- What a step moves, unless the chain was aborted: that is only for a fault of a link or for want of memory.
-- Its end is given only where the input has ended. The input is read no more from then on, nor once the chain
-- wants no more. Before the first stage fewer bytes wait than fill it up and one read more brings.
pub record MovesOn {P : Type 0} (rest : P → List ℕ → List ℕ) (in_tells out_tells : Bool) (i j o p : Look)
    (c d : ChainState P) (was now : Bool) (lacks : Type 0) : Type 0 where
  pub carries : now ≡ false → Carries rest in_tells out_tells i j o p c d
  pub aborts : was ≡ false → now ≡ true → lacks ⊎ Rose i.faults j.faults ⊎ Rose o.faults p.faults
  pub stays : was ≡ true → now ≡ true
  pub ends : now ≡ false → c.given ≡ false → d.given ≡ true → in_tells ≡ true → j.left ≡ []
  pub still : now ≡ false → GetsNoMore c → j ≡ i
  pub counts : (i.faults ≤ j.faults) × (o.faults ≤ p.faults)
  pub bounded : length c.first < MOST_WAITING + MOST_PULLED → length d.first < MOST_WAITING + MOST_PULLED
  pub ordered : EndsInOrder true c.stages → EndsInOrder true d.stages

-- What several steps move, unless the chain was aborted.
pub record CarriesOn {P : Type 0} (rest : P → List ℕ → List ℕ) (in_tells out_tells : Bool) (i j o p : Look)
    (c d : ChainState P) (was now : Bool) : Type 0 where
  pub carries : now ≡ false → Carries rest in_tells out_tells i j o p c d
  pub stays : was ≡ true → now ≡ true
  pub ends : now ≡ false → c.given ≡ false → d.given ≡ true → in_tells ≡ true → j.left ≡ []
  pub still : now ≡ false → GetsNoMore c → j ≡ i
  pub counts : (i.faults ≤ j.faults) × (o.faults ≤ p.faults)

-- memory lacked, and nothing is done from then on
abbrev pub LacksMemory : {I K P : Type 0} → LinkWorld I K P → Type 0
LacksMemory w = (w.driven.running ≡ false) × (w.driven.lost ≡ Some NoMemory)

-- the same of one end of a world between two links, or of a stage: it is aborted for a fault of a link alone
abbrev pub Moves : {I K P : Type 0} → (P → List ℕ → List ℕ) → Bool → Bool → (I → Look) → (K → Look)
    → LinkWorld I K P → LinkWorld I K P → Type 0
Moves rest in_tells out_tells input output v w =
    MovesOn rest in_tells out_tells (input v.input) (input w.input) (output v.output) (output w.output)
    v.driven.chain w.driven.chain v.aborted w.aborted ⊥

-- and of a step of the world: it is aborted for want of memory too
abbrev pub StepsAlong : {I K P : Type 0} → (P → List ℕ → List ℕ) → Bool → Bool → (I → Look) → (K → Look)
    → LinkWorld I K P → LinkWorld I K P → Type 0
StepsAlong rest in_tells out_tells input output v w =
    MovesOn rest in_tells out_tells (input v.input) (input w.input) (output v.output) (output w.output)
    v.driven.chain w.driven.chain v.aborted w.aborted (LacksMemory w)

-- whether it runs falls only where an event could not be set or memory lacked, and it tells which
abbrev pub FallsTold : {I K P : Type 0} → LinkWorld I K P → LinkWorld I K P → Type 0
FallsTold v w = v.driven.running ≡ true → w.driven.running ≡ false
    → (fault : SetFault) × (w.driven.lost ≡ Some (loss_of fault))

-- So does a handler; where something was lost before, nothing is done, and where memory lacks the chain is
-- aborted.
pub record HasStepped {I K P : Type 0} (rest : P → List ℕ → List ℕ) (in_tells out_tells : Bool)
    (input : I → Look) (output : K → Look) (v w : LinkWorld I K P) : Type 0 where
  pub steps : StepsAlong rest in_tells out_tells input output v w
  pub rests : v.driven.running ≡ false → w ≡ v
  pub falls : FallsTold v w
  pub stops : v.driven.running ≡ true → LacksMemory w → w.aborted ≡ true

-- The stages have the roles from the first on, and the writer and the reader have theirs: each that is roused
-- has an event, and so has each stage that must work.
pub record IsJoined {P : Type 0} (c : ChainState P) (ts : List (Option StageContinuation))
    (writer reader : Option StageContinuation) (pending : List Pending) (roles : List Named) : Type 0 where
  pub stages : IsDriven FIRST c ts pending roles
  pub of_writer : IsOfStageIf pending roles WRITER writer
  pub of_reader : IsOfStageIf pending roles READER reader

-- the same of a world, while no event was lost
abbrev pub IsJoinedWhile : {I K P : Type 0} → LinkWorld I K P → List Pending → List Named → Type 0
IsJoinedWhile w pending roles = w.driven.running ≡ true
    → IsJoined w.driven.chain w.driven.table.items w.writer w.reader pending roles

-- it stays so
abbrev pub StaysJoined : {I K P : Type 0} → LinkWorld I K P → LinkWorld I K P → Context → Context → Type 0
StaysJoined v w a b = IsJoinedWhile v a.log.state.pending a.roles
    → IsJoinedWhile w b.log.state.pending b.roles

-- it stays so where an event of a role is handled
abbrev pub HandlesJoined : {I K P : Type 0} → ℕ → Event → LinkWorld I K P → LinkWorld I K P → Context
    → Context → Type 0
HandlesJoined role event v w a b = (before : List Pending)
    → IsHandled before a.log.state.pending a.roles role event
    → IsJoinedWhile v before a.roles → IsJoinedWhile w b.log.state.pending b.roles

-- the reader and the writer are roused, where they must work
pub record AreEndsRoused {P : Type 0} (c : ChainState P)
    (writer reader : Option StageContinuation) : Type 0 where
  pub writes : MustWrite c → IsRousedIf writer
  pub reads : MustRead c → IsRousedIf reader

-- What holds of a chain between two links: once it was started, while no event was lost, each duty has an
-- event of a continuation that does it. Before the first stage fewer bytes wait than fill it up and one read
-- more brings. Where it tells that the numbers of events are used up, they are, and the next is the last.
pub record IsCarried {I K P : Type 0} (w : LinkWorld I K P) (pending : List Pending) (next : ℕ)
    (roles : List Named) : Type 0 where
  pub joined : IsJoinedWhile w pending roles
  pub ends : w.driven.running ≡ true → AreEndsRoused w.driven.chain w.writer w.reader
  pub fresh : w.writer ≡ None → (w.driven.running ≡ false) × (w.driven.table.items ≡ [])
  pub ordered : EndsInOrder true w.driven.chain.stages
  pub bounded : length w.driven.chain.first < MOST_WAITING + MOST_PULLED
  pub told : w.driven.lost ≡ Some Spent → GREATEST ≤ next

-- how many events its start sets at most: one for each stage, and one for each end
abbrev pub most_by_start : {P : Type 0} → ChainState P → ℕ
most_by_start c = length c.stages + most_for_ends

-- it holds before an event of a role is handled, with what is pending then, and the number of the next event
pub record IsCarriedTo {I K P : Type 0} (role : ℕ) (event : Event) (w : LinkWorld I K P)
    (before : List Pending)
    (next : ℕ) (now : Context) : Type 0 where
  pub carried : IsCarried w before next now.roles
  pub handled : IsHandled before now.log.state.pending now.roles role event
  pub next_rises : next ≤ now.log.state.next

-- it holds again where an event of a role is handled
abbrev pub HandlesCarried : {I K P : Type 0} → ℕ → Event → LinkWorld I K P → LinkWorld I K P → Context
    → Context → Type 0
HandlesCarried role event v w a b = (before : List Pending) (next : ℕ)
    → IsCarriedTo role event v before next a
    → IsCarried w b.log.state.pending b.log.state.next b.roles

-- what holds of its group
abbrev pub IsCarriedGroup : {I K P Q R T U : Type 0} → Group (LinkWorld I K P) Q R T U → Type 0
IsCarriedGroup g = IsCarried g.world g.cx.log.state.pending g.cx.log.state.next g.cx.roles

-- The role is that of no continuation of a world: of neither end, and of no stage.
pub record IsOfNobody {I K P : Type 0} (role : ℕ) (w : LinkWorld I K P) : Type 0 where
  pub no_writer : role ≢ WRITER
  pub no_reader : role ≢ READER
  pub no_stage : IsOfNoStage FIRST role w.driven

-- an event of a role is that of nobody, where both ends are roused that must work; or something was lost
-- before
abbrev pub HasNoDuty : {I K P : Type 0} → ℕ → LinkWorld I K P → Type 0
HasNoDuty role w = (w.driven.running ≡ false) ⊎
    (IsOfNobody role w × AreEndsRoused w.driven.chain w.writer w.reader)

-- the continuations of stages and of both ends are live
pub record AreLiveAlong {P : Type 0} (d : DrivenChain P) (t u : Option StageContinuation)
    (now : Context) : Type 0 where
  pub stages : HasAllLive d now
  pub writer : HasLiveIf now.log.state.live t
  pub reader : HasLiveIf now.log.state.live u

-- those of a world
abbrev pub AreLinked : {I K P : Type 0} → LinkWorld I K P → Context → Type 0
AreLinked w now = AreLiveAlong w.driven w.writer w.reader now

-- it runs from now on, and the continuations of its stages and of both ends are live; or it is lost for a
-- cause, but for no dead continuation, since each was just made
abbrev pub HasBegunAlong : {I K P : Type 0} → LinkWorld I K P → Context → Type 0
HasBegunAlong w now =
    ((w.driven.running ≡ true) × (w.driven.lost ≡ None) × AreLinked w now)
    ⊎ ((loss : Loss) × (w.driven.running ≡ false) × (w.driven.lost ≡ Some loss) × IsCauseOf ⊤ loss now)

-- the chain and its ends are as they were; or no continuation was made or destroyed, and all stay live
abbrev pub StaysLinked : {I K P : Type 0} → LinkWorld I K P → LinkWorld I K P → Context → Context → Type 0
StaysLinked v w a b =
    ((w.driven.chain ≡ v.driven.chain) × (w.writer ≡ v.writer) × (w.reader ≡ v.reader))
    ⊎ (Keeps a b × (AreLinked v a → AreLinked w b))

-- it goes on as it did, or is lost for a cause: for a dead continuation only where one was found dead
abbrev pub MayBreak : {I K P : Type 0} → LinkWorld I K P → LinkWorld I K P → Context → Context → Type 0
MayBreak v w a b = MayLose (AreLinked v a) v.driven w.driven b

-- whether it runs may only fall, for a cause; and whoever was made stays, and is live if all were
pub record KeepsCourse {I K P : Type 0} (v w : LinkWorld I K P) (a b : Context) : Type 0 where
  pub loses : MayBreak v w a b
  pub keeps : Keeps a b
  pub live : AreLinked v a → AreLinked w b
  pub started : w.writer ≡ None → v.writer ≡ None

-- An end is roused after so many milliseconds, if it must work and was not roused before, and else nothing is
-- done.
pub record RousesEnd {I K P : Type 0} (slot : Option StageContinuation) (must : Bool) (role after : ℕ)
    (v w : LinkWorld I K P) (a b : Context) : Type 0 where
  pub only : IsNamedIf a.roles role slot → SetsOnly (IsRousingOf role after a.moment a.roles) a b
  pub rests : (must ≡ false) ⊎ IsRousedIf slot → (w ≡ v) × (b ≡ a)

-- The input made its caller wait, or the output did.
abbrev pub InputWaits : {I K P : Type 0} → (I → Look) → LinkWorld I K P → LinkWorld I K P → Type 0
InputWaits input v w = (input w.input).waits ≢ (input v.input).waits

abbrev pub OutputWaits : {I K P : Type 0} → (K → Look) → LinkWorld I K P → LinkWorld I K P → Type 0
OutputWaits output v w = (output w.output).waits ≢ (output v.output).waits

-- at most one event is set, which rouses the continuation of a role after 10 milliseconds
abbrev pub RetriesOnce : ℕ → Context → Context → Type 0
RetriesOnce role a b = SetsOnly (IsRousingOf role RETRY_AFTER a.moment a.roles) a b × SetsFew 1 a b

-- So the chain is as it was; of its ends only the one that found its link not ready changed; that is roused
-- after 10 milliseconds, unless this was lost, and nothing else is set.
pub record RetriesRead {I K P : Type 0} (v w : LinkWorld I K P) (a b : Context) : Type 0 where
  pub chain : MustWrite w.driven.chain → MustWrite v.driven.chain
  pub writer : w.writer ≡ v.writer
  pub roused : w.driven.running ≡ true → IsRousedIf w.reader
  pub only : RetriesOnce READER a b

pub record RetriesWrite {I K P : Type 0} (v w : LinkWorld I K P) (a b : Context) : Type 0 where
  pub chain : MustRead w.driven.chain → MustRead v.driven.chain
  pub reader : w.reader ≡ v.reader
  pub roused : w.driven.running ≡ true → IsRousedIf w.writer
  pub only : RetriesOnce WRITER a b

-- The chain and the links are as they were; and where it had not begun, it runs from then on, or tells why it
-- was lost.
pub record HasLinkBegun {I K P : Type 0} (v w : LinkWorld I K P) : Type 0 where
  pub chain : w.driven.chain ≡ v.driven.chain
  pub input : w.input ≡ v.input
  pub output : w.output ≡ v.output
  pub aborted : w.aborted ≡ v.aborted
  pub begun : v.writer ≡ None → (w.driven.running ≡ true) ⊎ ((loss : Loss) × (w.driven.lost ≡ Some loss))

-- but for the events of its ends, and for what was lost, nothing changed
pub record IsSameBut {I K P : Type 0} (v w : LinkWorld I K P) : Type 0 where
  pub input : w.input ≡ v.input
  pub output : w.output ≡ v.output
  pub chain : w.driven.chain ≡ v.driven.chain
  pub table : w.driven.table.items ≡ v.driven.table.items
  pub aborted : w.aborted ≡ v.aborted

-- the reader stays roused if it was; and the writer
abbrev pub KeepsReader : {I K P : Type 0} → LinkWorld I K P → LinkWorld I K P → Type 0
KeepsReader v w = w.reader ≡ v.reader

abbrev pub KeepsWriter : {I K P : Type 0} → LinkWorld I K P → LinkWorld I K P → Type 0
KeepsWriter v w = w.writer ≡ v.writer

-- What several steps of a world between two links move: the chain is aborted only where memory lacked or a
-- link failed, and nothing is done once something was lost, which is told.
pub record CarriesTo {I K P : Type 0} (rest : P → List ℕ → List ℕ) (in_tells out_tells : Bool)
    (input : I → Look) (output : K → Look) (v w : LinkWorld I K P) : Type 0 where
  pub on : CarriesOn rest in_tells out_tells (input v.input) (input w.input) (output v.output)
      (output w.output)
      v.driven.chain w.driven.chain v.aborted w.aborted
  pub aborts : v.aborted ≡ false → w.aborted ≡ true → LacksMemory w
      ⊎ Rose (input v.input).faults (input w.input).faults ⊎ Rose (output v.output).faults
      (output w.output).faults
  pub rests : v.driven.running ≡ false → w ≡ v
  pub falls : FallsTold v w

-- the output took all that a chain makes of these bytes, whatever had followed them
abbrev pub TookEarly : {P : Type 0} → (P → List ℕ → List ℕ) → Look → Look → ChainState P → List ℕ → Type 0
TookEarly rest o p c gave = (z : List ℕ) → p.taken ≡ o.taken ++ flow rest c (gave ++ z)

-- All that the input gave was written through the chain to the output: the input has nothing left, or the
-- chain wanted no more, and then nothing that the input still had would have changed what was written.
pub record HasWritten {P : Type 0} (rest : P → List ℕ → List ℕ) (i j o p : Look)
    (c d : ChainState P) : Type 0 where
  pub gave : List ℕ
  pub given : j.given ≡ i.given ++ gave
  pub taken : p.taken ≡ o.taken ++ flow rest c gave
  pub whole : (j.left ≡ []) ⊎ ((wants d ≡ false) × TookEarly rest o p c gave)

-- So it was where nothing was lost and no link failed, for links that tell.
abbrev pub WritesWhole : {I K P : Type 0} → (P → List ℕ → List ℕ) → Bool → Bool → (I → Look) → (K → Look)
    → LinkWorld I K P → LinkWorld I K P → Type 0
WritesWhole rest in_tells out_tells input output v w =
    w.driven.running ≡ true → v.aborted ≡ false → v.driven.chain.given ≡ false
    → (Rose (input v.input).faults (input w.input).faults → ⊥)
    → (Rose (output v.output).faults (output w.output).faults → ⊥)
    → in_tells ≡ true → out_tells ≡ true
    → HasWritten rest (input v.input) (input w.input) (output v.output) (output w.output) v.driven.chain
    w.driven.chain

-- a journal goes on by some entries
pub record GoesOnBySome (old new : Log) : Type 0 where
  pub added : List Entry
  pub by : GoesOn old new added

-- The turn that was made last was given back with nothing handled in it: all that was entered are entries of
-- earlier turns, and its beginning and its end.
pub record HandledNothing (old new : Context) : Type 0 where
  pub earlier : List Entry
  pub seat : ℕ
  pub by : GoesOn old.log new.log
      (earlier ++ Took new.log.state.turns seat ∷ Gave new.log.state.turns ∷ [])
  pub made : old.log.state.turns < new.log.state.turns

-- a turn was made, in which an event was handled
pub record TakesTurn (old new : Context) : Type 0 where
  pub made : new.log.state.turns ≡ old.log.state.turns + 1
  pub handled : old.log.state.handled_count < new.log.state.handled_count
  pub goes_on : GoesOnBySome old.log new.log

-- Why it is driven no further: no number of a turn is left; or memory lacked for a turn, though a number was
-- left; or it lacked in the last turn, in which then nothing was handled.
abbrev pub IsDriveCause : DriveFault → Context → Context → Type 0
IsDriveCause D.Spent old new = GREATEST ≤ new.log.state.turns
IsDriveCause D.NoMemory old new = new.log.state.turns < GREATEST
IsDriveCause D.NoMemoryInTurn old new = HandledNothing old new

-- So many turns were made, in each of which an event was handled, and something is pending.
pub record MakesTurns (turns : ℕ) (old new : Context) : Type 0 where
  pub made : new.log.state.turns ≡ old.log.state.turns + turns
  pub handled : old.log.state.handled_count + turns ≤ new.log.state.handled_count
  pub left : new.log.state.pending ≢ []

-- After a step that found a link not ready its end tries again 10 milliseconds later, and by that alone.
pub record TriesAgain {I K P : Type 0} (input : I → Look) (output : K → Look) (v w : LinkWorld I K P)
    (a b : Context) : Type 0 where
  pub reads : InputWaits input v w → w.driven.running ≡ true → IsRousedIf w.reader
      × RetriesOnce READER a b
  pub writes : OutputWaits output v w → w.driven.running ≡ true → IsRousedIf w.writer
      × RetriesOnce WRITER a b

-- It does so where an event of a role is handled.
abbrev pub HandlesWaits : {I K P : Type 0} → ℕ → Event → (I → Look) → (K → Look) → LinkWorld I K P
    → LinkWorld I K P → Context → Context → Type 0
HandlesWaits role event input output v w a b = (before : List Pending) (next : ℕ)
    → IsCarriedTo role event v before next a → TriesAgain input output v w a b
