-- What a world and a group answer, and what then holds of the world.
use Rattle.std.specs.Prelude.{⊤, ◌≡◌, ℕ, ◌+◌, ◌<◌, ◌≤◌, List, [], Option, Some, None, IsSome}
use Rattle.ts_journal.specs.declared.entry.Pending.{Pending}
use Rattle.ts_journal.specs.State.{State, pending_at}
use Rattle.ts_group.specs.declared.action.Named.{Named}
use Rattle.ts_group.specs.declared.world.Asked.{Asked}
use Rattle.ts_group.specs.declared.world.Asked.TheVariants.{Reply, Missed, NoMemory}
use Rattle.ts_group.specs.declared.world.Handling.{Handling}
use Rattle.ts_group.specs.declared.world.Handling.TheVariants as handling
use Rattle.ts_group.specs.declared.world.Want.{Want}
use Rattle.ts_group.specs.declared.world.Want.TheVariants.{Nothing, Ask}
use Rattle.ts_group.specs.declared.group.TheConstants.{MOST_EVENTS}
use Rattle.ts_group.specs.declared.group.Group.{Group}
use Rattle.ts_group.specs.Context.{Context, IsSame}
use Rattle.ts_group.specs.Calls.{Handles, TakesQuestion, next_in}

-- what holds of a group's world, with the state and the roles of its continuations
abbrev pub Holds : {W Q R T U : Type 0} → (W → State → List Named → Type 0) → Group W Q R T U → Type 0
Holds Sound g = Sound g.world g.cx.log.state g.cx.roles

-- The handler that ran last waits for the reply of a group to a question.
abbrev pub AwaitsReply : {W Q R T U : Type 0} → (W → State → List Named → ℕ → ℕ → Q → Type 0)
    → Group W Q R T U → ℕ → Q → Type 0
AwaitsReply Asking g group question = Asking g.world g.cx.log.state g.cx.roles g.cx.role group question

-- The handler that ran last waits for the reply of a group that the world may ask.
abbrev pub MayAwait : {W Q R T U : Type 0} → (W → State → List Named → ℕ → ℕ → Q → Type 0) → (W → ℕ → Type 0)
    → Group W Q R T U → ℕ → Q → Type 0
MayAwait Asking MayAsk g group question = AwaitsReply Asking g group question × MayAsk g.world group

-- one fact where a handler wants nothing, and one of the group and the question where it asks
abbrev pub MatchWant : {Q : Type 0} → Want Q → Type 0 → (ℕ → Q → Type 0) → Type 0
MatchWant Nothing P Asking = P
MatchWant (Ask group question) P Asking = Asking group question

-- one fact of the group and the question where the last handler asks, and one where none does
abbrev pub MatchHandling : {Q : Type 0} → Handling Q → Type 0 → (ℕ → Q → Type 0) → Type 0
MatchHandling (handling.Asks events group question) P Asking = Asking group question
MatchHandling _ P Asking = P

-- a fact of the number of events that were handled, if any was
abbrev pub IfEvents : {Q : Type 0} → Handling Q → (ℕ → Type 0) → Type 0
IfEvents (handling.Handled events) P = P events
IfEvents (handling.Asks events group question) P = P events
IfEvents _ P = ⊤

-- what is handed back is right for the question that was asked
abbrev pub IsAnswer : {Q R : Type 0} → (ℕ → Q → R → Type 0) → ℕ → Q → Asked Q R → Type 0
IsAnswer Right group question (Reply r) = Right group question r
IsAnswer Right group question (Missed seen q) = q ≡ question
IsAnswer Right group question (NoMemory q) = q ≡ question

-- a question was asked, and what is handed back is right for it
pub record IsAnswered {Q R : Type 0} (Asking : ℕ → Q → Type 0) (Right : ℕ → Q → R → Type 0)
    (asked : Asked Q R) : Type 0 where
  pub group : ℕ
  pub question : Q
  pub asking : Asking group question
  pub answer : IsAnswer Right group question asked

-- the group is the same
pub record IsSameGroup {W Q R T U : Type 0} (old new : Group W Q R T U) : Type 0 where
  pub cx : IsSame old.cx new.cx
  pub world : new.world ≡ old.world

-- What a call of `handle` answers and leaves. Where it handled fewer events than a turn handles at most, none
-- of the direct calls that its handlers asked for is pending.
abbrev pub HandleGives : {W Q R T U : Type 0} → (W → W → List ℕ → Type 0)
    → Group W Q R T U → Group W Q R T U → ℕ → ℕ → Handling Q → Type 0
HandleGives Called old new number moment (handling.Handled events) =
    Handles Called old new number moment events
    × (events < MOST_EVENTS → next_in new.cx.log.state.pending new.cx.calls ≡ None)
HandleGives Called old new number moment (handling.Asks events group question) =
    Handles Called old new number moment events
HandleGives Called old new number moment handling.NotPending =
    (pending_at number old.cx.log.state.pending ≡ None) × IsSameGroup old new
HandleGives Called old new number moment (handling.NotDue due) =
    (moment < due) × (p : Pending) × (pending_at number old.cx.log.state.pending ≡ Some p) × (p.due ≡ due)
    × IsSameGroup old new

-- Memory lacks for the next occurrence of a periodic event, which is due; nothing was entered.
pub record LacksRenewal {W Q R T U : Type 0} (old new : Group W Q R T U) (number moment : ℕ) : Type 0 where
  pub event : Pending
  pub there : pending_at number old.cx.log.state.pending ≡ Some event
  pub due : event.due ≤ moment
  pub periodic : 0 < event.period
  pub same : IsSameGroup old new

-- the group's own key was asked, and the world gave this reply
pub record HasReplied {W Q R T U : Type 0} (Answers : W → Q → R → Type 0) (old new : Group W Q R T U)
    (question : Q) (moment : ℕ) (reply : R) : Type 0 where
  pub taken : TakesQuestion old.cx new.cx moment
  pub answers : Answers old.world question reply

-- What is left to do is less by so much. A world that tells no number promises nothing.
abbrev pub Falls : Option ℕ → ℕ → Option ℕ → Type 0
Falls None by now = ⊤
Falls (Some before) by None = ⊥
Falls (Some before) by (Some now) = now + by ≤ before

-- what is left to a group is less by so much
abbrev pub LeavesLess : {W Q R T U : Type 0} → (W → State → Option ℕ)
    → Group W Q R T U → ℕ → Group W Q R T U → Type 0
LeavesLess Left old by new = Falls (Left old.world old.cx.log.state) by (Left new.world new.cx.log.state)

-- The group's world is finite: it tells what is left to it, the number that each event that it handles
-- lowers.
abbrev pub Finite : {W Q R T U : Type 0} → (W → State → Option ℕ) → Group W Q R T U → Type 0
Finite Left g = IsSome (Left g.world g.cx.log.state)

-- a world that tells a number goes on to tell one
abbrev pub StillTells : Option ℕ → Option ℕ → Type 0
StillTells None now = ⊤
StillTells (Some before) None = ⊥
StillTells (Some before) (Some now) = ⊤

-- a reply and want of memory leave no more to do than before; a miss is free
abbrev pub TellFalls : {Q R : Type 0} → Asked Q R → Option ℕ → Option ℕ → Type 0
TellFalls (Reply r) before now = Falls before 0 now
TellFalls (Missed seen q) before now = StillTells before now
TellFalls (NoMemory q) before now = Falls before 0 now

-- A handler was told what came of its question: this, and nothing else, led from one world to the other.
pub record Hears {W Q R : Type 0} (Heard : W → W → Asked Q R → Type 0) (Left : W → State → Option ℕ)
    (old new : W) (before now : State) (asked : Asked Q R) : Type 0 where
  pub heard : Heard old new asked
  pub falls : TellFalls asked (Left old before) (Left new now)

-- the same replies are right
abbrev pub SameReplies : {Q R : Type 0} → (ℕ → Q → R → Type 0) → (ℕ → Q → R → Type 0) → Type 0
SameReplies {Q} {R} Old New = (group : ℕ) (question : Q) (reply : R) →
    (Old group question reply → New group question reply)
    × (New group question reply → Old group question reply)

-- the same groups may be asked
abbrev pub SameGroups : (ℕ → Type 0) → (ℕ → Type 0) → Type 0
SameGroups Old New = (group : ℕ) → (Old group → New group) × (New group → Old group)

-- each tag that the world fitted, it fits
abbrev pub KeepsTags : {T W : Type 0} → (T → W → Type 0) → W → W → Type 0
KeepsTags {T} {W} Fits old new = (t : T) → Fits t old → Fits t new

-- what a world goes on to promise: the tags that it fits, the replies that are right, and the groups that it
-- may ask
pub record KeepsPromises {T W Q R : Type 0} (Fits : T → W → Type 0) (Right : W → ℕ → Q → R → Type 0)
    (MayAsk : W → ℕ → Type 0) (old new : W) : Type 0 where
  pub tags : KeepsTags Fits old new
  pub replies : SameReplies (Right old) (Right new)
  pub groups : SameGroups (MayAsk old) (MayAsk new)

-- a world that fits a tag sets at most so many events
abbrev pub SetsAtMost : {T W : Type 0} → (T → W → Type 0) → W → ℕ → Context → Context → Type 0
SetsAtMost {T} {W} Fits world most old new =
    (t : T) → Fits t world → new.log.state.next ≤ old.log.state.next + most

-- a world that fits a tag sets no event
abbrev pub SetsNone : {T W : Type 0} → (T → W → Type 0) → W → Context → Context → Type 0
SetsNone {T} {W} Fits world old new = (t : T) → Fits t world →
    (new.log.state.next ≡ old.log.state.next) × (old.log.state.pending ≡ [] → new.log.state.pending ≡ [])

-- where a world that fits a tag is asked, no event is set but that of the question
abbrev pub SetsQuestion : {T W : Type 0} → (T → W → Type 0) → W → Context → Context → Type 0
SetsQuestion {T} {W} Fits world old new = (t : T) → Fits t world →
    (new.log.state.next ≤ old.log.state.next + 1) × (old.log.state.pending ≡ [] → new.log.state.pending ≡ [])
