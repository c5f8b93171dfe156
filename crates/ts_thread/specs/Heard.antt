-- Which handlers ran in a turn, and what the last of them was told.
use Rattle.std.specs.Prelude.{◌≡◌, ℕ, ◌⊎◌, List, Option, Result, Ok}
use Rattle.ts_link.specs.declared.octets.NoMemory.{NoMemory}
use Rattle.ts_journal.specs.State.{State}
use Rattle.ts_group.specs.declared.action.Named.{Named}
use Rattle.ts_group.specs.declared.group.Group.{Group}
use Rattle.ts_group.specs.declared.world.Asked.{Asked}
use Rattle.ts_group.specs.Answers.{AwaitsReply, Hears, IsAnswer, IsSameGroup}
use Rattle.ts_group.specs.Calls.{Handles}
use Rattle.ts_slot.specs.declared.view.SeatView.{SeatView}
use Rattle.ts_thread.specs.declared.did.Did.{Did}
use Rattle.ts_thread.specs.declared.did.Did.TheVariants as did
use Rattle.ts_thread.specs.Asks.{AnswersAsked, CameBy, GivesReply}
use Rattle.ts_thread.specs.Seats.{CountsSame}

module _ {W Q R T U G S : Type 0} where
  -- no event was handled, and the seat asked nobody
  pub record NoneRan (old new : Group W Q R T U) (before after : SeatView G S) : Type 0 where
    pub same : IsSameGroup old new
    pub counts : CountsSame before after

  -- So many events were handled, the first under this number, and none of their handlers asked.
  pub record AllRan (Called : W → W → List ℕ → Type 0) (number moment : ℕ) (old new : Group W Q R T U)
      (before after : SeatView G S) (result : Result Did NoMemory) : Type 0 where
    pub events : ℕ
    pub handles : Handles Called old new number moment events
    pub counts : CountsSame before after
    pub is : result ≡ Ok (did.Ran events)

  -- So many events were handled, and the last handler wanted to ask a group. The seat asked it, and the
  -- handler was told what came of that, which is the answer of the turn.
  pub record WasTold (Fits : T → W → Type 0) (Asking : W → State → List Named → ℕ → ℕ → Q → Type 0)
      (Answers : W → Q → R → Type 0) (Called : W → W → List ℕ → Type 0) (Heard : W → W → Asked Q R → Type 0)
      (Left : W → State → Option ℕ) (tags : List T)
      (number moment : ℕ) (old new : Group W Q R T U) (before after : SeatView G S)
      (result : Result Did NoMemory) : Type 0 where
    pub events : ℕ
    pub asking : Group W Q R T U
    pub handles : Handles Called old asking number moment events
    pub group : ℕ
    pub question : Q
    pub waits : AwaitsReply Asking asking group question
    pub came : Asked Q R
    pub by : CameBy group before after came
    pub answer : IsAnswer (GivesReply Fits Answers tags) group question came
    pub hears : Hears Heard Left asking.world new.world asking.cx.log.state new.cx.log.state came
    pub says : AnswersAsked events group came result

  abbrev pub RunsHandlers : (T → W → Type 0) → (W → State → List Named → ℕ → ℕ → Q → Type 0)
      → (W → Q → R → Type 0) → (W → W → List ℕ → Type 0) → (W → W → Asked Q R → Type 0)
      → (W → State → Option ℕ) → List T → ℕ → ℕ → Group W Q R T U → Group W Q R T U
      → SeatView G S → SeatView G S → Result Did NoMemory → Type 0
  RunsHandlers Fits Asking Answers Called Heard Left tags number moment old new before after result =
      NoneRan old new before after
      ⊎ AllRan Called number moment old new before after result
      ⊎ WasTold Fits Asking Answers Called Heard Left tags number moment old new before after result
