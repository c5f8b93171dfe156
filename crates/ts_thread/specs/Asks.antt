-- What a question to another group brings.
use Rattle.std.specs.Prelude.{◌≡◌, ℕ, List, Bool, true, Result, Ok, IsErr}
use mathlib.Core.Option.{some}
use lib.ListN.{get_elem?}
use Rattle.ts_link.specs.declared.octets.NoMemory.{NoMemory}
use Rattle.ts_journal.specs.State.{State}
use Rattle.ts_group.specs.declared.action.Named.{Named}
use Rattle.ts_group.specs.declared.group.Group.{Group}
use Rattle.ts_group.specs.declared.world.Asked.{Asked}
use Rattle.ts_group.specs.declared.world.Asked.TheVariants as asked
use Rattle.ts_slot.specs.declared.view.SeatView.{SeatView}
use Rattle.ts_thread.specs.declared.did.Did.{Did}
use Rattle.ts_thread.specs.declared.did.Did.TheVariants as did
use Rattle.ts_thread.specs.Seats.{CountsTurn, CountsMiss}
use Rattle.ts_thread.specs.Tags.{GroupFits}

-- the group k has a tag whose worlds are only asked
abbrev pub IsOnlyAsked : {T : Type 0} → (T → Bool) → List T → ℕ → Type 0
IsOnlyAsked {T} only_asked tags k = (t : T) × (get_elem? tags k ≡ some t) × (only_asked t ≡ true)

-- a world that fits the tag of the group k gives this reply to the question
abbrev pub GivesReply : {W Q R T : Type 0} → (T → W → Type 0) → (W → Q → R → Type 0) → List T → ℕ → Q → R
    → Type 0
GivesReply {W} {Q} {R} {T} Fits Answers tags k question reply =
    (t : T) × (w : W) × (get_elem? tags k ≡ some t) × Fits t w × Answers w question reply

-- what a seat counts that asked the group k: a turn of it, or a miss
abbrev pub CameBy : {Q R G T : Type 0} → ℕ → SeatView G T → SeatView G T → Asked Q R → Type 0
CameBy k old new (asked.Reply r) = CountsTurn k old new
CameBy k old new (asked.Missed seen q) = CountsMiss k seen old new
CameBy k old new (asked.NoMemory q) = CountsTurn k old new

-- what a turn answers in which so many events were handled and the group k was asked
abbrev pub AnswersAsked : {Q R : Type 0} → ℕ → ℕ → Asked Q R → Result Did NoMemory → Type 0
AnswersAsked events k (asked.Reply r) result = result ≡ Ok (did.Ran events)
AnswersAsked events k (asked.Missed seen q) result = result ≡ Ok (did.AskMissed k seen)
AnswersAsked events k (asked.NoMemory q) result = IsErr result

-- the group fits a tag whose worlds are only asked
abbrev pub TakesQuestions : {W Q R T U : Type 0} → (T → W → Type 0) → (W → State → List Named → Type 0)
    → (T → Bool) → (T → Bool) → Group W Q R T U → Type 0
TakesQuestions {T = T} Fits Sound only_asked is_first g =
    (t : T) × GroupFits Fits Sound only_asked is_first t g × (only_asked t ≡ true)

-- the group fits the tag of the group k, whose worlds are only asked
abbrev pub IsAskedAt : {W Q R T U : Type 0} → (T → W → Type 0) → (W → State → List Named → Type 0)
    → (T → Bool) → (T → Bool) → List T → ℕ → Group W Q R T U → Type 0
IsAskedAt {T = T} Fits Sound only_asked is_first tags k g =
    (t : T) × (get_elem? tags k ≡ some t) × GroupFits Fits Sound only_asked is_first t g
    × (only_asked t ≡ true)
