-- How the program ends: its status, when each comes, and what it leaves in the sinks.
use Rattle.std.specs.Prelude.{◌≡◌, ◌≢◌, ℕ, List, [], ◌⊎◌, Bool, true, Option, None, IsSomeAnd}
use Rattle.ts_link.specs.Counts.{Rose}
use Rattle.ts_link.specs.Seen.{ShelfSeen, SinkSeen}
use Rattle.ts_journal.specs.Log.{Log}
use Rattle.ts_proxy.specs.Answers.{IsTextOf, TookText}
use Rattle.ts_proxy.specs.declared.answer.Answer.{Answer}
use Rattle.ts_proxy.specs.declared.answer.Answer.TheVariants as a
use Rattle.ts_proxy.specs.Outcome.{Outcome, Usage, BadLine, Missing, Long, Text, Report, Summary, Serving}
use Rattle.ts_proxy.specs.Outcome.{outcome_of}
use Rattle.ts_proxy.specs.Performed.{AreJournalsAt, AreJournalsOf, LeavesOut, LeavesShelf}
use Rattle.ts_proxy.specs.Took.{TookNothing, TookSome}
use Rattle.ts_proxy.specs.Words.{Serves, Task, is_told}
use Rattle.ts_replay.specs.Reports.{HasRecording}

-- the statuses
abbrev pub done : ℕ
done = 0

abbrev pub usage : ℕ
usage = 2

abbrev pub bad_line : ℕ
bad_line = 3

abbrev pub bad_recording : ℕ
bad_recording = 4

abbrev pub cannot_read : ℕ
cannot_read = 5

abbrev pub cannot_write : ℕ
cannot_write = 6

-- also where a group had all the turns that it gets, which takes years
abbrev pub out_of_memory : ℕ
out_of_memory = 7

abbrev pub network : ℕ
network = 8

abbrev pub too_long : ℕ
too_long = 9

-- the status of an answer
abbrev pub status_of : Answer → ℕ
status_of a.Done = done
status_of a.Usage = usage
status_of (a.BadLine f) = bad_line
status_of (a.BadRecording offset) = bad_recording
status_of (a.CannotRead f) = cannot_read
status_of a.CannotWrite = cannot_write
status_of a.OutOfMemory = out_of_memory
status_of a.Network = network
status_of (a.TooLong f) = too_long

-- the statuses of files that were not read, or not understood
abbrev pub IsFileStatus : ℕ → Type 0
IsFileStatus n = (n ≡ bad_line) ⊎ (n ≡ cannot_read) ⊎ (n ≡ too_long)

-- the statuses with which nothing is written
abbrev pub IsQuiet : ℕ → Type 0
IsQuiet n =
    (n ≡ usage) ⊎ (n ≡ bad_line) ⊎ (n ≡ bad_recording) ⊎ (n ≡ cannot_read) ⊎ (n ≡ network) ⊎ (n ≡ too_long)

-- all statuses
abbrev pub IsStatus : ℕ → Type 0
IsStatus n = (n ≡ done) ⊎ (n ≡ cannot_write) ⊎ (n ≡ out_of_memory) ⊎ IsQuiet n

-- the statuses at an outcome: its own, and those of a failed read, of want of memory and, where there is a
-- text to write, of a failed write; that of a bad recording exactly where the bytes are none
abbrev pub EndsAt : Outcome → ℕ → Type 0
EndsAt Usage n = (n ≡ usage) ⊎ (n ≡ out_of_memory)
EndsAt (BadLine line kind) n = (n ≡ bad_line) ⊎ (n ≡ cannot_read) ⊎ (n ≡ out_of_memory)
EndsAt (Missing name) n = (n ≡ cannot_read) ⊎ (n ≡ out_of_memory)
EndsAt (Long name) n = (n ≡ too_long) ⊎ (n ≡ cannot_read) ⊎ (n ≡ out_of_memory)
EndsAt (Text t) n = (n ≡ done) ⊎ (n ≡ cannot_read) ⊎ (n ≡ cannot_write) ⊎ (n ≡ out_of_memory)
EndsAt (Report lines bytes) n =
    (((n ≡ done) ⊎ (n ≡ cannot_write)) × HasRecording bytes)
    ⊎ ((n ≡ bad_recording) × (HasRecording bytes → ⊥)) ⊎ (n ≡ cannot_read) ⊎ (n ≡ out_of_memory)
EndsAt (Summary numbers) n = (n ≡ done) ⊎ (n ≡ cannot_write) ⊎ (n ≡ out_of_memory)
EndsAt (Serving lines) n = (n ≡ done) ⊎ (n ≡ network) ⊎ (n ≡ cannot_read) ⊎ (n ≡ out_of_memory)

-- A status that a task may end with over a shelf that tells its files or not. That of usage comes exactly
-- where the words are of no command, but where they take memory to read, memory may lack; each outcome that
-- is told has its own, which comes there alone and always, unless a read failed, memory lacked, the net
-- failed or, where there is a text, a write failed.
pub record IsStatusOf (take_memory tells : Bool) (shelf : ShelfSeen) (task : Option Task) (n : ℕ)
    : Type 0 where
  pub known : IsStatus n
  pub usage_of : n ≡ usage → task ≡ None
  pub of_none : task ≡ None → (n ≡ usage) ⊎ ((take_memory ≡ true) × (n ≡ out_of_memory))
  pub at : is_told tells task ≡ true → EndsAt (outcome_of shelf task) n

-- A count rose exactly with a status.
pub record RoseAt (status n old new : ℕ) : Type 0 where
  pub rose : n ≡ status → Rose old new
  pub stayed : n ≢ status → new ≡ old

-- A failure is one of the shelf or of the sink that was handed in: the status of a failure comes only where
-- its count rose, with each other status that count is as it was, and that of a net's comes only where one is
-- served. Where the task names no file, what the shelf shows stays; where it serves a net, and with a status
-- with which nothing is written, what the sink shows.
pub record HasCause (task : Option Task) (n : ℕ) (shelf shelf' : ShelfSeen) (out out' : SinkSeen)
    : Type 0 where
  pub read : RoseAt cannot_read n shelf.faults shelf'.faults
  pub long : RoseAt too_long n shelf.longs shelf'.longs
  pub write : RoseAt cannot_write n out.faults out'.faults
  pub net : n ≡ network → Serves task
  pub unread : LeavesShelf task shelf shelf'
  pub unwritten : LeavesOut task out out'
  pub quiet : IsQuiet n → out' ≡ out

-- neither a read nor a write failed, so the job is done, unless memory lacked
abbrev pub Completes : ℕ → ShelfSeen → ShelfSeen → SinkSeen → SinkSeen → Type 0
Completes n shelf shelf' out out' =
    (Rose shelf.faults shelf'.faults → ⊥) → (Rose out.faults out'.faults → ⊥)
    → (n ≡ done) ⊎ (n ≡ out_of_memory)

-- what the sink took at an outcome: nothing, or a front of its text, and where the job was done all of it
pub record TakesAt (o : Outcome) (n : ℕ) (old new : SinkSeen) : Type 0 where
  pub some : TookSome (IsTextOf o) old new
  pub whole : n ≡ done → TookText o old new

-- what a sink that tells took at an outcome that is told or not, and that it took nothing with a status with
-- which nothing is written
pub record Takes (told : Bool) (o : Outcome) (n : ℕ) (old new : SinkSeen) : Type 0 where
  pub at : told ≡ true → TakesAt o n old new
  pub quiet : IsQuiet n → TookNothing old new

-- The journals of a task at a status: those of its job where it was done, and else none. Where its outcome is
-- told, they are those of the outcome.
pub record JournalsAt (tells : Bool) (shelf : ShelfSeen) (task : Option Task) (n : ℕ) (js : List Log)
    : Type 0 where
  pub job : n ≡ done → IsSomeAnd task (λ t. AreJournalsOf t js)
  pub each : is_told tells task ≡ true → n ≡ done → AreJournalsAt (outcome_of shelf task) js
  pub none : n ≢ done → js ≡ []
