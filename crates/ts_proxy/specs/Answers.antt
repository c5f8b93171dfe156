-- When each answer of a command comes, and what it leaves.
use Rattle.std.specs.Prelude.{◌≡◌, ℕ, ◌≤◌, ◌++◌, List, [], ◌∷◌, length, ⊤, Option, Some, None, IsSomeAnd, Result, Ok, Err}
use Rattle.std.specs.Prelude.{Bool, true, false}
use Rattle.ts_link.specs.Counts.{Counted, Rose}
use Rattle.ts_link.specs.Seen.{ShelfSeen, SinkSeen}
use Rattle.ts_link.specs.declared.shelf.ShelfFault.{ShelfFault}
use Rattle.ts_link.specs.declared.shelf.ShelfFault.TheVariants as fault
use Rattle.ts_replay.specs.Reports.{HasRecording, IsReportOn}
use Rattle.ts_proxy.specs.declared.answer.Answer.{Answer}
use Rattle.ts_proxy.specs.declared.answer.Answer.TheVariants as a
use Rattle.ts_proxy.specs.declared.answer.NamedFile.{NamedFile}
use Rattle.ts_proxy.specs.declared.answer.NamedFile.TheVariants as file
use Rattle.ts_config.specs.declared.setup.FilePlace.{FilePlace}
use Rattle.ts_config.specs.Setup.{ConfigLines, HasSameFiles, file_at, lines_of, untexted_lines}
use Rattle.ts_config.specs.declared.setup.Setup.{Setup}
use Rattle.ts_config.specs.Value.{Good, config_of}
use Rattle.ts_proxy.specs.Outcome.{Outcome, Usage, BadLine, Long, Text, Report, Summary, Serving}
use Rattle.ts_proxy.specs.Outcome.{lines_filled, most_config, set_up}
use Rattle.ts_proxy.specs.Summary.{IsSummaryOf}
use Rattle.ts_proxy.specs.Took.{TookNothing, TookSome, TookWhole}
use Rattle.ts_proxy.specs.Words.{Task, Over, Make, Serve}
use Rattle.ts_record.specs.Offsets.{IsRefusedAt}

-- the name of a file of a command with these names of its configuration and its input
abbrev pub file_name : List ℕ → List ℕ → NamedFile → List ℕ
file_name config input file.Config = config
file_name config input file.Input = input
file_name config input (file.Appended name) = name

-- the answer of a read that was refused
abbrev pub answer_of : ShelfFault → NamedFile → Answer
answer_of fault.Failed f = a.CannotRead f
answer_of (fault.TooLong seen) f = a.TooLong f
answer_of fault.NoMemory f = a.OutOfMemory

-- an outcome has a text to write
abbrev pub HasOutput : Outcome → Type 0
HasOutput (Text t) = ⊤
HasOutput (Report lines bytes) = HasRecording bytes
HasOutput (Summary numbers) = ⊤
HasOutput _ = ⊥

-- at an outcome a net is served
abbrev pub IsServing : Outcome → Type 0
IsServing (Serving lines) = ⊤
IsServing _ = ⊥

-- at an outcome there is a job that can be done
abbrev pub HasJob : Outcome → Type 0
HasJob (Serving lines) = ⊤
HasJob o = HasOutput o

-- its text
abbrev pub IsTextOf : Outcome → List ℕ → Type 0
IsTextOf (Text t) text = text ≡ t
IsTextOf (Report lines bytes) text = IsReportOn lines bytes text
IsTextOf (Summary numbers) text = IsSummaryOf numbers text
IsTextOf _ text = ⊥

-- the bytes of a recording are refused at this offset
abbrev pub RefusesRecording : Outcome → ℕ → Type 0
RefusesRecording (Report lines bytes) offset = IsRefusedAt bytes offset
RefusesRecording _ offset = ⊥

-- at which outcome an answer comes; a failed read and want of memory may come at any
abbrev pub ComesAt : List ℕ → List ℕ → Answer → Outcome → Type 0
ComesAt config input a.Done o = HasJob o
ComesAt config input a.Usage o = o ≡ Usage
ComesAt config input (a.BadLine f) o = o ≡ BadLine f.line f.kind
ComesAt config input (a.BadRecording offset) o = RefusesRecording o offset
ComesAt config input a.CannotWrite o = HasOutput o
ComesAt config input (a.TooLong f) o = o ≡ Long (file_name config input f)
ComesAt config input a.Network o = IsServing o
ComesAt config input _ o = ⊤

-- a part of the work went on as the outcome does, or its answer comes at the outcome
abbrev pub Leads : {X : Type 0} → List ℕ → List ℕ → Result X Answer → Outcome → (X → Outcome) → Type 0
Leads config input (Ok x) o next = o ≡ next x
Leads config input (Err answer) o next = ComesAt config input answer o

-- the lines of a setup are the same but for the texts of their files
pub record KeepsLines (old new : Setup) : Type 0 where
  pub lines : untexted_lines (lines_of new) ≡ untexted_lines (lines_of old)
  pub names : HasSameFiles (lines_of old) (lines_of new)
  pub places : new.files ≡ old.files

-- the file of the line at a place
abbrev pub IsNamedAt : ConfigLines → FilePlace → NamedFile → Type 0
IsNamedAt lines place (file.Appended name) = file_at lines place ≡ Some name
IsNamedAt lines place _ = ⊥

-- the work on the lines at these places comes to a file: that of one of them, and the files of all before it
-- are there within their limit
pub record ReachesFile (files : List ℕ → Option (List ℕ)) (places : List FilePlace) (lines : ConfigLines)
    (f : NamedFile) : Type 0 where
  pub before : List FilePlace
  pub place : FilePlace
  pub after : List FilePlace
  pub stands : places ≡ before ++ place ∷ after
  pub names : IsNamedAt lines place f
  pub read : HasOutput (lines_filled files before lines (λ ls. Text []))

-- these are lines in the grammar, with the places of their files, and the work on them comes to a file
pub record ReachesIn (files : List ℕ → Option (List ℕ)) (bytes : List ℕ) (f : NamedFile) : Type 0 where
  pub lines : ConfigLines
  pub places : List FilePlace
  pub reading : config_of bytes ≡ Good lines places
  pub reaches : ReachesFile files places lines f

-- the configuration is there within its limit, and the work on its lines comes to a file
abbrev pub IsReadFor : (List ℕ → Option (List ℕ)) → List ℕ → NamedFile → Type 0
IsReadFor files config f =
    IsSomeAnd (files config) (λ bytes. (length bytes ≤ most_config) × ReachesIn files bytes f)

-- the file whose read failed is one that the work comes to: the configuration; a file that one of its lines
-- names; and the input, once all the others were read
abbrev pub IsReadBy : ShelfSeen → List ℕ → NamedFile → Type 0
IsReadBy shelf config file.Config = ⊤
IsReadBy shelf config file.Input = HasOutput (set_up false shelf.file config (λ lines. Text []))
IsReadBy shelf config (file.Appended name) = IsReadFor shelf.file config (file.Appended name)

-- the file is a configuration, or one that a line of it names
abbrev pub IsOfConfig : NamedFile → Type 0
IsOfConfig file.Input = ⊥
IsOfConfig _ = ⊤

-- A task has the file: its configuration, and the files that the lines of that name; and its input, where it
-- has one.
abbrev pub HasFile : Task → NamedFile → Type 0
HasFile (Over command config input) f = ⊤
HasFile (Make numbers) f = ⊥
HasFile (Serve words) f = IsOfConfig f

-- the same of the task of words, if they are of a command
abbrev pub HasFileIf : Option Task → NamedFile → Type 0
HasFileIf None f = ⊥
HasFileIf (Some task) f = HasFile task f

-- what is said of the file of a failed read
abbrev pub OnCannotRead : Answer → (NamedFile → Type 0) → Type 0
OnCannotRead (a.CannotRead f) P = P f
OnCannotRead _ P = ⊤

-- which answer is that of a read that failed, of a file that is too long, and of a write that failed
abbrev pub is_unread : Answer → Bool
is_unread (a.CannotRead f) = true
is_unread _ = false

abbrev pub is_long : Answer → Bool
is_long (a.TooLong f) = true
is_long _ = false

abbrev pub is_unwritten : Answer → Bool
is_unwritten a.CannotWrite = true
is_unwritten _ = false

-- what a shelf counted with an answer: a read that failed exactly with that answer, and a file that is too
-- long exactly with that one
pub record CountsReads (answer : Answer) (old new : ShelfSeen) : Type 0 where
  pub faults : Counted (is_unread answer) old.faults new.faults
  pub longs : Counted (is_long answer) old.longs new.longs

-- an answer of the part of the work that reads, with what a shelf showed before and after it
abbrev pub IsOfReading : Answer → ShelfSeen → ShelfSeen → Type 0
IsOfReading (a.BadLine b) old new = CountsReads (a.BadLine b) old new
IsOfReading (a.CannotRead f) old new = CountsReads (a.CannotRead f) old new
IsOfReading a.OutOfMemory old new = CountsReads a.OutOfMemory old new
IsOfReading (a.TooLong f) old new = CountsReads (a.TooLong f) old new
IsOfReading _ old new = ⊥

-- no count of a shelf rose
pub record IsUnfailed (old new : ShelfSeen) : Type 0 where
  pub faults : new.faults ≡ old.faults
  pub longs : new.longs ≡ old.longs

-- an answer of the part that writes, with what the sink showed before and after it
abbrev pub IsOfWriting : Answer → SinkSeen → SinkSeen → Type 0
IsOfWriting a.Done old new = new.faults ≡ old.faults
IsOfWriting a.CannotWrite old new = Rose old.faults new.faults
IsOfWriting a.OutOfMemory old new = new.faults ≡ old.faults
IsOfWriting _ old new = ⊥

-- an answer of the part that comes after reading: it writes, or finds that the input is no recording
abbrev pub IsOfWork : Answer → SinkSeen → SinkSeen → Type 0
IsOfWork (a.BadRecording offset) old new = new.faults ≡ old.faults
IsOfWork answer old new = IsOfWriting answer old new

-- an answer where transactions were not run: the bytes are no recording, or memory lacked
abbrev pub IsOfRunning : List ℕ → Answer → Type 0
IsOfRunning bytes (a.BadRecording offset) = IsRefusedAt bytes offset
IsOfRunning bytes a.OutOfMemory = ⊤
IsOfRunning bytes _ = ⊥

-- what a shelf and a sink counted with an answer: each of the shelf's faults, its files that are too long and
-- the sink's faults exactly with the answer that tells of it
pub record CountsCause (answer : Answer) (shelf shelf' : ShelfSeen) (out out' : SinkSeen) : Type 0 where
  pub reads : CountsReads answer shelf shelf'
  pub writes : Counted (is_unwritten answer) out.faults out'.faults

-- the counts that show the cause of an answer to a task; that of a net's fault is one of the net
abbrev pub IsCausedBy : Answer → ShelfSeen → ShelfSeen → SinkSeen → SinkSeen → Type 0
IsCausedBy a.Usage shelf shelf' out out' = ⊥
IsCausedBy answer shelf shelf' out out' = CountsCause answer shelf shelf' out out'

-- a sink took all of the text of an outcome, and nothing where a net was served
abbrev pub TookText : Outcome → SinkSeen → SinkSeen → Type 0
TookText (Serving lines) old new = TookNothing old new
TookText o old new = TookWhole (IsTextOf o) old new

-- what a sink took of the text of an outcome: all of it where the job was done, a front of it or nothing
-- where writing failed or memory lacked, and nothing with an answer that comes before anything is written
abbrev pub TookAt : Answer → SinkSeen → SinkSeen → Outcome → Type 0
TookAt a.Done old new o = TookText o old new
TookAt a.CannotWrite old new o = TookSome (IsTextOf o) old new
TookAt a.OutOfMemory old new o = TookSome (IsTextOf o) old new
TookAt _ old new o = TookNothing old new

-- what is said of the failure of a net
abbrev pub OnNetwork : Answer → Type 0 → Type 0
OnNetwork a.Network P = P
OnNetwork _ P = ⊤

-- what is said of an answer that comes before anything is written
abbrev pub OnQuiet : Answer → Type 0 → Type 0
OnQuiet a.Done P = ⊤
OnQuiet a.CannotWrite P = ⊤
OnQuiet a.OutOfMemory P = ⊤
OnQuiet _ P = P
