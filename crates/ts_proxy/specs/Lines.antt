-- The line on the error sink for each answer.
use Rattle.std.specs.Prelude.{◌≡◌, ℕ, List, [], ◌∷◌, ◌⊎◌, Bool, true, Option, codes, decimal}
use Rattle.std.specs.List.{concat}
use Rattle.ts_link.specs.Counts.{Rose}
use Rattle.ts_link.specs.Seen.{ShelfSeen, SinkSeen}
use Rattle.ts_proxy.specs.declared.answer.Answer.{Answer}
use Rattle.ts_proxy.specs.declared.answer.Answer.TheVariants as a
use Rattle.ts_config.specs.declared.setup.ConfigKind.{ConfigKind}
use Rattle.ts_config.specs.declared.setup.ConfigKind.TheVariants as k
use Rattle.ts_proxy.specs.Answers.{file_name, ComesAt, HasFileIf, IsReadBy, OnCannotRead}
use Rattle.ts_proxy.specs.Ends.{status_of}
use Rattle.ts_proxy.specs.Outcome.{outcome_of}
use Rattle.ts_proxy.specs.Took.{TookAll, TookFront}
use Rattle.ts_proxy.specs.Words.{Task, config_name, input_name, is_told}

-- the word for the rule that a line breaks
abbrev pub kind_text : ConfigKind → List ℕ
kind_text k.Text = codes "text"
kind_text k.Quote = codes "quote"
kind_text k.Plugin = codes "plugin"
kind_text k.Arguments = codes "arguments"
kind_text k.TooMany = codes "too-many"

-- the line where the words are of no command
abbrev pub usage_line : List ℕ
usage_line = codes "tsx: usage: transform CONFIG BODY | replay [--threads N] CONFIG RECORDING | serve --listen L --origin A --config F [--threads N] [--connections N] | generate SEED COUNT SIZE\n"

-- the parts of the line of an answer, of a command with these names of its configuration and its input
abbrev pub parts_of : List ℕ → List ℕ → Answer → List (List ℕ)
parts_of config input a.Done = []
parts_of config input a.Usage = usage_line ∷ []
parts_of config input (a.BadLine f) =
    codes "tsx: configuration line " ∷ decimal f.line ∷ codes ": " ∷ kind_text f.kind ∷ codes "\n" ∷ []
parts_of config input (a.BadRecording offset) =
    codes "tsx: recording offset " ∷ decimal offset ∷ codes "\n" ∷ []
parts_of config input (a.CannotRead f) =
    codes "tsx: cannot read " ∷ file_name config input f ∷ codes "\n" ∷ []
parts_of config input a.CannotWrite = codes "tsx: cannot write\n" ∷ []
parts_of config input a.OutOfMemory = codes "tsx: out of memory\n" ∷ []
parts_of config input a.Network = codes "tsx: network\n" ∷ []
parts_of config input (a.TooLong f) = codes "tsx: too long: " ∷ file_name config input f ∷ codes "\n" ∷ []

-- the line of an answer, as one text
abbrev pub line_of : List ℕ → List ℕ → Answer → List ℕ
line_of config input answer = concat (parts_of config input answer)

-- a line was told to a sink: it took a front of it, and all of it unless one of its counts rose
pub record LineTold (old new : SinkSeen) (line : List ℕ) : Type 0 where
  pub front : TookFront old new line
  pub whole : TookAll old new line ⊎ Rose old.faults new.faults ⊎ Rose old.lacks new.lacks

-- An answer to a task, over a shelf that tells its files or not: it comes at the outcome, and after a failed
-- read it names a file that the task has, and that the work comes to.
pub record IsAnswerOf (tells : Bool) (shelf : ShelfSeen) (task : Option Task) (answer : Answer) : Type 0 where
  pub comes : is_told tells task ≡ true
      → ComesAt (config_name task) (input_name task) answer (outcome_of shelf task)
  pub named : is_told tells task ≡ true → OnCannotRead answer (IsReadBy shelf (config_name task))
  pub has : OnCannotRead answer (HasFileIf task)

-- an answer has this status, and its line was told to a sink that tells what it took or not
pub record SaysLine (tells : Bool) (old new : SinkSeen) (task : Option Task) (n : ℕ) (answer : Answer)
    : Type 0 where
  pub is : n ≡ status_of answer
  pub told : tells ≡ true → LineTold old new (line_of (config_name task) (input_name task) answer)
