-- What a command comes to if nothing fails: a function of its words and of the files. It is the first trouble
-- in the order of the work, or the text that is written.
use Rattle.std.specs.Prelude.{ℕ, nat_le, Bool, false, List, [], ◌∷◌, length, Option, Some, None}
use Rattle.std.specs.Prelude.{if◌then◌else◌}
use Rattle.ts_link.specs.Seen.{ShelfSeen}
use Rattle.ts_config.specs.declared.setup.FilePlace.{FilePlace}
use Rattle.ts_config.specs.declared.setup.ConfigKind.{ConfigKind}
use Rattle.ts_config.specs.Setup.{ConfigLines, file_at, in_order, with_file}
use Rattle.ts_config.specs.Value.{Reading, Good, Bad, config_of}
use Rattle.ts_config.specs.Bodies.{compose_lines}
use Rattle.ts_proxy.specs.Words.{Command, Transform, Replay, Task, Over, Make, Serve}
use Rattle.ts_proxy.specs.declared.command.GenerateTask.{GenerateTask}

-- the most bytes of a configuration, 1 MiB
abbrev pub most_config : ℕ
most_config = 1048576

-- the most bytes of the file of a line, 16 KiB
abbrev pub most_append : ℕ
most_append = 16384

-- the most bytes of an input, a body or a recording, 64 MiB
abbrev pub most_input : ℕ
most_input = 67108864

-- the words are of no command; the configuration's line of this number breaks this rule; the file of this
-- name is not there, or longer than its limit; this text is written; the report is written on the recording
-- in these bytes, under these lines, if they are one; the summary is written that these numbers stand for; a
-- net is served under these lines
pub data Outcome : Type 0 where
  Usage : Outcome
  BadLine : ℕ → ConfigKind → Outcome
  Missing : List ℕ → Outcome
  Long : List ℕ → Outcome
  Text : List ℕ → Outcome
  Report : ConfigLines → List ℕ → Outcome
  Summary : GenerateTask → Outcome
  Serving : ConfigLines → Outcome

-- goes on with the bytes of a file, if it is there and has at most `most` of them
abbrev pub opened : Option (List ℕ) → ℕ → List ℕ → (List ℕ → Outcome) → Outcome
opened None most name next = Missing name
opened (Some bytes) most name next = if nat_le (length bytes) most then next bytes else Long name

-- goes on with the lines of a configuration and the places of those with a file, if all are in the grammar
abbrev pub understood : Reading → (ConfigLines → List FilePlace → Outcome) → Outcome
understood (Good lines places) next = next lines places
understood (Bad n kind) next = BadLine n kind

-- goes on with the lines, of which the one at this place has the text of the file of this name
abbrev pub named_filled : (List ℕ → Option (List ℕ)) → Option (List ℕ) → FilePlace → ConfigLines
    → (ConfigLines → Outcome) → Outcome
named_filled files None place lines next = next lines
named_filled files (Some name) place lines next =
    opened (files name) most_append name (λ text. next (with_file place text lines))

-- of its file
abbrev pub place_filled : (List ℕ → Option (List ℕ)) → FilePlace → ConfigLines → (ConfigLines → Outcome)
    → Outcome
place_filled files place lines next = named_filled files (file_at lines place) place lines next

-- goes on with the lines, of which those at these places, in their order, have the texts of their files
abbrev pub lines_filled : (List ℕ → Option (List ℕ)) → List FilePlace → ConfigLines → (ConfigLines → Outcome)
    → Outcome
lines_filled files [] lines next = next lines
lines_filled files (p ∷ ps) lines next =
    place_filled files p lines (λ filled. lines_filled files ps filled next)

-- a configuration is read and understood, the files of its lines are read in the order of the text, and what
-- comes behind has the lines that act: those of a session only where there are sessions
abbrev pub set_up : Bool → (List ℕ → Option (List ℕ)) → List ℕ → (ConfigLines → Outcome) → Outcome
set_up sessions files config next =
    opened (files config) most_config config (λ bytes. understood (config_of bytes)
    (λ lines places. lines_filled files places lines (λ filled. next (in_order sessions filled))))

-- what a command makes of the lines and its input: `transform` passes a body through the transform lines, and
-- lines of other kinds have no effect on it; `replay` runs a recording under all of them
abbrev pub worked : Command → ConfigLines → List ℕ → Outcome
worked Transform lines input = Text (compose_lines lines.transforms input)
worked Replay lines input = Report lines input

-- the outcome of a command over files, which has no sessions: the configuration is set up, then the input is
-- read
abbrev pub performed : Command → (List ℕ → Option (List ℕ)) → List ℕ → List ℕ → Outcome
performed command files config input =
    set_up false files config (λ lines. opened (files input) most_input input (worked command lines))

-- the outcome of a task over the files of a shelf; without one the words are of no command
abbrev pub outcome_of : ShelfSeen → Option Task → Outcome
outcome_of shelf None = Usage
outcome_of shelf (Some (Over command config input)) = performed command shelf.file config input
outcome_of shelf (Some (Make numbers)) = Summary numbers
outcome_of shelf (Some (Serve words)) = set_up words.sessions shelf.file words.config (λ lines. Serving lines)
