-- What the words after the program's name ask for.
use Rattle.std.specs.Prelude.{ℕ, ◌==◌, ◌+◌, ◌*◌, ◌≤◌, ◌<◌, nat_le, ◌&&◌, not, Bool, true, false, List, [], ◌∷◌, map, ⊤}
use Rattle.std.specs.Prelude.{Option, Some, None, codes, drop, string_bytes, if◌then◌else◌}
use Rattle.std.specs.Char.{is_ascii_digit}
use Rattle.std.specs.Option.{option_and_then, option_map, option_map_or}
use Rattle.std.specs.Str.{bytes_eq}
use Rattle.std.specs.declared.string.String.{String}
use Rattle.ts_config.specs.Bytes.{digit_0}
use Rattle.ts_config.specs.Numerals.{number_of}
use Rattle.ts_proxy.specs.declared.command.GenerateTask.{GenerateTask}
use Rattle.ts_proxy.specs.declared.command.ThreadedTask.{ThreadedTask}
use Rattle.ts_proxy.specs.declared.command.ThreadedTask.TheVariants as asked
use Rattle.ts_record.specs.declared.recording.TheConstants.{MOST_TXNS}
use Rattle.ts_thread.specs.declared.TheConstants.{MOST_THREADS}
use Rattle.ts_words.specs.Serve.{ServeWords, serve_asked, words_of}

-- the commands that take a configuration and one more file, their input
pub data Command : Type 0 where
  Transform : Command
  Replay : Command

-- what is asked for: a command over its two files by name, `generate` with its numbers, or `serve` with what
-- its words say
pub data Task : Type 0 where
  Over : Command → List ℕ → List ℕ → Task
  Make : GenerateTask → Task
  Serve : ServeWords → Task

-- the command of a word, if it is one of these
abbrev pub command_named : List ℕ → Option Command
command_named word =
    if bytes_eq word (codes "transform") then Some Transform
    else if bytes_eq word (codes "replay") then Some Replay
    else None

-- a number of threads is 1 to 64, in plain decimal with no sign and no leading zero
abbrev pub threads_of : List ℕ → Option ℕ
threads_of word = option_and_then (λ n. if nat_le 1 n then Some n else None) (number_of MOST_THREADS word)

-- the number of threads of words that begin with these three, if they are of `replay`
abbrev pub threads_asked : List ℕ → List ℕ → List ℕ → Option ℕ
threads_asked word option number =
    if bytes_eq word (codes "replay") && bytes_eq option (codes "--threads") then threads_of number else None

-- a seed is any number of 64 bits
abbrev pub most_seed : ℕ
most_seed = 18446744073709551615

-- the most bytes that a body of `generate` may have, 1 MiB
abbrev pub most_size : ℕ
most_size = 1048576

-- how many bytes are counted for each transaction beside its body
abbrev pub txn_room : ℕ
txn_room = 1024

-- the most bytes that are counted in all, 64 MiB
abbrev pub most_made : ℕ
most_made = 67108864

abbrev pub generate_at : ℕ → ℕ → ℕ → GenerateTask
generate_at seed count size = record { seed = seed; count = count; size = size }

-- there is a transaction, and they do not come to too many bytes
abbrev pub generate_within : ℕ → ℕ → ℕ → Option GenerateTask
generate_within seed count size =
    if nat_le 1 count && nat_le (count * (size + txn_room)) most_made then Some (generate_at seed count size)
    else None

-- Three numbers in plain decimal, within their limits: a seed, a number of transactions, which is at most
-- that of a recording, and the most bytes of a body.
abbrev pub generate_of : List ℕ → List ℕ → List ℕ → Option GenerateTask
generate_of seed count size =
    option_and_then (λ s. option_and_then (λ c. option_and_then (λ z. generate_within s c z)
    (number_of most_size size)) (number_of MOST_TXNS count)) (number_of most_seed seed)

-- the numbers of four words, if they are of `generate`
abbrev pub generate_asked : List ℕ → List ℕ → List ℕ → List ℕ → Option GenerateTask
generate_asked word seed count size =
    if bytes_eq word (codes "generate") then generate_of seed count size else None

-- The task of words in a fixed order, if they are of such a command: `transform CONFIG BODY`,
-- `replay CONFIG RECORDING`, `replay --threads N CONFIG RECORDING` or `generate SEED COUNT SIZE`.
abbrev pub ordered_task : List (List ℕ) → Option Task
ordered_task (word ∷ config ∷ input ∷ []) =
    option_map (λ command. Over command config input) (command_named word)
ordered_task (word ∷ seed ∷ count ∷ size ∷ []) =
    option_map (λ numbers. Make numbers) (generate_asked word seed count size)
ordered_task (word ∷ option ∷ number ∷ config ∷ input ∷ []) =
    option_map (λ threads. Over Replay config input) (threads_asked word option number)
ordered_task _ = None

-- the first word is `transform`
abbrev pub begins_transform : List (List ℕ) → Bool
begins_transform [] = false
begins_transform (word ∷ words) = bytes_eq word (codes "transform")

-- the first word is `serve`
abbrev pub begins_serve : List (List ℕ) → Bool
begins_serve [] = false
begins_serve (word ∷ words) = bytes_eq word (codes "serve")

-- The task of words, if they are of a command: behind `serve` options in any order, and else words in a fixed
-- order.
abbrev pub task_of_bytes : List (List ℕ) → Option Task
task_of_bytes words =
    if begins_serve words then option_map (λ found. Serve found) (serve_asked (drop 1 words))
    else ordered_task words

-- the word begins with a digit, which is no zero before others
abbrev pub begins_number : List ℕ → Bool
begins_number [] = false
begins_number (b ∷ []) = is_ascii_digit b
begins_number (b ∷ c ∷ bs) = is_ascii_digit b && not (b == digit_0)

-- the bytes of the words after the program's name
abbrev pub word_bytes : {A : Type 0} → List (String A) → List (List ℕ)
word_bytes words = map string_bytes words

-- the task of the words after the program's name
abbrev pub task_of : {A : Type 0} → List (String A) → Option Task
task_of words = task_of_bytes (word_bytes words)

-- the task of a command that runs event threads
abbrev pub threaded_task : ThreadedTask → Task
threaded_task (asked.Replay r) = Over Replay r.config.now r.recording.now
threaded_task (asked.Generate numbers) = Make numbers
threaded_task (asked.Serve s) = Serve (words_of s)

-- its threads are 1 to 64, and its transactions at most as many as a recording has
abbrev pub IsInLimits : ThreadedTask → Type 0
IsInLimits (asked.Replay r) = (0 < r.threads) × (r.threads ≤ MOST_THREADS)
IsInLimits (asked.Generate numbers) = numbers.count ≤ MOST_TXNS
IsInLimits (asked.Serve s) = (0 < s.threads) × (s.threads ≤ MOST_THREADS)

-- a task serves a net
abbrev pub Serves : Option Task → Type 0
Serves (Some (Serve words)) = ⊤
Serves _ = ⊥

-- the name of the configuration that a task has, or none
abbrev pub config_in : Task → List ℕ
config_in (Over command config input) = config
config_in (Make numbers) = []
config_in (Serve words) = words.config

-- and that of its input
abbrev pub input_in : Task → List ℕ
input_in (Over command config input) = input
input_in (Make numbers) = []
input_in (Serve words) = []

-- whether what a task comes to is told, by a shelf that tells its files or not: where the task names no file,
-- its words tell it
abbrev pub is_told : Bool → Option Task → Bool
is_told tells (Some (Over command config input)) = tells
is_told tells (Some (Serve words)) = tells
is_told tells _ = true

-- the names of the files of a task that there may be
abbrev pub config_name : Option Task → List ℕ
config_name task = option_map_or config_in task []

abbrev pub input_name : Option Task → List ℕ
input_name task = option_map_or input_in task []
