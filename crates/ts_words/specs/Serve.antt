-- What the words after `serve` ask for: they are one simple command of `clap`, with five options, a flag and
-- no positional word.
use Rattle.std.specs.Prelude.{◌≤◌, ℕ, pos, Bool, true, List, [], ◌∷◌, Option, Some, None, codes, unwrap_or}
use Rattle.std.specs.Str.{bytes_eq}
use Rattle.std.specs.Str.Parse.{digits_value, without_leading_plus}
use Rattle.clap.specs.Words.{App, Kinds, Row, Rule, Text, fault_of, first_of, matches_of, new_app, new_rule}
use Rattle.clap.specs.Words.{one_of}
use Rattle.clap.specs.declared.builder.action.ArgAction.TheVariants.{Set, SetTrue}
use Rattle.clap.specs.declared.builder.value_parser.ValueParser.TheVariants as vp
use Rattle.ts_thread.specs.declared.TheConstants.{MOST_THREADS}
use Rattle.ts_words.specs.declared.serve.ServeTask.{ServeTask}

-- ---- the command

-- an option `--NAME TEXT`, which has to be there
abbrev pub text_option : Text → Rule
text_option name = record (new_rule name) { long = Some name; action = Some Set; required = true }

-- An option `--NAME NUMBER`, a whole number from 1 to `most`. Where it is left out the number is that of
-- `other`.
abbrev pub number_option : Text → Text → ℕ → Rule
number_option name other most = record (new_rule name) {
  long = Some name;
  action = Some Set;
  defaults = other ∷ [];
  parser = Some (vp.Signed (pos 1) (pos most));
}

-- a flag `--NAME`, which may be there
abbrev pub flag_option : Text → Rule
flag_option name = record (new_rule name) { long = Some name; action = Some SetTrue }

-- the number of threads where none is named
abbrev pub other_threads : Text
other_threads = codes "1"

-- the most connections that may be asked for
abbrev pub most_connections : ℕ
most_connections = 4294967295

-- the number of connections where none is named: the most
abbrev pub other_connections : Text
other_connections = codes "4294967295"

-- the options
abbrev pub serve_rules : List Rule
serve_rules =
    text_option (codes "listen") ∷ text_option (codes "origin") ∷ text_option (codes "config")
    ∷ number_option (codes "threads") other_threads MOST_THREADS
    ∷ number_option (codes "connections") other_connections most_connections
    ∷ flag_option (codes "sessions") ∷ []

-- the simple command, which has neither a flag for help nor one for its version
abbrev pub serve_app : App
serve_app = record {
  top = record (new_app (codes "serve")).top {
    rules = serve_rules;
    no_binary_name = true;
    disable_help_flag = true;
    disable_version_flag = true;
  };
  subs = [];
}

-- ---- what the words ask for

-- the kinds of fault for which `clap` refuses the words: none where it takes them
unfoldable pub serve_faults : List Text → Kinds
serve_faults words = fault_of serve_app words

-- what it finds in words that it takes
unfoldable pub serve_rows : List Text → List Row
serve_rows words = matches_of serve_app words

-- the text of an option
abbrev pub text_in : List Row → Text → Text
text_in rows name = unwrap_or (first_of name rows) []

-- the number of an option, in decimal; it may have a plus sign and leading zeros
abbrev pub number_in : List Row → Text → ℕ
number_in rows name = digits_value 10 (without_leading_plus (unwrap_or (one_of name rows) []))

-- whether a flag is there
abbrev pub flag_in : List Row → Text → Bool
flag_in rows name = bytes_eq (text_in rows name) (codes "true")

-- what is served: where clients connect, the origin, the configuration by name, on how many threads, after
-- how many connections it ends, and whether a connection carries several requests
pub record ServeWords : Type 0 where
  pub listen : Text
  pub origin : Text
  pub config : Text
  pub threads : ℕ
  pub connections : ℕ
  pub sessions : Bool

-- what the options say
abbrev pub words_in : List Row → ServeWords
words_in rows = record {
  listen = text_in rows (codes "listen");
  origin = text_in rows (codes "origin");
  config = text_in rows (codes "config");
  threads = number_in rows (codes "threads");
  connections = number_in rows (codes "connections");
  sessions = flag_in rows (codes "sessions");
}

-- what is asked for, unless there is a kind of fault
abbrev pub unless_refused : Kinds → ServeWords → Option ServeWords
unless_refused [] asked = Some asked
unless_refused (fault ∷ faults) asked = None

-- WHAT THE WORDS ASK FOR: nothing exactly where `clap` refuses them.
unfoldable pub serve_asked : List Text → Option ServeWords
serve_asked words = unless_refused (serve_faults words) (words_in (serve_rows words))

-- the threads and connections are such as may be asked for
pub record IsInRange (asked : ServeWords) : Type 0 where
  pub some_threads : 1 ≤ asked.threads
  pub few_threads : asked.threads ≤ MOST_THREADS
  pub some_connections : 1 ≤ asked.connections
  pub few_connections : asked.connections ≤ most_connections

-- ---- the same in a task

-- what a task asks for
abbrev pub words_of : ServeTask → ServeWords
words_of task = record {
  listen = task.listen.now;
  origin = task.origin.now;
  config = task.config.now;
  threads = task.threads;
  connections = task.connections;
  sessions = task.sessions;
}
