-- What the words of `serve` ask for, by what a parse of its command answers.
use Rattle.std.proofs.Common.{◌≡◌, ◌∙◌, ap, ℕ, true, List, [], ◌∷◌, Some, None, refl, sym, subst}
use Rattle.std.specs.Str.Parse.{digits_value, without_leading_plus}
use Rattle.std.specs.Prelude.{unwrap_or}
use Rattle.clap.specs.Faults.{fault_of}
use Rattle.clap.specs.Kinds.{IsAmong, Kinds}
use Rattle.clap.specs.Matches.{first_value, one_text}
use Rattle.clap.specs.Simple.{App, app_of, matches_of, new_app}
use Rattle.clap.specs.Walk.{Row, Text, rows_of}
use Rattle.clap.specs.declared.builder.command.Command.{Command}
use Rattle.clap.specs.declared.builder.command.Command.TheViews.{out-Command}
use Rattle.clap.specs.declared.error.kind.ErrorKind.{ErrorKind}
use Rattle.clap.specs.declared.parser.matches.Found.{Found}
use Rattle.clap.proofs.WalkLemmas.{first_value-rows, one_text-rows}
use Rattle.ts_words.specs.Serve.{ServeWords, number_in, serve_app, serve_asked, serve_faults, serve_rows, text_in, unless_refused, words_in}

-- a command with the settings of that of `serve`
abbrev settled : App → App
settled a = record a { top = record a.top { no_binary_name = true; disable_help_flag = true; disable_version_flag = true } }

-- the command of this name before its options
pub plain_is : (name : Text) (a b c d : Command) → out-Command b ≡ record (out-Command a) { no_binary_name = true }
    → out-Command c ≡ record (out-Command b) { disable_help_flag = true }
    → out-Command d ≡ record (out-Command c) { disable_version_flag = true } → app_of a ≡ new_app name
    → app_of d ≡ settled (new_app name)
plain_is name a b c d eb ec ed ea = rw (ed, ec, eb) (ap settled ea)

-- a text and a number, by the rows of what was found
pub text_is : (f : Found) (name t : Text) → Some t ≡ first_value f name → t ≡ text_in (rows_of f) name
text_is f name t is = ap (λ o. unwrap_or o []) (is ∙ first_value-rows f name)

-- no text is there
pub no_text : (f : Found) (name : Text) → None ≡ first_value f name → text_in (rows_of f) name ≡ []
no_text f name is = sym (ap (λ o. unwrap_or o []) (is ∙ first_value-rows f name))

pub number_is : (f : Found) (name t : Text) (n : ℕ) → one_text f name ≡ Some t → n ≡ digits_value 10 (without_leading_plus t)
    → n ≡ number_in (rows_of f) name
number_is f name t n read is =
    is ∙ ap (λ o. digits_value 10 (without_leading_plus (unwrap_or o []))) (sym read ∙ one_text-rows f name)

pub same_words : (a b : ServeWords) → a.listen ≡ b.listen → a.origin ≡ b.origin → a.config ≡ b.config → a.threads ≡ b.threads
    → a.connections ≡ b.connections → a.sessions ≡ b.sessions → a ≡ b
same_words a b l o c t n s =
    λ i. record { listen = l i; origin = o i; config = c i; threads = t i; connections = n i; sessions = s i }

-- where the parse succeeds, the words ask for what was found
pub asked_there : (a : App) (words : List Text) (asked : ServeWords) (rows : List Row) → a ≡ serve_app → fault_of a words ≡ []
    → rows ≡ matches_of a words → asked ≡ words_in rows → Some asked ≡ serve_asked words
unfolding serve_asked serve_faults serve_rows
asked_there a words asked rows app faults are is =
    let taken : fault_of serve_app words ≡ [] = subst (λ x. fault_of x words ≡ []) app faults in
    let found : rows ≡ matches_of serve_app words = subst (λ x. rows ≡ matches_of x words) app are in
    ap Some (is ∙ ap words_in found) ∙ sym (ap (λ k. unless_refused k (words_in (matches_of serve_app words))) taken)

refused : (asked : ServeWords) (k : ErrorKind) (ks : Kinds) → IsAmong k ks → None ≡ unless_refused ks asked
refused asked k [] among = absurd among
refused asked k (x ∷ xs) among = refl

-- where it fails by a fault of the words, they ask for nothing
pub asked_nothing : (a : App) (words : List Text) (k : ErrorKind) → a ≡ serve_app → IsAmong k (fault_of a words)
    → None ≡ serve_asked words
unfolding serve_asked serve_faults serve_rows
asked_nothing a words k app among =
    refused (words_in (matches_of serve_app words)) k (fault_of serve_app words) (subst (λ x. IsAmong k (fault_of x words)) app among)
