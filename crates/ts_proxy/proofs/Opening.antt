-- What reading a file says of the outcome.
use Rattle.std.specs.Prelude.{◌≡◌, ℕ, ◌≤◌, ◌<◌, Bool, false, List, [], length, Option, Some, None, Err}
use Rattle.std.specs.Prelude.{IsSomeAnd}
use Rattle.std.proofs.Common.{arith, refl, ap, sym, subst, ◌∙◌, if◌then◌else◌, le-leb}
use Rattle.std.proofs.lemmas.Bool.{lt-leb}
use Rattle.ts_link.specs.Shelf.{KeepsLimit, ReadsFile}
use Rattle.ts_link.specs.declared.shelf.ShelfFault.{ShelfFault}
use Rattle.ts_link.specs.declared.shelf.ShelfFault.TheVariants as fault
use Rattle.ts_proxy.specs.declared.answer.NamedFile.{NamedFile}
use Rattle.ts_proxy.specs.declared.answer.Answer.{Answer}
use Rattle.ts_proxy.specs.declared.answer.Answer.TheVariants as a
use Rattle.ts_proxy.specs.Answers.{file_name, answer_of, ComesAt, IsOfWriting, OnCannotRead, IsReadBy}
use Rattle.ts_proxy.specs.Answers.{HasOutput}
use Rattle.ts_link.specs.Seen.{ShelfSeen, SinkSeen}
use Rattle.ts_proxy.specs.Outcome.{Outcome, lines_filled, most_config, most_input, opened, set_up, performed}
use Rattle.ts_proxy.specs.Outcome.{understood, worked, Long, Text}
use Rattle.ts_proxy.specs.declared.answer.NamedFile.TheVariants as file
use Rattle.ts_config.specs.Setup.{ConfigLines, in_order}
use Rattle.ts_config.specs.Value.{Good, config_of}
use Rattle.ts_config.specs.declared.setup.FilePlace.{FilePlace}
use Rattle.ts_proxy.specs.Words.{Command}

-- a file that was read
pub opened-read : (o : Option (List ℕ)) (most : ℕ) (name bytes : List ℕ) (next : List ℕ → Outcome)
    → o ≡ Some bytes → length bytes ≤ most
    → opened o most name next ≡ next bytes
opened-read o most name bytes next is within =
    ap (λ f. opened f most name next) is ∙ ap (λ b. if b then next bytes else Long name)
    (le-leb (length bytes) most within)

-- a configuration that was read and understood, whose lines were filled and act so
pub set-up-read : (sessions : Bool) (files : List ℕ → Option (List ℕ)) (config bytes : List ℕ)
    (lines filled acts : ConfigLines) (places : List FilePlace)
    → files config ≡ Some bytes → length bytes ≤ most_config → config_of bytes ≡ Good lines places
    → ((next : ConfigLines → Outcome) → lines_filled files places lines next ≡ next filled)
    → acts ≡ in_order sessions filled → (next : ConfigLines → Outcome)
    → set_up sessions files config next ≡ next acts
set-up-read sessions files config bytes lines filled acts places is within reads fills same next =
    let acting : ConfigLines → Outcome = λ ls. next (in_order sessions ls) in
    opened-read (files config) most_config config bytes
    (λ bs. understood (config_of bs) (λ ls ps. lines_filled files ps ls acting)) is within
    ∙ ap (λ r. understood r (λ ls ps. lines_filled files ps ls acting)) reads
    ∙ fills acting ∙ ap next (sym same)

-- a file of which more than the limit was seen
opened-long : (o : Option (List ℕ)) (most seen : ℕ) (name : List ℕ) (next : List ℕ → Outcome) → most < seen
    → IsSomeAnd o (λ bytes. seen ≤ length bytes)
    → opened o most name next ≡ Long name
opened-long None most seen name next over has = absurd has
opened-long (Some bytes) most seen name next over has = ap (λ b. if b then next bytes else Long name)
    (lt-leb (length bytes) most (omega (arith, over, has)))

-- a read that was refused
pub refused-comes : (config input name : List ℕ) (most : ℕ) (o : Option (List ℕ)) (f : ShelfFault)
    (named : NamedFile) (next : List ℕ → Outcome)
    → file_name config input named ≡ name → KeepsLimit most (Err f) → ReadsFile o most (Err f)
    → ComesAt config input (answer_of f named) (opened o most name next)
refused-comes config input name most o fault.Failed named next is limit told = tt
refused-comes config input name most o (fault.TooLong seen) named next is limit told = opened-long o most seen
    name next limit told ∙ ap Long (sym is)
refused-comes config input name most o fault.NoMemory named next is limit told = tt

-- an answer of the part that writes comes where there is a text to write
pub writing-comes : (config input text : List ℕ) (answer : Answer) (old new : SinkSeen)
    → IsOfWriting answer old new → ComesAt config input answer (Text text)
writing-comes config input text a.Done old new h = tt
writing-comes config input text a.Usage old new h = absurd h
writing-comes config input text (a.BadLine b) old new h = absurd h
writing-comes config input text (a.BadRecording offset) old new h = absurd h
writing-comes config input text (a.CannotRead n) old new h = absurd h
writing-comes config input text a.CannotWrite old new h = tt
writing-comes config input text a.OutOfMemory old new h = tt
writing-comes config input text (a.TooLong n) old new h = absurd h
writing-comes config input text a.Network old new h = absurd h

-- a command whose files were read does its part
pub performed-read : (command : Command) (files files' : List ℕ → Option (List ℕ))
    (config input bytes : List ℕ) (lines : ConfigLines)
    → ((next : ConfigLines → Outcome) → set_up false files config next ≡ next lines) → files' ≡ files
    → files' input ≡ Some bytes → length bytes ≤ most_input
    → performed command files config input ≡ worked command lines bytes
performed-read command files files' config input bytes lines read same is within =
    read (λ ls. opened (files input) most_input input (worked command ls))
    ∙ opened-read (files input) most_input input bytes (worked command lines)
    (ap (λ f. f input) (sym same) ∙ is) within

-- a command whose input could not be read
pub performed-refused : (command : Command) (files files' : List ℕ → Option (List ℕ)) (config input : List ℕ)
    (lines : ConfigLines) (f : ShelfFault)
    → ((next : ConfigLines → Outcome) → set_up false files config next ≡ next lines) → files' ≡ files
    → KeepsLimit most_input (Err f)
    → ReadsFile (files' input) most_input (Err f)
    → ComesAt config input (answer_of f file.Input) (performed command files config input)
performed-refused command files files' config input lines f read same limit told =
    let next : ConfigLines → Outcome = λ ls. opened (files input) most_input input (worked command ls)
    in
    subst (λ o. ComesAt config input (answer_of f file.Input) o) (sym (read next))
    (refused-comes config input input most_input (files input) f file.Input (worked command lines) refl limit
    (subst (λ g. ReadsFile (g input) most_input (Err f)) same told))

-- a command whose input could not be read had come to it
pub input-refused : (shelf : ShelfSeen) (config : List ℕ) (lines : ConfigLines) (f : ShelfFault)
    → ((next : ConfigLines → Outcome) → set_up false shelf.file config next ≡ next lines)
    → OnCannotRead (answer_of f file.Input) (IsReadBy shelf config)
input-refused shelf config lines fault.Failed read = subst HasOutput (sym (read (λ ls. Text []))) tt
input-refused shelf config lines (fault.TooLong seen) read = tt
input-refused shelf config lines fault.NoMemory read = tt
