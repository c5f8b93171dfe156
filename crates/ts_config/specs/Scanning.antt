-- What the readers of a line answer, in the words of the grammar.
use Rattle.std.specs.Prelude.{◌≡◌, ℕ, List, ◌∷◌, ◌++◌, Option, Some, None, Result, Ok, Err, ⊤}
use Rattle.ts_config.specs.declared.setup.ConfigKind.{ConfigKind}
use Rattle.ts_config.specs.declared.setup.ConfigRefusal.{ConfigRefusal}
use Rattle.ts_config.specs.declared.setup.ConfigRefusal.TheVariants as c
use Rattle.ts_config.specs.declared.setup.LineMeaning.{LineMeaning}
use Rattle.ts_config.specs.declared.setup.Setup.{Setup}
use Rattle.ts_config.specs.declared.read.LineRefusal.{LineRefusal}
use Rattle.ts_config.specs.declared.read.LineRefusal.TheVariants as r
use Rattle.ts_config.specs.declared.words.NextWord.{NextWord}
use Rattle.ts_config.specs.declared.words.NextWord.TheVariants.{Nothing, Word, Unclosed}
use Rattle.ts_config.specs.Bytes.{quote_mark}
use Rattle.ts_config.specs.Reading.{Means, Breaks, file_in, with_line}
use Rattle.ts_config.specs.Setup.{ConfigLines, lines_of}
use Rattle.ts_config.specs.Words.{IsWords, BeginsWithWord, HasNoWord, IsQuotable, EndsWord}

-- a text behind a quote is this word, the second quote and the rest, or it is no such text
abbrev pub IsQuoted : List ℕ → NextWord → Type 0
IsQuoted text Nothing = ⊥
IsQuoted text (Word word rest) =
    IsQuotable word.now × EndsWord rest.now × (text ≡ word.now ++ quote_mark ∷ rest.now)
IsQuoted text Unclosed = (w rest : List ℕ) → IsQuotable w → EndsWord rest → text ≡ w ++ quote_mark ∷ rest → ⊥

-- what a line begins with: no word, this word and the rest, or a quote that fits no word
abbrev pub IsNextWord : List ℕ → NextWord → Type 0
IsNextWord line Nothing = HasNoWord line
IsNextWord line (Word word rest) = BeginsWithWord line word.now rest.now
IsNextWord line Unclosed = (words : List (List ℕ)) → ¬ IsWords line words

-- the words of a line, or none where a quote does not fit
abbrev pub AreWords : List ℕ → Option (List (List ℕ)) → Type 0
AreWords line (Some words) = IsWords line words
AreWords line None = (words : List (List ℕ)) → ¬ IsWords line words

-- a refusal is what reading says, unless memory lacked
abbrev pub Refuses : {Y : Type 0} → LineRefusal → Result Y ConfigKind → Type 0
Refuses r.NoMemory read = ⊤
Refuses (r.Kind kind) read = read ≡ Err kind

-- an answer is what reading gives, unless memory lacked
abbrev pub AnswersAsRead : {Y : Type 0} → Result Y LineRefusal → Result Y ConfigKind → Type 0
AnswersAsRead (Ok x) read = read ≡ Ok x
AnswersAsRead (Err e) read = Refuses e read

-- the line means what was answered, unless memory lacked
abbrev pub MeansUnlessMemory : List ℕ → Result LineMeaning LineRefusal → Type 0
MeansUnlessMemory line (Ok e) = Means line (Ok e)
MeansUnlessMemory line (Err r.NoMemory) = ⊤
MeansUnlessMemory line (Err (r.Kind kind)) = Means line (Err kind)

-- a line of this meaning is added to those before it, and its file to theirs
pub record Adds (e : LineMeaning) (old new : Setup) : Type 0 where
  pub lines : lines_of new ≡ with_line (lines_of old) e
  pub files : new.files.items ≡ old.files.items ++ file_in (lines_of old) e

-- a line is added to those before it by what it means
pub record AddsLine (line : List ℕ) (old new : Setup) : Type 0 where
  pub e : LineMeaning
  pub means : Means line (Ok e)
  pub adds : Adds e old new

-- the line breaks this rule behind these lines, unless memory lacked
abbrev pub BreaksUnlessMemory : ConfigLines → List ℕ → LineRefusal → Type 0
BreaksUnlessMemory so_far line r.NoMemory = ⊤
BreaksUnlessMemory so_far line (r.Kind kind) = Breaks so_far line kind

-- the refusal of a line, at its number
abbrev pub refusal_at : ℕ → LineRefusal → ConfigRefusal
refusal_at n r.NoMemory = c.NoMemory
refusal_at n (r.Kind kind) = c.Fault (record { line = n; kind = kind })
