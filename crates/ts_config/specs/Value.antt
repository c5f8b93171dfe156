-- The reading of a configuration as a function of its bytes, for computing. The grammar is Reading.antt; that
-- the two agree is a law (`one_reading`).
use Rattle.std.specs.Prelude.{◌≡◌, ℕ, suc, zero, ◌==◌, ◌+◌, not, Bool, List, [], ◌∷◌, length, ◌++◌, take, drop, Option, Some, None, Result, Ok, Err, ⊤, if◌then◌else◌}
use Rattle.std.specs.List.{prefix_len}
use Rattle.std.specs.Option.{option_map}
use Rattle.ts_config.specs.declared.setup.ConfigKind.{ConfigKind}
use Rattle.ts_config.specs.declared.setup.ConfigKind.TheVariants as k
use Rattle.ts_config.specs.declared.setup.FilePlace.{FilePlace}
use Rattle.ts_config.specs.declared.setup.LineMeaning.{LineMeaning}
use Rattle.ts_config.specs.declared.setup.ConfigRefusal.{ConfigRefusal}
use Rattle.ts_config.specs.declared.setup.ConfigRefusal.TheVariants as c
use Rattle.ts_config.specs.Bytes.{number_sign, quote_mark}
use Rattle.ts_config.specs.Lines.{config_lines}
use Rattle.ts_config.specs.Words.{is_blank, is_end}
use Rattle.ts_config.specs.Setup.{ConfigLines, no_lines}
use Rattle.ts_config.specs.Table.{line_entry}
use Rattle.ts_config.specs.Reading.{is_text, file_in, has_room, with_line, AreFiles, IsConfiguration, IsFault}

-- what a line begins with: no word, a word and the rest, or a quote that fits no word
pub data Front : Type 0 where
  nothing : Front
  word : List ℕ → List ℕ → Front
  unclosed : Front

-- a byte of a plain word
abbrev pub is_plain_byte : ℕ → Bool
is_plain_byte b = not (is_end b)

-- a byte of a word between quotes
abbrev pub is_quotable_byte : ℕ → Bool
is_quotable_byte b = not (b == quote_mark)

-- a word between quotes, with what stands behind the second quote
abbrev pub quote_closed : List ℕ → List ℕ → Front
quote_closed w [] = word w []
quote_closed w (b ∷ bs) = if is_end b then word w (b ∷ bs) else unclosed

-- a word between quotes, with the second quote, if it is there, and what stands behind it
abbrev pub quoted : List ℕ → List ℕ → Front
quoted w [] = unclosed
quoted w (mark ∷ rest) = quote_closed w rest

-- the front of a text that does not begin with a blank
abbrev pub front_of_text : List ℕ → Front
front_of_text [] = nothing
front_of_text (b ∷ bs) =
    if b == number_sign then nothing
    else if b == quote_mark then quoted (take (prefix_len is_quotable_byte bs) bs)
    (drop (prefix_len is_quotable_byte bs) bs)
    else word (take (prefix_len is_plain_byte (b ∷ bs)) (b ∷ bs))
    (drop (prefix_len is_plain_byte (b ∷ bs)) (b ∷ bs))

-- what a line begins with
abbrev pub front_of : List ℕ → Front
front_of line = front_of_text (drop (prefix_len is_blank line) line)

-- the words of a line with this front, where `words` gives those of the rest
abbrev pub words_behind : Front → (List ℕ → Option (List (List ℕ))) → Option (List (List ℕ))
words_behind nothing words = Some []
words_behind (word w rest) words = option_map (λ ws. w ∷ ws) (words rest)
words_behind unclosed words = None

-- the words of a line of fewer than n bytes, or none where a quote does not fit
abbrev pub words_below : ℕ → List ℕ → Option (List (List ℕ))
words_below zero line = None
words_below (suc n) line = words_behind (front_of line) (words_below n)

-- the words of a line, or none where a quote does not fit
abbrev pub words_in : List ℕ → Option (List (List ℕ))
words_in line = words_below (suc (length line)) line

-- what these words mean, or that a quote does not fit
abbrev pub meaning_of_words : Option (List (List ℕ)) → Result LineMeaning ConfigKind
meaning_of_words (Some words) = line_entry words
meaning_of_words None = Err k.Quote

-- what a line means by itself, or the first rule that it breaks
abbrev pub meaning_of : List ℕ → Result LineMeaning ConfigKind
meaning_of line = if is_text line then meaning_of_words (words_in line) else Err k.Text

-- the lines of a configuration with the places of those with a file in the order of the text, or the number
-- of the first line that is not in the grammar, counted from 1, and the first rule that it breaks
pub data Reading : Type 0 where
  Good : ConfigLines → List FilePlace → Reading
  Bad : ℕ → ConfigKind → Reading

-- the reading that goes on behind a line with this meaning, which is the n-th, counted from 1
abbrev pub next_lines : Result LineMeaning ConfigKind → ℕ → ConfigLines → List FilePlace
    → (ConfigLines → List FilePlace → Reading) → Reading
next_lines (Err kind) n so_far places next = Bad n kind
next_lines (Ok e) n so_far places next =
    if has_room so_far e then next (with_line so_far e) (places ++ file_in so_far e) else Bad n k.TooMany

-- the reading of lines behind n others, which were these
abbrev pub read_lines : List (List ℕ) → ℕ → ConfigLines → List FilePlace → Reading
read_lines [] n so_far places = Good so_far places
read_lines (line ∷ lines) n so_far places =
    next_lines (meaning_of line) (n + 1) so_far places (read_lines lines (n + 1))

-- the reading of a configuration
abbrev pub config_of : List ℕ → Reading
config_of bytes = read_lines (config_lines bytes) 0 no_lines []

-- the reading by the grammar
abbrev pub IsReading : List ℕ → Reading → Type 0
IsReading bytes (Good lines places) = IsConfiguration bytes lines × AreFiles bytes places
IsReading bytes (Bad n kind) = IsFault (config_lines bytes) n kind

-- a refusal is what was read, and want of memory says nothing
abbrev pub IsConfigRefusal : Reading → ConfigRefusal → Type 0
IsConfigRefusal reading (c.Fault f) = reading ≡ Bad f.line f.kind
IsConfigRefusal reading c.NoMemory = ⊤
