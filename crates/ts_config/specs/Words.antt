-- The words of a line, and the comment that it may end with.
use Rattle.std.specs.Prelude.{◌≡◌, ℕ, ◌==◌, ◌||◌, Bool, true, false, List, [], ◌∷◌, ◌++◌, ◌⊎◌, ⊤}
use Rattle.std.specs.List.{AllByRecursion}
use Rattle.ts_config.specs.Bytes.{number_sign, quote_mark, space, tab}

-- a space or a tab
abbrev pub is_blank : ℕ → Bool
is_blank b = b == space || b == tab

-- a blank, or the `#` of a comment
abbrev pub is_end : ℕ → Bool
is_end b = is_blank b || b == number_sign

-- the line ends here, or a blank or a comment follows
abbrev pub EndsWord : List ℕ → Type 0
EndsWord [] = ⊤
EndsWord (b ∷ bs) = is_end b ≡ true

-- the line ends here, or a comment follows, which runs to its end
abbrev pub EndsLine : List ℕ → Type 0
EndsLine [] = ⊤
EndsLine (b ∷ bs) = b ≡ number_sign

-- what may stand between quotes: anything but a quote
abbrev pub IsQuotable : List ℕ → Type 0
IsQuotable w = AllByRecursion (λ b. (b == quote_mark) ≡ false) w

-- a plain word is not empty, does not begin with a quote, and has no blank and no `#`
abbrev pub IsPlain : List ℕ → Type 0
IsPlain [] = ⊥
IsPlain (b ∷ bs) = ((b == quote_mark) ≡ false) × AllByRecursion (λ c. is_end c ≡ false) (b ∷ bs)

-- how a word stands in a line: as it is, or between quotes
abbrev pub Spells : List ℕ → List ℕ → Type 0
Spells text w = (IsPlain w × (text ≡ w)) ⊎ (IsQuotable w × (text ≡ quote_mark ∷ w ++ quote_mark ∷ []))

-- spaces and tabs alone
abbrev pub IsBlanks : List ℕ → Type 0
IsBlanks text = AllByRecursion (λ b. is_blank b ≡ true) text

-- the line has no word
abbrev pub HasNoWord : List ℕ → Type 0
HasNoWord line = (blanks rest : List ℕ) × IsBlanks blanks × EndsLine rest × (line ≡ blanks ++ rest)

-- the line begins with this word, and the rest follows
abbrev pub BeginsWithWord : List ℕ → List ℕ → List ℕ → Type 0
BeginsWithWord line w rest =
    (blanks text : List ℕ) × IsBlanks blanks × Spells text w × EndsWord rest
    × (line ≡ blanks ++ (text ++ rest))

-- the line is these words, between blanks, and maybe a comment
abbrev pub IsWords : List ℕ → List (List ℕ) → Type 0
IsWords line [] = HasNoWord line
IsWords line (w ∷ ws) = (rest : List ℕ) × BeginsWithWord line w rest × IsWords rest ws
