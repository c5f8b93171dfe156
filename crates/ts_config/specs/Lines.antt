-- The lines of a configuration: each ends with a line feed, which the last may lack; a last line without any
-- byte is no line; one carriage return at the end of a line is not part of it.
use Rattle.std.specs.Prelude.{ℕ, ◌==◌, List, [], ◌∷◌, map}
use Rattle.std.specs.List.{slice_split}
use Rattle.std.specs.Str.Lines.{strip_carriage_return}
use Rattle.ts_link.specs.Texts.{line_feed}

-- these parts, but for an empty one at the end
abbrev pub less_empty_last : List (List ℕ) → List (List ℕ)
less_empty_last [] = []
less_empty_last ([] ∷ []) = []
less_empty_last ((b ∷ bs) ∷ []) = (b ∷ bs) ∷ []
less_empty_last (part ∷ next ∷ parts) = part ∷ less_empty_last (next ∷ parts)

-- the lines of a configuration
abbrev pub config_lines : List ℕ → List (List ℕ)
config_lines bytes = map strip_carriage_return (less_empty_last (slice_split (λ b. b == line_feed) bytes))
