-- What quoting makes of a body: each of its lines behind a mark. A line ends with a line feed, which the last
-- may lack.
use Rattle.std.specs.Prelude.{ℕ, ◌==◌, ◌++◌, List, [], ◌∷◌, Bool, true, false}

-- what becomes of one byte, by whether it begins a line
abbrev pub marked_byte : List ℕ → Bool → ℕ → List ℕ
marked_byte mark true byte = mark ++ byte ∷ []
marked_byte mark false byte = byte ∷ []

-- what becomes of bytes, by whether the first of them begins a line: the byte behind a line feed begins one
abbrev pub marked : List ℕ → Bool → List ℕ → List ℕ
marked mark begins [] = []
marked mark begins (byte ∷ bytes) = marked_byte mark begins byte ++ marked mark (byte == 10) bytes
