-- The lines of a head, by their bytes, which of them stay, and the empty ones ahead of it (RFC 9112, sections
-- 2.2 and 5.1).
use Rattle.std.specs.Prelude.{◌≡◌, ℕ, Bool, true, not, ◌||◌, List, [], ◌∷◌, ◌++◌, if◌then◌else◌, ◌==◌}
use Rattle.std.specs.List.{before_first, list_all}
use Rattle.http_header.specs.Token.{lowercase}
use Rattle.httparse.specs.Ascii.{carriage_return, colon, line_feed}
use Rattle.ts_request.specs.Upload.{speaks_of_body}

abbrev pub is_colon : ℕ → Bool
is_colon b = b == colon

abbrev pub is_line_feed : ℕ → Bool
is_line_feed b = b == line_feed

-- a byte of the end of a line
abbrev pub is_end_byte : ℕ → Bool
is_end_byte b = (b == carriage_return) || (b == line_feed)

-- there is no other byte, so no line has begun that is not empty
abbrev pub AreBlank : List ℕ → Type 0
AreBlank bytes = list_all is_end_byte bytes ≡ true

-- what stands before the line's first colon is no name that speaks of the body
abbrev pub line_stays : List ℕ → Bool
line_stays line = not (speaks_of_body (lowercase (before_first is_colon line)))

-- the line, if it stays
abbrev pub kept_line : List ℕ → List ℕ
kept_line line = if line_stays line then line else []

-- the lines that stay, where this part of the first line stands before the bytes
abbrev pub kept_from : List ℕ → List ℕ → List ℕ
kept_from line [] = kept_line line
kept_from line (b ∷ bytes) =
    if is_line_feed b then kept_line (line ++ b ∷ []) ++ kept_from [] bytes
    else kept_from (line ++ b ∷ []) bytes

-- the lines that stay, each with the line feed that ends it
abbrev pub kept_lines : List ℕ → List ℕ
kept_lines bytes = kept_from [] bytes
