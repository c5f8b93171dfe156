-- Tests of bytes that try all ways to cut them: field lines, and sections of them (RFC 9112, section 5).
use Rattle.std.specs.Prelude.{ℕ, zero, suc, Bool, false, ◌&&◌, ◌||◌, List, [], ◌∷◌, ◌++◌, ◌==◌, bytes_eq}
use Rattle.std.specs.List.{list_all}
use Rattle.httparse.specs.Ascii.{colon, crlf_bytes, line_feed}
use Rattle.httparse.specs.Grammar.{Field, LineEnd, crlf, is_token, is_value_byte, lf}

-- the bytes can be cut in two of which the test is true, where this front stands before the first
abbrev pub cuts_behind : (List ℕ → List ℕ → Bool) → List ℕ → List ℕ → Bool
cuts_behind test front [] = test front []
cuts_behind test front (b ∷ bytes) = test front (b ∷ bytes) || cuts_behind test (front ++ b ∷ []) bytes

abbrev pub cuts : (List ℕ → List ℕ → Bool) → List ℕ → Bool
cuts test bytes = cuts_behind test [] bytes

-- the bytes are a line end, and the test is true of it
unfoldable pub is_end_with : (LineEnd → Bool) → List ℕ → Bool
is_end_with test bytes =
    (bytes_eq bytes crlf_bytes && test crlf) || (bytes_eq bytes (line_feed ∷ []) && test lf)

-- what follows the name in a field line, and the test is true of its value and of its end
unfoldable pub is_name_end : (List ℕ → LineEnd → Bool) → List ℕ → Bool
is_name_end test [] = false
is_name_end test (b ∷ bytes) =
    (b == colon) && cuts (λ raw end. list_all is_value_byte raw && is_end_with (test raw) end) bytes

-- a field line of which the test is true
unfoldable pub is_field_with : (Field → Bool) → List ℕ → Bool
is_field_with test line =
    cuts (λ name end. is_token name
    && is_name_end (λ raw last. test (record { name = name; raw = raw; end = last })) end) line

-- a section of so many fields at most, of which the test is true
unfoldable pub is_section_with : (List Field → Bool) → ℕ → List ℕ → Bool
is_section_with test zero bytes = is_end_with (λ last. test []) bytes
is_section_with test (suc most) bytes =
    is_end_with (λ last. test []) bytes
    || cuts (λ line rest. is_field_with (λ f. is_section_with (λ fields. test (f ∷ fields)) most rest) line)
    bytes
