-- Where a body in chunks ends, as a function of its bytes (RFC 9112, section 7.1): all ways to cut them are
-- tried.
use Rattle.std.specs.Prelude.{◌≡◌, ℕ, zero, suc, ◌+◌, ◌≤◌, Bool, true, false, ◌&&◌, ◌||◌, List, [], ◌∷◌, ◌++◌}
use Rattle.std.specs.Prelude.{length, take, drop, Option, Some, None, if◌then◌else◌, ◌==◌, nat_lt, nat_le}
use Rattle.std.specs.Prelude.{bytes_eq}
use Rattle.std.specs.List.{list_all}
use Rattle.std.specs.Char.{is_ascii_hexdigit}
use Rattle.std.specs.Str.Parse.{digits_value}
use Rattle.httparse.specs.Ascii.{crlf_bytes, semicolon}
use Rattle.httparse.specs.Grammar.{is_extension_byte, is_ows}
use Rattle.ts_wire.specs.Body.{IsBadChunked, IsEndedChunked}
use Rattle.ts_wire.specs.Limits.{body_limit, line_limit, trailer_fields, trailer_limit}
use Rattle.ts_session.specs.Cuts.{cuts, is_section_with}

-- ---- a chunk line

abbrev pub is_size : List ℕ → Bool
is_size digits = nat_lt 0 (length digits) && (nat_le (length digits) 16 && list_all is_ascii_hexdigit digits)

-- an extension, if there is one, and the end of the line
unfoldable pub is_extension_end : List ℕ → Bool
is_extension_end [] = false
is_extension_end (b ∷ bytes) =
    bytes_eq (b ∷ bytes) crlf_bytes
    || ((b == semicolon) && cuts (λ text end. list_all is_extension_byte text && bytes_eq end crlf_bytes)
    bytes)

-- what follows the size in its line
unfoldable pub is_size_end : List ℕ → Bool
is_size_end bytes = cuts (λ pad end. list_all is_ows pad && is_extension_end end) bytes

-- the line is a chunk line, and the test is true of its size
unfoldable pub is_line_with : (ℕ → Bool) → List ℕ → Bool
is_line_with test line =
    cuts (λ digits end. is_size digits && (is_size_end end && test (digits_value 16 digits))) line

-- the bytes begin with one, and the test is true of its size and of what follows it
unfoldable pub begins_with_line : (ℕ → List ℕ → Bool) → List ℕ → Bool
begins_with_line test bytes =
    cuts (λ line rest. nat_le (length line) line_limit && is_line_with (λ size. test size rest) line) bytes

-- ---- the body

-- what follows the line of a chunk of this size, where the rest of a body behind it passes the test
unfoldable pub is_content : ℕ → (List ℕ → Bool) → List ℕ → Bool
is_content size test bytes =
    nat_le (size + 2) (length bytes)
    && (bytes_eq (take 2 (drop size bytes)) crlf_bytes && test (drop (size + 2) bytes))

-- a body of fewer than so many chunks that has ended, where its content goes on behind so many bytes
unfoldable pub is_body : ℕ → ℕ → List ℕ → Bool
is_body zero total bytes = false
is_body (suc most) total bytes =
    begins_with_line (λ size rest. if size == 0
    then nat_le (length rest) trailer_limit && is_section_with (λ fields. true) trailer_fields rest
    else nat_le (total + size) body_limit && is_content size (is_body most (total + size)) rest) bytes

-- the bytes are a body in chunks that has ended
abbrev pub is_whole_body : List ℕ → Bool
is_whole_body bytes = is_body (length bytes) 0 bytes

-- the least number from this one on, of so many, of which the test is true
abbrev pub least : (ℕ → Bool) → ℕ → ℕ → Option ℕ
least test from zero = None
least test from (suc count) = if test from then Some from else least test (from + 1) count

-- HOW MANY of the first bytes are a body in chunks that has ended, if one has
abbrev pub chunks_end : List ℕ → Option ℕ
chunks_end bytes = least (λ n. is_whole_body (take n bytes)) 0 (length bytes + 1)

-- THE LAW: it is the end of such a body, whatever follows; and a bad one has none
pub record FindsChunksEnd : Type 0 where
  pub ended : (bytes : List ℕ) (n : ℕ) → chunks_end bytes ≡ Some n
      → (n ≤ length bytes) × (body : List ℕ) × (e : IsEndedChunked (take n bytes) body) × (e.rest ≡ [])
  pub whole : (bytes more body : List ℕ) (e : IsEndedChunked bytes body) → e.rest ≡ []
      → chunks_end (bytes ++ more) ≡ Some (length bytes)
  pub never : (bytes body : List ℕ) → IsBadChunked bytes body → chunks_end bytes ≡ None
