-- The first request of a client's bytes, as a function of them (RFC 9112, sections 2 to 6): all ways to cut
-- them are tried.
use Rattle.std.specs.Prelude.{◌≡◌, ℕ, zero, suc, ◌+◌, Bool, true, false, ◌&&◌, ◌||◌, List, [], ◌∷◌, ◌++◌}
use Rattle.std.specs.Prelude.{length, map, take, Option, Some, None, ◌==◌, nat_lt, nat_le, bytes_eq}
use Rattle.std.specs.List.{list_all}
use Rattle.std.specs.Str.{is_utf8}
use Rattle.httparse.specs.Ascii.{space}
use Rattle.httparse.specs.Grammar.{Field, is_token, is_uri_byte, print_version}
use Rattle.ts_wire.specs.Heads.{kept_field}
use Rattle.ts_wire.specs.Limits.{field_limit, head_limit}
use Rattle.ts_wire.specs.RequestEnds.{end_of_parts}
use Rattle.ts_wire.specs.declared.ends.RequestEnd.{RequestEnd}
use Rattle.ts_wire.specs.declared.ends.RequestEnd.TheVariants as E
use Rattle.ts_session.specs.ChunksEnd.{is_whole_body, least}
use Rattle.ts_session.specs.Cuts.{cuts, is_end_with, is_section_with}
use Rattle.ts_session.specs.Requests.{IsNext, IsRequest, LacksWhole}

-- ---- a head

-- so many empty lines at most
unfoldable pub are_blank : ℕ → List ℕ → Bool
are_blank zero bytes = bytes_eq bytes []
are_blank (suc most) bytes =
    bytes_eq bytes [] || cuts (λ line rest. is_end_with (λ end. true) line && are_blank most rest) bytes

-- a version, and the test is true of it
unfoldable pub is_version_with : (ℕ → Bool) → List ℕ → Bool
is_version_with test bytes =
    (bytes_eq bytes (print_version 0) && test 0) || (bytes_eq bytes (print_version 1) && test 1)

-- a line end and a section of field lines, and the test is true of these
unfoldable pub are_fields_with : (List Field → Bool) → List ℕ → Bool
are_fields_with test bytes =
    cuts (λ end rest. is_end_with (λ last. true) end && is_section_with test field_limit rest) bytes

-- what follows the target of a head, and the test is true of its version and its fields
unfoldable pub is_target_end : (ℕ → List Field → Bool) → List ℕ → Bool
is_target_end test [] = false
is_target_end test (b ∷ bytes) =
    (b == space)
    && cuts (λ version rest. is_version_with (λ minor. are_fields_with (test minor) rest) version) bytes

abbrev pub is_target : List ℕ → Bool
is_target bytes = nat_lt 0 (length bytes) && (list_all is_uri_byte bytes && is_utf8 bytes)

-- what follows the method of a head, and the test is true of its target, its version and its fields
unfoldable pub is_method_end : (List ℕ → ℕ → List Field → Bool) → List ℕ → Bool
is_method_end test [] = false
is_method_end test (b ∷ bytes) =
    (b == space) && cuts (λ target rest. is_target target && is_target_end (test target) rest) bytes

-- a start line and a section of field lines, and the test is true of its parts
unfoldable pub is_start_with : (List ℕ → List ℕ → ℕ → List Field → Bool) → List ℕ → Bool
is_start_with test bytes = cuts (λ method rest. is_token method && is_method_end (test method) rest) bytes

-- a head, and the test is true of its parts
unfoldable pub is_head_with : (List ℕ → List ℕ → ℕ → List Field → Bool) → List ℕ → Bool
is_head_with test bytes = cuts (λ blank rest. are_blank (length blank) blank && is_start_with test rest) bytes

-- the bytes begin with a head, and the test is true of where its request ends and of what follows it
unfoldable pub begins_with_head : (RequestEnd → List ℕ → Bool) → List ℕ → Bool
begins_with_head test bytes =
    cuts (λ head rest. nat_le (length head) head_limit
    && is_head_with (λ method target minor fields.
    test (end_of_parts method target minor (map kept_field fields)) rest) head) bytes

-- ---- the request

-- the bytes are all that follows the head of a request that ends so
unfoldable pub is_body_by : RequestEnd → List ℕ → Bool
is_body_by (E.Sized n) bytes = length bytes == n
is_body_by E.Chunked bytes = is_whole_body bytes
is_body_by E.Unknown bytes = false

-- the bytes are one whole request
abbrev pub is_whole_request : List ℕ → Bool
is_whole_request bytes = begins_with_head is_body_by bytes

-- how many of the first bytes are a whole request, if one is there
abbrev pub request_end : List ℕ → Option ℕ
request_end bytes = least (λ n. is_whole_request (take n bytes)) 0 (length bytes + 1)

-- so many of the first bytes, or all of them
abbrev pub take_to : Option ℕ → List ℕ → List ℕ
take_to (Some n) bytes = take n bytes
take_to None bytes = bytes

-- THE FIRST REQUEST of all bytes of a client: whole, or else all that is left
abbrev pub first_request : List ℕ → List ℕ
first_request bytes = take_to (request_end bytes) bytes

-- THE LAW: it is the whole request at the front of the bytes, whatever follows; and where there is none, it
-- is all of them
pub record FindsFirst : Type 0 where
  pub whole : (first more : List ℕ) → IsRequest first → first_request (first ++ more) ≡ first
  pub lacks : (bytes : List ℕ) → LacksWhole bytes → first_request bytes ≡ bytes
  pub next : (bytes : List ℕ) → IsNext bytes (first_request bytes)
