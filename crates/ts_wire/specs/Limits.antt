-- The numbers that the definitions of this crate name; each stands in the code as a constant too.
use Rattle.std.specs.Prelude.{ℕ, ◌^◌}

-- how many bytes `http://` has
abbrev pub scheme_len : ℕ
scheme_len = 7

-- the bytes below it are ASCII
abbrev pub ascii_end : ℕ
ascii_end = 128

-- how many bytes a head may have
abbrev pub head_limit : ℕ
head_limit = 16384

-- how many fields a head may have
abbrev pub field_limit : ℕ
field_limit = 64

-- the greatest status that three digits write
abbrev pub status_limit : ℕ
status_limit = 999

-- how many bytes the body of a message may have: 2^63 - 1
abbrev pub body_limit : ℕ
body_limit = 9223372036854775807

-- the numbers below it are those that a `u64` holds
abbrev pub word_limit : ℕ
word_limit = 2 ^ 64

-- how many bytes a chunk line may have
abbrev pub line_limit : ℕ
line_limit = 4096

-- how many bytes a trailer section may have
abbrev pub trailer_limit : ℕ
trailer_limit = 16384

-- how many fields a trailer section may have
abbrev pub trailer_fields : ℕ
trailer_fields = 64

-- how many line feeds a trailer section may have: one for each field, and one for the empty line that ends it
abbrev pub trailer_lines : ℕ
trailer_lines = 65

-- how many bytes a piece may have that a body is sent in
abbrev pub piece_limit : ℕ
piece_limit = 32768

-- the statuses of a refusal (RFC 9110, sections 15.5.1 and 15.6.2)
abbrev pub bad_request : ℕ
bad_request = 400

abbrev pub not_implemented : ℕ
not_implemented = 501

-- the statuses of a response with no body beside 1xx (RFC 9110, sections 15.3.5 and 15.4.5)
abbrev pub no_content : ℕ
no_content = 204

abbrev pub not_modified : ℕ
not_modified = 304

-- how many bytes the line may have that says where a body ends
abbrev pub framing_limit : ℕ
framing_limit = 96
