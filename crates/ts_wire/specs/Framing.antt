-- Where the body of a response ends, from its head (RFC 9112, section 6.3).
use Rattle.std.specs.Prelude.{ℕ, ◌/◌, Bool, ◌&&◌, ◌||◌, List, [], ◌∷◌, Option, Some, None, length, if◌then◌else◌, nat_lt, nat_le, ◌==◌, codes}
use Rattle.std.specs.List.{list_all}
use Rattle.std.specs.Char.{is_ascii_digit}
use Rattle.std.specs.Str.{str_eq_ignore_ascii_case}
use Rattle.std.specs.Str.Parse.{digits_value}
use Rattle.ts_wire.specs.Limits.{no_content, not_modified, body_limit, word_limit}
use Rattle.ts_wire.specs.declared.fields.Field.{Field}
use Rattle.ts_wire.specs.declared.framing.ContentLength.{ContentLength}
use Rattle.ts_wire.specs.declared.framing.ContentLength.TheVariants as L
use Rattle.ts_wire.specs.declared.framing.TransferCoding.{TransferCoding}
use Rattle.ts_wire.specs.declared.framing.TransferCoding.TheVariants as C
use Rattle.ts_wire.specs.declared.framing.Framing.{Framing}
use Rattle.ts_wire.specs.declared.framing.Framing.TheVariants as F
use Rattle.ts_wire.specs.FieldList.{values_named, members_named}

-- one or more decimal digits, whose value is not above that
abbrev pub is_length : List ℕ → Bool
is_length m = nat_lt 0 (length m) && (list_all is_ascii_digit m && nat_le (digits_value 10 m) body_limit)

-- the text is this length
abbrev pub is_length_of : ℕ → List ℕ → Bool
is_length_of n m = is_length m && (digits_value 10 m == n)

-- what the members of the Content-Length fields come to: valid where each is a length, and all are the same
abbrev pub content_length : List (List ℕ) → ContentLength
content_length [] = L.Absent
content_length (m ∷ ms) =
    let n = digits_value 10 m in
    if is_length m && list_all (is_length_of n) ms then L.Valid n else L.Faulty

-- the text is `chunked`, in any letter case
abbrev pub is_chunked : List ℕ → Bool
is_chunked value = str_eq_ignore_ascii_case value (codes "chunked")

-- what the values of the Transfer-Encoding fields come to: joined by commas they are `chunked`, or other
abbrev pub transfer_coding : List (List ℕ) → TransferCoding
transfer_coding [] = C.Absent
transfer_coding (v ∷ []) = if is_chunked v then C.Chunked else C.Other
transfer_coding (v ∷ w ∷ vs) = C.Other

-- what the Content-Length fields come to
abbrev pub length_named : List Field → ContentLength
length_named fields = content_length (members_named (codes "content-length") fields)

-- what the Transfer-Encoding fields come to
abbrev pub coding_named : List Field → TransferCoding
coding_named fields = transfer_coding (values_named (codes "transfer-encoding") fields)

-- A transfer coding decides where there is one, and else the length. HTTP/1.0 has no transfer codings
-- (RFC 9112, section 6.1). Another coding than `chunked` alone is faulty: the RFC would read it, and this
-- project does not.
abbrev pub framing_by : ℕ → TransferCoding → ContentLength → Framing
framing_by minor C.Absent L.Absent = F.UntilClose
framing_by minor C.Absent (L.Valid n) = F.Sized n
framing_by minor C.Absent L.Faulty = F.Faulty
framing_by minor C.Chunked _ = if minor == 0 then F.Faulty else F.Chunked
framing_by minor C.Other _ = F.Faulty

-- a response to HEAD, and one of these statuses, has no body whatever its fields say
abbrev pub has_no_body : ℕ → Bool → Bool
has_no_body status to_head =
    to_head || (status / 100 == 1) || (status == no_content) || (status == not_modified)

-- the framing of a response, to a HEAD or to another request
abbrev pub framing : ℕ → ℕ → List Field → Bool → Framing
framing status minor fields to_head =
    if has_no_body status to_head then F.Nothing
    else framing_by minor (coding_named fields) (length_named fields)

-- the number that the text writes, where it is a number that a u64 holds
abbrev pub number_in : List ℕ → Option ℕ
number_in m =
    if nat_lt 0 (length m) && (list_all is_ascii_digit m && nat_lt (digits_value 10 m) word_limit)
    then Some (digits_value 10 m) else None

-- what the fields come to with one member more
abbrev pub add_length : ContentLength → List ℕ → ContentLength
add_length L.Absent m = if is_length m then L.Valid (digits_value 10 m) else L.Faulty
add_length (L.Valid n) m = if is_length_of n m then L.Valid n else L.Faulty
add_length L.Faulty m = L.Faulty

-- what the fields come to with one value more
abbrev pub add_coding : TransferCoding → List ℕ → TransferCoding
add_coding C.Absent v = if is_chunked v then C.Chunked else C.Other
add_coding C.Chunked v = C.Other
add_coding C.Other v = C.Other
