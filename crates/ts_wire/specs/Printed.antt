-- The heads that are sent on, as text (RFC 9112, sections 3 to 5).
use Rattle.std.specs.Prelude.{ℕ, Bool, ◌+◌, ◌-◌, ◌/◌, ◌%◌, List, [], ◌∷◌, ◌++◌, Option, Some, None, if◌then◌else◌, ◌==◌, ◌&&◌, nat_lt, codes, flat_map, decimal, drop, length, take}
use Rattle.std.specs.List.{list_all, list_any}
use Rattle.httparse.specs.Ascii.{crlf_bytes}
use Rattle.ts_wire.specs.Limits.{ascii_end}
use Rattle.ts_wire.specs.declared.fields.Field.{Field}
use Rattle.ts_wire.specs.declared.printed.ClientFraming.{ClientFraming}
use Rattle.ts_wire.specs.declared.printed.ClientFraming.TheVariants.{Sized, Chunked}
use Rattle.ts_wire.specs.FieldList.{is_named}

-- name `: ` value CR LF
abbrev pub field_text : Field → List ℕ
field_text f = f.name ++ codes ": " ++ f.value.bytes ++ crlf_bytes

-- the fields, line by line
abbrev pub fields_text : List Field → List ℕ
fields_text fields = flat_map field_text fields

-- which version the head that is sent on came in (RFC 9110, section 7.6.3)
abbrev pub via_text : ℕ → List ℕ
via_text minor = if minor == 0 then codes "via: 1.0 tsx\r\n" else codes "via: 1.1 tsx\r\n"

-- an answer of the proxy's own has none
abbrev pub via_line : Option ℕ → List ℕ
via_line None = []
via_line (Some minor) = via_text minor

-- the digit of a number below ten
abbrev pub digit_of : ℕ → ℕ
digit_of n = 48 + n

-- a status in three digits
abbrev pub status_text : ℕ → List ℕ
status_text status = digit_of (status / 100) ∷ digit_of (status / 10 % 10) ∷ digit_of (status % 10) ∷ []

abbrev pub is_ascii_byte : ℕ → Bool
is_ascii_byte b = nat_lt b ascii_end

-- a reason with a byte that is not ASCII is left out
abbrev pub reason_text : List ℕ → List ℕ
reason_text reason = if list_all is_ascii_byte reason then reason else []

-- the line that says where the body ends, if one does
abbrev pub framing_line : ClientFraming → List ℕ
framing_line (Sized n) = codes "content-length: " ++ decimal n ++ crlf_bytes
framing_line Chunked = codes "transfer-encoding: chunked\r\n"
framing_line _ = []

-- the head with this line before its last CR LF
abbrev pub with_framing : List ℕ → ClientFraming → List ℕ
with_framing head framing =
    let front = length head - length crlf_bytes in
    take front head ++ framing_line framing ++ drop front head

-- the head that the client gets
abbrev pub client_text : ℕ → List ℕ → List Field → Option ℕ → ClientFraming → List ℕ
client_text status reason fields via framing =
    codes "HTTP/1.1 " ++ status_text status ++ codes " " ++ reason_text reason ++ crlf_bytes
    ++ fields_text fields ++ via_line via ++ framing_line framing ++ codes "connection: close\r\n\r\n"

-- the Host field with this value
abbrev pub host_text : List ℕ → List ℕ
host_text host = codes "host: " ++ host ++ crlf_bytes

-- a field of a request, where an absolute target's authority stands for the value of Host
abbrev pub request_field_text : Bool → List ℕ → Field → List ℕ
request_field_text absolute host f =
    if absolute && is_named (codes "host") f then host_text host else field_text f

-- a Host field, where there is none
abbrev pub missing_host_text : List ℕ → List Field → List ℕ
missing_host_text host fields = if list_any (is_named (codes "host")) fields then [] else host_text host

-- the head that the origin gets
abbrev pub origin_text : List ℕ → Bool → ℕ → List ℕ → List ℕ → List Field → List ℕ
origin_text method absolute minor target host fields =
    method ++ codes " " ++ target ++ codes " HTTP/1.1\r\n" ++ missing_host_text host fields
    ++ flat_map (request_field_text absolute host) fields ++ via_text minor
    ++ codes "connection: close\r\n\r\n"
