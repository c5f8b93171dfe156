-- Which requests are taken, with which target and host. The first row of the table that applies decides.
use Rattle.std.specs.Prelude.{◌≡◌, ◌⊎◌, ℕ, Bool, false, not, ◌&&◌, ◌||◌, List, [], ◌∷◌, length, take, drop, Option, Some, None, Result, Ok, Err, if◌then◌else◌, ◌==◌, nat_lt, nat_le, ◌+◌, codes, bytes_eq}
use Rattle.std.specs.List.{list_any, before_first, position, position_or_len}
use Rattle.std.specs.Str.{str_eq_ignore_ascii_case}
use Rattle.http_header.specs.Token.{lowercase}
use Rattle.ts_wire.specs.Limits.{scheme_len, bad_request, not_implemented}
use Rattle.ts_wire.specs.declared.fields.Field.{Field}
use Rattle.ts_wire.specs.declared.heads.RequestHead.{RequestHead}
use Rattle.ts_wire.specs.declared.check.Verdict.{Verdict}
use Rattle.ts_wire.specs.declared.check.Verdict.TheVariants.{Pass, Refuse}
use Rattle.ts_wire.specs.declared.framing.ContentLength.{ContentLength}
use Rattle.ts_wire.specs.declared.framing.ContentLength.TheVariants as L
use Rattle.ts_wire.specs.declared.framing.TransferCoding.{TransferCoding}
use Rattle.ts_wire.specs.declared.framing.TransferCoding.TheVariants as C
use Rattle.ts_wire.specs.FieldList.{count_named, first_value}
use Rattle.ts_wire.specs.Framing.{length_named, coding_named}

-- the bytes that part a target, as they stand in it
abbrev pub slash : ℕ
slash = 47

abbrev pub colon : ℕ
colon = 58

abbrev pub question_mark : ℕ
question_mark = 63

abbrev pub at_sign : ℕ
at_sign = 64

abbrev pub bracket : ℕ
bracket = 93

abbrev pub is_colon : ℕ → Bool
is_colon b = b == colon

abbrev pub is_at_sign : ℕ → Bool
is_at_sign b = b == at_sign

abbrev pub is_bracket : ℕ → Bool
is_bracket b = b == bracket

-- HTTP/1.1 wants one Host field, and HTTP/1.0 at most one (RFC 9112, section 3.2)
abbrev pub has_wrong_hosts : ℕ → ℕ → Bool
has_wrong_hosts minor hosts = if minor == 0 then nat_lt 1 hosts else not (hosts == 1)

-- the target begins with `http://`, in any letter case
abbrev pub is_absolute : List ℕ → Bool
is_absolute target =
    nat_le scheme_len (length target) && str_eq_ignore_ascii_case (take scheme_len target) (codes "http://")

-- a byte that ends an authority: `/` or `?`
abbrev pub ends_authority : ℕ → Bool
ends_authority b = (b == slash) || (b == question_mark)

-- the authority, from what follows `http://`
abbrev pub authority : List ℕ → List ℕ
authority rest = before_first ends_authority rest

-- what follows the authority
abbrev pub after_authority : List ℕ → List ℕ
after_authority rest = drop (position_or_len ends_authority rest) rest

-- what is sent of an absolute target, from what follows its authority (RFC 9112, sections 3.2.1 and 3.2.4)
abbrev pub sent_after : List ℕ → List ℕ → List ℕ
sent_after method [] = if bytes_eq method (codes "OPTIONS") then codes "*" else codes "/"
sent_after method (b ∷ bs) = if b == question_mark then slash ∷ b ∷ bs else b ∷ bs

-- the target and the host of an absolute target, from what follows `http://`: an authority that is not empty
-- and has no `@`
abbrev pub absolute_parts : List ℕ → List ℕ → Option (List ℕ × List ℕ)
absolute_parts method rest =
    if (length (authority rest) == 0) || list_any is_at_sign (authority rest) then None
    else Some (sent_after method (after_authority rest), authority rest)

abbrev pub begins_with_slash : List ℕ → Bool
begins_with_slash [] = false
begins_with_slash (b ∷ bs) = b == slash

-- the target that the origin gets, and the host: a path, `*` of an OPTIONS request, or an absolute target
abbrev pub target_parts : List ℕ → List ℕ → List ℕ → Option (List ℕ × List ℕ)
target_parts method target host =
    if begins_with_slash target then Some (target, host)
    else (if bytes_eq target (codes "*") && bytes_eq method (codes "OPTIONS") then Some (codes "*", host)
    else (if is_absolute target then absolute_parts method (drop scheme_len target)
    else None))

-- why the body that a request announces refuses it: a transfer coding, a faulty length, or a body at all
abbrev pub refusal_by : TransferCoding → ContentLength → Option ℕ
refusal_by C.Chunked l = Some not_implemented
refusal_by C.Other l = Some not_implemented
refusal_by C.Absent L.Absent = None
refusal_by C.Absent L.Faulty = Some bad_request
refusal_by C.Absent (L.Valid n) = if n == 0 then None else Some not_implemented

-- the parts, unless there is a status
abbrev pub unless_refused : Option ℕ → List ℕ × List ℕ → Result (List ℕ × List ℕ) ℕ
unless_refused None parts = Ok parts
unless_refused (Some status) parts = Err status

-- a target of no form is refused, and then a body
abbrev pub with_parts : Option (List ℕ × List ℕ) → List Field → Result (List ℕ × List ℕ) ℕ
with_parts None fields = Err bad_request
with_parts (Some parts) fields = unless_refused (refusal_by (coding_named fields) (length_named fields)) parts

-- the value of the first Host field, or nothing
abbrev pub host_named : List Field → List ℕ
host_named fields = first_value (codes "host") fields

-- the target and the host, or the status of the refusal
abbrev pub check : RequestHead → Result (List ℕ × List ℕ) ℕ
check head =
    if bytes_eq head.method (codes "CONNECT") then Err not_implemented
    else (if has_wrong_hosts head.minor (count_named (codes "host") head.fields) then Err bad_request
    else with_parts (target_parts head.method head.target (host_named head.fields)) head.fields)

-- whatever is refused is so with one of two statuses
abbrev pub IsRefusal : ℕ → Type 0
IsRefusal status = (status ≡ bad_request) ⊎ (status ≡ not_implemented)

abbrev pub RefusesSo : Type 0
RefusesSo = (head : RequestHead) (status : ℕ) → check head ≡ Err status → IsRefusal status

-- the verdict says it
abbrev pub Says : Verdict → Result (List ℕ × List ℕ) ℕ → Type 0
Says (Pass target host) r = r ≡ Ok (target, host)
Says (Refuse status) r = r ≡ Err status

-- up to and including the bracket that ends an address, if there is one, else up to the port
abbrev pub without_port : Option ℕ → List ℕ → List ℕ
without_port (Some bracket) host = take (bracket + 1) host
without_port None host = before_first is_colon host

-- the host as plugins see it, in lower case
abbrev pub plugin_host : List ℕ → List ℕ
plugin_host host = lowercase (without_port (position is_bracket host) host)
