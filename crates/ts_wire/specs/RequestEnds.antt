-- Where a request ends, read off its head (RFC 9112, sections 6.1 to 6.3).
use Rattle.std.specs.Prelude.{ℕ, Bool, not, ◌&&◌, ◌||◌, List, map, Option, Some, None, is_some, if◌then◌else◌, ◌==◌, codes, bytes_eq}
use Rattle.httparse.specs.Grammar as grammar
use Rattle.ts_wire.specs.declared.fields.Field.{Field}
use Rattle.ts_wire.specs.declared.framing.ContentLength.{ContentLength}
use Rattle.ts_wire.specs.declared.framing.ContentLength.TheVariants as L
use Rattle.ts_wire.specs.declared.framing.Framing.{Framing}
use Rattle.ts_wire.specs.declared.framing.Framing.TheVariants as F
use Rattle.ts_wire.specs.declared.framing.TransferCoding.{TransferCoding}
use Rattle.ts_wire.specs.declared.framing.TransferCoding.TheVariants as C
use Rattle.ts_wire.specs.declared.ends.RequestEnd.{RequestEnd}
use Rattle.ts_wire.specs.declared.ends.RequestEnd.TheVariants as E
use Rattle.ts_wire.specs.FieldList.{count_named}
use Rattle.ts_wire.specs.Framing.{length_named, coding_named}
use Rattle.ts_wire.specs.Heads.{kept_field}
use Rattle.ts_wire.specs.Check.{has_wrong_hosts, host_named, target_parts}

-- its method is not CONNECT, and its Host and its target are such as the request check takes
abbrev pub is_addressed : List ℕ → List ℕ → ℕ → List Field → Bool
is_addressed method target minor fields =
    not (bytes_eq method (codes "CONNECT"))
    && (not (has_wrong_hosts minor (count_named (codes "host") fields))
    && is_some (target_parts method target (host_named fields)))

-- Where a request ends, by whether a body of it is passed on, its version, its coding and its length. With no
-- body it ends with its head. A body that is announced and not passed on leaves its end unknown.
abbrev pub end_by : Bool → ℕ → TransferCoding → ContentLength → RequestEnd
end_by addressed minor C.Absent L.Absent = E.Sized 0
end_by addressed minor C.Absent (L.Valid n) = if (n == 0) || addressed then E.Sized n else E.Unknown
end_by addressed minor C.Absent L.Faulty = E.Unknown
end_by addressed minor C.Chunked L.Absent = if addressed && (minor == 1) then E.Chunked else E.Unknown
end_by addressed minor C.Chunked (L.Valid n) = E.Unknown
end_by addressed minor C.Chunked L.Faulty = E.Unknown
end_by addressed minor C.Other length = E.Unknown

-- where a request ends with these parts of its head
abbrev pub end_of_parts : List ℕ → List ℕ → ℕ → List Field → RequestEnd
end_of_parts method target minor fields =
    end_by (is_addressed method target minor fields) minor (coding_named fields) (length_named fields)

-- where a request ends with this head
abbrev pub end_of_request : grammar.RequestHead → RequestEnd
end_of_request h = end_of_parts h.method h.target h.minor (map kept_field h.fields)

-- where the body of such a request ends, if it has one
abbrev pub upload_of : RequestEnd → Option Framing
upload_of (E.Sized n) = if n == 0 then None else Some (F.Sized n)
upload_of E.Chunked = Some F.Chunked
upload_of E.Unknown = None
