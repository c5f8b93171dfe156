-- Which fields are sent on (RFC 9110, section 7.6.1).
use Rattle.std.specs.Prelude.{ℕ, Bool, not, ◌&&◌, ◌||◌, List, filter, codes, bytes_eq}
use Rattle.std.specs.List.{list_any}
use Rattle.std.specs.Str.{str_eq_ignore_ascii_case}
use Rattle.ts_wire.specs.declared.fields.Field.{Field}
use Rattle.ts_wire.specs.FieldList.{is_named}
use Rattle.ts_wire.specs.Values.{members}

-- the names of the fields that end at this hop. Content-Length is printed anew, where the body has a length.
abbrev pub is_hop : List ℕ → Bool
is_hop name =
    bytes_eq name (codes "connection") || bytes_eq name (codes "keep-alive")
    || bytes_eq name (codes "proxy-connection") || bytes_eq name (codes "te")
    || bytes_eq name (codes "trailer") || bytes_eq name (codes "transfer-encoding")
    || bytes_eq name (codes "upgrade") || bytes_eq name (codes "content-length")

-- it is a Connection field that names the option, in any letter case
abbrev pub names_option : List ℕ → Field → Bool
names_option option f =
    is_named (codes "connection") f
    && list_any (λ m. str_eq_ignore_ascii_case m option) (members f.value.bytes)

-- a Connection field names it
abbrev pub is_option : List Field → List ℕ → Bool
is_option fields name = list_any (names_option name) fields

-- the field is neither one that ends at this hop nor named by Connection
abbrev pub is_forwarded : List Field → Field → Bool
is_forwarded fields f = not (is_hop f.name || is_option fields f.name)

-- the fields that are sent on, in order
abbrev pub forwarded : List Field → List Field
forwarded fields = filter (is_forwarded fields) fields
