-- What the fields of one name say. Spaces and tabs at either end are no part of a field's value
-- (RFC 9110, section 5.5).
use Rattle.std.specs.Prelude.{ℕ, Bool, List, [], ◌∷◌, Option, Some, None, if◌then◌else◌, bytes_eq, count_by, find, flat_map}
use Rattle.httparse.specs.Grammar.{trim_ows}
use Rattle.ts_wire.specs.declared.fields.Field.{Field}
use Rattle.ts_wire.specs.Values.{members}

-- the field has this name, which is in lower case
abbrev pub is_named : List ℕ → Field → Bool
is_named name f = bytes_eq f.name name

-- the value without the spaces and tabs around it
abbrev pub value_of : Field → List ℕ
value_of f = trim_ows f.value.bytes

-- the value of a field of the name
abbrev pub value_in : List ℕ → Field → List (List ℕ)
value_in name f = if is_named name f then value_of f ∷ [] else []

-- the values of the fields of the name, in order
abbrev pub values_named : List ℕ → List Field → List (List ℕ)
values_named name fields = flat_map (value_in name) fields

-- the members of the value of a field of the name
abbrev pub members_in : List ℕ → Field → List (List ℕ)
members_in name f = if is_named name f then members f.value.bytes else []

-- the members of the values of the fields of the name, in order
abbrev pub members_named : List ℕ → List Field → List (List ℕ)
members_named name fields = flat_map (members_in name) fields

-- how many fields have the name
abbrev pub count_named : List ℕ → List Field → ℕ
count_named name fields = count_by (is_named name) fields

-- the value of a field that may lack
abbrev pub value_or_empty : Option Field → List ℕ
value_or_empty None = []
value_or_empty (Some f) = value_of f

-- the value of the first field of the name, or nothing
abbrev pub first_value : List ℕ → List Field → List ℕ
first_value name fields = value_or_empty (find (is_named name) fields)
