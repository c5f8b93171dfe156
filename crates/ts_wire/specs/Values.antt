-- The value of a field as a list of members (RFC 9110, section 5.6.1).
use Rattle.std.specs.Prelude.{ℕ, Bool, List, map, ◌==◌}
use Rattle.std.specs.List.{slice_split}
use Rattle.httparse.specs.Grammar.{trim_ows}

-- the byte `,`
abbrev pub is_comma : ℕ → Bool
is_comma b = b == 44

-- the parts between commas, each without the spaces and tabs around it; an empty one counts too
abbrev pub members : List ℕ → List (List ℕ)
members value = map trim_ows (slice_split is_comma value)
