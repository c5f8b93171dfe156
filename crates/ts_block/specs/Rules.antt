-- What the hook plugin lines of a configuration do: deny lists refuse hosts, header rules change fields.
use Rattle.std.specs.Prelude.{ℕ, ◌++◌, List, [], ◌∷◌, filter, fold, Bool, true, false, not, if◌then◌else◌}
use Rattle.std.specs.List.{list_any}
use Rattle.std.specs.Str.{str_eq_ignore_ascii_case}
use Rattle.ts_wire.specs.declared.fields.Field.{Field}
use Rattle.ts_wire.specs.FieldList.{is_named}
use Rattle.ts_config.specs.declared.fields.Side.{Side}
use Rattle.ts_config.specs.declared.fields.Side.TheVariants as S
use Rattle.ts_config.specs.declared.fields.Rule.{Rule}
use Rattle.ts_config.specs.declared.fields.Rule.TheVariants.{Set, Add, Remove}
use Rattle.ts_config.specs.declared.fields.PluginLine.{PluginLine}
use Rattle.ts_config.specs.declared.fields.PluginLine.TheVariants.{Deny, Header, SessionHeader}

-- the fields but those of the name
abbrev pub without_name : List ℕ → List Field → List Field
without_name name fields = filter (λ f. not (is_named name f)) fields

-- `set` puts the field in place of all of its name, `add` puts it at the end, `remove` takes all of the name
-- away
abbrev pub apply_rule : Rule → List Field → List Field
apply_rule (Set name value) fields = without_name name fields ++ record { name = name; value = value } ∷ []
apply_rule (Add name value) fields = fields ++ record { name = name; value = value } ∷ []
apply_rule (Remove name) fields = without_name name fields

abbrev pub is_side : Side → Side → Bool
is_side S.Request S.Request = true
is_side S.Response S.Response = true
is_side _ _ = false

-- the fields of one side's head after a rule, which changes them where it is of that side
abbrev pub after_rule : Side → List Field → Side → Rule → List Field
after_rule side fields ruled rule = if is_side side ruled then apply_rule rule fields else fields

-- the fields of one side's head after a line: only a rule of that side changes them, be it of all transactions
-- or of the session
abbrev pub after_line : Side → List Field → PluginLine → List Field
after_line side fields (Header ruled rule) = after_rule side fields ruled rule
after_line side fields (SessionHeader ruled rule) = after_rule side fields ruled rule
after_line side fields (Deny sites) = fields

-- the fields after all rules of one side, in the order of their lines
abbrev pub ruled : Side → List PluginLine → List Field → List Field
ruled side lines fields = fold (after_line side) fields lines

-- the host is one of the sites but for letter case
abbrev pub is_site : List ℕ → List (List ℕ) → Bool
is_site host sites = list_any (λ site. str_eq_ignore_ascii_case site host) sites

abbrev pub denies : List ℕ → PluginLine → Bool
denies host (Deny sites) = is_site host sites
denies host (Header side rule) = false
denies host (SessionHeader side rule) = false

-- some deny line denies the host
abbrev pub is_denied : List PluginLine → List ℕ → Bool
is_denied lines host = list_any (denies host) lines
