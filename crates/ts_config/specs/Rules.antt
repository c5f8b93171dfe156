-- The words behind the name of a hook plugin's line: the sites of a deny list, and the rule of a header line
-- (the Developer's Guide, "Denylist Plugin" and "HTTP Headers"; the words are this project's own).
use Rattle.std.specs.Prelude.{◌≡◌, ℕ, ◌&&◌, ◌||◌, not, nat_le, nat_lt, Bool, true, false, List, [], ◌∷◌, length, codes, Option, Some, None, ⊤, if◌then◌else◌}
use Rattle.std.specs.List.{list_all}
use Rattle.std.specs.Option.{option_map, option_and_then}
use Rattle.std.specs.Str.{bytes_eq}
use Rattle.http_header.specs.FieldName.{is_field_name}
use Rattle.http_header.specs.FieldValue.{FieldValue, plain_value}
use Rattle.http_header.specs.Token.{is_value_byte, lowercase}
use Rattle.ts_wire.specs.Forward.{is_hop}
use Rattle.ts_config.specs.declared.fields.PluginLine.{PluginLine}
use Rattle.ts_config.specs.declared.fields.PluginLine.TheVariants.{Deny, Header, SessionHeader}
use Rattle.ts_config.specs.declared.fields.Rule.{Rule}
use Rattle.ts_config.specs.declared.fields.Rule.TheVariants.{Set, Add, Remove}
use Rattle.ts_config.specs.declared.fields.Side.{Side}
use Rattle.ts_config.specs.declared.fields.Side.TheVariants as S
use Rattle.ts_config.specs.Bytes.{most_sites, most_text}

-- ---- deny lists

-- a site is not empty
abbrev pub is_site : List ℕ → Bool
is_site [] = false
is_site (b ∷ bs) = true

-- the words are sites, at least one and not too many
abbrev pub are_sites : List (List ℕ) → Bool
are_sites words = (nat_lt 0 (length words) && nat_le (length words) most_sites) && list_all is_site words

-- the deny list of these words
abbrev pub deny_of : List (List ℕ) → Option PluginLine
deny_of words = if are_sites words then Some (Deny words) else None

-- ---- header rules

-- the word for a side
abbrev pub side_word : Side → List ℕ
side_word S.Request = codes "request"
side_word S.Response = codes "response"

-- the side that a word names
abbrev pub side_of : List ℕ → Option Side
side_of word =
    if bytes_eq word (side_word S.Request) then Some S.Request
    else if bytes_eq word (side_word S.Response) then Some S.Response else None

-- the names, in lower case, of the fields that no rule changes: those that end at a hop (RFC 9110, section
-- 7.6.1), and those that the proxy itself sees to
abbrev pub is_kept_name : List ℕ → Bool
is_kept_name name =
    is_hop name || bytes_eq name (codes "host") || bytes_eq name (codes "via")

-- the name that a word stands for, in lower case, if it is a field name that a rule may change
abbrev pub rule_name : List ℕ → Option (List ℕ)
rule_name word =
    if is_field_name word && not (is_kept_name (lowercase word)) then Some (lowercase word) else None

-- the value that a word stands for, if it is not too long and a field may have it
abbrev pub rule_value : List ℕ → Option FieldValue
rule_value word =
    if nat_le (length word) most_text && list_all is_value_byte word then Some (plain_value word) else None

-- the rule of an action that puts a field
abbrev pub putting : List ℕ → List ℕ → FieldValue → Option Rule
putting action name value =
    if bytes_eq action (codes "set") then Some (Set name value)
    else if bytes_eq action (codes "add") then Some (Add name value) else None

-- an action that puts a field, with its name and value
abbrev pub put_rule : List ℕ → List ℕ → List ℕ → Option Rule
put_rule action name value =
    option_and_then (λ n. option_and_then (λ v. putting action n v) (rule_value value)) (rule_name name)

-- an action that removes fields, with their name
abbrev pub remove_rule : List ℕ → List ℕ → Option Rule
remove_rule action name =
    if bytes_eq action (codes "remove") then option_map (λ n. Remove n) (rule_name name) else None

-- the rule of these words
abbrev pub rule_of : List (List ℕ) → Option Rule
rule_of (action ∷ name ∷ value ∷ []) = put_rule action name value
rule_of (action ∷ name ∷ []) = remove_rule action name
rule_of other = None

-- the side and the rule of these words
abbrev pub sided_rule : List (List ℕ) → Option (Side × Rule)
sided_rule [] = None
sided_rule (side ∷ words) = option_and_then (λ s. option_map (λ r. (s, r)) (rule_of words)) (side_of side)

-- the header line of these words
abbrev pub header_of : List (List ℕ) → Option PluginLine
header_of words = option_map (λ both. Header both.0 both.1) (sided_rule words)

-- the session's header line of these words, which are those of a header line
abbrev pub session_of : List (List ℕ) → Option PluginLine
session_of words = option_map (λ both. SessionHeader both.0 both.1) (sided_rule words)

-- ---- what every rule that was read keeps to

-- the name in lower case of a field that a rule may change
abbrev pub IsRuleName : List ℕ → Type 0
IsRuleName name = rule_name name ≡ Some name

-- the value is one that a word stands for
abbrev pub IsRuleValue : FieldValue → Type 0
IsRuleValue value = rule_value value.bytes ≡ Some value

-- the rule changes fields that it may change alone, to such values
abbrev pub IsPlainRule : Rule → Type 0
IsPlainRule (Set name value) = IsRuleName name × IsRuleValue value
IsPlainRule (Add name value) = IsRuleName name × IsRuleValue value
IsPlainRule (Remove name) = IsRuleName name

-- the line has no other rule
abbrev pub HasPlainRule : PluginLine → Type 0
HasPlainRule (Deny sites) = ⊤
HasPlainRule (Header side rule) = IsPlainRule rule
HasPlainRule (SessionHeader side rule) = IsPlainRule rule

-- ---- the words of a line

-- the words of a rule
abbrev pub rule_words : Rule → List (List ℕ)
rule_words (Set name value) = codes "set" ∷ name ∷ value.bytes ∷ []
rule_words (Add name value) = codes "add" ∷ name ∷ value.bytes ∷ []
rule_words (Remove name) = codes "remove" ∷ name ∷ []

-- the words behind the name of a line
abbrev pub plugin_words : PluginLine → List (List ℕ)
plugin_words (Deny sites) = sites
plugin_words (Header side rule) = side_word side ∷ rule_words rule
plugin_words (SessionHeader side rule) = side_word side ∷ rule_words rule
