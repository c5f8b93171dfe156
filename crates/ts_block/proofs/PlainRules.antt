-- Header rules that leave alone what the proxy sees to itself leave a head one head.
use Rattle.std.proofs.Common.{◌≡◌, ◌∙◌, ◌++◌, ℕ, List, [], ◌∷◌, Bool, true, false, cond, sym, ap, refl}
use Rattle.std.proofs.Common.{append-nil}
use Rattle.std.specs.Prelude.{◌&&◌, All, bytes_eq, codes, filter, not, nat_le, length}
use Rattle.std.specs.List.{list_all}
use Rattle.std.proofs.lemmas.Slice.Eq.{bytes_eq-Decides}
use Rattle.std.proofs.lemmas.List.Elements.{All-append, All-cons, All-head, All-nil, All-tail, filter-append}
use Rattle.http_header.specs.FieldName.{is_field_name}
use Rattle.http_header.specs.FieldValue.{plain_value}
use Rattle.http_header.specs.Token.{is_value_byte, lowercase}
use Rattle.http_header.proofs.TokenLemmas.{AllPass-from_test, IsFieldName-from_test}
use Rattle.ts_config.specs.declared.fields.Side.{Side}
use Rattle.ts_config.specs.declared.fields.Rule.{Rule}
use Rattle.ts_config.specs.declared.fields.Rule.TheVariants.{Set, Add, Remove}
use Rattle.ts_config.specs.declared.fields.PluginLine.{PluginLine}
use Rattle.ts_config.specs.declared.fields.PluginLine.TheVariants.{Deny, Header, SessionHeader}
use Rattle.ts_config.specs.Bytes.{most_text}
use Rattle.ts_config.specs.Rules.{is_kept_name, HasPlainRule, IsPlainRule, IsRuleName, IsRuleValue}
use Rattle.ts_config.proofs.Asked.{chosen}
use Rattle.ts_config.proofs.TextParts.{both}
use Rattle.ts_wire.specs.declared.fields.Field.{Field}
use Rattle.ts_wire.specs.FieldList.{is_named, values_named}
use Rattle.ts_wire.specs.OneHead.{IsPlainField, IsChangeOf, IsFree}
use Rattle.ts_wire.proofs.HeaderRules.{removed}
use Rattle.ts_wire.proofs.PlainFields.{IsOther, others_from_values, values_from_others, plain_from}
use Rattle.ts_block.specs.Rules.{is_side, apply_rule, after_line, ruled, without_name}

-- ---- the name and the value of a rule

-- a name that rules may change is none of those that they may not
free_of : (name kept : List ℕ) → is_kept_name kept ≡ true → is_kept_name name ≡ false
    → bytes_eq name kept ≡ false
free_of name kept is other = by_test (bytes_eq name kept) refl
  where
    by_test : (t : Bool) → bytes_eq name kept ≡ t → t ≡ false
    by_test false differs = refl
    by_test true same =
        let wrong : true ≡ false =
        sym is ∙ ap is_kept_name (sym ((bytes_eq-Decides name kept).0 same)) ∙ other in
        absurd (cc)

untrue : (b : Bool) → not b ≡ true → b ≡ false
untrue false is = refl
untrue true is = absurd (let wrong : false ≡ true = is in cc)

-- a name of a rule is one in lower case that no rule may not change
rule_named : (name : List ℕ) → IsRuleName name
    → (is_field_name name ≡ true) × (is_kept_name name ≡ false) × (lowercase name ≡ name)
rule_named name is =
    let (passes, same) = chosen (is_field_name name && not (is_kept_name (lowercase name))) (lowercase name)
    name is in
    let parts = both (is_field_name name) (not (is_kept_name (lowercase name))) passes in
    (parts.0, ap is_kept_name (sym same) ∙ untrue (is_kept_name (lowercase name)) parts.1, same)

free_name : (name : List ℕ) → IsRuleName name → IsFree name
free_name name is =
    let free = (rule_named name is).1 in
    record {
      host = free_of name (codes "host") refl free;
      connection = free_of name (codes "connection") refl free;
      length = free_of name (codes "content-length") refl free;
      coding = free_of name (codes "transfer-encoding") refl free;
    }

-- what a rule puts can stand in a head
plain_field : (field : Field) → IsRuleName field.name → IsRuleValue field.value → IsPlainField field
plain_field field named valued =
    let name = rule_named field.name named in
    let bytes = field.value.bytes in
    let (passes, same) = chosen (nat_le (length bytes) most_text && list_all is_value_byte bytes)
    (plain_value bytes) field.value valued in
    let parts = both (nat_le (length bytes) most_text) (list_all is_value_byte bytes) passes in
    plain_from field (IsFieldName-from_test field.name name.0, name.2)
    (AllPass-from_test is_value_byte bytes parts.1)

-- ---- the fields after a rule

-- the fields of a name with one more at the end, which has another
others_more : (name : List ℕ) (fs : List Field) (field : Field) → values_named name fs ≡ []
    → IsOther name field → values_named name (fs ++ field ∷ []) ≡ []
others_more name fs field none other =
    values_from_others name (fs ++ field ∷ [])
    (All-append (IsOther name) fs (field ∷ []) (others_from_values name fs none)
    (All-cons (IsOther name) field [] other (All-nil (IsOther name))))

-- a field is put at the end
added : (sent fs : List Field) (field : Field) → IsChangeOf sent fs → IsPlainField field → IsFree field.name
    → IsChangeOf sent (fs ++ field ∷ [])
added sent fs field change plain free = record {
  leaves = record {
    plain = All-append IsPlainField fs (field ∷ []) change.leaves.plain
        (All-cons IsPlainField field [] plain (All-nil IsPlainField));
    connections = others_more (codes "connection") fs field change.leaves.connections free.connection;
    lengths = others_more (codes "content-length") fs field change.leaves.lengths free.length;
    codings = others_more (codes "transfer-encoding") fs field change.leaves.codings free.coding;
  };
  hosts = filter-append (is_named (codes "host")) fs (field ∷ [])
      ∙ ap (λ b. filter (is_named (codes "host")) fs ++ cond b (field ∷ []) []) free.host
      ∙ append-nil (filter (is_named (codes "host")) fs) ∙ change.hosts;
}

rule_plain : (sent fs : List Field) (rule : Rule) → IsPlainRule rule → IsChangeOf sent fs
    → IsChangeOf sent (apply_rule rule fs)
rule_plain sent fs (Set name value) (named, valued) change =
    let field : Field = record { name = name; value = value } in
    let free = free_name name named in
    added sent (without_name name fs) field (removed sent fs name change free)
    (plain_field field named valued) free
rule_plain sent fs (Add name value) (named, valued) change =
    let field : Field = record { name = name; value = value } in
    added sent fs field change (plain_field field named valued) (free_name name named)
rule_plain sent fs (Remove name) named change = removed sent fs name change (free_name name named)

-- a rule that is applied where it is of the side
on_side_plain : (of_side : Bool) (sent fs : List Field) (rule : Rule) → IsPlainRule rule → IsChangeOf sent fs
    → IsChangeOf sent (cond of_side (apply_rule rule fs) fs)
on_side_plain true sent fs rule plain change = rule_plain sent fs rule plain change
on_side_plain false sent fs rule plain change = change

line_plain : (side : Side) (sent fs : List Field) (line : PluginLine) → HasPlainRule line
    → IsChangeOf sent fs → IsChangeOf sent (after_line side fs line)
line_plain side sent fs (Deny sites) plain change = change
line_plain side sent fs (Header other rule) plain change =
    on_side_plain (is_side side other) sent fs rule plain change
line_plain side sent fs (SessionHeader other rule) plain change =
    on_side_plain (is_side side other) sent fs rule plain change

-- all rules of a side, one after the other
pub ruled_plain : (side : Side) (lines : List PluginLine) (sent fs : List Field) → All HasPlainRule lines
    → IsChangeOf sent fs → IsChangeOf sent (ruled side lines fs)
ruled_plain side [] sent fs plain change = change
ruled_plain side (line ∷ lines) sent fs plain change =
    ruled_plain side lines sent (after_line side fs line) (All-tail HasPlainRule line lines plain)
    (line_plain side sent fs line (All-head HasPlainRule line lines plain) change)
