-- The line of a hook plugin that was read can be printed, keeps to the rule of what a rule may change, and is
-- asked for by its own words.
use Rattle.std.proofs.Common.{◌≡◌, ℕ, ◌<◌, List, [], ◌∷◌, Bool, true, false, cond, ◌&&◌, Some, None, inr, refl, ap, sym, ◌∙◌, subst, arith}
use Rattle.std.specs.Prelude.{◌==◌, nat_le, nat_lt, not, length, codes, bytes_eq}
use Rattle.std.specs.List.{AllByRecursion, list_all}
use Rattle.std.specs.Option.{option_map, option_and_then}
use Rattle.std.proofs.lemmas.Bool.Decides.{nat_tests}
use Rattle.http_header.specs.FieldName.{is_field_name}
use Rattle.http_header.specs.FieldValue.{FieldValue, plain_value}
use Rattle.http_header.specs.Token.{is_token_byte, is_value_byte, lowercase, token_test}
use Rattle.http_header.proofs.TokenLemmas.{IsFieldName-from_test, IsHeaderName-lowercase, token_byte_range}
use Rattle.ts_config.specs.declared.fields.PluginLine.{PluginLine}
use Rattle.ts_config.specs.declared.fields.PluginLine.TheVariants.{Deny, Header, SessionHeader}
use Rattle.ts_config.specs.declared.fields.Rule.{Rule}
use Rattle.ts_config.specs.declared.fields.Rule.TheVariants.{Set, Add, Remove}
use Rattle.ts_config.specs.declared.fields.Side.{Side}
use Rattle.ts_config.specs.declared.fields.Side.TheVariants as S
use Rattle.ts_config.specs.declared.setup.LineMeaning.TheVariants.{Plugin}
use Rattle.ts_config.specs.declared.table.PluginName.{PluginName}
use Rattle.ts_config.specs.declared.table.PluginName.TheVariants as n
use Rattle.ts_config.specs.Printing.{plugin_name}
use Rattle.ts_config.specs.Reading.{is_text_byte}
use Rattle.ts_config.specs.Rules.{are_sites, side_word, side_of, is_kept_name, rule_name, rule_value, putting, put_rule, remove_rule, rule_of, sided_rule, IsRuleName, IsRuleValue, IsPlainRule, HasPlainRule, rule_words, plugin_words}
use Rattle.ts_config.specs.Table.{asked_of, plugin_of}
use Rattle.ts_config.specs.Words.{IsQuotable}
use Rattle.ts_config.proofs.Asked.{mapped, chained, chosen}
use Rattle.ts_config.proofs.FineWords.{IsFine}
use Rattle.ts_config.proofs.RuleWords.{field_name_yes}
use Rattle.ts_config.proofs.TextParts.{IsText, both, plain_text, text-cons, text-nil, together}

-- ---- names

-- the name of a word is a name of itself
pub name_kept : (word name : List ℕ) → rule_name word ≡ Some name → IsRuleName name
name_kept word name is =
    let low : List ℕ = lowercase word in
    let (passes, same) = chosen (is_field_name word && not (is_kept_name low)) low name is in
    let parts = both (is_field_name word) (not (is_kept_name low)) passes in
    let header = IsHeaderName-lowercase word (IsFieldName-from_test word parts.0) in
    let again : is_field_name low ≡ true = field_name_yes low header.0 in
    let lowered : lowercase low ≡ low = header.1 in
    let found : rule_name low ≡ Some low =
    ap (λ l. cond (is_field_name low && not (is_kept_name l)) (Some l) None) lowered
    ∙ ap (λ t. cond t (Some low) None)
    (together (is_field_name low) (not (is_kept_name low)) again parts.1) in
    subst (λ m. rule_name m ≡ Some m) same found

-- a byte of a name
pub record IsNameByte (b : ℕ) : Type 0 where
  pub small : b < 128
  pub quote : (b == 34) ≡ false
  pub text : is_text_byte b ≡ true

token_byte : (b : ℕ) → token_test b ≡ true → IsNameByte b
unfolding is_token_byte
token_byte b is =
    let (above, below) = token_byte_range b is in
    record {
      small = omega (arith, below);
      quote = no_quote (b == 34) refl;
      text = grind (arith, nat_tests);
    }
  where
    no_quote : (t : Bool) → (b == 34) ≡ t → t ≡ false
    no_quote false other = refl
    no_quote true quote =
        let same : b ≡ 34 = grind (arith, nat_tests) in
        let wrong : false ≡ true = ap token_test (sym same) ∙ is in cc

-- a word of such bytes can be written between quotes
name_quotable : (w : List ℕ) → list_all token_test w ≡ true → IsQuotable w
name_quotable [] are = tt
name_quotable (b ∷ bs) are =
    let parts = both (token_test b) (list_all token_test bs) are in
    let one : IsNameByte b = token_byte b parts.0 in
    (one.quote, name_quotable bs parts.1)

name_text : (w : List ℕ) → list_all token_test w ≡ true → IsText w
name_text [] are = text-nil
name_text (b ∷ bs) are =
    let parts = both (token_test b) (list_all token_test bs) are in
    let one : IsNameByte b = token_byte b parts.0 in
    text-cons b bs one.small one.text (name_text bs parts.1)

name_fine : (name : List ℕ) → IsRuleName name → IsFine name
name_fine name is =
    let passes = (chosen (is_field_name name && not (is_kept_name (lowercase name))) (lowercase name) name
    is).0 in
    let field = (both (is_field_name name) (not (is_kept_name (lowercase name))) passes).0 in
    let sized = (both (nat_lt 0 (length name) && list_all token_test name) (nat_le (length name) 65535)
    field).0 in
    let tokens = (both (nat_lt 0 (length name)) (list_all token_test name) sized).1 in
    record { writable = inr (name_quotable name tokens); text = name_text name tokens }

-- ---- values

value_kept : (word : List ℕ) (value : FieldValue) → rule_value word ≡ Some value
    → IsRuleValue value × (word ≡ value.bytes)
value_kept word value is =
    let same = (chosen (nat_le (length word) 16384 && list_all is_value_byte word) (plain_value word) value
    is).1
    in (
      subst (λ v. rule_value v.bytes ≡ Some v) same (is ∙ ap (λ v. Some v) (sym same)),
      ap (λ v. v.bytes) same,
    )

-- ---- lines

-- the rule keeps to what rules may change, and its words can be written
abbrev pub IsPrintableRule : Rule → Type 0
IsPrintableRule (Set name value) = IsRuleName name × (IsRuleValue value × IsFine value.bytes)
IsPrintableRule (Add name value) = IsRuleName name × (IsRuleValue value × IsFine value.bytes)
IsPrintableRule (Remove name) = IsRuleName name

-- and a line
abbrev pub IsPrintablePlugin : PluginLine → Type 0
IsPrintablePlugin (Deny sites) = (are_sites sites ≡ true) × AllByRecursion IsFine sites
IsPrintablePlugin (Header side rule) = IsPrintableRule rule
IsPrintablePlugin (SessionHeader side rule) = IsPrintableRule rule

put_printable : (action word text : List ℕ) (rule : Rule) → IsFine text
    → put_rule action word text ≡ Some rule → IsPrintableRule rule
put_printable action word text rule fine is =
    let (name, first, inner) =
    chained (λ n. option_and_then (λ v. putting action n v) (rule_value text)) (rule_name word) rule is in
    let (value, second, whole) = chained (λ v. putting action name v) (rule_value text) rule inner in
    let named = name_kept word name first in
    let kept = value_kept text value second in
    by_action name value named kept.0 (subst IsFine kept.1 fine) (bytes_eq action (codes "set"))
    (bytes_eq action (codes "add")) whole
  where
    by_action : (name : List ℕ) (value : FieldValue) → IsRuleName name → IsRuleValue value
        → IsFine value.bytes → (set add : Bool)
        → cond set (Some (Set name value)) (cond add (Some (Add name value)) None) ≡ Some rule
        → IsPrintableRule rule
    by_action name value named valued good true add is =
        let same : Set name value ≡ rule = cc in subst IsPrintableRule same (named, (valued, good))
    by_action name value named valued good false true is =
        let same : Add name value ≡ rule = cc in subst IsPrintableRule same (named, (valued, good))
    by_action name value named valued good false false is =
        absurd (let wrong : None ≡ Some rule = is in cc)

remove_printable : (action word : List ℕ) (rule : Rule) → remove_rule action word ≡ Some rule
    → IsPrintableRule rule
remove_printable action word rule is = by_action (bytes_eq action (codes "remove")) is
  where
    by_action : (t : Bool) → cond t (option_map (λ n. Remove n) (rule_name word)) None ≡ Some rule
        → IsPrintableRule rule
    by_action true given =
        let (name, first, same) = mapped (λ n. Remove n) (rule_name word) rule given in
        subst IsPrintableRule same (name_kept word name first)
    by_action false given = absurd (let wrong : None ≡ Some rule = given in cc)

rule_printable : (words : List (List ℕ)) (rule : Rule) → AllByRecursion IsFine words
    → rule_of words ≡ Some rule → IsPrintableRule rule
rule_printable (action ∷ name ∷ value ∷ []) rule fine is =
    put_printable action name value rule fine.1.1.0 is
rule_printable (action ∷ name ∷ []) rule fine is = remove_printable action name rule is
rule_printable [] rule fine is = absurd (let wrong : None ≡ Some rule = is in cc)
rule_printable (a ∷ []) rule fine is = absurd (let wrong : None ≡ Some rule = is in cc)
rule_printable (a ∷ b ∷ c ∷ d ∷ more) rule fine is = absurd (let wrong : None ≡ Some rule = is in cc)

sided_printable : (words : List (List ℕ)) (both : Side × Rule) → AllByRecursion IsFine words
    → sided_rule words ≡ Some both → IsPrintableRule both.1
sided_printable [] both fine is = absurd (let wrong : None ≡ Some both = is in cc)
sided_printable (word ∷ words) both fine is =
    let (side, first, inner) =
    chained (λ s. option_map (λ r. (s, r)) (rule_of words)) (side_of word) both is in
    let (rule, second, same) = mapped (λ r. (side, r)) (rule_of words) both inner in
    subst (λ (b : Side × Rule). IsPrintableRule b.1) same (rule_printable words rule fine.1 second)

-- a line that was read can be printed
pub hooked_printable : (name : PluginName) (words : List (List ℕ)) (line : PluginLine)
    → AllByRecursion IsFine words → plugin_of name words ≡ Some line → IsPrintablePlugin line
hooked_printable n.Deny words line fine is =
    let (are, same) = chosen (are_sites words) (Deny words) line is in
    subst IsPrintablePlugin same (are, fine)
hooked_printable n.Header words line fine is =
    let (both, found, same) = mapped (λ b. Header b.0 b.1) (sided_rule words) line is in
    subst IsPrintablePlugin same (sided_printable words both fine found)
hooked_printable n.SessionHeader words line fine is =
    let (both, found, same) = mapped (λ b. SessionHeader b.0 b.1) (sided_rule words) line is in
    subst IsPrintablePlugin same (sided_printable words both fine found)
hooked_printable name words line fine is = absurd (let wrong : None ≡ Some line = is in cc)

-- it has a plain rule alone
rule_plain : (rule : Rule) → IsPrintableRule rule → IsPlainRule rule
rule_plain (Set name value) is = (is.0, is.1.0)
rule_plain (Add name value) is = (is.0, is.1.0)
rule_plain (Remove name) is = is

pub hooked_plain : (line : PluginLine) → IsPrintablePlugin line → HasPlainRule line
hooked_plain (Deny sites) is = tt
hooked_plain (Header side rule) is = rule_plain rule is
hooked_plain (SessionHeader side rule) is = rule_plain rule is

-- its words can be written
side_fine : (side : Side) → IsFine (side_word side)
side_fine S.Request =
    record { writable = inr (name_quotable (codes "request") refl); text = plain_text (codes "request") refl }
side_fine S.Response = record {
  writable = inr (name_quotable (codes "response") refl);
  text = plain_text (codes "response") refl;
}

set_fine : IsFine (codes "set")
set_fine = record { writable = inr (name_quotable (codes "set") refl); text = plain_text (codes "set") refl }

add_fine : IsFine (codes "add")
add_fine = record { writable = inr (name_quotable (codes "add") refl); text = plain_text (codes "add") refl }

remove_fine : IsFine (codes "remove")
remove_fine =
    record { writable = inr (name_quotable (codes "remove") refl); text = plain_text (codes "remove") refl }

rule_fine : (rule : Rule) → IsPrintableRule rule → AllByRecursion IsFine (rule_words rule)
rule_fine (Set name value) is = (set_fine, (name_fine name is.0, (is.1.1, tt)))
rule_fine (Add name value) is = (add_fine, (name_fine name is.0, (is.1.1, tt)))
rule_fine (Remove name) is = (remove_fine, (name_fine name is, tt))

pub hooked_fine : (line : PluginLine) → IsPrintablePlugin line → AllByRecursion IsFine (plugin_words line)
hooked_fine (Deny sites) is = is.1
hooked_fine (Header side rule) is = (side_fine side, rule_fine rule is)
hooked_fine (SessionHeader side rule) is = (side_fine side, rule_fine rule is)

-- and ask for the line
side_again : (side : Side) → side_of (side_word side) ≡ Some side
side_again S.Request = refl
side_again S.Response = refl

rule_again : (rule : Rule) → IsPrintableRule rule → rule_of (rule_words rule) ≡ Some rule
rule_again (Set name value) is =
    let text : List ℕ = value.bytes in
    ap (λ o. option_and_then (λ n. option_and_then (λ v. putting (codes "set") n v) (rule_value text)) o) is.0
    ∙ ap (λ o. option_and_then (λ v. putting (codes "set") name v) o) is.1.0
rule_again (Add name value) is =
    let text : List ℕ = value.bytes in
    ap (λ o. option_and_then (λ n. option_and_then (λ v. putting (codes "add") n v) (rule_value text)) o) is.0
    ∙ ap (λ o. option_and_then (λ v. putting (codes "add") name v) o) is.1.0
rule_again (Remove name) is = ap (option_map (λ n. Remove n)) is

sided_again : (side : Side) (rule : Rule) → IsPrintableRule rule
    → sided_rule (side_word side ∷ rule_words rule) ≡ Some (side, rule)
sided_again side rule is =
    ap (λ o. option_and_then (λ s. option_map (λ r. (s, r)) (rule_of (rule_words rule))) o)
    (side_again side)
    ∙ ap (option_map (λ r. (side, r))) (rule_again rule is)

pub hooked_again : (line : PluginLine) → IsPrintablePlugin line
    → asked_of (plugin_name line) (plugin_words line) ≡ Some (Plugin line)
hooked_again (Deny sites) is = ap (λ t. option_map Plugin (cond t (Some (Deny sites)) None)) is.0
hooked_again (Header side rule) is =
    ap (λ o. option_map Plugin (option_map (λ (b : Side × Rule). Header b.0 b.1) o))
    (sided_again side rule is)
hooked_again (SessionHeader side rule) is =
    ap (λ o. option_map Plugin (option_map (λ (b : Side × Rule). SessionHeader b.0 b.1) o))
    (sided_again side rule is)
