-- The name and the value of a rule, by the tests of the kit's header names and values.
use Rattle.std.proofs.Common.{◌≡◌, ℕ, ◌≤◌, List, Bool, true, false, cond, ◌&&◌, Some, None, refl, ap, sym, ◌∙◌, arith}
use Rattle.std.specs.Prelude.{nat_le, nat_lt, not, length, IsTrue}
use Rattle.std.specs.List.{list_all}
use Rattle.std.proofs.lemmas.Bool.Decides.{Decides-by_and, nat_tests}
use Rattle.http_header.specs.FieldName.{is_field_name, IsFieldName}
use Rattle.http_header.specs.FieldValue.{IsFieldValue, plain_value}
use Rattle.http_header.specs.Token.{is_token_byte, is_value_byte, lowercase, token_test}
use Rattle.http_header.proofs.TokenLemmas.{IsFieldName-from_test}
use Rattle.ts_config.specs.Rules.{is_kept_name, rule_name, rule_value}
use Rattle.ts_config.proofs.TextParts.{together}

-- the test of a field name holds of each
pub field_name_yes : (bytes : List ℕ) → IsFieldName bytes → is_field_name bytes ≡ true
unfolding is_token_byte
field_name_yes bytes is =
    let some = is.0.0 in
    let few = is.1 in
    let long : nat_lt 0 (length bytes) ≡ true = grind (arith, nat_tests, some) in
    let short : nat_le (length bytes) 65535 ≡ true = grind (arith, nat_tests, few) in
    let tokens : list_all token_test bytes ≡ true =
    (Decides-by_and token_test (λ b. IsTrue (token_test b)) (list_all token_test)
    (λ b. (λ h. h, λ h. h)) refl (λ _ _. refl) bytes).1 is.0.1 in
    together (nat_lt 0 (length bytes) && list_all token_test bytes) (nat_le (length bytes) 65535)
    (together (nat_lt 0 (length bytes)) (list_all token_test bytes) long tokens) short

-- and of no other word
field_name_no : (bytes : List ℕ) → ¬ IsFieldName bytes → is_field_name bytes ≡ false
field_name_no bytes other = by_answer (is_field_name bytes) refl
  where
    by_answer : (t : Bool) → is_field_name bytes ≡ t → t ≡ false
    by_answer true is = absurd (other (IsFieldName-from_test bytes is))
    by_answer false is = refl

-- a field name that rules may change is the name of a rule
pub named_rule : (word : List ℕ) → IsFieldName word → is_kept_name (lowercase word) ≡ false
    → rule_name word ≡ Some (lowercase word)
named_rule word is free =
    ap (λ t. cond (t && not (is_kept_name (lowercase word))) (Some (lowercase word)) None)
    (field_name_yes word is)
    ∙ ap (λ t. cond (not t) (Some (lowercase word)) None) free

-- and a word that is no field name is none
pub unnamed_rule : (word : List ℕ) → ¬ IsFieldName word → rule_name word ≡ None
unnamed_rule word other =
    ap (λ t. cond (t && not (is_kept_name (lowercase word))) (Some (lowercase word)) None)
    (field_name_no word other)

-- the test of a value holds of each
value_yes : (bytes : List ℕ) → (¬ IsFieldValue bytes → ⊥) → list_all is_value_byte bytes ≡ true
value_yes bytes given = by_answer (list_all is_value_byte bytes) refl
  where
    passes : IsFieldValue bytes → list_all is_value_byte bytes ≡ true
    passes = (Decides-by_and is_value_byte (λ b. IsTrue (is_value_byte b)) (list_all is_value_byte)
        (λ b. (λ h. h, λ h. h)) refl (λ _ _. refl) bytes).1

    by_answer : (t : Bool) → list_all is_value_byte bytes ≡ t → t ≡ true
    by_answer true is = refl
    by_answer false is = absurd (given (λ value. let wrong : false ≡ true = sym is ∙ passes value in cc))

-- bytes that a value may hold are the value of a rule, where they are not too many
pub valued_rule : (word : List ℕ) → length word ≤ 16384 → (¬ IsFieldValue word → ⊥)
    → rule_value word ≡ Some (plain_value word)
valued_rule word fits given =
    let few : nat_le (length word) 16384 ≡ true = grind (arith, nat_tests, fits) in
    ap (λ t. cond t (Some (plain_value word)) None)
    (together (nat_le (length word) 16384) (list_all is_value_byte word) few (value_yes word given))
