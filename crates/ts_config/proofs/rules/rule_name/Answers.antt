-- A field name is the name of a rule, and no other word is.
use Rattle.std.proofs.Common.{◌≡◌, List, ℕ, Some, Err, sym, ap, ◌∙◌, subst}
use Rattle.http_header.specs.FieldName.{IsFieldName}
use Rattle.http_header.specs.Token.{lowercase}
use Rattle.http_header.proofs.TokenLemmas.{IsFieldName-from_lowercase}
use Rattle.ts_config.specs.Rules.{is_kept_name}
use Rattle.ts_config.proofs.RuleWords.{named_rule, unnamed_rule}
use Rattle.ts_config.proofs.rules.rule_name.Goals as goal

pub returns-else-is_kept_name : goal.returns-else-is_kept_name
returns-else-is_kept_name c =
    let word : List ℕ = c.args.word.now in
    let low : c.in-Ok.name ≡ lowercase word = c.in-Ok.ensures.ok in
    let field : IsFieldName (lowercase word) =
    subst IsFieldName (c.as_bytes.ensures.value ∙ low)
    (subst IsFieldName (sym c.as_bytes.ensures.value) c.as_bytes.ensures.valid.0) in
    ap (λ n. Some n) low
    ∙ sym (named_rule word (IsFieldName-from_lowercase word field)
    (ap is_kept_name (sym (c.as_bytes.ensures.value ∙ low)) ∙ sym c.is_kept_name.ensures
    ∙ c.if-is_kept_name.false))

pub returns-in-Invalid : goal.returns-in-Invalid
returns-in-Invalid c =
    sym (unnamed_rule c.args.word.now (c.in-Err.ensures.invalid.0 (ap (λ e. Err e) c.in-Invalid.is)))
