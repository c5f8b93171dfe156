-- What a field may have is the value of a rule.
use Rattle.std.proofs.Common.{◌≡◌, ◌≤◌, Ok, Err, Some, length, ap, arith, sym, ◌∙◌}
use Rattle.std.proofs.lemmas.Bool.Decides.{nat_tests}
use Rattle.http_header.specs.FieldValue.{IsFieldValue}
use Rattle.http_header.specs.declared.value.HeaderValueError.TheVariants as HeaderValueError
use Rattle.ts_config.proofs.RuleWords.{valued_rule}
use Rattle.ts_config.proofs.rules.rule_value.Goals as goal

pub returns-in-Ok : goal.returns-in-Ok
returns-in-Ok c =
    let over = c.if-word-gt-MOST_VALUE.false in
    let fits : length c.args.word.now ≤ 16384 = grind (arith, nat_tests, over) in
    let never : ¬ IsFieldValue c.args.word.now → ⊥ =
    λ other. let wrong : Ok c.in-Ok.value ≡ Err HeaderValueError.Invalid = c.in-Ok.ensures.invalid.1 other in
    cc in
    ap (λ v. Some v) c.in-Ok.ensures.ok
    ∙ sym (valued_rule c.args.word.now fits never)
