use Rattle.std.proofs.Common.{not, rules, tests}
use Rattle.std.proofs.lemmas.Fn.{filter_same}
use Rattle.ts_wire.specs.FieldList.{is_named}
use Rattle.ts_wire.proofs.fields.remove_named.Goals as goal

pub returns : goal.returns
returns c =
    filter_same _ (λ f. not (is_named c.args.name.now f)) _
    (λ x b g k. search (rules, tests)) _ _ c.retain.ensures.filtered
