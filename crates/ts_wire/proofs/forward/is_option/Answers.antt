use Rattle.std.proofs.Common.{rules, tests}
use Rattle.std.proofs.lemmas.Iterator.{YieldsList-from_slice}
use Rattle.std.proofs.lemmas.Iterator.Search.{any_from_yields_List}
use Rattle.ts_wire.specs.Forward.{names_option}
use Rattle.ts_wire.proofs.forward.is_option.Goals as goal

pub returns : goal.returns
returns c =
    any_from_yields_List (names_option c.args.name.now) _ _ _ c.any.ensures.ran
    (YieldsList-from_slice c.args.fields.now cc) (λ x b q k. search (rules, tests))
