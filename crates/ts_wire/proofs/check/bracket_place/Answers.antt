use Rattle.std.proofs.Common.{rules, tests}
use Rattle.std.proofs.lemmas.Iterator.{YieldsList-from_slice}
use Rattle.std.proofs.lemmas.Iterator.Search.{position_from_yields_List}
use Rattle.ts_wire.specs.Check.{is_bracket}
use Rattle.ts_wire.proofs.check.bracket_place.Goals as goal

pub returns-clause-value : goal.returns-clause-value
returns-clause-value c =
    position_from_yields_List is_bracket _ _ _ c.position.ensures.ran
    (YieldsList-from_slice c.args.host.now cc) (λ x b q k. search (rules, tests))
