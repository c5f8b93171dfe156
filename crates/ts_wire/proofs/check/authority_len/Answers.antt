use Rattle.std.proofs.Common.{rules, tests, ◌∙◌}
use Rattle.std.proofs.lemmas.Iterator.{YieldsList-from_slice}
use Rattle.std.proofs.lemmas.Iterator.Search.{position_from_yields_List}
use Rattle.ts_wire.specs.Check.{ends_authority}
use Rattle.ts_wire.proofs.CheckLemmas.{position_or_len_unwrap}
use Rattle.ts_wire.proofs.check.authority_len.Goals as goal

pub returns-clause-value : goal.returns-clause-value
returns-clause-value c =
    c.unwrap_or.ensures
    ∙ position_or_len_unwrap ends_authority c.args.rest.now _
    (position_from_yields_List ends_authority _ _ _ c.position.ensures.ran
    (YieldsList-from_slice c.args.rest.now cc) (λ x b q k. search (rules, tests)))
