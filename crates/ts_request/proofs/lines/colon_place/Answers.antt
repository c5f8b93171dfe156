use Rattle.std.proofs.Common.{rules, tests, ◌∙◌}
use Rattle.std.proofs.lemmas.Iterator.{YieldsList-from_slice}
use Rattle.std.proofs.lemmas.Iterator.Search.{position_from_yields_List}
use Rattle.ts_request.specs.Lines.{is_colon}
use Rattle.ts_wire.proofs.CheckLemmas.{position_or_len_unwrap}
use Rattle.ts_request.proofs.lines.colon_place.Goals as goal

pub returns-clause-value : goal.returns-clause-value
returns-clause-value c =
    c.unwrap_or.ensures
    ∙ position_or_len_unwrap is_colon c.args.line.now _
    (position_from_yields_List is_colon _ _ _ c.position.ensures.ran
    (YieldsList-from_slice c.args.line.now cc) (λ x b q k. search (rules, tests)))
