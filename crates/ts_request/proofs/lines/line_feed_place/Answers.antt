use Rattle.std.proofs.Common.{rules, tests, ◌∙◌}
use Rattle.std.proofs.lemmas.Iterator.{YieldsList-from_slice}
use Rattle.std.proofs.lemmas.Iterator.Search.{position_from_yields_List}
use Rattle.ts_request.specs.Lines.{is_line_feed}
use Rattle.ts_wire.proofs.CheckLemmas.{position_or_len_unwrap}
use Rattle.ts_request.proofs.lines.line_feed_place.Goals as goal

pub returns-clause-value : goal.returns-clause-value
returns-clause-value c =
    c.unwrap_or.ensures
    ∙ position_or_len_unwrap is_line_feed c.args.bytes.now _
    (position_from_yields_List is_line_feed _ _ _ c.position.ensures.ran
    (YieldsList-from_slice c.args.bytes.now cc) (λ x b q k. search (rules, tests)))
