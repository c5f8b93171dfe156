-- Where a value has a semicolon, or else its length, is what std finds of its bytes.
use Rattle.std.proofs.Common.{rules, tests, ◌∙◌}
use Rattle.std.proofs.lemmas.Iterator.{YieldsList-from_slice}
use Rattle.std.proofs.lemmas.Iterator.Search.{position_from_yields_List}
use Rattle.ts_block.specs.Acting.{is_semicolon}
use Rattle.ts_wire.proofs.CheckLemmas.{position_or_len_unwrap}
use Rattle.ts_block.proofs.content.before_semicolon.Goals as goal

pub returns-clause-value : goal.returns-clause-value
returns-clause-value c =
    c.unwrap_or.ensures
    ∙ position_or_len_unwrap is_semicolon c.args.value.now _
    (position_from_yields_List is_semicolon _ _ _ c.position.ensures.ran
    (YieldsList-from_slice c.args.value.now cc) (λ x b q k. search (rules, tests)))
