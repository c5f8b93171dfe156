-- Some line acts where std finds one among the lines.
use Rattle.std.proofs.Common.{rules, tests}
use Rattle.std.proofs.lemmas.Iterator.{YieldsList-from_slice}
use Rattle.std.proofs.lemmas.Iterator.Search.{any_from_yields_List}
use Rattle.ts_block.specs.Acting.{acts_on}
use Rattle.ts_block.proofs.content.is_acted_on.Goals as goal

pub returns : goal.returns
returns c =
    any_from_yields_List (acts_on c.args.status c.args.fields.now) _ _ _ c.any.ensures.ran
    (YieldsList-from_slice c.args.lines.now cc) (λ x b q k. search (rules, tests))
