-- Some field tells a coding where std finds one among the fields.
use Rattle.std.proofs.Common.{rules, tests}
use Rattle.std.proofs.lemmas.Iterator.{YieldsList-from_slice}
use Rattle.std.proofs.lemmas.Iterator.Search.{any_from_yields_List}
use Rattle.ts_block.specs.Acting.{is_coded}
use Rattle.ts_block.proofs.content.has_coding.Goals as goal

pub returns : goal.returns
returns c =
    any_from_yields_List is_coded _ _ _ c.any.ensures.ran (YieldsList-from_slice c.args.fields.now cc)
    (λ x b q k. search (rules, tests))
