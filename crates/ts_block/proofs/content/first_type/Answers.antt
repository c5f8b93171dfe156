-- The first Content-Type field is what std finds of the fields.
use Rattle.std.proofs.Common.{rules, tests}
use Rattle.std.specs.Prelude.{codes}
use Rattle.std.proofs.lemmas.Iterator.{YieldsList-from_slice}
use Rattle.std.proofs.lemmas.Iterator.Search.{find_from_yields_List}
use Rattle.ts_wire.specs.FieldList.{is_named}
use Rattle.ts_block.proofs.content.first_type.Goals as goal

pub returns : goal.returns
returns c =
    find_from_yields_List (is_named (codes "content-type")) _ _ _ c.find.ensures.ran
    (YieldsList-from_slice c.args.fields.now cc) (λ x b q k. search (rules, tests))
