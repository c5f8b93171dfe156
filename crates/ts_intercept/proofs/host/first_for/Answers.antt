-- The first line that is for the host is found.
use Rattle.std.proofs.Common.{rules, tests}
use Rattle.std.proofs.lemmas.Iterator.{YieldsList-from_slice}
use Rattle.std.proofs.lemmas.Iterator.Search.{find_from_yields_List}
use Rattle.ts_intercept.specs.Served.{is_for}
use Rattle.ts_intercept.proofs.host.first_for.Goals as goal

pub returns : goal.returns
returns c =
    find_from_yields_List (is_for c.args.host.now) _ _ _ c.find.ensures.ran
    (YieldsList-from_slice c.args.lines.now cc) (λ x b q k. search (rules, tests))
