-- The first continuation is destroyed, and then the others.
use Rattle.ts_transform.proofs.Seats.{clears_empty, clears_then}
use Rattle.ts_transform.proofs.clearing.+destroy_all.Goals as goal

pub returns-in_default-clause-clears : goal.returns-in_default-clause-clears
returns-in_default-clause-clears t c = clears_empty c.args.cx.now c.args.table.now c.in_default.ensures.cases
    c.requires.turn

pub returns-clause-clears : goal.returns-clause-clears
returns-clause-clears t c =
    clears_then c.in-Some.first.now c.in-Some.others.now c.args.table.now c.args.cx.now c.destroy_one.new.cx
    c.destroy_all.new.cx c.in-Some.ensures.cases.0 c.destroy_one.ensures.clears
    c.destroy_all.ensures.clears
