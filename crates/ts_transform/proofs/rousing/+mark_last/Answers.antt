use Rattle.ts_transform.proofs.Kept.{marked_front}
use Rattle.ts_transform.proofs.rousing.+mark_last.Goals as goal

pub returns-then-is_empty-clause-marked : goal.returns-then-is_empty-clause-marked
returns-then-is_empty-clause-marked t c = marked_front c.mark.result c.in-Some.first.now c.mark.new.slot
    c.in-Some.others.now c.args.table.now c.in-Some.ensures.cases.0 c.mark.ensures.marked
