use Rattle.std.proofs.Common.{◌-◌, length, arith}
use Rattle.ts_record.proofs.Keywords.{refuses_keywords}
use Rattle.ts_record.proofs.keyword.left_by.Goals as goal

pub returns : goal.returns
returns c = refuses_keywords c.args.bytes.now c.args.keywords.now
    (length c.args.bytes.now - c.most_common.result) c.requires.some c.requires.lacks
    (omega (arith, c.most_common.ensures.count, c.most_common.ensures.within))
