use Rattle.std.proofs.Common.{length}
use Rattle.ts_record.proofs.keyword.+common.Given as goal

abbrev pub decreases-common : goal.decreases-common
decreases-common l = length l.left.now
