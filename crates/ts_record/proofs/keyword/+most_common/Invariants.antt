use Rattle.std.proofs.Common.{length}
use Rattle.ts_record.proofs.keyword.+most_common.Given as goal

abbrev pub decreases-most_common : goal.decreases-most_common
decreases-most_common l = length l.keywords.now
