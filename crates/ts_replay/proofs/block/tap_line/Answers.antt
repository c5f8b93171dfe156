-- The line of a tap tells what its sum counted of the body.
use Rattle.std.proofs.Common.{subst}
use Rattle.ts_replay.specs.Exchanged.{TapsBody}
use Rattle.ts_replay.proofs.Tapping.{line_of, no_line}
use Rattle.ts_replay.proofs.block.tap_line.Goals as goal

pub returns-in_default : goal.returns-in_default
returns-in_default c = λ most body taps.
    no_line most body (subst (λ s. TapsBody most s body) c.in_default.is taps)

pub returns : goal.returns
returns c = λ most body taps.
    line_of most body c.in-Some.sum c.count.result c.sum.result c.count.ensures c.sum.ensures
    (subst (λ s. TapsBody most s body) c.in-Some.is taps)
