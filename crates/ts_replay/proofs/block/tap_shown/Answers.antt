-- The line of a tap is shown where the body is.
use Rattle.std.proofs.Common.{◌∙◌, ap, sym}
use Rattle.ts_replay.specs.Taps.{tap_by}
use Rattle.ts_replay.proofs.Tapping.{none_shown}
use Rattle.ts_replay.proofs.block.tap_shown.Goals as goal

pub returns-in-Whole : goal.returns-in-Whole
returns-in-Whole c = λ most body taps.
    c.tap_line.ensures most body (taps c.in-Whole.is) ∙ sym (ap (λ e. tap_by e most body) c.in-Whole.is)

pub returns-in_default : goal.returns-in_default
returns-in_default c = λ most body taps. none_shown c.args.end most body c.in_default.not-Whole
