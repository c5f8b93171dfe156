-- The block of a transaction stands behind the others.
use Rattle.std.proofs.Common.{subst, sym}
use Rattle.ts_replay.specs.Exchanged.{AddsBlock}
use Rattle.ts_replay.proofs.outcomes.add_block.Goals as goal

pub returns-in-One : goal.returns-in-One
returns-in-One c =
    subst (λ w. AddsBlock w c.args.blocks.now.items c.push.new.self.items) (sym c.in-One.is) (
      c.in_ok-block-in-One.block,
      c.in_ok-push-in-One.ensures.items,
      record {
        shown = c.in_ok-block-in-One.ensures.shown;
        ended = c.in_ok-block-in-One.ensures.ended;
        reported = c.in_ok-block-in-One.ensures.reported;
        chose = c.in_ok-block-in-One.ensures.chose;
      },
    )
