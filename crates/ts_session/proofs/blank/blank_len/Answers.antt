use Rattle.std.proofs.Common.{arith}
use Rattle.ts_session.proofs.EmptyLines.{blank_more}
use Rattle.ts_session.proofs.blank.blank_len.Goals as goal

-- one byte more is of them
pub blank-preserved : goal.blank-preserved
blank-preserved c = (
  omega (arith, c.blank-test.true),
  blank_more c.args.room.now c.blank.len (omega (arith, c.blank-test.true, c.requires.fits))
      c.blank.invariant.1 (c.goes_on_blank.ensures c.if-not-goes_on_blank.false),
)
