-- The block of a request that goes to an origin, whose link takes the upload.
use Rattle.ts_block.proofs.Saying.{says_taken_upload}
use Rattle.ts_block.proofs.block.sent.Goals as goal

pub returns : goal.returns
returns c =
    says_taken_upload c.args.setup.now c.args.refuses c.args.origin.now c.args.request c.args.asked.now
    c.in_ok-block-2.block c.if-refuses.false c.in_ok-block-2.ensures
