-- All bytes of both sides have at most one block.
use Rattle.std.proofs.Common.{◌≡◌, true}
use Rattle.ts_block.proofs.OneBlock.{one_block}
use Rattle.ts_block.proofs.block.one_block.Goals as goal

pub returns : goal.returns
returns c = λ setup dialed refuses o c' a b. one_block setup dialed (refuses ≡ true) o c' a b
