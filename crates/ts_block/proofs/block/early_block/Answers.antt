-- A front on which a line finishes early says what all bytes say.
use Rattle.ts_block.proofs.OneBlock.{early_of_all}
use Rattle.ts_block.proofs.block.early_block.Goals as goal

pub returns : goal.returns
returns c = early_of_all
