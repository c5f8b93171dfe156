-- The meaning is that of the grammar.
use Rattle.ts_config.proofs.ValueReads.{meaning_value}
use Rattle.ts_config.proofs.read.read_line.Goals as goal

pub returns : goal.returns
returns c = meaning_value c.args.line.now c.line_meaning.result c.line_meaning.ensures
