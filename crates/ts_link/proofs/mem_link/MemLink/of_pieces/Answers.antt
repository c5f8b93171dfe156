-- All of the pieces are ahead.
use Rattle.std.proofs.Common.{ap, ◌∙◌}
use Rattle.ts_link.specs.Inputs.{bytes_of}
use Rattle.ts_link.specs.InputView.{begun}
use Rattle.ts_link.proofs.PiecesAhead.{bytes-from_next, bytes-begun_none}
use Rattle.ts_link.proofs.mem_link.MemLink.of_pieces.Goals as goal

pub returns-clause-left : goal.returns-clause-left
returns-clause-left c =
    ap (λ i. bytes_of i.ahead) c.make.ensures ∙ bytes-from_next (begun 0 c.args.pieces.items) ∙
    bytes-begun_none c.args.pieces.items
