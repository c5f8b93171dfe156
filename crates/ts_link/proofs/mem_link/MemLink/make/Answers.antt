-- The pieces have all the bytes.
use Rattle.std.proofs.Common.{ap, ◌∙◌, ◌∷◌}
use Rattle.ts_link.specs.Inputs.{bytes_of, cut_up}
use Rattle.ts_link.proofs.PiecesAhead.{bytes-cut_up, bytes-from_next}
use Rattle.ts_link.proofs.mem_link.MemLink.make.Goals as goal

pub returns-clause-left : goal.returns-clause-left
returns-clause-left c =
    ap (λ i. bytes_of i.ahead) c.make.ensures ∙ bytes-from_next (cut_up (0 ∷ c.args.cuts.items) c.args.input)
    ∙ bytes-cut_up (0 ∷ c.args.cuts.items) c.args.input
