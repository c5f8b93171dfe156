-- The bytes of a piece that was begun are the next ones.
use Rattle.std.proofs.Common.{List, ℕ, drop}
use Rattle.std.proofs.lemmas.List.{take_min}
use Rattle.ts_link.proofs.PiecesAhead.{front_cut-some}
use Rattle.ts_link.proofs.cut_input.front_of.Goals as goal

pub returns : goal.returns
returns c =
    let rest : List ℕ = drop c.args.at c.args.bytes.now in
    let some = front_cut-some c.args.piece rest c.if-piece-eq0.false in
    let short = take_min c.args.piece rest in
    cc
