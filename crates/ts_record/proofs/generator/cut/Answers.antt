use Rattle.std.proofs.Common.{rules, ◌<◌, length}
use Rattle.ts_record.proofs.Generating.{piece_more}
use Rattle.ts_record.proofs.generator.cut.Goals as goal

pub pieces-preserved : goal.pieces-preserved
pieces-preserved c =
    let some : 0 < length c.pieces.bytes = search rules in
    piece_more c.args.draws.now.state c.pieces.draws.state c.below.new.self.state c.args.bytes c.pieces.bytes
    c.take_piece.new.bytes _ c.pieces.pieces.items c.push.new.self.items some c.below.ensures.state
    (search rules) (search rules) c.in_ok-push.ensures.items c.pieces.invariant
