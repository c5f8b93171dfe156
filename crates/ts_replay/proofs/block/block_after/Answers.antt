-- A transaction is told by what is left of it, with its layers taken off.
use Rattle.std.proofs.Common.{true}
use Rattle.ts_replay.proofs.Telling.{chose_if, chose_well, ends_as, left_between}
use Rattle.ts_txn.specs.Making.{end_of_course}
use Rattle.ts_replay.proofs.block.block_after.Goals as goal

pub block_left-requires : goal.block_left-requires
block_left-requires c =
    let run = c.requires.run.2 in
    let left = c.take_layered_apart-left in
    record {
      left = (
        c.requires.run.0,
        c.requires.run.1,
        left_between c.requires.run.0 c.requires.run.1 c.args.txn left.result run
            (left.ensures.left run.ends true true run.state run.between).exchanges,
      );
    }

pub returns-clause-shown : goal.returns-clause-shown
returns-clause-shown c = λ setup sides run.
    let left = c.take_layered_apart-left in
    c.block_left.ensures.shown setup sides (left_between setup sides c.args.txn left.result run
    (left.ensures.left run.ends true true run.state run.between).exchanges)

pub returns-clause-ended : goal.returns-clause-ended
returns-clause-ended c = λ setup sides run.
    let left = c.take_layered_apart-left in
    ends_as (c.block_left.result) sides.leave left.result.parts.end (end_of_course c.args.txn.course)
    c.take_layered_apart-left.ensures.ended
    (c.block_left.ensures.ended setup sides (left_between setup sides c.args.txn left.result run
    (left.ensures.left run.ends true true run.state run.between).exchanges))

pub returns-clause-chose : goal.returns-clause-chose
returns-clause-chose c = λ setup sides run.
    let left = c.take_layered_apart-left in
    chose_if c.block_left.result
    (chose_well setup run.ends run.ends_are.setup_is c.args.txn run.state left.result
    (left.ensures.left run.ends true true run.state run.between)) c.block_left.ensures.settled
