-- The body of the bytes, as the reader says of its last piece: it has ended, is bad, or is unfinished.
use Rattle.std.proofs.Common.{arith}
use Rattle.ts_block.proofs.Searching.{reads_ended, reads_bad, reads_to_end}
use Rattle.ts_block.proofs.heads.find_body.Goals as goal

pub returns-in-Ended : goal.returns-in-Ended
returns-in-Ended c =
    reads_ended c.args.framing c.args.bytes.now c.loop-body.body.items c.loop-body.rest.now
    c.extend_from_slice.new.self.items c.loop-body.reader c.feed-fed.result
    c.loop-body.invariant c.feed-fed.ensures.body c.in_ok-extend_from_slice.ensures.items c.in-Ended.is

pub returns-in-Bad : goal.returns-in-Bad
returns-in-Bad c =
    reads_bad c.args.framing c.args.bytes.now c.loop-body.body.items c.loop-body.rest.now
    c.extend_from_slice.new.self.items c.loop-body.reader c.feed-fed.result
    c.loop-body.invariant c.feed-fed.ensures.body c.in_ok-extend_from_slice.ensures.items c.in-Bad.is

pub returns-else-fed-rest : goal.returns-else-fed-rest
returns-else-fed-rest c =
    reads_to_end c.args.framing c.args.bytes.now c.loop-body.body.items c.loop-body.rest.now
    c.extend_from_slice.new.self.items c.loop-body.reader c.feed-fed.result
    c.loop-body.invariant c.feed-fed.ensures.body c.in_ok-extend_from_slice.ensures.items c.in-Unfinished.is
    (omega (arith, c.if-fed-rest.false))
