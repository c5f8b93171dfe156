-- Some of what is held is given.
use Rattle.std.proofs.Common.{arith}
use Rattle.ts_session.proofs.Giving.{chunks_given}
use Rattle.ts_session.proofs.reading.give_held.Goals as goal

pub returns : goal.returns
returns c tells l =
    chunks_given tells c.args.request.now c.requires.chunks c.give.new.self l 18446744073709551615 c.args.into.now
    c.give.new.into c.give.result c.give.ensures
    (omega (arith, c.give.ensures.copies.count_is, c.requires.room, c.requires.some))
