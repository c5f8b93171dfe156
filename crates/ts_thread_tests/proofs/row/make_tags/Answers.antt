use Rattle.std.proofs.Common.{◌≡◌, arith}
use Rattle.ts_toys.specs.declared.peer.TheConstants.{ASKED}
use Rattle.ts_thread_tests.proofs.Ends.{tags_next, tags_done}
use Rattle.ts_thread_tests.proofs.row.make_tags.Goals as goal

pub workers-preserved : goal.workers-preserved
workers-preserved g c = tags_next c.workers._place c.workers.tags.items c.push.new.self.items
    c.workers.invariant (rw c.expect.ensures at c.push.ensures.items)

pub returns : goal.returns
returns g c =
    let is : c.workers._place ≡ ASKED = (let low = c.workers-test.false in let most =
    c.workers.auto._place-end in omega arith) in
    tags_done c.workers._place ASKED c.workers.tags.items c.push-2.new.self.items is c.workers.invariant
    (rw c.expect-2.ensures at c.push-2.ensures.items)
