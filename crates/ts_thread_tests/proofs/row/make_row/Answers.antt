use Rattle.std.proofs.Common.{◌≡◌, subst, arith}
use Rattle.ts_toys.specs.declared.peer.TheConstants.{ASKED}
use Rattle.ts_thread_tests.proofs.Ends.{IsFilling, filling_begins, filling_next, row_done}
use Rattle.ts_thread_tests.proofs.row.make_row.Goals as goal

pub workers-init : goal.workers-init
workers-init g c = filling_begins c.args.started c.new-groups.result.items c.new-groups.ensures.items

pub workers-preserved : goal.workers-preserved
workers-preserved g c =
    let made = c.make_worker-group.ensures in
    filling_next c.workers.place c.args.started c.workers.groups.items c.push.new.self.items
    c.make_worker-group.result c.workers.invariant (rw c.expect.ensures at c.push.ensures.items) made.fits
    made.few made.new

pub returns-clause-row : goal.returns-clause-row
returns-clause-row g c =
    let is : c.workers.place ≡ ASKED = (let low = c.workers-test.false in let most = c.workers.auto.place-end
    in omega arith) in
    let made = c.make_asked.ensures in
    (row_done c.args.started c.workers.groups.items c.push-2.new.self.items _
    (subst (λ n. IsFilling n c.args.started c.workers.groups.items) is c.workers.invariant)
    (rw c.expect-2.ensures at c.push-2.ensures.items) made.fits made.new).0

pub returns-clause-new : goal.returns-clause-new
returns-clause-new g c =
    let is : c.workers.place ≡ ASKED = (let low = c.workers-test.false in let most = c.workers.auto.place-end
    in omega arith) in
    let made = c.make_asked.ensures in
    (row_done c.args.started c.workers.groups.items c.push-2.new.self.items _
    (subst (λ n. IsFilling n c.args.started c.workers.groups.items) is c.workers.invariant)
    (rw c.expect-2.ensures at c.push-2.ensures.items) made.fits made.new).1
