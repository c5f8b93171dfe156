use Rattle.std.proofs.Common.{rules}
use Rattle.ts_record.proofs.Growing.{more_done, shorter_behind}
use Rattle.ts_record.proofs.read.read_txns.Goals as goal

pub txns-smaller : goal.txns-smaller
txns-smaller c =
    shorter_behind c.txns.rest.now c.in-Some.inside.now c.in_ok-txn.behind.now c.in_ok-txn.txn
    c.in-Some.ensures.some c.in_ok-txn.ensures.text

pub txns-preserved : goal.txns-preserved
txns-preserved c =
    more_done c.args.version c.txns.room c.in_ok-txn.left c.args.bytes.now c.txns.rest.now
    c.in-Some.inside.now c.in_ok-txn.behind.now c.in_ok-txn.txn
    c.txns.txns.items c.push.new.self.items c.txns.invariant
    (search rules) c.in-Some.ensures.some c.in_ok-txn.ensures.text c.in_ok-txn.ensures.limits
    c.in_ok-txn.ensures.stalls (search rules)
