use Rattle.std.proofs.Common.{rules, ap, sym, subst, ◌≤◌}
use Rattle.ts_record.specs.Generator.{generated}
use Rattle.ts_record.specs.Grammar.{KeepsLimits, contents}
use Rattle.ts_record.specs.declared.recording.TheConstants.{FIRST_VERSION}
use Rattle.ts_record.proofs.Generating.{keeps_limits, txns_all, txn_more}
use Rattle.ts_record.proofs.generator.generate.Goals as goal

pub txns-preserved : goal.txns-preserved
txns-preserved c =
    txn_more c.args.size c.args.count c.txns.counter c.txns.draws.state c.draw_txn.new.draws.state _
    c.txns.txns.items c.push.new.self.items (generated c.args.count c.args.size c.args.seed) c.txns-test.true
    c.in_ok-draw_txn.ensures.txn c.in_ok-draw_txn.ensures.state c.in_ok-push.ensures.items c.txns.invariant

pub returns-clause-limits : goal.returns-clause-limits
returns-clause-limits c =
    let past : c.args.count ≤ c.txns.counter = search rules in
    subst KeepsLimits
    (ap (contents FIRST_VERSION) (sym (txns_all c.args.size c.args.count c.txns.counter c.txns.draws.state
    c.txns.txns.items (generated c.args.count c.args.size c.args.seed) past c.txns.invariant)))
    (keeps_limits c.args.count c.args.size c.args.seed c.requires.count)
