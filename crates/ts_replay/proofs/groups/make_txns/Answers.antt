-- The row grows by the group of one transaction, with its tag.
use Rattle.std.proofs.Common.{◌+◌, length, refl, subst, ◌∙◌}
use Rattle.std.specs.Arc.{arc_value}
use Rattle.ts_replay.specs.Members.{Transaction}
use Rattle.ts_replay.specs.Recorded.{IsNewTagOf}
use Rattle.ts_replay.proofs.Rows.{next_takes, row_more}
use Rattle.ts_replay.proofs.groups.make_txns.Goals as goal

pub make_txn-requires-clause-leave : goal.make_txn-requires-clause-leave
make_txn-requires-clause-leave c =
    next_takes (arc_value c.args.setup.now) (length c.args.txns.items) c.args.txns.items c.txns.rest.items
    c.pop_front.new.self.items c.in-Some.txn c.txns.number c.txns.tags.items c.txns.groups.items
    c.txns.invariant c.in-Some.ensures.items

pub txns-preserved : goal.txns-preserved
txns-preserved c =
    let made = c.in_ok-group.ensures in
    let at = length c.args.txns.items in
    let member = Transaction (c.txns.number + 1) c.in-Some.txn in
    let tagged : IsNewTagOf (arc_value c.args.setup.now) at member c.in_ok-group.tag =
    subst (λ n. IsNewTagOf (arc_value c.args.setup.now) n member c.in_ok-group.tag)
    (c.len.ensures ∙ c.args.txns.ok.0)
    (subst (λ s. IsNewTagOf s c.len.result member c.in_ok-group.tag) c.in_ok-clone.ensures.cases
    made.tag) in
    row_more (arc_value c.args.setup.now) at c.args.txns.items c.txns.rest.items c.pop_front.new.self.items
    c.in-Some.txn c.txns.number (c.txns.number + 1) c.txns.tags.items c.push-in-Some.new.self.items
    c.txns.groups.items c.push.new.self.items c.in_ok-group.tag c.in_ok-group.group c.txns.invariant
    c.in-Some.ensures.items refl c.in_ok-push-2.ensures.items c.in_ok-push.ensures.items tagged made.fits
    made.new
