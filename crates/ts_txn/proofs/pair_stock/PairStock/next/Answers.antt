-- The client in front is the next one, and the rest is sound.
use Rattle.std.proofs.Common.{ap}
use Rattle.ts_txn.specs.PairStock.{Stock, with_first}
use Rattle.ts_txn.proofs.Giving.{front_given, rest_sound}
use Rattle.ts_txn.proofs.pair_stock.PairStock.next.Goals as goal

pub invariant_of-self-2 : goal.invariant_of-self-2
invariant_of-self-2 c =
    let inside = c.self.inside in
    rest_sound (with_first inside.first inside.ahead.items) (c.in-Some.client, c.in-Some.origin)
    (with_first c.next_pair.new.first c.next_pair.new.ahead.items) inside.origin
    inside.later.items inside.given c.in-Some.ensures c.self.invariant

pub returns-clause-gives : goal.returns-clause-gives
returns-clause-gives c =
    let inside = c.self.inside in
    front_given (with_first inside.first inside.ahead.items) (c.in-Some.client, c.in-Some.origin)
    (with_first c.next_pair.new.first c.next_pair.new.ahead.items) inside.origin
    inside.later.items inside.given c.in-Some.ensures c.self.invariant c.set_name.new.self c.args.self.now.given
    c.set_name.ensures (ap (λ (s : Stock). s.given) c.self.view_is)
