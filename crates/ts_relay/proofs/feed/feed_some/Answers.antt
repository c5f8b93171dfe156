-- The reader was fed with a block, and what of it is body came to the chain.
use Rattle.ts_relay.proofs.Chaining.{chain_still}
use Rattle.ts_relay.proofs.Fed.{feeds_by}
use Rattle.ts_relay.proofs.feed.feed_some.Goals as goal

pub returns-in_default-clause-chain : goal.returns-in_default-clause-chain
returns-in_default-clause-chain g c = chain_still _ 2 c.args.relay.now.driven c.args.cx.now c.requires.turn

pub returns-clause-feeds : goal.returns-clause-feeds
returns-clause-feeds g c =
    feeds_by c.args.relay.now (record c.args.relay.now {
      driven = c.give_part.new.driven;
      body = c.feed-fed.new.self;
      short = c.short_if-relay.result;
      fed = c.count_if-relay.result;
    }) c.args.inbox.now c.take.new.self c.in-Some.block.now c.feed-fed.result c.in-Some.ensures.0
    c.in-Some.ensures.2 c.feed-fed.ensures.takes c.feed-fed.ensures.goes_on c.take.ensures
    c.in-Goes.ensures.gets
    c.short_if-relay.ensures
