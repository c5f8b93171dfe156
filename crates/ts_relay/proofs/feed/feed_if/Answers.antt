-- Without an origin nothing was done to the chain.
use Rattle.ts_relay.proofs.Chaining.{chain_still}
use Rattle.ts_relay.proofs.feed.feed_if.Goals as goal

pub returns-in-None-clause-chain : goal.returns-in-None-clause-chain
returns-in-None-clause-chain g c = chain_still _ 2 c.args.relay.now.driven c.args.cx.now c.requires.turn
