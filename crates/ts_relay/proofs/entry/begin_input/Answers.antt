-- Where there is a body, nothing is done to the chain.
use Rattle.ts_relay.proofs.Chaining.{chain_still}
use Rattle.ts_relay.proofs.entry.begin_input.Goals as goal

pub returns-in-Unfinished-clause-chain : goal.returns-in-Unfinished-clause-chain
returns-in-Unfinished-clause-chain g c = chain_still _ 1 c.args.relay.now.driven c.args.cx.now c.requires.turn

pub returns-in-Bad-clause-chain : goal.returns-in-Bad-clause-chain
returns-in-Bad-clause-chain g c = chain_still _ 1 c.args.relay.now.driven c.args.cx.now c.requires.turn
