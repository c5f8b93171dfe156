-- The chain got bytes, and then its end.
use Rattle.ts_relay.proofs.Chaining.{chain_then}
use Rattle.ts_relay.proofs.feed.give_last.Goals as goal

pub returns-clause-chain : goal.returns-clause-chain
returns-clause-chain g c =
    chain_then c.close_input.result 1 1 c.args.driven.now c.give_bytes.new.driven c.close_input.new.driven
    c.args.cx.now c.give_bytes.new.cx c.close_input.new.cx
    c.known.ensures c.in-Goes.ensures.chain c.close_input.ensures.chain c.close_input.ensures.spent
