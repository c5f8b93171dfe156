-- The chain got its end: it is driven on, or tells why it is not.
use Rattle.std.proofs.Common.{sym, subst}
use Rattle.ts_relay.specs.Relaying.{StepsChain}
use Rattle.ts_relay.proofs.Chaining.{chain_after, given_end, not_spent}
use Rattle.ts_relay.proofs.feed.close_input.Goals as goal

pub returns-clause-chain : goal.returns-clause-chain
returns-clause-chain g c =
    subst (λ s. StepsChain s 1 c.args.driven.now c.give_end.new.self c.args.cx.now c.give_end.new.cx)
    (sym c.step_after.ensures)
    (chain_after 1 c.give_end.result c.args.driven.now c.give_end.new.self c.args.cx.now c.give_end.new.cx
    c.give_end.ensures.adds c.give_end.ensures.driven c.give_end.ensures.loses
    c.give_end.ensures.same g.P.Transform.pause c.give_end.ensures.only (given_end c.args.driven.now.chain
    c.give_end.new.self.chain c.give_end.ensures.chain))

pub returns-clause-spent : goal.returns-clause-spent
returns-clause-spent g c =
    not_spent c.give_end.result c.args.driven.now c.give_end.new.self c.args.cx.now c.give_end.new.cx
    c.step_after.result c.step_after.ensures c.give_end.ensures.loses
