-- The chain got bytes: it is driven on, or tells why it is not.
use Rattle.std.proofs.Common.{sym, subst}
use Rattle.ts_relay.specs.Relaying.{StepsChain}
use Rattle.ts_relay.proofs.Chaining.{chain_after, given_bytes, not_spent}
use Rattle.ts_relay.proofs.feed.give_bytes.Goals as goal

pub returns-clause-chain : goal.returns-clause-chain
returns-clause-chain g c =
    subst (λ s. StepsChain s 1 c.args.driven.now c.give.new.self c.args.cx.now c.give.new.cx)
    (sym c.step_after.ensures)
    (chain_after 1 c.give.result c.args.driven.now c.give.new.self c.args.cx.now c.give.new.cx
    c.give.ensures.adds c.give.ensures.driven c.give.ensures.loses c.give.ensures.same
    g.P.Transform.pause c.give.ensures.only (given_bytes g.P.Transform.rest c.give.result c.args.part.now
    c.args.driven.now.chain c.give.new.self.chain c.give.ensures.gives))

pub returns-clause-spent : goal.returns-clause-spent
returns-clause-spent g c =
    not_spent c.give.result c.args.driven.now c.give.new.self c.args.cx.now c.give.new.cx c.step_after.result
    c.step_after.ensures c.give.ensures.loses
