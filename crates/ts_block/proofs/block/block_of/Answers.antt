-- The block of all bytes is that of the check of their head: the request passed, or was refused.
use Rattle.std.proofs.Common.{rules, ◌≡◌, true, ◌≢◌, ◌∙◌, [], ap, subst}
use Rattle.ts_wire.specs.Check.{check, Says}
use Rattle.ts_block.specs.Finding.{FindsRequest}
use Rattle.ts_block.specs.Block.{own_block}
use Rattle.ts_block.proofs.Saying.{says_passed, says_refused}
use Rattle.ts_block.proofs.block.block_of.Goals as goal

pub returns-in-Pass : goal.returns-in-Pass
returns-in-Pass c =
    let some : c.args.client.now ≢ [] = search rules in
    says_passed c.args.setup.now c.args.dialed (c.args.refuses ≡ true) c.args.origin.now c.args.client.now
    c.in-Pass.target c.in-Pass.host c.in-Some.head c.in_ok-block-in-Pass.block some
    (subst (FindsRequest c.args.client.now) c.in-Some.is c.in_ok-head.ensures)
    (subst (λ v. Says v (check c.in-Some.head)) c.in-Pass.is c.in_ok-target.ensures.says)
    c.in_ok-block-in-Pass.ensures

pub returns : goal.returns
returns c =
    let some : c.args.client.now ≢ [] = search rules in
    says_refused c.args.setup.now c.args.dialed (c.args.refuses ≡ true) c.args.origin.now c.args.client.now
    c.in-Some.head c.in-Refuse.status c.of_refusal-status.result
    c.in_ok-block-in-Refuse.block some
    (subst (FindsRequest c.args.client.now) c.in-Some.is c.in_ok-head.ensures)
    (subst (λ v. Says v (check c.in-Some.head)) c.in-Refuse.is c.in_ok-target.ensures.says)
    c.of_refusal-status.ensures
    (c.in_ok-block-in-Refuse.ensures
    ∙ ap (λ r. own_block c.args.setup.now r c.of_refusal-status.result c.asks_head.result)
    c.nothing-in-Refuse.ensures
    ∙ ap (λ t. own_block c.args.setup.now [] c.of_refusal-status.result t) c.asks_head.ensures)
