use Rattle.std.proofs.Common.{◌≡◌, IfOk, OnOk, ap, subst, ◌∙◌, length, rules}
use Rattle.ts_record.specs.Generator.{after, body_at, cut_from, framing_at, pieces, response}
use Rattle.ts_record.proofs.Generating.{response_made}
use Rattle.ts_record.proofs.generator.draw_origin.Goals as goal
use Rattle.ts_record.proofs.generator.draw_origin.Goals.{After-drop-body-2}

-- the response is the one of the draws, and is cut in the state behind them
made : (c : After-drop-body-2)
    → (c.draw_body.new.draws.state ≡ cut_from c.args.size c.args.draws.now.state)
    × (c.in_ok-bytes.bytes
    ≡ response (framing_at c.args.draws.now.state) (body_at c.args.size c.args.draws.now.state))
made c =
    response_made c.args.size c.args.draws.now.state c.draw_length-length.new.draws.state
    c.draw_framing-framing.new.draws.state c.draw_body.new.draws.state c.draw_length-length.result
    c.draw_framing-framing.result c.in_ok-body.body.items c.in_ok-bytes.bytes
    c.draw_length-length.ensures.state c.draw_length-length.ensures.length
    c.draw_framing-framing.ensures.state c.draw_framing-framing.ensures.framing
    c.in_ok-body.ensures.letters c.in_ok-body.ensures.state (search rules)

pub returns-clause-pieces : goal.returns-clause-pieces
returns-clause-pieces c =
    subst (λ qs. IfOk c.cut.result (λ ps. ps.items ≡ qs))
    (ap (λ s. pieces s c.in_ok-bytes.bytes) (made c).0
    ∙ ap (λ b. pieces (cut_from c.args.size c.args.draws.now.state) b) (made c).1)
    c.cut.ensures.pieces

pub returns-clause-state : goal.returns-clause-state
returns-clause-state c =
    subst (λ s. OnOk c.cut.result (c.cut.new.draws.state ≡ s))
    (ap (λ s. after (length (pieces s c.in_ok-bytes.bytes)) s) (made c).0
    ∙ ap (λ b. after (length (pieces (cut_from c.args.size c.args.draws.now.state) b))
    (cut_from c.args.size c.args.draws.now.state)) (made c).1)
    c.cut.ensures.state
