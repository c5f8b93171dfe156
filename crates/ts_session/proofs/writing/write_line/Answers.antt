-- More of the line is held, or what is held is owed.
use Rattle.std.proofs.Common.{ap, subst, sym, ◌∙◌}
use Rattle.std.proofs.Common.{drop, true, false, ◌≡◌}
use Rattle.ts_session.specs.Course.{IsWithin}
use Rattle.ts_session.specs.Kept.{close_line}
use Rattle.ts_session.specs.Lines.{agrees}
use Rattle.ts_session.specs.Writing.{DropsOn, WritesOn}
use Rattle.ts_session.specs.declared.response.Response.{Response}
use Rattle.ts_session.proofs.HeldLines.{more_held, more_held_drops, owes_drops, owes_writes}
use Rattle.ts_session.proofs.writing.write_line.Goals as goal

pub returns-then-goes_with-clause-writes : goal.returns-then-goes_with-clause-writes
returns-then-goes_with-clause-writes g c =
    let agreed : agrees (drop c.args.count close_line) c.args.piece.now ≡ true =
    ap (λ t. agrees t c.args.piece.now) (sym c.split_at.ensures.back) ∙ sym c.goes_with.ensures
    ∙ c.if-goes_with.true in
    more_held g.C.Link.tells c.args.rule.may_go_on c.args.rule.asks_head c.args.response.now
    c.hold_line.new.response (g.C.Link.look c.args.cut.now.value) (g.C.Link.look c.hold_line.new.cut.value)
    (g.C.Link.look c.args.client.now) c.args.count c.hold_line.result c.args.piece.now
    (subst IsWithin c.requires.line c.requires.within) c.requires.some (ap g.C.Link.look c.hold_line.ensures.cut)
    c.hold_line.ensures.lines c.requires.line agreed c.hold_line.ensures.holds

pub returns-then-goes_with-clause-drops : goal.returns-then-goes_with-clause-drops
returns-then-goes_with-clause-drops g c =
    let agreed : agrees (drop c.args.count close_line) c.args.piece.now ≡ true =
    ap (λ t. agrees t c.args.piece.now) (sym c.split_at.ensures.back) ∙ sym c.goes_with.ensures
    ∙ c.if-goes_with.true in
    more_held_drops g.C.Link.tells c.args.rule.may_go_on c.args.rule.asks_head c.args.response.now
    c.hold_line.new.response (g.C.Link.look c.args.cut.now.value) (g.C.Link.look c.hold_line.new.cut.value)
    (g.C.Link.look c.args.client.now) c.args.count c.hold_line.result c.args.piece.now
    (subst IsWithin c.requires.line c.requires.within) c.requires.some (ap g.C.Link.look c.hold_line.ensures.cut)
    c.hold_line.ensures.lines c.requires.line agreed c.hold_line.ensures.holds

pub returns-clause-writes : goal.returns-clause-writes
returns-clause-writes g c =
    let p = c.args.response.now in
    let q = c.write_owed.new.response in
    let owed = c.owe.new.self in
    owes_writes g.C.Link.tells c.args.rule.may_go_on c.args.rule.asks_head p q
    (g.C.Link.look c.args.cut.now.value) (g.C.Link.look c.write_owed.new.cut.value)
    (g.C.Link.look c.args.client.now) (g.C.Link.look c.write_owed.new.client) c.args.count owed.lines
    c.write_owed.result c.args.piece.now c.requires.line c.owe.ensures.over
    (subst (λ (r : Response). WritesOn g.C.Link.tells c.args.rule.may_go_on c.args.rule.asks_head r q
    (g.C.Link.look c.args.cut.now.value) (g.C.Link.look c.write_owed.new.cut.value)
    (g.C.Link.look c.args.client.now) (g.C.Link.look c.write_owed.new.client) c.write_owed.result
    c.args.piece.now) (λ i. record { sending = c.owe.ensures.owed i; lines = owed.lines })
    c.write_owed.ensures.writes)

pub returns-clause-drops : goal.returns-clause-drops
returns-clause-drops g c =
    let p = c.args.response.now in
    let q = c.write_owed.new.response in
    let owed = c.owe.new.self in
    let other : agrees (drop c.args.count close_line) c.args.piece.now ≡ false =
    ap (λ t. agrees t c.args.piece.now) (sym c.split_at.ensures.back) ∙ sym c.goes_with.ensures
    ∙ c.if-goes_with.false in
    owes_drops g.C.Link.tells c.args.rule.may_go_on c.args.rule.asks_head p q
    (g.C.Link.look c.args.cut.now.value) (g.C.Link.look c.write_owed.new.cut.value)
    (g.C.Link.look c.args.client.now) (g.C.Link.look c.write_owed.new.client) c.args.count owed.lines
    c.write_owed.result c.args.piece.now c.requires.line c.owe.ensures.over other
    (subst (λ (r : Response). DropsOn g.C.Link.tells c.args.rule.may_go_on c.args.rule.asks_head r q
    (g.C.Link.look c.args.cut.now.value) (g.C.Link.look c.args.client.now) c.write_owed.result
    c.args.piece.now) (λ i. record { sending = c.owe.ensures.owed i; lines = owed.lines })
    c.write_owed.ensures.drops)
