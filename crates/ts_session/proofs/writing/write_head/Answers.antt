-- The line is held or dropped, or the piece is passed on up to it.
use Rattle.std.proofs.Common.{ap, sym, ◌∙◌}
use Rattle.std.proofs.lemmas.Bool.{and_parts, not-false, not-true}
use Rattle.ts_session.specs.Kept.{close_line}
use Rattle.ts_session.specs.Lines.{agrees, may_drop_at}
use Rattle.ts_session.proofs.HeldLines.{first_held, first_held_drops}
use Rattle.ts_session.proofs.Writes.{front_drops, front_writes, never_drops}
use Rattle.ts_session.proofs.writing.write_head.Goals as goal

pub returns-then-not-rule-clause-writes : goal.returns-then-not-rule-clause-writes
returns-then-not-rule-clause-writes g c =
    c.write_lines.ensures.writes c.args.rule.may_go_on c.args.rule.asks_head

pub returns-then-not-rule-clause-drops : goal.returns-then-not-rule-clause-drops
returns-then-not-rule-clause-drops g c =
    never_drops g.C.Link.tells c.args.rule.may_go_on c.args.rule.asks_head c.args.response.now
    c.write_lines.new.response (g.C.Link.look c.args.cut.now.value) (g.C.Link.look c.args.client.now)
    c.write_lines.result c.args.piece.now c.requires.head
    (not-true c.args.rule.may_go_on c.if-not-rule.true)

pub returns-then-finds-clause-writes : goal.returns-then-finds-clause-writes
returns-then-finds-clause-writes g c =
    let parts = and_parts (may_drop_at c.args.response.now.lines c.args.rule.asks_head)
    (agrees close_line c.args.piece.now) (sym c.finds.ensures ∙ c.if-finds.true) in
    first_held g.C.Link.tells c.args.rule.may_go_on c.args.rule.asks_head c.args.response.now
    c.hold_line.new.response (g.C.Link.look c.args.cut.now.value) (g.C.Link.look c.hold_line.new.cut.value)
    (g.C.Link.look c.args.client.now) c.hold_line.result c.args.piece.now c.requires.some
    (ap g.C.Link.look c.hold_line.ensures.cut) c.hold_line.ensures.lines c.requires.head parts.0 parts.1
    c.hold_line.ensures.holds (not-false c.args.rule.may_go_on c.if-not-rule.false)

pub returns-then-finds-clause-drops : goal.returns-then-finds-clause-drops
returns-then-finds-clause-drops g c =
    let parts = and_parts (may_drop_at c.args.response.now.lines c.args.rule.asks_head)
    (agrees close_line c.args.piece.now) (sym c.finds.ensures ∙ c.if-finds.true) in
    first_held_drops g.C.Link.tells c.args.rule.may_go_on c.args.rule.asks_head c.args.response.now
    c.hold_line.new.response (g.C.Link.look c.args.cut.now.value) (g.C.Link.look c.hold_line.new.cut.value)
    (g.C.Link.look c.args.client.now) c.hold_line.result c.args.piece.now c.requires.some
    (ap g.C.Link.look c.hold_line.ensures.cut) c.hold_line.ensures.lines c.requires.head parts.0 parts.1
    c.hold_line.ensures.holds

pub returns-clause-writes : goal.returns-clause-writes
returns-clause-writes g c =
    front_writes g.C.Link.tells c.args.rule.may_go_on c.args.rule.asks_head c.args.response.now
    c.write_lines-2.new.response (g.C.Link.look c.args.cut.now.value) (g.C.Link.look c.args.client.now)
    (g.C.Link.look c.write_lines-2.new.client) c.write_lines-2.result c.args.piece.now
    c.split_at.result.0.now c.passing.result c.split_at.ensures.front
    (c.write_lines-2.ensures.writes c.args.rule.may_go_on c.args.rule.asks_head)

pub returns-clause-drops : goal.returns-clause-drops
returns-clause-drops g c =
    front_drops g.C.Link.tells c.args.rule.may_go_on c.args.rule.asks_head c.args.response.now
    c.write_lines-2.new.response (g.C.Link.look c.args.cut.now.value) (g.C.Link.look c.args.client.now)
    c.write_lines-2.result c.args.piece.now c.split_at.result.0.now c.passing.result c.requires.head
    c.split_at.ensures.front
    (c.write_lines-2.ensures.writes c.args.rule.may_go_on c.args.rule.asks_head).takes
    (sym c.finds.ensures ∙ c.if-finds.false) c.passing.ensures.no_line
