-- Byte by byte, until the head has ended.
use Rattle.std.proofs.Common.{[], get_or, subst, sym, take, ◌∷◌, take-append-drop, drop}
use Rattle.std.proofs.lemmas.Grind.{take_at_read}
use Rattle.std.proofs.lemmas.List.{take_all}
use Rattle.ts_session.specs.Lines.{GoesOver}
use Rattle.ts_session.proofs.LineFronts.{ended_over, over_none, over_on}
use Rattle.ts_session.proofs.lines.Lines.over.Goals as goal

pub loop-b-init : goal.loop-b-init
loop-b-init c = over_none c.args.self

pub returns-then-lines : goal.returns-then-lines
returns-then-lines c =
    let bytes = c.args.bytes.now in
    let i = c.loop-b.b-index in
    subst (λ b. GoesOver c.args.self b c.loop-b.lines) (take-append-drop i bytes)
    (over_on c.args.self c.loop-b.lines c.loop-b.lines (take i bytes) (drop i bytes) c.loop-b.invariant
    (ended_over c.loop-b.lines (drop i bytes) c.if-lines.true))

pub loop-b-preserved : goal.loop-b-preserved
loop-b-preserved c =
    let bytes = c.args.bytes.now in
    let i = c.loop-b.b-index in
    subst (λ b. GoesOver c.args.self b c.step-lines.result)
    (sym (take_at_read bytes i 0 c.loop-b-test.true).1)
    (over_on c.args.self c.loop-b.lines c.step-lines.result (take i bytes) (get_or bytes i 0 ∷ [])
    c.loop-b.invariant c.step-lines.ensures)

pub returns : goal.returns
returns c =
    subst (λ b. GoesOver c.args.self b c.loop-b.lines)
    (take_all c.loop-b.b-index c.args.bytes.now c.loop-b-test.false) c.loop-b.invariant
