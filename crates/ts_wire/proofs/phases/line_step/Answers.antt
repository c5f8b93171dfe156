use Rattle.std.proofs.Common.{◌≡◌, ◌-◌, length, refl, arith}
use Rattle.ts_wire.specs.Judged.{is_line}
use Rattle.std.proofs.lemmas.List.{nil_from_length}
use Rattle.ts_wire.proofs.LineLemmas.{judged_long, line_steps, in_place, cut_body, kept_in_place, kept_joined, taken_is}
use Rattle.ts_wire.proofs.phases.line_step.Goals as goal

pub returns-then-before-eq0-clause-steps : goal.returns-then-before-eq0-clause-steps
returns-then-before-eq0-clause-steps c =
    let held = c.args.held.now.items in
    let empty : length held ≡ 0 = omega (arith, c.args.held.now.ok.0) in
    let none = nil_from_length held empty in
    let judged = c.judge_line-judged.result in
    line_steps judged.phase held _ c.args.bytes.now _ c.args.total judged.len _ c.requires.sound
    (in_place held c.args.bytes.now _ _ _ none c.front-piece.ensures.value
    (omega (arith, c.args.held.now.ok.0))) c.judge_line-judged.ensures
    (kept_in_place _ (is_line judged.phase) held _ _ none c.is_line.ensures c.keep_if.ensures.items)
    (taken_is judged.phase _ judged.len (judged.len - length held) c.frame_step.ensures (omega arith))

pub overflow_sub-judged : goal.overflow_sub-judged
overflow_sub-judged c =
    let held = c.args.held.now.items in
    let judged = c.judge_line-judged-2.result in
    let long = judged_long held c.args.bytes.now _ _ c.args.total judged.len judged.phase c.requires.sound.2
    (cut_body held c.args.bytes.now _ _ _ _ _ c.front-piece.ensures.value refl c.keep.ensures.items
    c.as_slice.ensures.value) c.judge_line-judged-2.ensures in
    omega (arith, long, c.args.held.now.ok.0)

pub returns-clause-steps : goal.returns-clause-steps
returns-clause-steps c =
    let held = c.args.held.now.items in
    let judged = c.judge_line-judged-2.result in
    line_steps judged.phase held _ c.args.bytes.now _ c.args.total judged.len _ c.requires.sound
    (cut_body held c.args.bytes.now _ _ _ _ _ c.front-piece.ensures.value
    (omega (arith, c.args.held.now.ok.0)) c.keep.ensures.items c.as_slice.ensures.value)
    c.judge_line-judged-2.ensures
    (kept_joined _ (is_line judged.phase) _ _ _ c.as_slice.ensures.value c.is_line-2.ensures
    c.forget_unless.ensures.items)
    (taken_is judged.phase _ _ (judged.len - length held) c.frame_step-2.ensures
    (omega (arith, c.args.held.now.ok.0)))
