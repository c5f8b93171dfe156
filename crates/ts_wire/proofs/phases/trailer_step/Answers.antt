use Rattle.std.proofs.Common.{◌≡◌, ◌-◌, length, refl, ap, arith, length-append}
use Rattle.ts_wire.specs.Judged.{is_trailer}
use Rattle.ts_wire.proofs.TrailerLemmas.{judged_trailer_long, trailer_steps}
use Rattle.std.proofs.lemmas.List.{nil_from_length}
use Rattle.ts_wire.proofs.LineLemmas.{in_place, cut_body, kept_in_place, kept_joined, taken_is}
use Rattle.ts_wire.proofs.phases.trailer_step.Goals as goal

pub returns-then-before-eq0-clause-steps : goal.returns-then-before-eq0-clause-steps
returns-then-before-eq0-clause-steps c =
    let held = c.args.held.now.items in
    let empty : length held ≡ 0 = omega (arith, c.args.held.now.ok.0) in
    let none = nil_from_length held empty in
    let judged = c.judge_trailer-judged.result in
    trailer_steps judged.phase held _ c.args.bytes.now _ c.args.total judged.len _ c.requires.sound
    (omega arith) (omega (arith, c.front-piece.ensures.len))
    (in_place held c.args.bytes.now _ _ _ none c.front-piece.ensures.value
    (omega (arith, c.args.held.now.ok.0))) c.judge_trailer-judged.ensures
    (kept_in_place _ (is_trailer judged.phase) held _ _ none c.is_trailer.ensures c.keep_if.ensures.items)
    (taken_is judged.phase _ judged.len (judged.len - length held) c.frame_step.ensures (omega arith))

pub overflow_sub-judged : goal.overflow_sub-judged
overflow_sub-judged c =
    let held = c.args.held.now.items in
    let judged = c.judge_trailer-judged-2.result in
    let long = judged_trailer_long held c.args.bytes.now _ _ judged.len judged.phase c.requires.sound.1
    (cut_body held c.args.bytes.now _ _ _ _ _ c.front-piece.ensures.value refl c.keep.ensures.items
    c.as_slice.ensures.value) c.judge_trailer-judged-2.ensures in
    omega (arith, long, c.args.held.now.ok.0)

pub returns-clause-steps : goal.returns-clause-steps
returns-clause-steps c =
    let held = c.args.held.now.items in
    let judged = c.judge_trailer-judged-2.result in
    trailer_steps judged.phase held _ c.args.bytes.now _ c.args.total judged.len _ c.requires.sound
    (omega arith)
    (omega (
      arith,
      ap length c.as_slice.ensures.value,
      ap length c.keep.ensures.items,
      length-append held c.front-piece.result.now,
      c.front-piece.ensures.len,
      c.args.held.now.ok.0,
    ))
    (cut_body held c.args.bytes.now _ _ _ _ _ c.front-piece.ensures.value
    (omega (arith, c.args.held.now.ok.0)) c.keep.ensures.items c.as_slice.ensures.value)
    c.judge_trailer-judged-2.ensures
    (kept_joined _ (is_trailer judged.phase) _ _ _ c.as_slice.ensures.value c.is_trailer-2.ensures
    c.forget_unless.ensures.items)
    (taken_is judged.phase _ _ (judged.len - length held) c.frame_step-2.ensures
    (omega (arith, c.args.held.now.ok.0)))
