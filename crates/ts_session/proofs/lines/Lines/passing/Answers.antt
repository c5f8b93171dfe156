-- Place by place, until the head has ended.
use Rattle.std.proofs.Common.{[], arith, get_or, length, subst, sym, take, ◌∷◌}
use Rattle.std.proofs.lemmas.Grind.{take_at_read}
use Rattle.ts_session.specs.Lines.{GoesOver}
use Rattle.ts_session.proofs.LineFronts.{over_none, over_on}
use Rattle.ts_session.proofs.Passing.{passes_ended, passes_more, passes_none}
use Rattle.ts_session.proofs.lines.Lines.passing.Goals as goal

pub bytes-init : goal.bytes-init
bytes-init c = record {
  within = omega arith;
  over = over_none c.args.self;
  passes = passes_none c.args.asks_head c.args.self c.args.bytes.now;
}

pub bytes-preserved : goal.bytes-preserved
bytes-preserved c =
    let bytes = c.args.bytes.now in
    let at = c.bytes.at in
    record {
      within = omega (arith, c.bytes-test.true);
      over = subst (λ b. GoesOver c.args.self b c.step-lines.result) (sym (take_at_read bytes at 0 c.bytes-test.true).1)
          (over_on c.args.self c.bytes.lines c.step-lines.result (take at bytes) (get_or bytes at 0 ∷ [])
          c.bytes.invariant.over c.step-lines.ensures);
      passes = passes_more c.args.asks_head c.args.self c.bytes.lines bytes at c.bytes.invariant.over
          c.bytes.invariant.passes (c.finds_at.ensures.none c.if-finds_at.false);
    }

pub returns-then-lines-clause-no_line : goal.returns-then-lines-clause-no_line
returns-then-lines-clause-no_line c =
    passes_ended c.args.asks_head c.args.self c.bytes.lines c.args.bytes.now c.bytes.at c.bytes.invariant.over
    c.bytes.invariant.passes c.if-lines.true (length c.args.bytes.now)
