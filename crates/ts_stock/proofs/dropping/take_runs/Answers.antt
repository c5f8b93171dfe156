use Rattle.std.proofs.Common.{◌≡◌, ◌<◌, ◌+◌, ◌-◌, ◌++◌, inl, inr, length, take, drop, length-take-le, length-drop, sym, ap, ◌∙◌, arith}
use Rattle.std.proofs.lemmas.Bool.{cases_order}
use Rattle.std.proofs.lemmas.Nat.Bits.{bit_at-zero}
use Rattle.ts_stock.specs.Dropping.{IsFreeOf}
use Rattle.ts_stock.proofs.Runs.{run_stays, place_left_out}
use Rattle.ts_stock.proofs.Bits.{place_holds, free_to}
use Rattle.ts_stock.proofs.dropping.take_runs.Goals as goal

pub slice_bounds-write_run-count : goal.slice_bounds-write_run-count
slice_bounds-write_run-count c =
    ((c.loop-left.invariant.left c.first_of-first.result).0 c.first_of-first.ensures.there).1

pub loop-left-preserved : goal.loop-left-preserved
loop-left-preserved c =
    let input = c.args.input.now in
    let byte = c.args.byte in
    let start = c.args.start in
    let done = c.loop-left.written.done in
    let first = c.first_of-first.result in
    let place = start + first in
    let inv = c.loop-left.invariant in
    let within = c.first_of-first.ensures.within in
    let there = (inv.left first).0 c.first_of-first.ensures.there in
    let below : place < length input = omega (arith, within, c.requires.within.0) in
    let run : length (take (place - done) (drop done input)) ≡ place - done =
    length-take-le (place - done) (drop done input)
    (omega (arith, there.1, below, length-drop done input)) in
    let free : IsFreeOf byte input done place =
    free_to byte start done first c.args.places c.loop-left.left input c.requires.within.0
    (omega (arith, within)) c.requires.places inv.left inv.free c.first_of-first.ensures.first in
    record {
      order = omega (arith, within);
      within = omega (arith, c.write_run-filled.ensures.count, run, inv.within, there.1);
      bytes = c.write_run-filled.ensures.bytes ∙ ap
          (λ t. t ++ take (place - done) (drop done input)) inv.bytes
          ∙ sym (run_stays byte done place input there.1 (omega (arith, below)) free)
          ∙ sym (place_left_out byte place input below
          (place_holds byte start c.args.places input first within c.requires.places there.0));
      free = λ k from until same. absurd (omega (arith, from, until));
      left = λ k. (
        λ set. (let old = (c.less-left.ensures.others k).0 set in (
          ((inv.left k).0 old.0).0,
          elim (cases_order k first) [
            | inl same ↦ absurd (old.1 same)
            | inr (inl before) ↦ absurd (c.first_of-first.ensures.first k before old.0)
            | inr (inr behind) ↦ omega (arith, behind)
          ],
        )),
        λ h. (c.less-left.ensures.others k).1 (
          (inv.left k).1 (h.0, omega (arith, h.1, there.1)),
          λ same. absurd (omega (arith, same, h.1)),
        ),
      );
    }

pub returns : goal.returns
returns c =
    let inv = c.loop-left.invariant in
    let free = free_to c.args.byte c.args.start c.loop-left.written.done 64 c.args.places c.loop-left.left
    c.args.input.now c.requires.within.0 (omega arith) c.requires.places inv.left inv.free
    (λ k below set. omega (arith, set, bit_at-zero k, c.loop-left-test.false)) in
    record { order = inv.order; within = inv.within; bytes = inv.bytes; free = free }
