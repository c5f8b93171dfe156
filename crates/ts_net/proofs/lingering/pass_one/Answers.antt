use Rattle.std.proofs.Common.{◌≡◌, ℕ, suc, ◌++◌, List, take, drop, slice_set, false, ap, ◌∙◌, arith, rules}
use Rattle.std.proofs.lemmas.List.{take-set, drop-set-lt}
use Rattle.std.specs.List.{remove}
use Rattle.ts_net.proofs.lingering.pass_one.Goals as goal

-- what stood at a place that is removed does not matter
remove_set : {A : Type 0} (xs : List A) (i : ℕ) (x : A) → remove (slice_set xs i x) i ≡ remove xs i
remove_set xs i x =
    ap (λ front. front ++ drop (suc i) (slice_set xs i x)) (take-set xs i x)
    ∙ ap (λ back. take i xs ++ back) (drop-set-lt (suc i) xs i x (omega arith))

-- the connection is closed, as the read left it
pub returns-else-pass_over-clause-passes : goal.returns-else-pass_over-clause-passes
returns-else-pass_over-clause-passes g c = record {
  read = c.index_mut.result.now;
  left = c.pass_over.new.half;
  more = false;
  at = search rules;
  passes = search rules;
  waiting = c.remove.ensures.items ∙ remove_set c.args.waiting.now.items c.args.turn.now c.pass_over.new.half;
  turn = search rules;
}
