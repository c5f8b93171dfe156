-- A chain of transforms that change no more stays one, and a chain of fresh transforms has little to do.
use Rattle.std.proofs.Common.{◌≡◌, ℕ, zero, suc, ◌+◌, ◌*◌, ◌≤◌, List, [], ◌∷◌, length, map, take, Bool, true}
use Rattle.std.proofs.Common.{false, arith, refl, sym, subst, length-append}
use Rattle.std.specs.Prelude.{◌==◌, not, Option, Some, is_none, if◌then◌else◌}
use Rattle.std.proofs.lemmas.List.{length-map}
use Rattle.ts_lists.proofs.Sizes.{filter_within}
use Rattle.ts_config.specs.Bodies.{whole_of}
use Rattle.ts_config.specs.declared.setup.TransformLine.{TransformLine}
use Rattle.ts_config.specs.declared.setup.TransformLine.TheVariants as t
use Rattle.ts_transform.specs.Flow.{ChainState, IsBefore, PumpsAt, StepsAt, done_at, fresh_stage, passing}
use Rattle.ts_transform.specs.Stage.{Steps, cuts, part_of, rest_of}
use Rattle.ts_transform.specs.declared.pump.Pumped.{Pumped}
use Rattle.ts_transform.specs.declared.pump.Pumped.TheVariants.{Moved, Ended, Blocked, Idle}
use Rattle.ts_transform.specs.declared.pump.Part.{Part}
use Rattle.ts_transform.specs.declared.pump.Stage.{Stage}
use Rattle.ts_transform.specs.declared.transform.Transform as transform
use Rattle.ts_passing.specs.Inserted.{AllChangeNoMore, AreOfLines, ChangesNoMore}
use Rattle.ts_passing.specs.Lines.{IsOfSome, line_length, lines_length, passes}
use Rattle.ts_passing.proofs.Inserted.{fed_changes, line_changes, same_changes}

-- ---- a stage worked

-- what writes nothing changes nothing
none_changes : ChangesNoMore (λ xs. [])
none_changes n xs ys edited =
    record { edits = []; from = refl; to = refl; few_in = omega arith; few_out = omega arith }

stage_changes : {P : Type 0} (rest : P → List ℕ → List ℕ) (from : List ℕ) (s : Stage P) (r : Pumped)
    (from' : List ℕ) (s' : Stage P) → Steps rest from s r from' s'
    → ChangesNoMore (rest_of rest s.part) → ChangesNoMore (rest_of rest s'.part)
stage_changes rest from s (Moved n) from' s' steps changes =
    fed_changes (rest_of rest s.part) (rest_of rest s'.part) (take n from) steps.2.more changes steps.2.law
stage_changes {P} rest from s Ended from' s' steps changes =
    subst (λ (p : Option (Part P)). ChangesNoMore (rest_of rest p)) (sym steps.1) none_changes
stage_changes {P} rest from s (Blocked w) from' s' steps changes = subst (λ (x : Stage P). ChangesNoMore
    (rest_of rest x.part)) (sym steps.1) changes
stage_changes {P} rest from s Idle from' s' steps changes = subst (λ (x : Stage P). ChangesNoMore
    (rest_of rest x.part)) (sym steps.1) changes

-- one before it was cut off, or stays
before_changes : {P : Type 0} (rest : P → List ℕ → List ℕ) (cut : Bool) (from : List ℕ) (s : Stage P)
    (from' : List ℕ) (s' : Stage P) → IsBefore cut from s from' s'
    → ChangesNoMore (rest_of rest s.part) → ChangesNoMore (rest_of rest s'.part)
before_changes {P} rest true from s from' s' before changes =
    subst (λ (p : Option (Part P)). ChangesNoMore (rest_of rest p)) (sym before.1) none_changes
before_changes {P} rest false from s from' s' before changes =
    subst (λ (p : Option (Part P)). ChangesNoMore (rest_of rest p)) (sym before.1) changes

stages_change : {P : Type 0} (rest : P → List ℕ → List ℕ) (from : List ℕ) (ss : List (Stage P)) (at : ℕ)
    (r : Pumped) (from' : List ℕ) (ss' : List (Stage P)) → StepsAt rest from ss at r from' ss'
    → AllChangeNoMore rest ss → AllChangeNoMore rest ss'
stages_change rest from [] at r from' ss' steps all = absurd steps
stages_change rest from (s ∷ ss) at r from' [] steps all = tt
stages_change {P} rest from (s ∷ ss) zero r from' (s' ∷ ss') steps all = (
  stage_changes rest from s r from' s' steps.0 all.0,
  subst (λ (xs : List (Stage P)). AllChangeNoMore rest xs)
      (sym steps.1) all.1,
)
stages_change rest from (s ∷ ss) (suc at) r from' (s' ∷ ss') steps all = (
  before_changes rest (cuts r (done_at ss at)) from s from' s' steps.0 all.0,
  stages_change rest s.after ss at r s'.after ss' steps.1 all.1,
)

-- so the chain stays one of its lines
pub pumped_lines : {P : Type 0} (lines : List TransformLine) (rest : P → List ℕ → List ℕ) (at : ℕ)
    (c d : ChainState P) → PumpsAt rest at c d → length d.stages ≡ length c.stages
    → IsOfSome lines rest c → IsOfSome lines rest d
pumped_lines lines rest at c d pumps len of = record {
  few = omega (arith, len, of.few);
  changes = stages_change rest c.first c.stages at pumps.pumped d.first d.stages pumps.steps of.changes;
}

-- ---- fresh transforms

module _ {P : Type 0} (stage : transform.Ghosts P TransformLine) where
  -- one that is done writes nothing more
  part_changes : (p : P) → ChangesNoMore (stage.rest p)
      → ChangesNoMore (rest_of stage.rest (Some (part_of stage.soon stage.pause p)))
  part_changes p changes = by_end (is_none (stage.soon p [])) refl
    where
      by_end : (b : Bool) → is_none (stage.soon p []) ≡ b
          → ChangesNoMore (rest_of stage.rest (Some (part_of stage.soon stage.pause p)))
      by_end true e = rw e none_changes
      by_end false e = rw e changes

  part_within : (p : P) (v : List ℕ) (n : ℕ) → length (stage.rest p v) ≤ n
      → length (rest_of stage.rest (Some (part_of stage.soon stage.pause p)) v) ≤ n
  part_within p v n fits = by_end (is_none (stage.soon p [])) refl
    where
      by_end : (b : Bool) → is_none (stage.soon p []) ≡ b
          → length (rest_of stage.rest (Some (part_of stage.soon stage.pause p)) v) ≤ n
      by_end true e = rw e (omega arith)
      by_end false e = rw e fits

  pub fresh_changes : (ls : List TransformLine) (ps : List P) → AreOfLines stage ls ps
      → AllChangeNoMore stage.rest (map (fresh_stage stage.soon stage.pause) ps)
  fresh_changes [] [] of = tt
  fresh_changes [] (p ∷ ps) of = absurd of
  fresh_changes (l ∷ ls) [] of = absurd of
  fresh_changes (l ∷ ls) (p ∷ ps) of = (
    part_changes p (same_changes (whole_of l) (stage.rest p) of.0 (line_changes l)),
    fresh_changes ls ps of.3,
  )

-- a line makes a body at most longer by its text
line_within : (l : TransformLine) (xs : List ℕ) → length (whole_of l xs) ≤ length xs + line_length l
line_within (t.Append file text) xs = omega (arith, length-append xs text)
line_within (t.Prepend text) xs = omega (arith, length-append text xs)
line_within (t.Map from to) xs = omega (arith, length-map xs (λ b. if b == from then to else b))
line_within (t.Drop byte) xs = omega (arith, filter_within (λ b. not (b == byte)) xs)
line_within (t.Limit most) xs = front_within most xs
  where
    front_within : (n : ℕ) (xs : List ℕ) → length (take n xs) ≤ length xs + 0
    front_within zero xs = omega arith
    front_within (suc n) [] = omega arith
    front_within (suc n) (x ∷ xs) = omega (arith, front_within n xs)
line_within _ xs = omega arith

-- What fresh transforms have left to do, with the calls that their continuations may make, is no more than
-- their lines' texts at each boundary.
pub fresh_work : {P : Type 0} (stage : transform.Ghosts P TransformLine) (ls : List TransformLine)
    (ps : List P) → AreOfLines stage ls ps → (v : List ℕ) (most : ℕ)
    → length v + lines_length ls ≤ most
    → passing stage.rest (map (fresh_stage stage.soon stage.pause) ps) v + 2 * length ps ≤ passes ls (most +
    3)
fresh_work stage [] [] of v most fits = omega (arith, fits)
fresh_work stage [] (p ∷ ps) of v most fits = absurd of
fresh_work stage (l ∷ ls) [] of v most fits = absurd of
fresh_work stage (l ∷ ls) (p ∷ ps) of v most fits =
    let next = rest_of stage.rest (Some (part_of stage.soon stage.pause p)) v in
    let longer : length next ≤ length v + line_length l = part_within stage p v (length v + line_length l)
    (subst (λ (xs : List ℕ). length xs ≤ length v + line_length l) (sym (of.0 v)) (line_within l v)) in
    let behind : passing stage.rest (map (fresh_stage stage.soon stage.pause) ps) next + 2 * length ps
    ≤ passes ls (most + 3) =
    fresh_work stage ls ps of.3 next most (omega (arith, longer, fits)) in
    omega (arith, behind, fits)
