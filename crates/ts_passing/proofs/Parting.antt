-- The parts of a chain, made one by one, are those of the lines that act.
use Rattle.std.proofs.Common.{◌≡◌, ℕ, List, [], ◌∷◌, ◌++◌, Bool, true, false, cond, refl, sym, ap, subst, ◌∙◌}
use Rattle.std.proofs.Common.{Option, None, Some, append_assoc}
use Rattle.std.specs.Option.{option_and_then}
use Rattle.std.specs.Prelude.{filter}
use Rattle.std.proofs.lemmas.List.{append-nil}
use Rattle.ts_transform.specs.Flow.{compose, soon_compose}
use Rattle.ts_config.specs.declared.setup.TransformLine.{TransformLine}
use Rattle.ts_config.specs.Bodies.{compose_lines, so_far, so_far_of, whole_of}
use Rattle.ts_transform.specs.declared.transform.Transform as transform
use Rattle.ts_passing.specs.Inserted.{AreOfLines}
use Rattle.ts_passing.specs.Lines.{ActsAsLines}

-- they compose as the lines do
pub compose_of_lines : {P : Type 0} (stage : transform.Ghosts P TransformLine) (ls : List TransformLine)
    (ps : List P) → AreOfLines stage ls ps → (z : List ℕ) → compose stage.rest ps z ≡ compose_lines ls z
compose_of_lines stage [] [] of z = refl
compose_of_lines stage [] (p ∷ ps) of z = absurd of
compose_of_lines stage (l ∷ ls) [] of z = absurd of
compose_of_lines stage (l ∷ ls) (p ∷ ps) of z = ap (compose stage.rest ps) (of.0 z) ∙ compose_of_lines stage
    ls ps of.3 (whole_of l z)

-- and write so far what the lines do
soon_on : {P : Type 0} (stage : transform.Ghosts P TransformLine) (ls : List TransformLine) (ps : List P)
    → ((z : List ℕ) → soon_compose stage.soon ps z ≡ so_far ls z) → (o : Option (List ℕ))
    → option_and_then (soon_compose stage.soon ps) o ≡ option_and_then (so_far ls) o
soon_on stage ls ps same None = refl
soon_on stage ls ps same (Some w) = same w

pub soon_of_lines : {P : Type 0} (stage : transform.Ghosts P TransformLine) (ls : List TransformLine)
    (ps : List P) → AreOfLines stage ls ps → (z : List ℕ) → soon_compose stage.soon ps z ≡ so_far ls z
soon_of_lines stage [] [] of z = refl
soon_of_lines stage [] (p ∷ ps) of z = absurd of
soon_of_lines stage (l ∷ ls) [] of z = absurd of
soon_of_lines stage (l ∷ ls) (p ∷ ps) of z = ap (option_and_then (soon_compose stage.soon ps)) (of.2 z)
    ∙ soon_on stage ls ps (soon_of_lines stage ls ps of.3) (so_far_of l z)

-- the parts that were made, and then any of the lines that are left, are of all lines that act
abbrev pub Continues : {P : Type 0} → transform.Ghosts P TransformLine → (TransformLine → Bool)
    → List TransformLine → List TransformLine → List P → Type 0
Continues {P} stage f all left ps = (qs : List P) → AreOfLines stage (filter f left) qs
    → AreOfLines stage (filter f all) (ps ++ qs)

pub part_last : {P : Type 0} (stage : transform.Ghosts P TransformLine) (f : TransformLine → Bool)
    (all left : List TransformLine) (ps : List P) → left ≡ [] → Continues stage f all left ps
    → AreOfLines stage (filter f all) ps
part_last {P} stage f all left ps none before =
    subst (λ (xs : List P). AreOfLines stage (filter f all) xs) (append-nil ps)
    (before [] (subst (λ (ls : List TransformLine). AreOfLines stage (filter f ls) []) (sym none) tt))

module _ {P : Type 0} (stage : transform.Ghosts P TransformLine)
    (f : TransformLine → Bool) (all : List TransformLine)
    (left more : List TransformLine) (l : TransformLine) (is : left ≡ l ∷ more) (ps : List P)
    (before : Continues stage f all left ps) where
  -- a line that acts has a part of its own
  pub part_more : ActsAsLines stage → f l ≡ true → (p : P) → ((w : List ℕ) → stage.rest p w ≡ stage.whole l w)
      → stage.pause p ≡ stage.line_pause l → ((w : List ℕ) → stage.soon p w ≡ stage.line_soon l w)
      → Continues stage f all more (ps ++ p ∷ [])
  part_more acts does p fresh paused soon qs of =
      let front : AreOfLines stage (cond true (l ∷ filter f more) (filter f more)) (p ∷ qs) =
      (λ z. fresh z ∙ (acts l z).0, paused, λ z. soon z ∙ (acts l z).1, of) in
      let also : AreOfLines stage (filter f left) (p ∷ qs) =
      subst (λ (ls : List TransformLine). AreOfLines stage (filter f ls) (p ∷ qs)) (sym is)
      (subst (λ (b : Bool). AreOfLines stage (cond b (l ∷ filter f more) (filter f more)) (p ∷ qs)) (sym does)
      front) in
      subst (λ (xs : List P). AreOfLines stage (filter f all) xs) (sym (append_assoc ps (p ∷ []) qs))
      (before (p ∷ qs) also)

  -- another has none
  pub part_none : f l ≡ false → Continues stage f all more ps
  part_none idle qs of = before qs
      (subst (λ (ls : List TransformLine). AreOfLines stage (filter f ls) qs) (sym is)
      (subst (λ (b : Bool). AreOfLines stage (cond b (l ∷ filter f more) (filter f more)) qs) (sym idle) of))
