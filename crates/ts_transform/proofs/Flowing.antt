-- What flows through a chain as it is made, and as its client takes bytes.
use Rattle.std.proofs.Common.{◌≡◌, ℕ, List, [], ◌∷◌, ◌++◌, Bool, true, false, Option, Some, is_none, length, take, drop, map, arith, refl, sym, ap, subst, ◌∙◌}
use Rattle.std.specs.Bool.{OnTrue}
use Rattle.std.proofs.lemmas.List.{append-nil}
use Rattle.ts_transform.specs.declared.pump.Stage.{Stage}
use Rattle.ts_transform.specs.Law.{IsDone}
use Rattle.ts_transform.specs.Stage.{part_of, rest_of}
use Rattle.ts_transform.specs.Flow.{ChainState, flow, flow_from, compose, fresh_stage, last_wait, last_ended, closed, aborted, passing, left_to_do}
use Rattle.ts_lists.proofs.Fronts.{cut_before}
use Rattle.ts_transform.proofs.Boundaries.{flow_from-finished}

-- a transform that is done writes as much in its stage as let go
pub rest_part : {P : Type 0} (rest : P → List ℕ → List ℕ) (soon : P → List ℕ → Option (List ℕ))
    (pause : P → ℕ) (p : P)
    → (is_none (soon p []) ≡ true → IsDone (rest p) (soon p))
    → (z : List ℕ) → rest_of rest (Some (part_of soon pause p)) z ≡ rest p z
rest_part {P} rest soon pause p done z = by_end (is_none (soon p [])) refl
  where
    by_end : (b : Bool) → is_none (soon p []) ≡ b → rest_of rest (Some (part_of soon pause p)) z ≡ rest p z
    by_end true e = rw e (sym (done e z).0)
    by_end false e = rw e refl

-- stages that got nothing yet compose their parts
pub flow_from-fresh : {P : Type 0} (rest : P → List ℕ → List ℕ) (soon : P → List ℕ → Option (List ℕ))
    (pause : P → ℕ) → ((p : P) → is_none (soon p []) ≡ true → IsDone (rest p) (soon p)) → (ps : List P)
    (v : List ℕ) → flow_from rest (map (fresh_stage soon pause) ps) v ≡ compose rest ps v
flow_from-fresh rest soon pause done [] v = refl
flow_from-fresh rest soon pause done (p ∷ ps) v =
    ap (flow_from rest (map (fresh_stage soon pause) ps)) (rest_part rest soon pause p (done p) v)
    ∙ flow_from-fresh rest soon pause done ps (rest p v)

-- the client of a chain with no stages takes the first n bytes
pub flow_from-taken : {P : Type 0} (rest : P → List ℕ → List ℕ) (ss : List (Stage P)) (first first' : List ℕ)
    (n : ℕ) → length ss ≡ 0 → first' ≡ drop n first
    → (x : List ℕ) → flow_from rest ss (first ++ x) ≡ take n (last_wait first ss) ++ flow_from rest ss
    (first' ++ x)
flow_from-taken rest [] first first' n none is x = cut_before n first x ∙ ap (λ l. take n first ++ (l ++ x))
    (sym is)
flow_from-taken rest (s ∷ ss) first first' n none is x = absurd (omega arith)

-- nothing comes out of a finished chain, whatever still comes before its end
pub flow-finished : {P : Type 0} (rest : P → List ℕ → List ℕ) (c : ChainState P)
    → last_ended c.given c.stages ≡ true → last_wait c.first c.stages ≡ []
    → (z : List ℕ) → OnTrue c.given (z ≡ []) → flow rest c z ≡ []
flow-finished rest c ended none z last =
    flow_from-finished rest c.stages c.given c.first (c.first ++ z) ended none
    (λ given. ap (λ l. c.first ++ l) (subst (λ b. OnTrue b (z ≡ [])) given last) ∙ append-nil c.first)

-- nothing comes out of a chain that was aborted, and it has nothing left to do
flow_from-closed : {P : Type 0} (rest : P → List ℕ → List ℕ) (ss : List (Stage P))
    → flow_from rest (map closed ss) [] ≡ []
flow_from-closed rest [] = refl
flow_from-closed rest (s ∷ ss) = flow_from-closed rest ss

passing-closed : {P : Type 0} (rest : P → List ℕ → List ℕ) (ss : List (Stage P))
    → passing rest (map closed ss) [] ≡ 0
passing-closed rest [] = refl
passing-closed rest (s ∷ ss) = let behind : passing rest (map closed ss) [] ≡ 0 = passing-closed rest ss in
    omega (arith, behind)

pub flow_aborted : {P : Type 0} (rest : P → List ℕ → List ℕ) (c d : ChainState P) → d ≡ aborted c
    → flow rest d [] ≡ []
flow_aborted rest c d is = ap (λ x. flow rest x []) is ∙ flow_from-closed rest c.stages

pub left_aborted : {P : Type 0} (rest : P → List ℕ → List ℕ) (c d : ChainState P) → d ≡ aborted c
    → left_to_do rest d [] ≡ 0
left_aborted rest c d is = ap (λ x. left_to_do rest x []) is ∙ passing-closed rest c.stages
