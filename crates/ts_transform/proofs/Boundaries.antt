-- What waits at a chain's boundaries, by place and at the last one.
use Rattle.std.proofs.Common.{◌≡◌, ℕ, zero, suc, ◌-◌, ◌<◌, List, [], ◌∷◌, ◌++◌, Bool, true, false, length, Option, None, is_none, get_or, Some, slice_get, arith, refl, sym, ap, ◌∙◌}
use Rattle.std.proofs.lemmas.List.{append-nil}
use Rattle.std.proofs.lemmas.Option.{slice_get_within, get_or_from_slice_get}
use Rattle.ts_transform.specs.declared.pump.Part.{Part}
use Rattle.ts_transform.specs.declared.pump.Stage.{Stage}
use Rattle.ts_transform.specs.Stage.{passed, rest_of, has_ended}
use Rattle.ts_transform.specs.Flow.{flow_from, wait_at, last_wait, last_ended}

-- behind the stage at place k
pub wait_at-place : {P : Type 0} (first : List ℕ) (ss : List (Stage P)) (k : ℕ) (d : Stage P) → k < length ss
    → wait_at first ss (suc k) ≡ (get_or ss k d).after
wait_at-place first [] k d below = absurd (omega arith)
wait_at-place first (s ∷ ss) zero d below = refl
wait_at-place first (s ∷ ss) (suc k) d below = wait_at-place s.after ss k d (omega arith)

last_wait-more : {P : Type 0} (first : List ℕ) (s : Stage P) (ss : List (Stage P)) (d : Stage P)
    → last_wait first (s ∷ ss) ≡ (get_or (s ∷ ss) (length ss) d).after
last_wait-more first s [] d = refl
last_wait-more first s (t ∷ ss) d = last_wait-more s.after t ss d

last_ended-more : {P : Type 0} (given : Bool) (s : Stage P) (ss : List (Stage P)) (d : Stage P)
    → last_ended given (s ∷ ss) ≡ has_ended (get_or (s ∷ ss) (length ss) d)
last_ended-more given s [] d = refl
last_ended-more given s (t ∷ ss) d = last_ended-more (has_ended s) t ss d

-- behind the last stage, where there is one
last_wait-last : {P : Type 0} (first : List ℕ) (ss : List (Stage P)) (d : Stage P) → 0 < length ss
    → last_wait first ss ≡ (get_or ss (length ss - 1) d).after
last_wait-last first [] d some = absurd (omega arith)
last_wait-last first (s ∷ ss) d some =
    let e : length ss ≡ length (s ∷ ss) - 1 = omega arith in last_wait-more first s ss d ∙ ap
    (λ k. (get_or (s ∷ ss) k d).after) e

-- the last stage has ended, where there is one
last_ended-last : {P : Type 0} (given : Bool) (ss : List (Stage P)) (d : Stage P) → 0 < length ss
    → last_ended given ss ≡ has_ended (get_or ss (length ss - 1) d)
last_ended-last given [] d some = absurd (omega arith)
last_ended-last given (s ∷ ss) d some =
    let e : length ss ≡ length (s ∷ ss) - 1 = omega arith in last_ended-more given s ss d ∙ ap
    (λ k. has_ended (get_or (s ∷ ss) k d)) e

-- the same of a last stage that was got
pub last_wait-got : {P : Type 0} (first : List ℕ) (ss : List (Stage P)) (d : Stage P)
    → Some d ≡ slice_get ss (length ss - 1) → last_wait first ss ≡ d.after
last_wait-got first ss d got =
    last_wait-last first ss d (omega (arith, slice_get_within ss (length ss - 1) d (sym got)))
    ∙ ap (λ s. s.after) (get_or_from_slice_get ss (length ss - 1) d d (sym got))

pub last_ended-got : {P : Type 0} (given : Bool) (ss : List (Stage P)) (d : Stage P)
    → Some d ≡ slice_get ss (length ss - 1) → last_ended given ss ≡ has_ended d
last_ended-got given ss d got =
    last_ended-last given ss d (omega (arith, slice_get_within ss (length ss - 1) d (sym got)))
    ∙ ap (λ s. has_ended s) (get_or_from_slice_get ss (length ss - 1) d d (sym got))

-- a stage that has ended writes nothing
pub rest_of-ended : {P : Type 0} (rest : P → List ℕ → List ℕ) (part : Option (Part P)) (v : List ℕ)
    → is_none part ≡ true → rest_of rest part v ≡ []
rest_of-ended rest None v ended = refl
rest_of-ended rest (Some part) v ended = absurd (let wrong : false ≡ true = ended in cc)

-- so behind it there is what waits there
passed-ended : {P : Type 0} (rest : P → List ℕ → List ℕ) (s : Stage P) (v : List ℕ) → has_ended s ≡ true
    → passed rest s v ≡ s.after
passed-ended rest s v ended = ap (λ l. s.after ++ l) (rest_of-ended rest s.part v ended) ∙ append-nil s.after

-- nothing comes out of stages of which the last has ended and has nothing waiting after it
pub flow_from-finished : {P : Type 0} (rest : P → List ℕ → List ℕ) (ss : List (Stage P)) (given : Bool)
    (first v : List ℕ)
    → last_ended given ss ≡ true → last_wait first ss ≡ [] → (given ≡ true → v ≡ first)
    → flow_from rest ss v ≡ []
flow_from-finished rest [] given first v ended none here = here ended ∙ none
flow_from-finished rest (s ∷ ss) given first v ended none here =
    flow_from-finished rest ss (has_ended s) s.after (passed rest s v) ended none (passed-ended rest s v)
