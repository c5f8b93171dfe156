-- A stage that worked keeps what is still to come, and lowers what is left to do by what it did.
use Rattle.std.proofs.Common.{◌≡◌, ℕ, zero, suc, ◌+◌, ◌-◌, ◌≤◌, List, [], ◌∷◌, ◌++◌, Bool, true, false, Option, Some, None, length, take, drop, nat_le, arith, refl, sym, ap, subst, ◌∙◌, append_assoc, length-drop, length-append, is_none}
use Rattle.std.specs.Bool.{OnTrue}
use Rattle.std.proofs.lemmas.List.{take-append-drop, append-nil}
use Rattle.ts_transform.specs.declared.pump.Part.{Part}
use Rattle.ts_transform.specs.declared.pump.Part.TheVariants.{Works, Done}
use Rattle.ts_transform.specs.declared.pump.Stage.{Stage}
use Rattle.ts_transform.specs.declared.pump.Pumped.{Pumped}
use Rattle.ts_transform.specs.declared.pump.Pumped.TheVariants.{Moved, Ended, Blocked, Idle}
use Rattle.ts_transform.specs.Stage.{passed, rest_of, has_ended, has_work, is_done, needs_no_more, cuts, Answers, AnswersIf, AnswersWork, Steps, done_by, to_end}
use Rattle.ts_transform.specs.Flow.{IsBefore, flow_from, passing, done_at, AnswersAt, StepsAt}
use Rattle.ts_transform.proofs.Boundaries.{rest_of-ended}

-- only a stage that has not ended works: it is full or not, ends where it is done or nothing waits before it,
-- and moves at most what waits
work-ended : (full : Bool) (from after : List ℕ) → AnswersWork full false from after Ended → from ≡ []
work-ended true from after h = absurd (let wrong : Ended ≡ Blocked (length after) = h in cc)
work-ended false [] after h = refl
work-ended false (b ∷ bs) after h = absurd h

work-moved : (full done : Bool) (from after : List ℕ) (n : ℕ) → AnswersWork full done from after (Moved n)
    → n ≤ length from
work-moved true done from after n h = absurd (let wrong : Moved n ≡ Blocked (length after) = h in cc)
work-moved false true from after n h = absurd (let wrong : Moved n ≡ Ended = h in cc)
work-moved false false [] after n h = absurd (let wrong : Moved n ≡ Ended = h in cc)
work-moved false false (b ∷ bs) after n h = h.2

-- a stage that ends has not ended before
ended-goes : (e up done : Bool) (from after : List ℕ) → AnswersIf (has_work e up from) done from after Ended
    → e ≡ false
ended-goes true up done from after h = absurd (let wrong : Ended ≡ Idle = h in cc)
ended-goes false up done from after h = refl

-- a stage that ends and is not done has an upstream that has ended, and nothing waits before it
answers-ended : (up : Bool) (from after : List ℕ) → AnswersIf (has_work false up from) false from after Ended
    → (up ≡ true) × (from ≡ [])
answers-ended true from after h = (refl, work-ended (nat_le 65536 (length after)) from after h)
answers-ended false [] after h = absurd (let wrong : Ended ≡ Idle = h in cc)
answers-ended false (b ∷ bs) after h = absurd
    (let wrong : ◌≡◌ {A = List ℕ} (b ∷ bs) [] = work-ended (nat_le 65536 (length after)) (b ∷ bs) after h in
    cc)

-- a stage that moves bytes moves at most those that wait before it
answers-moved : (e up done : Bool) (from after : List ℕ) (n : ℕ)
    → AnswersIf (has_work e up from) done from after (Moved n) → n ≤ length from
answers-moved true up done from after n h = absurd (let wrong : Moved n ≡ Idle = h in cc)
answers-moved false true done from after n h = work-moved (nat_le 65536 (length after)) done from after n h
answers-moved false false done [] after n h = absurd (let wrong : Moved n ≡ Idle = h in cc)
answers-moved false false done (b ∷ bs) after n h =
    work-moved (nat_le 65536 (length after)) done (b ∷ bs) after n h

-- what a stage that ends wrote is what it still had to write: it was done, or nothing more comes
ended-rest : {P : Type 0} (rest : P → List ℕ → List ℕ) (up : Bool) (from after : List ℕ) (p : Option (Part P))
    → AnswersIf (has_work (is_none p) (needs_no_more up p) from) (is_done p) from after Ended
    → (x : List ℕ) → OnTrue up (x ≡ []) → rest_of rest p [] ≡ rest_of rest p (from ++ x)
ended-rest rest up from after None answers x none = refl
ended-rest rest up from after (Some (Done pause)) answers x none = refl
ended-rest rest up from after (Some (Works part)) answers x none =
    let why : (up ≡ true) × (from ≡ []) = answers-ended up from after answers in
    let nothing : from ++ x ≡ [] = ap (λ l. l ++ x) why.1 ∙ subst (λ b. OnTrue b (x ≡ [])) why.0 none in
    ap (rest part) (sym nothing)

-- What comes behind a stage that was pumped is what came behind it: for whatever still comes while its
-- upstream goes on, and for nothing afterwards.
pumped-flow : {P : Type 0} (rest : P → List ℕ → List ℕ) (up : Bool) (from from' : List ℕ) (s s' : Stage P)
    (r : Pumped)
    → Answers up from s r → Steps rest from s r from' s' → (x : List ℕ) → OnTrue up (x ≡ [])
    → passed rest s' (from' ++ x) ≡ passed rest s (from ++ x)
pumped-flow rest up from from' s s' (Moved n) answers (taken, goes, adds) x none =
    ap (λ l. s'.after ++ rest_of rest s'.part (l ++ x)) taken
    ∙ ap (λ l. l ++ rest_of rest s'.part (drop n from ++ x)) adds.is
    ∙ append_assoc s.after adds.more (rest_of rest s'.part (drop n from ++ x))
    ∙ ap (λ l. s.after ++ l) (sym (adds.law (drop n from ++ x)))
    ∙ ap (λ l. s.after ++ rest_of rest s.part l)
    (sym (append_assoc (take n from) (drop n from) x) ∙ ap (λ l. l ++ x) (take-append-drop n from))
pumped-flow rest up from from' s s' Ended answers (dropped, gone, wrote) x none =
    ap (λ p. s'.after ++ rest_of rest p (from' ++ x)) gone
    ∙ append-nil s'.after ∙ wrote
    ∙ ap (λ l. s.after ++ l) (ended-rest rest up from s.after s.part answers x none)
pumped-flow rest up from from' s s' (Blocked w) answers (same, still) x none =
    ap (λ t. passed rest t (from' ++ x)) still ∙ ap (λ l. passed rest s (l ++ x)) same
pumped-flow rest up from from' s s' Idle answers (same, still) x none =
    ap (λ t. passed rest t (from' ++ x)) still ∙ ap (λ l. passed rest s (l ++ x)) same

-- a pump lowers what is left to do at its stage by what it did, or by more
pumped-less : {P : Type 0} (rest : P → List ℕ → List ℕ) (up : Bool) (from from' : List ℕ) (s s' : Stage P)
    (r : Pumped)
    → Answers up from s r → Steps rest from s r from' s'
    → length from' + to_end (has_ended s') + done_by r ≤ length from + to_end (has_ended s)
pumped-less rest up from from' s s' (Moved n) answers (taken, goes, adds) =
    let some : n ≤ length from = answers-moved (has_ended s) (needs_no_more up s.part) (is_done s.part) from
    s.after n answers in
    let left : length from' ≡ length from - n = ap length taken ∙ length-drop n from in
    let same : to_end (has_ended s') ≡ to_end (has_ended s) = ap to_end goes in
    omega (arith, some, left, same)
pumped-less rest up from from' s s' Ended answers (dropped, gone, wrote) =
    let before : to_end (has_ended s) ≡ 1 = ap to_end
    (ended-goes (has_ended s) (needs_no_more up s.part) (is_done s.part) from s.after answers) in
    let after : to_end (has_ended s') ≡ 0 = ap (λ p. to_end (is_none p)) gone in
    let nothing : length from' ≡ 0 = ap length dropped in
    omega (arith, before, after, nothing)
pumped-less rest up from from' s s' (Blocked w) answers (same, still) =
    let a : length from' ≡ length from = ap length same in
    let b : to_end (has_ended s') ≡ to_end (has_ended s) = ap (λ t. to_end (has_ended t)) still in
    omega (arith, a, b)
pumped-less rest up from from' s s' Idle answers (same, still) =
    let a : length from' ≡ length from = ap length same in
    let b : to_end (has_ended s') ≡ to_end (has_ended s) = ap (λ t. to_end (has_ended t)) still in
    omega (arith, a, b)

-- a stage that has ended writes nothing, and so nothing more comes to the next
ended-nothing : {P : Type 0} (rest : P → List ℕ → List ℕ) (b : Bool) (s : Stage P) (v : List ℕ)
    → has_ended s ≡ b → OnTrue b (rest_of rest s.part v ≡ [])
ended-nothing rest true s v is = rest_of-ended rest s.part v is
ended-nothing rest false s v is = tt

-- a pump that cuts off what comes before it ended a stage that was done
pub cuts-done : (r : Pumped) (done : Bool) → cuts r done ≡ true → (r ≡ Ended) × (done ≡ true)
cuts-done (Moved n) done h = absurd (let wrong : false ≡ true = h in cc)
cuts-done Ended done h = (refl, h)
cuts-done (Blocked w) done h = absurd (let wrong : false ≡ true = h in cc)
cuts-done Idle done h = absurd (let wrong : false ≡ true = h in cc)

-- a stage that is done writes nothing
done-rest : {P : Type 0} (rest : P → List ℕ → List ℕ) (p : Option (Part P)) (v : List ℕ) → is_done p ≡ true
    → rest_of rest p v ≡ []
done-rest rest None v done = refl
done-rest rest (Some (Works part)) v done = absurd (let wrong : false ≡ true = done in cc)
done-rest rest (Some (Done pause)) v done = refl

-- so what comes behind it is what came behind it, whatever comes before it
done-flow : {P : Type 0} (rest : P → List ℕ → List ℕ) (from from' : List ℕ) (s s' : Stage P)
    → Steps rest from s Ended from' s' → is_done s.part ≡ true → (v w : List ℕ)
    → passed rest s' v ≡ passed rest s w
done-flow rest from from' s s' (dropped, gone, wrote) done v w =
    ap (λ p. s'.after ++ rest_of rest p v) gone ∙ append-nil s'.after ∙ wrote
    ∙ ap (λ l. s.after ++ l) (done-rest rest s.part [] done ∙ sym (done-rest rest s.part w done))

-- no place is one of a pump that leaves no stage
no-place : {P : Type 0} (rest : P → List ℕ → List ℕ) (from : List ℕ) (s : Stage P) (ss : List (Stage P))
    (at : ℕ) (r : Pumped) (from' : List ℕ) → StepsAt rest from (s ∷ ss) at r from' [] → ⊥
no-place rest from s ss zero r from' h = h
no-place rest from s ss (suc at) r from' h = h

-- Behind a stage that ended done the flow does not depend on what comes before.
cut-flow : {P : Type 0} (rest : P → List ℕ → List ℕ) (from : List ℕ) (ss : List (Stage P)) (at : ℕ)
    (from' : List ℕ) (ss' : List (Stage P))
    → StepsAt rest from ss at Ended from' ss' → done_at ss at ≡ true → (v w : List ℕ)
    → flow_from rest ss' v ≡ flow_from rest ss w
cut-flow rest from [] at from' ss' steps done v w = absurd steps
cut-flow rest from (s ∷ ss) at from' [] steps done v w = absurd (no-place rest from s ss at Ended from' steps)
cut-flow rest from (s ∷ ss) zero from' (s' ∷ ss') (step, same) done v w =
    ap (λ ts. flow_from rest ts (passed rest s' v)) same
    ∙ ap (flow_from rest ss) (done-flow rest from from' s s' step done v w)
cut-flow rest from (s ∷ ss) (suc at) from' (s' ∷ ss') (before, steps) done v w =
    cut-flow rest s.after ss at s'.after ss' steps done (passed rest s' v) (passed rest s w)

-- what waits before it, and before each stage that is cut off, is dropped
cut-empty : {P : Type 0} (rest : P → List ℕ → List ℕ) (from : List ℕ) (ss : List (Stage P)) (at : ℕ)
    (from' : List ℕ) (ss' : List (Stage P))
    → StepsAt rest from ss at Ended from' ss' → done_at ss at ≡ true → from' ≡ []
cut-empty rest from [] at from' ss' steps done = absurd steps
cut-empty rest from (s ∷ ss) at from' [] steps done = absurd (no-place rest from s ss at Ended from' steps)
cut-empty rest from (s ∷ ss) zero from' (s' ∷ ss') (step, same) done = step.0
cut-empty rest from (s ∷ ss) (suc at) from' (s' ∷ ss') (before, steps) done =
    (subst (λ b. IsBefore b from s from' s') done before).0

-- and what is left to do is less: what came may get less too
cut-less : {P : Type 0} (rest : P → List ℕ → List ℕ) (from : List ℕ) (ss : List (Stage P)) (at : ℕ)
    (from' : List ℕ) (ss' : List (Stage P))
    → (up : Bool) → AnswersAt up from ss at Ended → StepsAt rest from ss at Ended from' ss'
    → done_at ss at ≡ true → (v w : List ℕ) → length v ≤ length w
    → passing rest ss' v + 1 ≤ passing rest ss w
cut-less rest from [] at from' ss' up answers steps done v w shorter = absurd answers
cut-less rest from (s ∷ ss) at from' [] up answers steps done v w shorter = absurd
    (no-place rest from s ss at Ended from' steps)
cut-less rest from (s ∷ ss) zero from' (s' ∷ ss') up answers (step, same) done v w shorter =
    let goes : to_end (has_ended s) ≡ 1 = ap to_end
    (ended-goes (has_ended s) (needs_no_more up s.part) (is_done s.part) from s.after answers) in
    let ended : to_end (has_ended s') ≡ 0 = ap (λ p. to_end (is_none p)) step.1 in
    let behind : passing rest ss' (passed rest s' v) ≡ passing rest ss (passed rest s w) =
    ap (λ ts. passing rest ts (passed rest s' v)) same
    ∙ ap (passing rest ss) (done-flow rest from from' s s' step done v w) in
    omega (arith, goes, ended, behind, shorter)
cut-less {P} rest from (s ∷ ss) (suc at) from' (s' ∷ ss') up answers (before, steps) done v w shorter =
    let gone : s'.part ≡ None = (subst (λ b. IsBefore b from s from' s') done before).1 in
    let ended : to_end (has_ended s') ≡ 0 = ap (λ p. to_end (is_none p)) gone in
    let empty : length (passed rest s' v) ≡ 0 = ap length
    (ap (λ p. s'.after ++ rest_of rest p v) gone ∙ append-nil s'.after
    ∙ cut-empty rest s.after ss at s'.after ss' steps done) in
    let none : length (passed rest s' v) ≤ length (passed rest s w) = omega (arith, empty) in
    let behind : passing rest ss' (passed rest s' v) + 1 ≤ passing rest ss (passed rest s w) =
    cut-less rest s.after ss at s'.after ss' (has_ended s) answers steps done (passed rest s' v)
    (passed rest s w) none in
    omega (arith, ended, behind, shorter)

-- the same of stages, one of which was pumped
pub stepped-flow : {P : Type 0} (rest : P → List ℕ → List ℕ) (up : Bool) (from : List ℕ) (ss : List (Stage P))
    (at : ℕ) (r : Pumped) (from' : List ℕ) (ss' : List (Stage P))
    → AnswersAt up from ss at r → StepsAt rest from ss at r from' ss' → (x : List ℕ) → OnTrue up (x ≡ [])
    → flow_from rest ss' (from' ++ x) ≡ flow_from rest ss (from ++ x)
stepped-flow rest up from [] at r from' ss' answers steps x none = absurd answers
stepped-flow rest up from (s ∷ ss) at r from' [] answers steps x none = absurd
    (no-place rest from s ss at r from' steps)
stepped-flow rest up from (s ∷ ss) zero r from' (s' ∷ ss') answers (step, same) x none =
    ap (λ ts. flow_from rest ts (passed rest s' (from' ++ x))) same
    ∙ ap (flow_from rest ss) (pumped-flow rest up from from' s s' r answers step x none)
stepped-flow {P} rest up from (s ∷ ss) (suc at) r from' (s' ∷ ss') answers (before, steps) x none =
    by_cut (cuts r (done_at ss at)) refl before
    (stepped-flow rest (has_ended s) s.after ss at r s'.after ss' answers steps
    (rest_of rest s.part (from ++ x)) (ended-nothing rest (has_ended s) s (from ++ x) refl))
  where
    by_cut : (b : Bool) → cuts r (done_at ss at) ≡ b → IsBefore b from s from' s'
        → flow_from rest ss' (s'.after ++ rest_of rest s.part (from ++ x)) ≡ flow_from rest ss
        (passed rest s (from ++ x))
        → flow_from rest (s' ∷ ss') (from' ++ x) ≡ flow_from rest (s ∷ ss) (from ++ x)
    by_cut false e (same, part) later =
        ap (λ p. flow_from rest ss' (s'.after ++ rest_of rest p (from' ++ x))) part
        ∙ ap (λ l. flow_from rest ss' (s'.after ++ rest_of rest s.part (l ++ x))) same ∙ later
    by_cut true e cut later =
        let why : (r ≡ Ended) × (done_at ss at ≡ true) = cuts-done r (done_at ss at) e in
        cut-flow rest s.after ss at s'.after ss'
        (subst (λ q. StepsAt rest s.after ss at q s'.after ss') why.0 steps) why.1
        (passed rest s' (from' ++ x)) (passed rest s (from ++ x))

pub stepped-less : {P : Type 0} (rest : P → List ℕ → List ℕ) (up : Bool) (from : List ℕ) (ss : List (Stage P))
    (at : ℕ) (r : Pumped) (from' : List ℕ) (ss' : List (Stage P))
    → AnswersAt up from ss at r → StepsAt rest from ss at r from' ss' → (x : List ℕ) → OnTrue up (x ≡ [])
    → passing rest ss' (from' ++ x) + done_by r ≤ passing rest ss (from ++ x)
stepped-less rest up from [] at r from' ss' answers steps x none = absurd answers
stepped-less rest up from (s ∷ ss) at r from' [] answers steps x none = absurd
    (no-place rest from s ss at r from' steps)
stepped-less rest up from (s ∷ ss) zero r from' (s' ∷ ss') answers (step, same) x none =
    let here : length from' + to_end (has_ended s') + done_by r ≤ length from + to_end (has_ended s) =
    pumped-less rest up from from' s s' r answers step in
    let behind : passing rest ss' (passed rest s' (from' ++ x)) ≡ passing rest ss (passed rest s (from ++ x))
    =
    ap (λ ts. passing rest ts (passed rest s' (from' ++ x))) same ∙ ap (passing rest ss)
    (pumped-flow rest up from from' s s' r answers step x none) in
    omega (arith, here, behind, length-append from' x, length-append from x)
stepped-less {P} rest up from (s ∷ ss) (suc at) r from' (s' ∷ ss') answers (before, steps) x none =
    by_cut (cuts r (done_at ss at)) refl before
    (stepped-less rest (has_ended s) s.after ss at r s'.after ss' answers steps
    (rest_of rest s.part (from ++ x)) (ended-nothing rest (has_ended s) s (from ++ x) refl))
  where
    by_cut : (b : Bool) → cuts r (done_at ss at) ≡ b → IsBefore b from s from' s'
        → passing rest ss' (s'.after ++ rest_of rest s.part (from ++ x)) + done_by r ≤ passing rest ss
        (passed rest s (from ++ x))
        → passing rest (s' ∷ ss') (from' ++ x) + done_by r ≤ passing rest (s ∷ ss) (from ++ x)
    by_cut false e (same, part) later =
        let here : length (from' ++ x) ≡ length (from ++ x) = ap (λ l. length (l ++ x)) same in
        let goes : to_end (has_ended s') ≡ to_end (has_ended s) = ap (λ p. to_end (is_none p)) part in
        let behind : passing rest ss' (passed rest s' (from' ++ x)) ≡ passing rest ss'
        (s'.after ++ rest_of rest s.part (from ++ x)) =
        ap (λ p. passing rest ss' (s'.after ++ rest_of rest p (from' ++ x))) part
        ∙ ap (λ l. passing rest ss' (s'.after ++ rest_of rest s.part (l ++ x))) same in
        omega (arith, here, goes, behind, later)
    by_cut true e cut later =
        let why : (r ≡ Ended) × (done_at ss at ≡ true) = cuts-done r (done_at ss at) e in
        let done : done_by r ≡ 1 = ap done_by why.0 in
        let dropped : length from' ≡ 0 = ap length cut.0 in
        let shorter : length (from' ++ x) ≤ length (from ++ x) =
        omega (arith, dropped, length-append from' x, length-append from x) in
        let less : passing rest (s' ∷ ss') (from' ++ x) + 1 ≤ passing rest (s ∷ ss) (from ++ x) =
        cut-less rest from (s ∷ ss) (suc at) from' (s' ∷ ss') up
        (subst (λ q. AnswersAt (has_ended s) s.after ss at q) why.0 answers) (
          subst (λ b. IsBefore b from s from' s') (sym why.1) cut,
          subst (λ q. StepsAt rest s.after ss at q s'.after ss') why.0 steps,
        )
        why.1 (from' ++ x) (from ++ x) shorter in
        omega (arith, done, less)
