-- What a chain has given so far, once bytes came and no end: each pump keeps it while the end was not given.
use Rattle.std.proofs.Common.{◌≡◌, ℕ, zero, suc, List, [], ◌∷◌, ◌++◌, Bool, true, false, take, drop, map, Option, Some, None, is_none, refl, sym, ap, subst, ◌∙◌, append_assoc}
use Rattle.std.specs.Option.{option_and_then}
use Rattle.std.specs.Prelude.{not}
use Rattle.std.proofs.lemmas.List.{take-append-drop}
use Rattle.ts_lists.proofs.Fronts.{cut_before}
use Rattle.ts_transform.proofs.Flowing.{flow_from-fresh}
use Rattle.ts_transform.specs.declared.pump.Part.{Part}
use Rattle.ts_transform.specs.declared.pump.Part.TheVariants.{Works, Done}
use Rattle.ts_transform.specs.declared.pump.Stage.{Stage}
use Rattle.ts_transform.specs.Law.{HearsAfter, IsDone, behind}
use Rattle.ts_transform.specs.Stage.{has_ended, is_done, part_of, soon_of, soon_passed, IsSettled}
use Rattle.ts_transform.specs.Flow.{AreSettled, Composes, StaysSoon, Takes, chain_of, done_at, flow_from, first_wants, fresh_stage, given_if, last_wait, soon_compose, soon_from}

-- a transform that took bytes keeps what it has written so far, whatever comes next
pub moved_soon : (soon soon' : List ℕ → Option (List ℕ)) (from from' after after' : List ℕ) (n : ℕ)
    → HearsAfter soon soon' (take n from) after after' → from' ≡ drop n from
    → (x : List ℕ) → behind after' (soon' (from' ++ x)) ≡ behind after (soon (from ++ x))
moved_soon soon soon' from from' after after' n hears is x =
    ap (λ l. behind after' (soon' (l ++ x))) is
    ∙ hears (drop n from ++ x)
    ∙ ap (λ l. behind after (soon l))
    (sym (append_assoc (take n from) (drop n from) x) ∙ ap (λ l. l ++ x) (take-append-drop n from))

-- a transform that is done has written as much in its stage as let go
pub soon_part : {P : Type 0} (rest : P → List ℕ → List ℕ) (soon : P → List ℕ → Option (List ℕ))
    (pause : P → ℕ) (p : P)
    → (is_none (soon p []) ≡ true → IsDone (rest p) (soon p))
    → (z : List ℕ) → soon_of soon (Some (part_of soon pause p)) z ≡ soon p z
soon_part {P} rest soon pause p done z = by_end (is_none (soon p [])) refl
  where
    by_end : (b : Bool) → is_none (soon p []) ≡ b → soon_of soon (Some (part_of soon pause p)) z ≡ soon p z
    by_end true e = rw e (sym (done e z).1)
    by_end false e = rw e refl

-- what came behind stages, by what came so far from the one before them
soon_behind : {P : Type 0} (soon : P → List ℕ → Option (List ℕ)) (ss ss' : List (Stage P))
    (after after' : List ℕ) (o : Option (List ℕ))
    → ((x : List ℕ) → soon_from soon ss' (after' ++ x) ≡ soon_from soon ss (after ++ x))
    → option_and_then (soon_from soon ss') (behind after' o)
    ≡ option_and_then (soon_from soon ss) (behind after o)
soon_behind soon ss ss' after after' None same = refl
soon_behind soon ss ss' after after' (Some w) same = same w

before_soon : {P : Type 0} (soon : P → List ℕ → Option (List ℕ)) (p : Option (Part P))
    (ss ss' : List (Stage P)) (after after' : List ℕ) → StaysSoon soon (is_none p) after ss after' ss'
    → (v : List ℕ)
    → option_and_then (soon_from soon ss') (behind after' (soon_of soon p v))
    ≡ option_and_then (soon_from soon ss) (behind after (soon_of soon p v))
before_soon soon None ss ss' after after' h v = refl
before_soon soon (Some q) ss ss' after after' h v =
    soon_behind soon ss ss' after after' (soon_of soon (Some q) v) (h.keeps refl)

-- a stage before one that was pumped
pub later_soon : {P : Type 0} (soon : P → List ℕ → Option (List ℕ)) (up : Bool) (from : List ℕ) (s : Stage P)
    (ss ss' : List (Stage P)) (after' : List ℕ)
    → StaysSoon soon (has_ended s) s.after ss after' ss'
    → StaysSoon soon up from (s ∷ ss) from (record { part = s.part; after = after' } ∷ ss')
later_soon soon up from s ss ss' after' h = record {
  keeps = λ e x. before_soon soon s.part ss ss' s.after after' h (from ++ x);
  settled = λ all. (all.0, h.settled all.1);
}

-- nothing came so far behind a stage that is done
pub cut_soon : {P : Type 0} (soon : P → List ℕ → Option (List ℕ)) (ss : List (Stage P)) (at : ℕ)
    → done_at ss at ≡ true → (v : List ℕ) → soon_from soon ss v ≡ None
cut_soon soon [] at done v = absurd (let wrong : false ≡ true = done in cc)
cut_soon {P} soon (s ∷ ss) zero done v = by_part s.part done
  where
    by_part : (p : Option (Part P)) → is_done p ≡ true
        → option_and_then (soon_from soon ss) (behind s.after (soon_of soon p v)) ≡ None
    by_part None e = refl
    by_part (Some (Works q)) e = absurd (let wrong : false ≡ true = e in cc)
    by_part (Some (Done pause)) e = refl
cut_soon {P} soon (s ∷ ss) (suc at) done v =
    by_before (soon_passed soon s v) (λ w. cut_soon soon ss at done w)
  where
    by_before : (o : Option (List ℕ)) → ((w : List ℕ) → soon_from soon ss w ≡ None)
        → option_and_then (soon_from soon ss) o ≡ None
    by_before None none = refl
    by_before (Some w) none = none w

-- the stages before one that ended done
pub early_soon : {P : Type 0} (soon : P → List ℕ → Option (List ℕ)) (up : Bool) (from : List ℕ) (s : Stage P)
    (ss ss' : List (Stage P)) (from' after' : List ℕ) (at : ℕ) → done_at ss at ≡ true
    → StaysSoon soon (has_ended s) s.after ss after' ss'
    → StaysSoon soon up from (s ∷ ss) from' (record { part = None; after = after' } ∷ ss')
early_soon soon up from s ss ss' from' after' at done h = record {
  keeps = λ e x. sym (cut_soon soon (s ∷ ss) (suc at) done (from ++ x));
  settled = λ all. (tt, h.settled all.1);
}

-- stages that got nothing yet have given what their parts have
pub fresh_soon : {P : Type 0} (rest : P → List ℕ → List ℕ) (soon : P → List ℕ → Option (List ℕ))
    (pause : P → ℕ) → ((p : P) → is_none (soon p []) ≡ true → IsDone (rest p) (soon p)) → (ps : List P)
    (v : List ℕ) → soon_from soon (map (fresh_stage soon pause) ps) v ≡ soon_compose soon ps v
fresh_soon rest soon pause done [] v = refl
fresh_soon {P} rest soon pause done (p ∷ ps) v =
    ap (λ o. option_and_then (soon_from soon (map (fresh_stage soon pause) ps)) (behind [] o))
    (soon_part rest soon pause p (done p) v)
    ∙ by_soon (soon p v) (λ w. fresh_soon rest soon pause done ps w)
  where
    by_soon : (o : Option (List ℕ))
        → ((w : List ℕ) → soon_from soon (map (fresh_stage soon pause) ps) w ≡ soon_compose soon ps w)
        → option_and_then (soon_from soon (map (fresh_stage soon pause) ps)) (behind [] o)
        ≡ option_and_then (soon_compose soon ps) o
    by_soon None same = refl
    by_soon (Some w) same = same w

-- and keep no transform that is done
pub settled_part : {P : Type 0} (soon : P → List ℕ → Option (List ℕ)) (pause : P → ℕ) (p : P)
    → IsSettled soon (Some (part_of soon pause p))
settled_part {P} soon pause p = by_end (is_none (soon p [])) refl
  where
    by_end : (b : Bool) → is_none (soon p []) ≡ b → IsSettled soon (Some (part_of soon pause p))
    by_end true e = rw e tt
    by_end false e = rw e e

pub settled_fresh : {P : Type 0} (soon : P → List ℕ → Option (List ℕ)) (pause : P → ℕ) (ps : List P)
    → AreSettled soon (map (fresh_stage soon pause) ps)
settled_fresh soon pause [] = tt
settled_fresh soon pause (p ∷ ps) = (settled_part soon pause p, settled_fresh soon pause ps)

-- so a chain as it is made composes its parts
pub composes_fresh : {P : Type 0} (rest : P → List ℕ → List ℕ) (soon : P → List ℕ → Option (List ℕ))
    (pause : P → ℕ) → ((p : P) → is_none (soon p []) ≡ true → IsDone (rest p) (soon p)) → (ps : List P)
    (first : List ℕ) (ss : List (Stage P)) → first ≡ [] → ss ≡ map (fresh_stage soon pause) ps
    → Composes rest soon ps (chain_of false first ss)
composes_fresh rest soon pause done ps first ss none made = record {
  flow = λ z. ap (λ l. flow_from rest ss (l ++ z)) none ∙ ap (λ us. flow_from rest us z) made
      ∙ flow_from-fresh rest soon pause done ps z;
  soon_too = λ z. ap (λ l. soon_from soon ss (l ++ z)) none ∙ ap (λ us. soon_from soon us z) made
      ∙ fresh_soon rest soon pause done ps z;
  settled = subst (AreSettled soon) (sym made) (settled_fresh soon pause ps);
}

-- bytes that come to stages while the end was not given come in front of what is still to come: where they
-- want no more, one has finished early
given_at : {P : Type 0} (soon : P → List ℕ → Option (List ℕ)) (p : Option (Part P)) (first bytes z : List ℕ)
    → soon_of soon p (given_if (not (is_none p)) first bytes ++ z) ≡ soon_of soon p (first ++ (bytes ++ z))
given_at soon None first bytes z = refl
given_at soon (Some p) first bytes z = ap (soon_of soon (Some p)) (append_assoc first bytes z)

pub given_soon : {P : Type 0} (soon : P → List ℕ → Option (List ℕ)) (ss : List (Stage P)) (given : Bool)
    (first bytes z : List ℕ) → given ≡ false
    → soon_from soon ss (given_if (first_wants given ss) first bytes ++ z)
    ≡ soon_from soon ss (first ++ (bytes ++ z))
given_soon soon [] false first bytes z going = ap Some (append_assoc first bytes z)
given_soon soon [] true first bytes z going = absurd (let wrong : true ≡ false = going in cc)
given_soon soon (s ∷ ss) given first bytes z going =
    ap (λ o. option_and_then (soon_from soon ss) (behind s.after o)) (given_at soon s.part first bytes z)

-- what the client takes was given before
pub taken_soon : {P : Type 0} (soon : P → List ℕ → Option (List ℕ)) (ss ss' : List (Stage P))
    (first first' : List ℕ) (n : ℕ) → Takes first ss n first' ss' → (x : List ℕ)
    → soon_from soon ss (first ++ x) ≡ behind (take n (last_wait first ss)) (soon_from soon ss' (first' ++ x))
taken_soon soon [] ss' first first' n (taken, none) x =
    ap Some (cut_before n first x ∙ ap (λ l. take n first ++ (l ++ x)) (sym taken))
    ∙ ap (λ us. behind (take n first) (soon_from soon us (first' ++ x))) (sym none)
taken_soon soon (s ∷ ss) [] first first' n takes x = absurd takes
taken_soon {P} soon (s ∷ ss) (s' ∷ ss') first first' n (before, part, takes) x =
    by_soon (soon_of soon s.part (first ++ x)) (λ w. taken_soon soon ss ss' s.after s'.after n takes w)
    ∙ ap (λ p. behind (take n (last_wait s.after ss)) (option_and_then (soon_from soon ss')
    (behind s'.after (soon_of soon p (first ++ x))))) (sym part)
    ∙ ap (λ l. behind (take n (last_wait s.after ss)) (option_and_then (soon_from soon ss')
    (behind s'.after (soon_of soon s'.part (l ++ x))))) (sym before)
  where
    by_soon : (o : Option (List ℕ))
        → ((w : List ℕ) → soon_from soon ss (s.after ++ w)
        ≡ behind (take n (last_wait s.after ss)) (soon_from soon ss' (s'.after ++ w)))
        → option_and_then (soon_from soon ss) (behind s.after o)
        ≡ behind (take n (last_wait s.after ss)) (option_and_then (soon_from soon ss') (behind s'.after o))
    by_soon None same = refl
    by_soon (Some w) same = same w

-- and no stage keeps a transform that is done
pub taken_settled : {P : Type 0} (soon : P → List ℕ → Option (List ℕ)) (ss ss' : List (Stage P))
    (first first' : List ℕ) (n : ℕ) → Takes first ss n first' ss' → AreSettled soon ss → AreSettled soon ss'
taken_settled soon [] ss' first first' n (taken, none) all = subst (AreSettled soon) (sym none) tt
taken_settled soon (s ∷ ss) [] first first' n takes all = absurd takes
taken_settled soon (s ∷ ss) (s' ∷ ss') first first' n (before, part, takes) (here, others) =
    (subst (IsSettled soon) (sym part) here, taken_settled soon ss ss' s.after s'.after n takes others)
