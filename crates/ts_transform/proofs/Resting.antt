-- Where no stage must work and nothing waits for the client: nothing more comes out, and a chain whose end
-- was not given has given all that its parts have written so far.
use Rattle.std.proofs.Common.{◌≡◌, ◌≢◌, ◌↔◌, IsTrue, ℕ, zero, suc, ◌<◌, ◌≤◌, ◌⊎◌, inl, inr, List, [], ◌∷◌, ◌++◌, Bool, true, false, Option, Some, None, is_none, nat_le, length, refl, sym, ap, subst, ◌∙◌}
use Rattle.std.specs.Option.{option_and_then}
use Rattle.std.specs.Prelude.{not}
use Rattle.std.proofs.lemmas.List.{append-nil}
use Rattle.std.proofs.lemmas.Bool.Decides.{leb_tells}
use Rattle.ts_lists.proofs.Cases.{split}
use Rattle.ts_lists.proofs.Sizes.{longer_not_empty}
use Rattle.ts_transform.specs.declared.pump.Part.{Part}
use Rattle.ts_transform.specs.declared.pump.Part.TheVariants.{Works, Done}
use Rattle.ts_transform.specs.declared.pump.Stage.{Stage}
use Rattle.ts_transform.specs.Law.{behind}
use Rattle.ts_transform.specs.Stage.{has_ended, has_work, needs_no_more, passed, soon_of, soon_passed, IsSettled}
use Rattle.ts_transform.specs.Flow.{AreSettled, ChainState, MustPump, Rests, flow_from, last_ended, last_wait, soon_flow, soon_from}
use Rattle.ts_transform.proofs.Boundaries.{rest_of-ended}

-- a stage that has not ended and gets something, or needs no more, has work
gets-work : (e up : Bool) (from : List ℕ) → e ≡ false → (up ≡ true) ⊎ (from ≢ []) → has_work e up from ≡ true
gets-work true up from goes input = absurd (let wrong : true ≡ false = goes in cc)
gets-work false true from goes input = refl
gets-work false false from goes (inl ended) = absurd (let wrong : false ≡ true = ended in cc)
gets-work false false [] goes (inr some) = absurd (some refl)
gets-work false false (b ∷ bs) goes (inr some) = refl

-- it needs no more where no more comes
needs-none : {P : Type 0} (up : Bool) (p : Option (Part P)) → up ≡ true → needs_no_more up p ≡ true
needs-none up None ended = ended
needs-none up (Some (Works part)) ended = ended
needs-none up (Some (Done pause)) ended = refl

gets-input : {P : Type 0} (up : Bool) (p : Option (Part P)) (from : List ℕ) → (up ≡ true) ⊎ (from ≢ [])
    → (needs_no_more up p ≡ true) ⊎ (from ≢ [])
gets-input up p from (inl ended) = inl (needs-none up p ended)
gets-input up p from (inr some) = inr some

-- so if it need not work, it is full
pub full-else : (n : ℕ) → (n < 65536 → ⊥) → 65536 ≤ n
full-else n not_short = by_room (leb_tells 65536 n)
  where
    by_room : ((nat_le 65536 n ≡ true) × (65536 ≤ n)) ⊎ ((nat_le 65536 n ≡ false) × (n < 65536)) → 65536 ≤ n
    by_room (inl (t, long)) = long
    by_room (inr (t, short)) = absurd (not_short short)

-- and bytes wait behind it
waits-behind : {P : Type 0} (up : Bool) (from : List ℕ) (s : Stage P) (ss : List (Stage P))
    → has_ended s ≡ false → (needs_no_more up s.part ≡ true) ⊎ (from ≢ [])
    → (MustPump up from (s ∷ ss) zero → ⊥) → s.after ≢ []
waits-behind up from s ss goes input idle = longer_not_empty 65535 s.after (full-else (length s.after)
    (λ short. idle (gets-work (has_ended s) (needs_no_more up s.part) from goes input, short)))

-- none of some stages must work: not the first, and none of the others
pub rests_both : {P : Type 0} (up : Bool) (from : List ℕ) (s : Stage P) (ss : List (Stage P)) (R : Type 0)
    → (MustPump up from (s ∷ ss) zero → ⊥) → (R ↔ ((j : ℕ) → MustPump (has_ended s) s.after ss j → ⊥))
    → (R ↔ ((j : ℕ) → MustPump up from (s ∷ ss) j → ⊥))
rests_both {P} up from s ss R idle both = (
  λ r. by_place (both.0 r),
  λ rests. both.1 (λ j must. rests (suc j) must),
)
  where
    by_place : ((j : ℕ) → MustPump (has_ended s) s.after ss j → ⊥) → (j : ℕ) → MustPump up from (s ∷ ss) j → ⊥
    by_place later zero must = idle must
    by_place later (suc j) must = later j must

-- they do not all rest where the first must work
pub not_rests : {P : Type 0} (up : Bool) (from : List ℕ) (ss : List (Stage P)) (m : Bool) → m ≡ true
    → MustPump up from ss zero → (IsTrue (not m) ↔ ((j : ℕ) → MustPump up from ss j → ⊥))
not_rests up from ss true is must = (
  λ none. absurd (let wrong : false ≡ true = none in cc),
  λ rests. absurd (rests zero must),
)
not_rests up from ss false is must = absurd (let wrong : false ≡ true = is in cc)

-- Nothing comes out of stages none of which must work, where nothing waits for the client.
pub flow_from-rests : {P : Type 0} (rest : P → List ℕ → List ℕ) (up : Bool) (from : List ℕ)
    (ss : List (Stage P)) (v : List ℕ)
    → (up ≡ true) ⊎ (from ≢ []) → ((j : ℕ) → MustPump up from ss j → ⊥) → last_wait from ss ≡ []
    → (up ≡ true → v ≡ from) → flow_from rest ss v ≡ []
flow_from-rests rest up from [] v (inl ended) rests none same = same ended ∙ none
flow_from-rests rest up from [] v (inr some) rests none same = absurd (some none)
flow_from-rests rest up from (s ∷ ss) v input rests none same =
    split (has_ended s) (λ b. flow_from rest (s ∷ ss) v ≡ [])
    (λ ended. flow_from-rests rest (has_ended s) s.after ss (passed rest s v) (inl ended)
    (λ j must. rests (suc j) must) none
    (λ _. ap (λ l. s.after ++ l) (rest_of-ended rest s.part v ended) ∙ append-nil s.after))
    (λ goes. flow_from-rests rest (has_ended s) s.after ss (passed rest s v)
    (inr (waits-behind up from s ss goes (gets-input up s.part from input) (rests zero)))
    (λ j must. rests (suc j) must) none (λ ended. absurd (let wrong : false ≡ true = sym goes ∙ ended in cc)))

-- and the last of them has ended
pub ended-rests : {P : Type 0} (up : Bool) (from : List ℕ) (ss : List (Stage P))
    → (up ≡ true) ⊎ (from ≢ []) → ((j : ℕ) → MustPump up from ss j → ⊥) → last_wait from ss ≡ []
    → last_ended up ss ≡ true
ended-rests up from [] (inl ended) rests none = ended
ended-rests up from [] (inr some) rests none = absurd (some none)
ended-rests up from (s ∷ ss) input rests none =
    split (has_ended s) (λ b. last_ended up (s ∷ ss) ≡ true)
    (λ ended. ended-rests (has_ended s) s.after ss (inl ended) (λ j must. rests (suc j) must) none)
    (λ goes. ended-rests (has_ended s) s.after ss
    (inr (waits-behind up from s ss goes (gets-input up s.part from input) (rests zero)))
    (λ j must. rests (suc j) must) none)

-- Stages of which the last has ended, though the end was not given, have given all that they give: one of
-- them finished early.
pub ended_soon : {P : Type 0} (soon : P → List ℕ → Option (List ℕ)) (ss : List (Stage P)) (up : Bool)
    → up ≡ false → last_ended up ss ≡ true → (v : List ℕ) → soon_from soon ss v ≡ None
ended_soon soon [] up goes ended v = absurd (let wrong : false ≡ true = sym goes ∙ ended in cc)
ended_soon {P} soon (s ∷ ss) up goes ended v = by_part s.part refl
    (λ going w. ended_soon soon ss (has_ended s) going ended w)
  where
    by_soon : (o : Option (List ℕ)) → ((w : List ℕ) → soon_from soon ss w ≡ None)
        → option_and_then (soon_from soon ss) (behind s.after o) ≡ None
    by_soon None none = refl
    by_soon (Some w) none = none (s.after ++ w)

    by_part : (p : Option (Part P)) → s.part ≡ p
        → (has_ended s ≡ false → (w : List ℕ) → soon_from soon ss w ≡ None)
        → option_and_then (soon_from soon ss) (behind s.after (soon_of soon s.part v)) ≡ None
    by_part None is later =
        ap (λ q. option_and_then (soon_from soon ss) (behind s.after (soon_of soon q v))) is
    by_part (Some q) is later = by_soon (soon_of soon s.part v) (later (ap is_none is))

-- What stages tell once they rest, though the end was not given: either they have finished, or they have
-- given just what their parts have written so far.
abbrev TellsAll : {P : Type 0} → (P → List ℕ → Option (List ℕ)) → Bool → List (Stage P) → List ℕ → Type 0
TellsAll soon up ss v = ((last_ended up ss ≡ true) × (soon_from soon ss v ≡ None))
    ⊎ ((last_ended up ss ≡ false) × (soon_from soon ss v ≡ Some []))

told_from : {P : Type 0} (soon : P → List ℕ → Option (List ℕ))
    → ((p : P) (w : List ℕ) → soon p [] ≡ Some w → w ≡ []) → (up : Bool) (from : List ℕ) (ss : List (Stage P))
    (v : List ℕ) → up ≡ false → AreSettled soon ss → ((j : ℕ) → MustPump up from ss j → ⊥)
    → last_wait from ss ≡ [] → v ≡ from → TellsAll soon up ss v
told_from soon silent up from [] v goes settled rests none same = inr (goes, ap Some (same ∙ none))
told_from {P} soon silent up from (s ∷ ss) v goes settled rests none same = by_part s.part refl from refl
    (λ going. told_from soon silent (has_ended s) s.after ss (s.after ++ []) going settled.1
    (λ j must. rests (suc j) must) none (append-nil s.after))
  where
    finished : last_ended up (s ∷ ss) ≡ true → TellsAll soon up (s ∷ ss) v
    finished ended = inl (ended, ended_soon soon (s ∷ ss) up goes ended v)

    full : has_ended s ≡ false → (needs_no_more up s.part ≡ true) ⊎ (from ≢ [])
        → TellsAll soon up (s ∷ ss) v
    full going input = finished (ended-rests (has_ended s) s.after ss
        (inr (waits-behind up from s ss going input (rests zero))) (λ j must. rests (suc j) must) none)

    silent_soon : (p : P) (o : Option (List ℕ)) → soon p [] ≡ o → is_none o ≡ false → soon p [] ≡ Some []
    silent_soon p None is some = absurd (let wrong : true ≡ false = some in cc)
    silent_soon p (Some w) is some = is ∙ ap Some (silent p w is)

    by_part : (p : Option (Part P)) → s.part ≡ p → (l : List ℕ) → from ≡ l
        → (has_ended s ≡ false → TellsAll soon (has_ended s) ss (s.after ++ [])) → TellsAll soon up (s ∷ ss) v
    by_part None is l at later = finished (ended-rests (has_ended s) s.after ss (inl (ap is_none is))
        (λ j must. rests (suc j) must) none)
    by_part (Some (Done pause)) is l at later = full (ap is_none is) (inl (ap (needs_no_more up) is))
    by_part (Some (Works p)) is (b ∷ bs) at later = full (ap is_none is)
        (inr (λ empty. let wrong : ◌≡◌ {A = List ℕ} (b ∷ bs) [] = sym at ∙ empty in cc))
    by_part (Some (Works p)) is [] at later =
        let works : is_none (soon p []) ≡ false = subst (IsSettled soon) is settled.0 in
        let here : soon_passed soon s v ≡ Some (s.after ++ []) =
        ap (λ q. behind s.after (soon_of soon q v)) is ∙ ap (λ l. behind s.after (soon p l)) (same ∙ at)
        ∙ ap (behind s.after) (silent_soon p (soon p []) refl works) in
        subst (λ o. ((last_ended up (s ∷ ss) ≡ true) × (option_and_then (soon_from soon ss) o ≡ None))
        ⊎ ((last_ended up (s ∷ ss) ≡ false) × (option_and_then (soon_from soon ss) o ≡ Some []))) (sym here)
        (later (ap is_none is))

-- the same of a chain
pub told_early : {P : Type 0} (soon : P → List ℕ → Option (List ℕ))
    → ((p : P) (w : List ℕ) → soon p [] ≡ Some w → w ≡ []) → (c : ChainState P)
    → AreSettled soon c.stages → c.given ≡ false → Rests c
    → ((last_ended c.given c.stages ≡ true) × (soon_flow soon c [] ≡ None))
    ⊎ ((last_ended c.given c.stages ≡ false) × (soon_flow soon c [] ≡ Some []))
told_early soon silent c settled goes rests =
    told_from soon silent c.given c.first c.stages (c.first ++ []) goes settled rests.none rests.wait
    (append-nil c.first)
