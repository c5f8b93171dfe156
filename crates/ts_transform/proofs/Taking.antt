-- What is left of a chain's world when its client takes bytes, when it is aborted, and when nothing is
-- pending.
use Rattle.std.proofs.Common.{◌≡◌, ℕ, zero, suc, ◌+◌, ◌<◌, ◌≤◌, ◌⊎◌, inl, inr, List, [], ◌∷◌, ◌++◌, Bool, true, false, Option, Some, None, is_none, nat_le, length, length-drop, map, arith, refl, sym, ap, subst, ◌∙◌}
use Rattle.std.proofs.lemmas.List.{append-nil}
use Rattle.std.proofs.lemmas.Bool.Decides.{leb_tells}
use Rattle.ts_journal.specs.declared.entry.Pending.{Pending}
use Rattle.ts_group.specs.declared.action.Named.{Named}
use Rattle.ts_group.specs.Context.{AllPlain}
use Rattle.ts_transform.specs.declared.continuation.StageContinuation.{StageContinuation}
use Rattle.ts_transform.specs.declared.pump.Stage.{Stage}
use Rattle.ts_transform.specs.Stage.{has_ended, has_work, needs_no_more}
use Rattle.ts_transform.specs.Flow.{ChainState, MustPump, Takes, chain_of, closed, aborted, ended_at, flow, last_wait, IsFinished}
use Rattle.ts_transform.specs.Driving.{HasEvent, AreOfStages, IsRoused}
use Rattle.ts_transform.specs.Cover.{IsAwake, IsDriven}
use Rattle.ts_transform.specs.World.{IsCovered}
use Rattle.ts_transform.proofs.Resting.{ended-rests, flow_from-rests}

-- a world that is made is sound
pub made_sound : {P : Type 0} (first : List ℕ) (ss : List (Stage P)) (c : ChainState P)
    (ts : List (Option StageContinuation)) (running : Bool) (pending : List Pending) (roles : List Named)
    → c ≡ chain_of true first ss → running ≡ false
    → AllPlain pending → IsCovered c ts running pending roles
made_sound {P} first ss c ts running pending roles is still plain = record {
  given = ap (λ d. d.given) is;
  plain = plain;
  driven = λ runs. absurd (let wrong : true ≡ false = sym runs ∙ still in cc);
}

-- a stage that has work after bytes were taken had it before
still-works : {P : Type 0} (up : Bool) (from from' : List ℕ) (s s' : Stage P)
    → from' ≡ from → s'.part ≡ s.part → has_work (has_ended s') (needs_no_more up s'.part) from' ≡ true
    → has_work (has_ended s) (needs_no_more up s.part) from ≡ true
still-works up from from' s s' before part work =
    ap (λ l. has_work (has_ended s) (needs_no_more up s.part) l) (sym before)
    ∙ ap (λ p. has_work (is_none p) (needs_no_more up p) from') (sym part) ∙ work

-- a stage that must work then had to before, or is the last, has not ended and was full
takes-must : {P : Type 0} (up : Bool) (from : List ℕ) (s : Stage P) (ss : List (Stage P)) (n : ℕ)
    (from' : List ℕ) (ss' : List (Stage P)) → Takes from (s ∷ ss) n from' ss'
    → (j : ℕ) → MustPump up from' ss' j
    → MustPump up from (s ∷ ss) j ⊎ ((j + 1 ≡ length (s ∷ ss)) × (ended_at (s ∷ ss) j ≡ false) ×
    (65536 ≤ length (last_wait from (s ∷ ss))))
takes-must up from s ss n from' [] takes j must = absurd must
takes-must {P} up from s [] n from' (s' ∷ ss') (before, part, takes) zero (work, room) = by_room
    (leb_tells 65536 (length s.after))
  where
    worked : has_work (has_ended s) (needs_no_more up s.part) from ≡ true
    worked = still-works up from from' s s' before part work

    goes : (e up : Bool) → has_work e up from ≡ true → e ≡ false
    goes true up w = absurd (let wrong : false ≡ true = w in cc)
    goes false up w = refl

    by_room : ((nat_le 65536 (length s.after) ≡ true) × (65536 ≤ length s.after)) ⊎
        ((nat_le 65536 (length s.after) ≡ false) × (length s.after < 65536))
        → MustPump up from (s ∷ []) zero ⊎ ((zero + 1 ≡ length (s ∷ [])) × (ended_at (s ∷ []) zero ≡ false) ×
        (65536 ≤ length s.after))
    by_room (inl (t, full)) = inr (omega arith, goes (has_ended s) (needs_no_more up s.part) worked, full)
    by_room (inr (t, short)) = inl (worked, short)
takes-must up from s (t ∷ ss) n from' (s' ∷ []) (before, part, takes) zero (work, room) = absurd takes
takes-must up from s (t ∷ ss) n from' (s' ∷ u ∷ us) (before, part, takes) zero (work, room) =
    inl (
      still-works up from from' s s' before part work,
      subst (λ l. length l < 65536) takes.0 room,
    )
takes-must up from s [] n from' (s' ∷ ss') (before, part, takes) (suc j) must = absurd
    (subst (λ us. MustPump (has_ended s') s'.after us j) takes.1 must)
takes-must {P} up from s (t ∷ ss) n from' (s' ∷ ss') (before, part, takes) (suc j) must =
    behind (takes-must (has_ended s) s.after t ss n s'.after ss' takes j
    (subst (λ p. MustPump (is_none p) s'.after ss' j) part must))
  where
    behind : MustPump (has_ended s) s.after (t ∷ ss) j ⊎
        ((j + 1 ≡ length (t ∷ ss)) × (ended_at (t ∷ ss) j ≡ false) ×
        (65536 ≤ length (last_wait s.after (t ∷ ss))))
        → MustPump up from (s ∷ t ∷ ss) (suc j) ⊎
        ((suc j + 1 ≡ length (s ∷ t ∷ ss)) × (ended_at (s ∷ t ∷ ss) (suc j) ≡ false) ×
        (65536 ≤ length (last_wait from (s ∷ t ∷ ss))))
    behind (inl must) = inl must
    behind (inr (place, goes, full)) = inr (omega (arith, place), goes, full)

-- as many stages are there
pub takes-len : {P : Type 0} (from : List ℕ) (ss : List (Stage P)) (n : ℕ) (from' : List ℕ)
    (ss' : List (Stage P)) → Takes from ss n from' ss' → length ss' ≡ length ss
takes-len from [] n from' ss' takes = ap length takes.1
takes-len from (s ∷ ss) n from' [] takes = absurd takes
takes-len from (s ∷ ss) n from' (s' ∷ ss') (before, part, takes) = ap suc
    (takes-len s.after ss n s'.after ss' takes)

-- a stage but the last must work then only where it had to before
pub takes-others : {P : Type 0} (up : Bool) (from : List ℕ) (ss : List (Stage P)) (n : ℕ) (from' : List ℕ)
    (ss' : List (Stage P)) → Takes from ss n from' ss'
    → (j : ℕ) → (j + 1 ≡ length ss → ⊥) → MustPump up from' ss' j → MustPump up from ss j
takes-others up from [] n from' ss' takes j other must = absurd
    (subst (λ us. MustPump up from' us j) takes.1 must)
takes-others {P} up from (s ∷ ss) n from' ss' takes j other must = by_place
    (takes-must up from s ss n from' ss' takes j must)
  where
    by_place : MustPump up from (s ∷ ss) j ⊎ ((j + 1 ≡ length (s ∷ ss)) × (ended_at (s ∷ ss) j ≡ false) ×
        (65536 ≤ length (last_wait from (s ∷ ss)))) → MustPump up from (s ∷ ss) j
    by_place (inl before) = before
    by_place (inr (place, goes, full)) = absurd (other place)

-- so each stage that must work is roused, if the last was where it was full
taken-roused : {P : Type 0} (given : Bool) (from : List ℕ) (ss : List (Stage P)) (n : ℕ) (from' : List ℕ)
    (ss' : List (Stage P)) (ts : List (Option StageContinuation)) → Takes from ss n from' ss'
    → ((j : ℕ) → MustPump given from ss j → IsRoused ts j)
    → ((j : ℕ) → j + 1 ≡ length ss → ended_at ss j ≡ false → 65536 ≤ length (last_wait from ss) → IsRoused
    ts j)
    → (j : ℕ) → MustPump given from' ss' j → IsRoused ts j
taken-roused given from [] n from' ss' ts takes cover awake j must = absurd
    (subst (λ us. MustPump given from' us j) takes.1 must)
taken-roused {P} given from (s ∷ ss) n from' ss' ts takes cover awake j must = by_place
    (takes-must given from s ss n from' ss' takes j must)
  where
    by_place : MustPump given from (s ∷ ss) j ⊎
        ((j + 1 ≡ length (s ∷ ss)) × (ended_at (s ∷ ss) j ≡ false) ×
        (65536 ≤ length (last_wait from (s ∷ ss)))) → IsRoused ts j
    by_place (inl before) = cover j before
    by_place (inr (place, goes, full)) = awake j place goes full

-- a sound world is sound when its client has taken bytes
pub taken_sound : {P : Type 0} (c d : ChainState P) (ts : List (Option StageContinuation)) (running : Bool)
    (n : ℕ) (pending : List Pending) (roles : List Named)
    → Takes c.first c.stages n d.first d.stages → d.given ≡ c.given → IsCovered c ts running pending roles
    → (running ≡ true → IsAwake c ts) → IsCovered d ts running pending roles
taken_sound c d ts running n pending roles takes given s awake = record {
  given = given ∙ s.given;
  plain = s.plain;
  driven = λ runs. let h = s.driven runs in record {
    len = h.len ∙ sym (takes-len c.first c.stages n d.first d.stages takes);
    of_stages = h.of_stages;
    cover = λ j must. taken-roused c.given c.first c.stages n d.first d.stages ts takes h.cover (awake runs) j
        (subst (λ b. MustPump b d.first d.stages j) given must);
  };
}

-- the last stage stays awake
still-full : {P : Type 0} (from : List ℕ) (ss : List (Stage P)) (n : ℕ) (from' : List ℕ)
    (ss' : List (Stage P)) → Takes from ss n from' ss'
    → length (last_wait from' ss') ≤ length (last_wait from ss)
still-full from [] n from' ss' takes = subst (λ us. length (last_wait from' us) ≤ length from) (sym takes.1)
    (subst (λ l. length l ≤ length from) (sym takes.0) (omega (arith, length-drop n from)))
still-full from (s ∷ ss) n from' [] takes = absurd takes
still-full from (s ∷ ss) n from' (s' ∷ ss') (before, part, takes) = still-full s.after ss n s'.after ss' takes

same-ends : {P : Type 0} (from : List ℕ) (ss : List (Stage P)) (n : ℕ) (from' : List ℕ) (ss' : List (Stage P))
    → Takes from ss n from' ss' → (j : ℕ) → ended_at ss' j ≡ ended_at ss j
same-ends from [] n from' ss' takes j = ap (λ us. ended_at us j) takes.1
same-ends from (s ∷ ss) n from' [] takes j = absurd takes
same-ends from (s ∷ ss) n from' (s' ∷ ss') (before, part, takes) zero = ap (λ p. is_none p) part
same-ends from (s ∷ ss) n from' (s' ∷ ss') (before, part, takes) (suc j) = same-ends s.after ss n s'.after ss'
    takes j

pub taken_awake : {P : Type 0} (c d : ChainState P) (ts : List (Option StageContinuation)) (n : ℕ)
    → Takes c.first c.stages n d.first d.stages → IsAwake c ts → IsAwake d ts
taken_awake c d ts n takes awake j place goes full =
    awake j (place ∙ takes-len c.first c.stages n d.first d.stages takes)
    (sym (same-ends c.first c.stages n d.first d.stages takes j) ∙ goes)
    (omega (arith, full, still-full c.first c.stages n d.first d.stages takes))

-- a closed stage has no work
closed-idle : {P : Type 0} (up : Bool) (from : List ℕ) (ss : List (Stage P)) (j : ℕ)
    → MustPump up from (map closed ss) j → ⊥
closed-idle up from [] j must = must
closed-idle up from (s ∷ ss) zero (work, room) = let wrong : false ≡ true = work in cc
closed-idle up from (s ∷ ss) (suc j) must = closed-idle true [] ss j must

length-closed : {P : Type 0} (ss : List (Stage P)) → length (map closed ss) ≡ length ss
length-closed [] = refl
length-closed (s ∷ ss) = ap suc (length-closed ss)

-- a driven chain is driven when it was aborted
pub aborted_driven : {P : Type 0} (first : ℕ) (c d : ChainState P) (ts : List (Option StageContinuation))
    (pending : List Pending) (roles : List Named) → d ≡ aborted c
    → IsDriven first c ts pending roles → IsDriven first d ts pending roles
aborted_driven first c d ts pending roles is h = subst (λ x. IsDriven first x ts pending roles) (sym is)
    (record {
      len = h.len ∙ sym (length-closed c.stages);
      of_stages = h.of_stages;
      cover = λ j must. absurd
          (closed-idle true [] c.stages j must);
    })

-- a sound world is sound when it was aborted
pub aborted_sound : {P : Type 0} (c d : ChainState P) (ts : List (Option StageContinuation)) (running : Bool)
    (pending : List Pending) (roles : List Named)
    → d ≡ aborted c → IsCovered c ts running pending roles → IsCovered d ts running pending roles
aborted_sound c d ts running pending roles is s = subst (λ x. IsCovered x ts running pending roles) (sym is)
    (record {
      given = refl;
      plain = s.plain;
      driven = λ runs. aborted_driven 1 c (aborted c) ts pending roles refl (s.driven runs);
    })

-- nor has it a last stage that must be woken
ended-closed : {P : Type 0} (ss : List (Stage P)) (j : ℕ) → ended_at (map closed ss) j ≡ true
ended-closed [] j = refl
ended-closed (s ∷ ss) zero = refl
ended-closed (s ∷ ss) (suc j) = ended-closed ss j

pub aborted_awake : {P : Type 0} (c d : ChainState P) (ts : List (Option StageContinuation)) → d ≡ aborted c
    → IsAwake d ts
aborted_awake c d ts is = subst (λ x. IsAwake x ts) (sym is)
    (λ j last goes full. absurd (let wrong : true ≡ false = sym (ended-closed c.stages j) ∙ goes in cc))

-- no stage is roused where nothing is pending
pub none-roused : (roles : List Named) (role : ℕ) (ts : List (Option StageContinuation)) (j : ℕ)
    → AreOfStages [] roles role ts → IsRoused ts j → ⊥
none-roused roles role [] j s roused = roused
none-roused roles role (None ∷ ts) zero s roused = roused
none-roused roles role (Some t ∷ ts) zero (here, others) roused =
    let e : HasEvent [] t.key = here.event roused in let wrong : None ≡ Some e.event = e.there in cc
none-roused roles role (t ∷ ts) (suc j) (here, others) roused = none-roused roles (role + 1) ts j others
    roused

-- So a world that runs has given all once nothing is pending and nothing waits for its client.
pub all_given : {P : Type 0} (rest : P → List ℕ → List ℕ) (c : ChainState P)
    (ts : List (Option StageContinuation)) (running : Bool) (roles : List Named)
    → IsCovered c ts running [] roles → running ≡ true → last_wait c.first c.stages ≡ [] → flow rest c [] ≡ []
all_given rest c ts running roles s runs none =
    let h = s.driven runs in
    flow_from-rests rest c.given c.first c.stages (c.first ++ []) (inl s.given)
    (λ j must. none-roused roles 1 ts j h.of_stages (h.cover j must)) none (λ _. append-nil c.first)

pub all_ended : {P : Type 0} (c : ChainState P) (ts : List (Option StageContinuation)) (running : Bool)
    (roles : List Named)
    → IsCovered c ts running [] roles → running ≡ true → last_wait c.first c.stages ≡ [] → IsFinished c
all_ended c ts running roles s runs none =
    let h = s.driven runs in (
      ended-rests c.given c.first c.stages (inl s.given)
          (λ j must. none-roused roles 1 ts j h.of_stages (h.cover j must)) none,
      none,
    )
