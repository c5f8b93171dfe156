-- A stage that worked leaves each stage that must work roused.
use Rattle.std.proofs.Common.{◌≡◌, ◌≢◌, ℕ, zero, suc, ◌+◌, ◌<◌, ◌≤◌, ◌⊎◌, inl, inr, List, [], ◌∷◌, Bool, true, false, Option, None, is_none, nat_le, eqb, length, arith, refl, sym, ap, subst, ◌∙◌}
use Rattle.std.proofs.lemmas.Bool.Decides.{eqb_tells, leb_tells}
use Rattle.ts_journal.specs.declared.entry.ContKey.{ContKey}
use Rattle.ts_journal.specs.declared.entry.Pending.{Pending}
use Rattle.ts_group.specs.declared.action.Named.{Named}
use Rattle.ts_group.specs.Context.{Context}
use Rattle.ts_transform.specs.declared.continuation.StageContinuation.{StageContinuation}
use Rattle.ts_transform.specs.declared.pump.Stage.{Stage}
use Rattle.ts_transform.specs.declared.pump.Pumped.{Pumped}
use Rattle.ts_transform.specs.declared.pump.Pumped.TheVariants.{Moved, Ended, Blocked, Idle}
use Rattle.ts_transform.specs.Stage.{HasDuty, has_ended, has_work, is_done, needs_no_more, cuts, AnswersIf, AnswersWork}
use Rattle.ts_transform.specs.Flow.{ChainState, MustPump, AnswersAt, StepsAt, ended_at, last_ended, last_wait, IsBefore, done_at}
use Rattle.ts_transform.specs.Driving.{AreOfStages, IsRoused, HasEventIf, Keeps}
use Rattle.ts_transform.specs.Cover.{Cover, CoverBut, IsRoundRoused, IsDriven, IsDrivenBut, IsDrivenFor, IsAwake}
use Rattle.ts_transform.specs.World.{IsCovered}
use Rattle.ts_transform.proofs.Kept.{kept_all}

-- a stage moves one byte at least
moved-work : (full done : Bool) (from after : List ℕ) (n : ℕ) → AnswersWork full done from after (Moved n)
    → 1 ≤ n
moved-work true done from after n h = absurd (let wrong : Moved n ≡ Blocked (length after) = h in cc)
moved-work false true from after n h = absurd (let wrong : Moved n ≡ Ended = h in cc)
moved-work false false [] after n h = absurd (let wrong : Moved n ≡ Ended = h in cc)
moved-work false false (b ∷ bs) after n h = h.0

moved-if : (works done : Bool) (from after : List ℕ) (n : ℕ) → AnswersIf works done from after (Moved n)
    → 1 ≤ n
moved-if true done from after n h = moved-work (nat_le 65536 (length after)) done from after n h
moved-if false done from after n h = absurd (let wrong : Moved n ≡ Idle = h in cc)

pub moved-some : {P : Type 0} (up : Bool) (from : List ℕ) (ss : List (Stage P)) (at n : ℕ)
    → AnswersAt up from ss at (Moved n) → 1 ≤ n
moved-some up from [] at n h = absurd h
moved-some up from (s ∷ ss) zero n h = moved-if (has_work (has_ended s) (needs_no_more up s.part) from)
    (is_done s.part) from s.after n h
moved-some up from (s ∷ ss) (suc at) n h = moved-some (has_ended s) s.after ss at n h

-- and only one that must work does so, or ends
abbrev pub DoesWork : Pumped → Type 0
DoesWork (Moved n) = Unit {0}
DoesWork Ended = Unit {0}
DoesWork (Blocked w) = ⊥
DoesWork Idle = ⊥

full-not : (n : ℕ) → nat_le 65536 n ≡ false → n < 65536
full-not n room = by_test (leb_tells 65536 n)
  where
    by_test : ((nat_le 65536 n ≡ true) × (65536 ≤ n)) ⊎ ((nat_le 65536 n ≡ false) × (n < 65536)) → n < 65536
    by_test (inl (full, long)) = absurd (let wrong : true ≡ false = sym full ∙ room in cc)
    by_test (inr (e, below)) = below

does-room : (full done : Bool) (from after : List ℕ) (r : Pumped) → DoesWork r
    → AnswersWork full done from after r → full ≡ false
does-room false done from after r does h = refl
does-room true done from after (Moved n) does h = absurd
    (let wrong : Moved n ≡ Blocked (length after) = h in cc)
does-room true done from after Ended does h = absurd (let wrong : Ended ≡ Blocked (length after) = h in cc)
does-room true done from after (Blocked w) does h = absurd does
does-room true done from after Idle does h = absurd does

does-if : (works done : Bool) (from after : List ℕ) (r : Pumped) → DoesWork r
    → AnswersIf works done from after r → HasDuty works after
does-if true done from after r does h = (
  refl,
  full-not (length after)
      (does-room (nat_le 65536 (length after)) done from after r does h),
)
does-if false done from after (Moved n) does h = absurd (let wrong : Moved n ≡ Idle = h in cc)
does-if false done from after Ended does h = absurd (let wrong : Ended ≡ Idle = h in cc)
does-if false done from after (Blocked w) does h = absurd does
does-if false done from after Idle does h = absurd does

pub does-must : {P : Type 0} (up : Bool) (from : List ℕ) (ss : List (Stage P)) (at : ℕ) (r : Pumped)
    → DoesWork r
    → AnswersAt up from ss at r → MustPump up from ss at
does-must up from [] at r does h = h
does-must up from (s ∷ ss) zero r does h = does-if (has_work (has_ended s) (needs_no_more up s.part) from)
    (is_done s.part) from s.after r does h
does-must up from (s ∷ ss) (suc at) r does h = does-must (has_ended s) s.after ss at r does h

-- a stage that rests had no work, or no room after it
abbrev pub IsResting : Pumped → Type 0
IsResting (Moved n) = ⊥
IsResting Ended = ⊥
IsResting (Blocked w) = Unit {0}
IsResting Idle = Unit {0}

resting-full : (full done : Bool) (from after : List ℕ) (r : Pumped) → IsResting r
    → AnswersWork full done from after r → full ≡ true
resting-full true done from after r rests h = refl
resting-full false done from after (Moved n) rests h = absurd rests
resting-full false done from after Ended rests h = absurd rests
resting-full false true from after (Blocked w) rests h = absurd (let wrong : Blocked w ≡ Ended = h in cc)
resting-full false true from after Idle rests h = absurd (let wrong : Idle ≡ Ended = h in cc)
resting-full false false [] after (Blocked w) rests h = absurd (let wrong : Blocked w ≡ Ended = h in cc)
resting-full false false [] after Idle rests h = absurd (let wrong : Idle ≡ Ended = h in cc)
resting-full false false (b ∷ bs) after (Blocked w) rests h = absurd h
resting-full false false (b ∷ bs) after Idle rests h = absurd h

full-long : (n : ℕ) → nat_le 65536 n ≡ true → n < 65536 → ⊥
full-long n full short = by_test (leb_tells 65536 n)
  where
    by_test : ((nat_le 65536 n ≡ true) × (65536 ≤ n)) ⊎ ((nat_le 65536 n ≡ false) × (n < 65536)) → ⊥
    by_test (inl (e, long)) = omega (arith, long, short)
    by_test (inr (e, below)) = let wrong : true ≡ false = sym full ∙ e in cc

resting-if : (works done : Bool) (from after : List ℕ) (r : Pumped) → IsResting r
    → AnswersIf works done from after r → works ≡ true → length after < 65536 → ⊥
resting-if true done from after r rests h work short = full-long (length after)
    (resting-full (nat_le 65536 (length after)) done from after r rests h) short
resting-if false done from after r rests h work short = let wrong : false ≡ true = work in cc

pub resting : {P : Type 0} (up : Bool) (from : List ℕ) (ss : List (Stage P)) (at : ℕ) (r : Pumped)
    → IsResting r → AnswersAt up from ss at r → MustPump up from ss at → ⊥
resting up from [] at r rests h must = must
resting up from (s ∷ ss) zero r rests h (work, short) = resting-if
    (has_work (has_ended s) (needs_no_more up s.part) from) (is_done s.part) from s.after r rests h work short
resting up from (s ∷ ss) (suc at) r rests h must = resting (has_ended s) s.after ss at r rests h must

-- a stage that was cut off need not work
cut-rests : {P : Type 0} (up : Bool) (from : List ℕ) (s : Stage P) → s.part ≡ None
    → HasDuty (has_work (has_ended s) (needs_no_more up s.part) from) s.after → ⊥
cut-rests up from s gone (work, room) =
    let enough : Bool = needs_no_more up s.part in
    let wrong : has_work true enough from ≡ true =
    ap (λ p. has_work (is_none p) enough from) (sym gone) ∙ work in let no : false ≡ true = wrong in cc

-- a pump behind a stage that it does not cut off leaves what waits before and after that
front-same : {P : Type 0} (rest : P → List ℕ → List ℕ) (from : List ℕ) (ss : List (Stage P)) (at : ℕ)
    (r : Pumped) (from' : List ℕ) (ss' : List (Stage P)) → cuts r (done_at ss (suc at)) ≡ false
    → StepsAt rest from ss (suc at) r from' ss' → from' ≡ from
front-same rest from [] at r from' ss' uncut h = absurd h
front-same rest from (s ∷ ss) at r from' [] uncut h = absurd h
front-same {P} rest from (s ∷ ss) at r from' (s' ∷ ss') uncut h =
    let before : IsBefore false from s from' s' = subst (λ cut. IsBefore cut from s from' s') uncut h.0 in
    before.0

-- whether a stage must work that is not beside the one that worked, is as before, or it was cut off; whether
-- its upstream has ended is so too, unless that was cut off
must-far : {P : Type 0} (rest : P → List ℕ → List ℕ) (up up' : Bool) (from : List ℕ) (ss : List (Stage P))
    (at : ℕ) (r : Pumped) (from' : List ℕ) (ss' : List (Stage P))
    → StepsAt rest from ss at r from' ss' → (cuts r (done_at ss at) ≡ false → up' ≡ up)
    → (j : ℕ) → j ≢ at → j ≢ at + 1 → j + 1 ≢ at → MustPump up' from' ss' j → MustPump up from ss j
must-far rest up up' from [] at r from' ss' steps same_up j a b c must = absurd (none at steps)
  where
    none : (at : ℕ) → StepsAt rest from [] at r from' ss' → ⊥
    none at h = h
must-far rest up up' from (s ∷ ss) at r from' [] steps same_up j a b c must = absurd must
must-far rest up up' from (s ∷ ss) zero r from' (s' ∷ ss') steps same_up zero a b c must = absurd (a refl)
must-far rest up up' from (s ∷ ss) zero r from' (s' ∷ ss') (step, same) same_up (suc zero) a b c must = absurd
    (b (omega arith))
must-far {P = P} rest up up' from (s ∷ ss) zero r from' (s' ∷ ss') (step, same) same_up (suc (suc k)) a b c
    must = behind ss (subst (λ us. MustPump (has_ended s') s'.after us (suc k)) same must)
  where
    behind : (us : List (Stage P)) → MustPump (has_ended s') s'.after us (suc k)
        → MustPump (has_ended s) s.after us (suc k)
    behind [] h = h
    behind (u ∷ us) h = h
must-far rest up up' from (s ∷ ss) (suc zero) r from' (s' ∷ ss') steps same_up zero a b c must = absurd
    (c (omega arith))
must-far {P = P} rest up up' from (s ∷ ss) (suc (suc at)) r from' (s' ∷ ss') (before, steps) same_up zero a
    b c must = by_cut (cuts r (done_at ss (suc at))) refl
  where
    by_cut : (cut : Bool) → cuts r (done_at ss (suc at)) ≡ cut
        → HasDuty (has_work (has_ended s) (needs_no_more up s.part) from) s.after
    by_cut true is = let off : IsBefore true from s from' s' = subst (λ cut. IsBefore cut from s from' s') is
        before in absurd (cut-rests up' from' s' off.1 must)
    by_cut false is =
        let stays : IsBefore false from s from' s' = subst (λ cut. IsBefore cut from s from' s') is before in
        let after : s'.after ≡ s.after = front-same rest s.after ss at r s'.after ss' is steps in
        let u : up' ≡ up = same_up is in (
          ap (λ l. has_work (has_ended s) (needs_no_more up s.part) l) (sym stays.0)
              ∙ ap (λ p. has_work (is_none p) (needs_no_more up p) from') (sym stays.1)
              ∙ ap (λ b. has_work (has_ended s') (needs_no_more b s'.part) from') (sym u) ∙ must.0,
          subst (λ l. length l < 65536) after must.1,
        )
must-far {P = P} rest up up' from (s ∷ ss) (suc at) r from' (s' ∷ ss') (before, steps) same_up (suc k) a b c
    must =
    must-far rest (has_ended s) (has_ended s') s.after ss at r s'.after ss' steps same_end k
    (λ e. a (omega (arith, e))) (λ e. b (omega (arith, e))) (λ e. c (omega (arith, e))) must
  where
    same_end : cuts r (done_at ss at) ≡ false → has_ended s' ≡ has_ended s
    same_end uncut = let stays : IsBefore false from s from' s' = subst (λ cut. IsBefore cut from s from' s')
        uncut before in ap (λ p. is_none p) stays.1

-- Where the stages round one that worked were roused, the others are as before.
covered : {P : Type 0} (rest : P → List ℕ → List ℕ) (c d : ChainState P)
    (ts us : List (Option StageContinuation)) (at : ℕ) (r : Pumped)
    → StepsAt rest c.first c.stages at r d.first d.stages → d.given ≡ c.given → CoverBut at c ts
    → ((j : ℕ) → IsRoused ts j → IsRoused us j) → IsRoundRoused d us at → Cover d us
covered rest c d ts us at r steps given cover still round j must = by_self (eqb_tells j at)
  where
    by_before : ((eqb (j + 1) at ≡ true) × (j + 1 ≡ at)) ⊎ ((eqb (j + 1) at ≡ false) × (j + 1 ≢ at)) → j ≢ at
        → j ≢ at + 1 → IsRoused us j
    by_before (inl (t, e)) not_self not_after = round.before j e must
    by_before (inr (t, not_before)) not_self not_after =
        still j (cover j not_self (must-far rest c.given d.given c.first c.stages at r d.first d.stages
        steps (λ uncut. given) j not_self not_after not_before must))

    by_after : ((eqb j (at + 1) ≡ true) × (j ≡ at + 1)) ⊎ ((eqb j (at + 1) ≡ false) × (j ≢ at + 1)) → j ≢ at
        → IsRoused us j
    by_after (inl (t, e)) not_self = subst (IsRoused us) (sym e)
        (round.after (subst (MustPump d.given d.first d.stages) e must))
    by_after (inr (t, not_after)) not_self = by_before (eqb_tells (j + 1) at) not_self not_after

    by_self : ((eqb j at ≡ true) × (j ≡ at)) ⊎ ((eqb j at ≡ false) × (j ≢ at)) → IsRoused us j
    by_self (inl (t, e)) = subst (IsRoused us) (sym e)
        (round.self (subst (MustPump d.given d.first d.stages) e must))
    by_self (inr (t, not_self)) = by_after (eqb_tells j (at + 1)) not_self

-- the same of all that holds of driven stages
pub worked : {P : Type 0} (rest : P → List ℕ → List ℕ) (first : ℕ) (a b : Context) (c d : ChainState P)
    (ts us : List (Option StageContinuation)) (at : ℕ) (r : Pumped)
    → StepsAt rest c.first c.stages at r d.first d.stages → d.given ≡ c.given
    → length d.stages ≡ length c.stages → length us ≡ length ts
    → (AreOfStages a.log.state.pending a.roles first ts → AreOfStages b.log.state.pending b.roles first us)
    → ((j : ℕ) → IsRoused ts j → IsRoused us j) → IsRoundRoused d us at
    → IsDrivenBut first at c ts a.log.state.pending a.roles → IsDriven first d us b.log.state.pending b.roles
worked rest first a b c d ts us at r steps given stages len of_stages still round h = record {
  len = len ∙ h.len ∙ sym stages;
  of_stages = of_stages h.of_stages;
  cover = covered rest c d ts us at r steps given h.cover still round;
}

-- a stage that rests need not work, so all are roused that must work
pub rested : {P : Type 0} (first : ℕ) (c d : ChainState P) (ts : List (Option StageContinuation)) (at : ℕ)
    (r : Pumped) (pending : List Pending) (roles : List Named)
    → IsResting r → AnswersAt c.given c.first c.stages at r → d ≡ c → IsDrivenBut first at c ts pending roles
    → IsDriven first d ts pending roles
rested first c d ts at r pending roles rests answers same h = subst (λ x. IsDriven first x ts pending roles)
    (sym same) (record { len = h.len; of_stages = h.of_stages; cover = all })
  where
    all : (j : ℕ) → MustPump c.given c.first c.stages j → IsRoused ts j
    all j must = by_place (eqb_tells j at)
      where
        by_place : ((eqb j at ≡ true) × (j ≡ at)) ⊎ ((eqb j at ≡ false) × (j ≢ at)) → IsRoused ts j
        by_place (inl (t, e)) = absurd (resting c.given c.first c.stages at r rests answers
            (subst (MustPump c.given c.first c.stages) e must))
        by_place (inr (t, other)) = h.cover j other must

-- more events leave driven stages driven
pub driven_kept : {P : Type 0} (first : ℕ) (a b : Context) (c : ChainState P)
    (ts : List (Option StageContinuation)) → Keeps a b
    → IsDriven first c ts a.log.state.pending a.roles → IsDriven first c ts b.log.state.pending b.roles
driven_kept first a b c ts keeps h = record {
  len = h.len;
  of_stages = kept_all a b keeps first ts
      h.of_stages;
  cover = h.cover;
}

-- what holds before the handler of a stage works, holds but for that stage
pub driven_but : {P : Type 0} (b : Bool) (first at : ℕ) (c : ChainState P)
    (ts : List (Option StageContinuation)) (pending : List Pending) (roles : List Named)
    → IsDrivenFor b first at c ts pending roles → IsDrivenBut first at c ts pending roles
driven_but true first at c ts pending roles h = h
driven_but false first at c ts pending roles h = record
    { len = h.len; of_stages = h.of_stages; cover = λ j differ must. h.cover j must }

pub driven_quiet : {P : Type 0} (b : Bool) (first at : ℕ) (c : ChainState P)
    (ts : List (Option StageContinuation)) (pending : List Pending) (roles : List Named)
    → b ≡ false → IsDrivenFor b first at c ts pending roles → IsDriven first c ts pending roles
driven_quiet true first at c ts pending roles rests h = absurd (let wrong : true ≡ false = rests in cc)
driven_quiet false first at c ts pending roles rests h = h

-- the last stage is the one before the end
last-place : {P : Type 0} (given : Bool) (s : Stage P) (ss : List (Stage P)) (j : ℕ) → j + 1 ≡ length (s ∷ ss)
    → ended_at (s ∷ ss) j ≡ last_ended given (s ∷ ss)
last-place given s [] zero is = refl
last-place given s [] (suc j) is = absurd (omega (arith, is))
last-place given s (t ∷ ss) zero is = absurd (omega (arith, is))
last-place given s (t ∷ ss) (suc j) is = last-place (has_ended s) t ss j (omega (arith, is))

last-goes : {P : Type 0} (ss : List (Stage P)) (j : ℕ) → j + 1 ≡ length ss → ended_at ss j ≡ false
    → last_ended true ss ≡ false
last-goes [] j is goes = absurd (omega (arith, is))
last-goes (s ∷ ss) j is goes = sym (last-place true s ss j is) ∙ goes

-- a last stage that is not full need not be woken
pub awake_unless_full : {P : Type 0} (c : ChainState P) (ts : List (Option StageContinuation))
    → ((last_ended true c.stages ≡ false) × (65536 ≤ length (last_wait c.first c.stages)) → ⊥) → IsAwake c ts
awake_unless_full c ts not_full j is goes full = absurd (not_full (last-goes c.stages j is goes, full))

-- a sound world whose last stage was marked is sound once that has its event
pub marked_sound : {P : Type 0} (a b : Context) (c d : ChainState P) (ts us : List (Option StageContinuation))
    (was running : Bool) (key : Option ContKey)
    → ((a b : Context) → Keeps a b → HasEventIf b.log.state.pending key → IsDriven 1 c ts a.log.state.pending
    a.roles → IsDriven 1 d us b.log.state.pending b.roles)
    → d ≡ c → running ≡ was → Keeps a b → HasEventIf b.log.state.pending key
    → IsCovered c ts was a.log.state.pending a.roles → IsCovered d us running b.log.state.pending b.roles
marked_sound a b c d ts us was running key marked same runs keeps has s = record {
  given = ap (λ x. x.given) same ∙ s.given;
  plain = keeps.plain s.plain;
  driven = λ now. marked a b keeps has (s.driven (sym runs ∙ now));
}

-- more events leave a sound world sound
pub sound_kept : {P : Type 0} (a b : Context) (c : ChainState P) (ts : List (Option StageContinuation))
    (running : Bool) → Keeps a b
    → IsCovered c ts running a.log.state.pending a.roles → IsCovered c ts running b.log.state.pending b.roles
sound_kept a b c ts running keeps s = record {
  given = s.given;
  plain = keeps.plain s.plain;
  driven = λ runs. driven_kept 1 a b c ts keeps (s.driven runs);
}
