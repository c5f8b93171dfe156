-- What the handler of a stage may set.
use Rattle.std.proofs.Common.{◌≡◌, ◌+◌, inl, inr, ℕ, zero, suc, List, [], ◌∷◌, Bool, true, false, Option, is_none, refl, ap, subst, sym, ◌∙◌}
use Rattle.ts_journal.specs.declared.entry.Event.{Event}
use Rattle.ts_journal.specs.declared.entry.Event.TheVariants.{Error, WriteComplete}
use Rattle.ts_journal.specs.declared.entry.Pending.{Pending}
use Rattle.ts_journal.specs.State.{pending_at}
use Rattle.ts_group.specs.declared.action.Named.{Named}
use Rattle.ts_group.specs.Context.{Context}
use Rattle.ts_transform.specs.declared.continuation.StageContinuation.{StageContinuation}
use Rattle.ts_transform.specs.declared.pump.Stage.{Stage}
use Rattle.ts_transform.specs.declared.pump.Pumped.{Pumped}
use Rattle.ts_transform.specs.declared.pump.Pumped.TheVariants.{Ended, Idle}
use Rattle.ts_transform.specs.Stage.{has_ended, has_work, is_done, needs_no_more, AnswersIf}
use Rattle.ts_transform.specs.Flow.{ChainState, AnswersAt, StepsAt, MustWork, ended_at, pause_at}
use Rattle.ts_transform.specs.Driving.{AreOfStages, IsRoused, IsRousingOf, IsTellingBefore, Keeps, KeepsStages, Lessens, OnlyTellsBefore, RousesAt, SetsOnly, is_there_at}
use Rattle.ts_transform.specs.Cover.{IsRousing, MaySet, OnlyRouses, OnlySets}
use Rattle.ts_transform.proofs.Setting.{only_less, only_none, only_same, only_trans, only_weaker, named_kept, stages_named}

-- the stage at a place is roused since it must work and was not roused
pub rousing_ready : {P : Type 0} (pause : P → ℕ) (c : ChainState P) (ts : List (Option StageContinuation))
    (at after : ℕ) (a b : Context) → MustWork c at → after ≡ pause_at pause c.stages at
    → RousesAt at after ts a b → OnlyRouses pause c ts a b
rousing_ready pause c ts at after a b must is (rests, only) first named n p none some = record {
  at = at;
  rests = λ roused. rests roused n p none some;
  must = must;
  of_stage = subst (λ m. IsRousingOf (first + at) m a.moment a.roles p) is (only first named n p none some);
}

-- no stage is roused
pub none_roused : {P : Type 0} (pause : P → ℕ) (c : ChainState P) (ts : List (Option StageContinuation))
    (a : Context) → OnlyRouses pause c ts a a
none_roused pause c ts a first named = only_none (IsRousing pause first c ts a.moment a.roles) a

-- whoever is not roused later was not roused before
still_rousing : {P : Type 0} (pause : P → ℕ) (first : ℕ) (c : ChainState P)
    (ts us : List (Option StageContinuation)) (moment : ℕ) (roles : List Named) (p : Pending)
    → ((j : ℕ) → IsRoused ts j → IsRoused us j) → IsRousing pause first c us moment roles p
    → IsRousing pause first c ts moment roles p
still_rousing pause first c ts us moment roles p still h = record
    { at = h.at; rests = λ roused. h.rests (still h.at roused); must = h.must; of_stage = h.of_stage }

-- one stage after another is roused
pub rousing_trans : {P : Type 0} (pause : P → ℕ) (ch : ChainState P) (a b c : Context)
    (ts us : List (Option StageContinuation)) → Keeps a b → b.moment ≡ a.moment → KeepsStages a b ts us
    → OnlyRouses pause ch ts a b → Keeps b c → OnlyRouses pause ch us b c → OnlyRouses pause ch ts a c
rousing_trans pause ch a b c ts us keeps moment stages one second two first named =
    only_trans (IsRousing pause first ch ts a.moment a.roles) a b c (one first named) second
    (only_weaker (IsRousing pause first ch us a.moment a.roles) (IsRousing pause first ch ts a.moment a.roles)
    b c (λ p. still_rousing pause first ch ts us a.moment a.roles p stages.still)
    (subst (λ m. SetsOnly (IsRousing pause first ch us m a.roles) b c) moment
    (subst (λ roles. SetsOnly (IsRousing pause first ch us b.moment roles) b c) keeps.roles
    (two first (named_kept first a b ts us keeps stages.same named)))))

-- the stages round one were roused
pub may_rouse : {P : Type 0} (pause : P → ℕ) (old new : ChainState P) (ts : List (Option StageContinuation))
    (at : ℕ) (event : Event) (a b : Context)
    → OnlyRouses pause new ts a b → OnlySets pause old new ts at event a b
may_rouse pause old new ts at event a b only first named =
    only_weaker (IsRousing pause first new ts a.moment a.roles)
    (MaySet pause first old new ts at event a.moment a.roles) a b (λ p h. inl h) (only first named)

-- a stage that answers that it has ended had not ended before, and has then
goes_before : {P : Type 0} (up : Bool) (from : List ℕ) (ss : List (Stage P)) (at : ℕ)
    → AnswersAt up from ss at Ended → ended_at ss at ≡ false
goes_before up from [] at h = absurd h
goes_before {P} up from (s ∷ ss) zero h = by_end (has_ended s) h
  where
    by_end : (ended : Bool)
        → AnswersIf (has_work ended (needs_no_more up s.part) from) (is_done s.part) from s.after Ended
        → ended ≡ false
    by_end true wrong = absurd (let no : ◌≡◌ {A = Pumped} Ended Idle = wrong in cc)
    by_end false work = refl
goes_before up from (s ∷ ss) (suc at) h = goes_before (has_ended s) s.after ss at h

ended_then : {P : Type 0} (rest : P → List ℕ → List ℕ) (from : List ℕ) (ss : List (Stage P)) (at : ℕ)
    (from' : List ℕ) (ss' : List (Stage P))
    → StepsAt rest from ss at Ended from' ss' → ended_at ss' at ≡ true
ended_then rest from [] at from' ss' h = absurd h
ended_then rest from (s ∷ ss) at from' [] h = absurd h
ended_then rest from (s ∷ ss) zero from' (s' ∷ ss') h = ap is_none h.0.1
ended_then rest from (s ∷ ss) (suc at) from' (s' ∷ ss') h = ended_then rest s.after ss at s'.after ss' h.1

-- and the stage before it was told so
pub may_tell : {P : Type 0} (pause : P → ℕ) (rest : P → List ℕ → List ℕ) (old new : ChainState P)
    (ts us : List (Option StageContinuation)) (at : ℕ) (event : Event) (pumped : Pumped) (a b c : Context)
    → pumped ≡ Ended
    → AnswersAt old.given old.first old.stages at pumped
    → StepsAt rest old.first old.stages at pumped new.first new.stages → Keeps a b → KeepsStages a b ts us
    → OnlyRouses pause new ts a b
    → Keeps b c → OnlyTellsBefore WriteComplete at us b c → OnlySets pause old new ts at event a c
may_tell pause rest old new ts us at event pumped a b c is answers steps keeps stages rousing second telling
    first named =
    only_trans (MaySet pause first old new ts at event a.moment a.roles) a b c
    (may_rouse pause old new ts at event a b rousing first named) second
    (only_weaker (IsTellingBefore WriteComplete first at a.roles)
    (MaySet pause first old new ts at event a.moment a.roles) b c (λ p h. inr (inl (h, goes_not, ended)))
    (subst (λ roles. SetsOnly (IsTellingBefore WriteComplete first at roles) b c) keeps.roles
    (telling first (named_kept first a b ts us keeps stages.same named))))
  where
    goes : ended_at old.stages at ≡ false
    goes = goes_before old.given old.first old.stages at
        (subst (AnswersAt old.given old.first old.stages at) is answers)

    goes_not : ended_at old.stages at ≡ true → is_there_at ts at ≡ true
    goes_not before = absurd (let wrong : false ≡ true = sym goes ∙ before in cc)

    ended : ended_at new.stages at ≡ true
    ended = ended_then rest old.first old.stages at new.first new.stages
        (subst (λ r. StepsAt rest old.first old.stages at r new.first new.stages) is steps)

-- or that it had ended, where it still had its continuation
pub may_close : {P : Type 0} (pause : P → ℕ) (c : ChainState P)
    (ts : List (Option StageContinuation)) (at : ℕ) (event : Event) (a b d : Context)
    → ended_at c.stages at ≡ true
    → OnlyTellsBefore WriteComplete at ts a b → (is_there_at ts at ≡ false → b ≡ a) → Lessens b d
    → OnlySets pause c c ts at event a d
may_close pause c ts at event a b d ended telling quiet lessens first named =
    only_less (MaySet pause first c c ts at event a.moment a.roles) a b d (by_there (is_there_at ts at) refl)
    lessens
  where
    by_there : (there : Bool) → is_there_at ts at ≡ there
        → SetsOnly (MaySet pause first c c ts at event a.moment a.roles) a b
    by_there true is =
        only_weaker (IsTellingBefore WriteComplete first at a.roles)
        (MaySet pause first c c ts at event a.moment a.roles) a b (λ p h. inr (inl (h, λ before. is, ended)))
        (telling first named)
    by_there false is = only_same (MaySet pause first c c ts at event a.moment a.roles) a b
        (ap (λ x. x.log.state.pending) (quiet is))

-- or an error was passed on to it
pub may_pass : {P : Type 0} (pause : P → ℕ) (old new : ChainState P) (ts : List (Option StageContinuation))
    (at : ℕ) (event : Event) (a b : Context) → event ≡ Error
    → OnlyTellsBefore Error at ts a b → OnlySets pause old new ts at event a b
may_pass pause old new ts at event a b is only first named =
    only_weaker (IsTellingBefore Error first at a.roles)
    (MaySet pause first old new ts at event a.moment a.roles) a b (λ p h. inr (inr (h, is)))
    (only first named)

-- nothing is set where a stage that had ended is destroyed, or rests
pub may_none : {P : Type 0} (pause : P → ℕ) (old new : ChainState P) (ts : List (Option StageContinuation))
    (at : ℕ) (event : Event) (a b : Context)
    → SetsOnly (λ p. ⊥) a b → OnlySets pause old new ts at event a b
may_none pause old new ts at event a b only first named = only_weaker (λ p. ⊥)
    (MaySet pause first old new ts at event a.moment a.roles) a b (λ p no. absurd no) only

pub may_set_none : {P : Type 0} (pause : P → ℕ) (old new : ChainState P)
    (ts : List (Option StageContinuation)) (at : ℕ) (event : Event) (a : Context)
    → OnlySets pause old new ts at event a a
may_set_none pause old new ts at event a = may_none pause old new ts at event a a (only_none (λ p. ⊥) a)

-- what is set when the stages begin, where none was roused
pub begin_only : {P : Type 0} (pause : P → ℕ) (first : ℕ) (ch : ChainState P)
    (ts : List (Option StageContinuation)) (a b c : Context) → b.log.state.pending ≡ a.log.state.pending
    → b.moment ≡ a.moment → Keeps b c
    → AreOfStages b.log.state.pending b.roles first ts → OnlyRouses pause ch ts b c
    → SetsOnly (IsRousing pause first ch [] a.moment c.roles) a c
begin_only pause first ch ts a b c same moment keeps of_stages only n p none some =
    subst (λ roles. IsRousing pause first ch [] a.moment roles p) (sym keeps.roles)
    (subst (λ m. IsRousing pause first ch [] m b.roles p) moment
    (still_rousing pause first ch [] ts b.moment b.roles p (λ j roused. absurd roused)
    (only first (stages_named first b ts of_stages) n p (ap (pending_at n) same ∙ none) some)))
