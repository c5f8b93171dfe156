-- What is left of the events of stages when one of them was handled.
use Rattle.std.proofs.Common.{◌≡◌, ◌≢◌, ℕ, zero, suc, ◌+◌, ◌-◌, ◌<◌, ◌≤◌, ◌⊎◌, nat_le, inl, inr, List, [], ◌∷◌, Bool, true, false, Option, Some, None, length, arith, refl, sym, ap, ◌∙◌}
use Rattle.std.proofs.lemmas.Bool.Decides.{leb_tells}
use Rattle.ts_journal.specs.declared.entry.Event.{Event}
use Rattle.ts_journal.specs.declared.entry.Pending.{Pending}
use Rattle.ts_journal.specs.State.{State, pending_at}
use Rattle.ts_group.specs.declared.action.Named.{Named}
use Rattle.ts_group.specs.Context.{Context, role_at}
use Rattle.ts_group.specs.Calls.{IsCalled}
use Rattle.ts_transform.specs.declared.continuation.StageContinuation.{StageContinuation}
use Rattle.ts_transform.specs.Flow.{ChainState}
use Rattle.ts_transform.specs.Driving.{works_at, HasEvent, IsOfStage, IsOfStageIf, AreOfStages, IsRoused, IsHandled, unroused, unroused_for, changed}
use Rattle.ts_transform.specs.Cover.{IsDriven, IsDrivenBut, IsDrivenFor}
use Rattle.ts_transform.specs.Acting.{IsStage}

-- what a handler is called with
pub handled_by : (Sound : State → List Named → Type 0) (now : Context) (role : ℕ) (event : Event)
    (c : IsCalled Sound now role event)
    → IsHandled c.before.pending now.log.state.pending now.roles role event
handled_by Sound now role event c = record {
  handled = c.handled;
  event_is = c.event_is;
  there = c.there;
  role_is = c.role_is;
  others = c.has.stays;
}

-- the event of a number is one event
same_event : (n m : ℕ) (ps : List Pending) (p q : Pending) → n ≡ m → pending_at n ps ≡ Some p
    → pending_at m ps ≡ Some q → p ≡ q
same_event n m ps p q same a b = let both : Some p ≡ Some q = sym a ∙ ap (λ k. pending_at k ps) same ∙ b in cc

-- an event that is not the one that was handled is still pending
event_stays : (before now : List Pending) (roles : List Named) (other : ℕ) (event : Event)
    (h : IsHandled before now roles other event) (t : StageContinuation) (e : HasEvent before t.key)
    → (e.event ≡ h.handled → ⊥) → HasEvent now t.key
event_stays before now roles other event h t e not_it = record {
  event = e.event;
  there = h.others e.event.number e.event (λ same. not_it
      (same_event e.event.number h.handled.number before e.event h.handled same e.there h.there)) e.there;
  of_key = e.of_key;
  works = e.works;
}

-- so the stage of another role keeps its event
stays : (before now : List Pending) (roles : List Named) (role other : ℕ) (event : Event)
    (t : StageContinuation)
    → IsHandled before now roles other event → role ≢ other → IsOfStage before roles role t
    → IsOfStage now roles role t
stays before now roles role other event t h differ s = record {
  named = s.named;
  event = λ roused. event_stays before now roles other event h t (s.event roused)
      (λ same. differ (one_role (s.event roused) same));
}
  where
    one_role : (e : HasEvent before t.key) → e.event ≡ h.handled → role ≡ other
    one_role e same =
        let key : t.key ≡ h.handled.key = sym e.of_key ∙ ap (λ p. p.key) same in
        let both : Some role ≡ Some other = sym s.named ∙ ap (λ k. role_at k.index roles) key ∙ h.role_is in
        cc

-- and every stage does, where none works at the event
quiet : (before now : List Pending) (roles : List Named) (role other : ℕ) (event : Event)
    (t : StageContinuation)
    → IsHandled before now roles other event → works_at event ≡ false → IsOfStage before roles role t
    → IsOfStage now roles role t
quiet before now roles role other event t h rests s = record {
  named = s.named;
  event = λ roused. event_stays before now roles other event h t (s.event roused)
      (λ same. not_both (s.event roused) same);
}
  where
    not_both : (e : HasEvent before t.key) → e.event ≡ h.handled → ⊥
    not_both e same = let wrong : true ≡ false = sym e.works ∙ ap (λ p. works_at p.event) same ∙ ap works_at
        h.event_is ∙ rests in cc

pub stays_if : (before now : List Pending) (roles : List Named) (role other : ℕ) (event : Event)
    (t : Option StageContinuation)
    → IsHandled before now roles other event → role ≢ other → IsOfStageIf before roles role t
    → IsOfStageIf now roles role t
stays_if before now roles role other event None h differ s = tt
stays_if before now roles role other event (Some t) h differ s = stays before now roles role other event t h
    differ s

-- stages behind the one of the role
stay_behind : (before now : List Pending) (roles : List Named) (role other : ℕ) (event : Event)
    (ts : List (Option StageContinuation))
    → IsHandled before now roles other event → other < role → AreOfStages before roles role ts
    → AreOfStages now roles role ts
stay_behind before now roles role other event [] h below s = tt
stay_behind before now roles role other event (t ∷ ts) h below (here, others) = (
  stays_if before now roles role other event t h (λ e. omega (arith, e, below)) here,
  stay_behind before
      now roles (role + 1) other event ts h (omega (arith, below)) others,
)

-- and before it
stay_before : (before now : List Pending) (roles : List Named) (role other : ℕ) (event : Event)
    (ts : List (Option StageContinuation))
    → IsHandled before now roles other event → role + length ts ≤ other → AreOfStages before roles role ts
    → AreOfStages now roles role ts
stay_before before now roles role other event [] h above s = tt
stay_before before now roles role other event (t ∷ ts) h above (here, others) = (
  stays_if before now roles role other event t h (λ e. omega (arith, e, above)) here,
  stay_before before
      now roles (role + 1) other event ts h (omega (arith, above)) others,
)

pub unroused_if : (before now : List Pending) (roles : List Named) (role : ℕ) (t : Option StageContinuation)
    → IsOfStageIf before roles role t → IsOfStageIf now roles role (unroused t)
unroused_if before now roles role None s = tt
unroused_if before now roles role (Some t) s = record
    { named = s.named; event = λ roused. absurd (let wrong : false ≡ true = roused in cc) }

-- the stage of the role is same
unrouse_at : (before now : List Pending) (roles : List Named) (role at other : ℕ) (event : Event)
    (ts : List (Option StageContinuation))
    → IsHandled before now roles other event → other ≡ role + at → AreOfStages before roles role ts
    → AreOfStages now roles role (changed unroused ts at)
unrouse_at before now roles role at other event [] h is s = tt
unrouse_at before now roles role zero other event (t ∷ ts) h is (here, others) = (
  unroused_if before now roles role t here,
  stay_behind before now roles (role + 1) other event ts h
      (omega (arith, is)) others,
)
unrouse_at before now roles role (suc at) other event (t ∷ ts) h is (here, others) = (
  stays_if before now roles role other event t h (λ e. omega (arith, e, is)) here,
  unrouse_at before now
      roles (role + 1) at other event ts h (omega (arith, is)) others,
)

pub quiet_if : (before now : List Pending) (roles : List Named) (role other : ℕ) (event : Event)
    (t : Option StageContinuation)
    → IsHandled before now roles other event → works_at event ≡ false → IsOfStageIf before roles role t
    → IsOfStageIf now roles role t
quiet_if before now roles role other event None h rests s = tt
quiet_if before now roles role other event (Some t) h rests s = quiet before now roles role other event t h
    rests s

quiet_all : (before now : List Pending) (roles : List Named) (role other : ℕ) (event : Event)
    (ts : List (Option StageContinuation))
    → IsHandled before now roles other event → works_at event ≡ false → AreOfStages before roles role ts
    → AreOfStages now roles role ts
quiet_all before now roles role other event [] h rests s = tt
quiet_all before now roles role other event (t ∷ ts) h rests (here, others) = (
  quiet_if before now roles role other event t h rests here,
  quiet_all before now roles (role + 1) other
      event ts h rests others,
)

-- another continuation at one place
pub length-changed : (f : Option StageContinuation → Option StageContinuation)
    (ts : List (Option StageContinuation)) (at : ℕ) → length (changed f ts at) ≡ length ts
length-changed f [] at = refl
length-changed f (t ∷ ts) zero = refl
length-changed f (t ∷ ts) (suc at) = ap suc (length-changed f ts at)

pub roused-changed : (f : Option StageContinuation → Option StageContinuation)
    (ts : List (Option StageContinuation)) (at j : ℕ) → j ≢ at → IsRoused ts j → IsRoused (changed f ts at) j
roused-changed f [] at j differ h = absurd h
roused-changed f (t ∷ ts) zero zero differ h = absurd (differ refl)
roused-changed f (t ∷ ts) zero (suc j) differ h = h
roused-changed f (t ∷ ts) (suc at) zero differ h = h
roused-changed f (t ∷ ts) (suc at) (suc j) differ h = roused-changed f ts at j (λ e. differ (ap suc e)) h

-- What holds when the handler of a stage begins, once its flag was cleared if it works at the event.
begun_works : {P : Type 0} (first : ℕ) (c : ChainState P) (ts : List (Option StageContinuation))
    (before now : List Pending) (roles : List Named) (at role : ℕ) (event : Event)
    → IsHandled before now roles role event → role ≡ first + at → IsDriven first c ts before roles
    → IsDrivenBut first at c (changed unroused ts at) now roles
begun_works first c ts before now roles at role event h is s = record {
  len = length-changed unroused ts at ∙ s.len;
  of_stages = unrouse_at before now roles first at role event ts h is s.of_stages;
  cover = λ j differ must. roused-changed unroused ts at j differ (s.cover j must);
}

pub begun_quiet : {P : Type 0} (first : ℕ) (c : ChainState P) (ts : List (Option StageContinuation))
    (before now : List Pending) (roles : List Named) (role : ℕ) (event : Event)
    → IsHandled before now roles role event → works_at event ≡ false → IsDriven first c ts before roles
    → IsDriven first c ts now roles
begun_quiet first c ts before now roles role event h rests s = record {
  len = s.len;
  of_stages = quiet_all before now roles first role event ts h rests s.of_stages;
  cover =
      s.cover;
}

pub begun_for : {P : Type 0} (first : ℕ) (c : ChainState P) (ts : List (Option StageContinuation))
    (before now : List Pending) (roles : List Named) (at role : ℕ) (event : Event) (b : Bool)
    → IsHandled before now roles role event → role ≡ first + at → works_at event ≡ b
    → IsDriven first c ts before roles → IsDrivenFor b first at c (unroused_for b ts at) now roles
begun_for first c ts before now roles at role event true h is works s = begun_works first c ts before now
    roles at role event h is s
begun_for first c ts before now roles at role event false h is rests s = begun_quiet first c ts before now
    roles role event h rests s

-- an event of a role that no stage has
pub begun_other : {P : Type 0} (first : ℕ) (c : ChainState P) (ts : List (Option StageContinuation))
    (before now : List Pending) (roles : List Named) (role : ℕ) (event : Event)
    → IsHandled before now roles role event → ((at : ℕ) → role ≡ first + at → IsStage c ts at → ⊥)
    → IsDriven first c ts before roles → IsDriven first c ts now roles
begun_other first c ts before now roles role event h none s = record
    { len = s.len; of_stages = of_stages (leb_tells first role); cover = s.cover }
  where
    above : first ≤ role → first + length ts ≤ role
    above within = by_length (leb_tells (first + length ts) role)
      where
        by_length : ((nat_le (first + length ts) role ≡ true) × (first + length ts ≤ role)) ⊎
            ((nat_le (first + length ts) role ≡ false) × (role < first + length ts))
            → first + length ts ≤ role
        by_length (inl (t, long)) = long
        by_length (inr (t, short)) = absurd (none (role - first) (omega (arith, within))
            (record { within = omega (arith, within, short); len = s.len }))

    of_stages : ((nat_le first role ≡ true) × (first ≤ role)) ⊎ ((nat_le first role ≡ false) × (role < first))
        → AreOfStages now roles first ts
    of_stages (inl (t, within)) = stay_before before now roles first role event ts h (above within)
        s.of_stages
    of_stages (inr (t, below)) = stay_behind before now roles first role event ts h below s.of_stages
