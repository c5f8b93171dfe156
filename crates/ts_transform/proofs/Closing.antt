-- A stage that has ended loses its continuation, and no other stage does.
use Rattle.std.proofs.Common.{◌≡◌, ◌≢◌, ℕ, zero, suc, ◌+◌, ◌<◌, ◌≤◌, ◌&&◌, ◌==◌, ◌⊎◌, inl, inr, List, [], ◌∷◌, Bool, true, false, Option, Some, None, eqb, slice_get, length, arith, refl, sym, ap, subst, ◌∙◌}
use Rattle.std.proofs.lemmas.Bool.{ne_eqb}
use Rattle.std.proofs.lemmas.Bool.Decides.{eqb_tells}
use Rattle.ts_journal.specs.declared.entry.ContKey.{ContKey}
use Rattle.ts_journal.specs.declared.entry.Pending.{Pending}
use Rattle.ts_journal.specs.State.{pending_at, same_key}
use Rattle.ts_group.specs.declared.action.Named.{Named}
use Rattle.ts_group.specs.declared.action.Destroy.{Destroy}
use Rattle.ts_group.specs.declared.action.Destroy.TheVariants as D
use Rattle.ts_group.specs.Context.{Context, role_at}
use Rattle.ts_group.specs.Acts.{Destroys}
use Rattle.ts_group.specs.Changes.{HasLost}
use Rattle.ts_transform.specs.declared.continuation.StageContinuation.{StageContinuation}
use Rattle.ts_transform.specs.declared.pump.Stage.{Stage}
use Rattle.ts_transform.specs.Stage.{has_ended, has_work, needs_no_more}
use Rattle.ts_transform.specs.Flow.{ChainState, MustPump, ended_at}
use Rattle.ts_transform.specs.Driving.{ClosesAt, HasEvent, IsDestroyed, IsGone, IsNamedIf, AreNamed, IsOfStage, IsOfStageIf, AreOfStages, IsRoused, Keeps, KeepsOthers, gone, changed}
use Rattle.ts_transform.specs.Cover.{IsDriven, IsDrivenBut}
use Rattle.ts_transform.proofs.Handled.{length-changed, roused-changed}
use Rattle.ts_transform.proofs.Kept.{kept_if}

-- keys of two indexes differ
pub other_key : (a b : ContKey) → a.index ≢ b.index → same_key a b ≡ false
other_key a b differ = ap (λ t. t && (a.generation == b.generation)) (ne_eqb a.index b.index differ)

-- the stage of another role keeps its continuation and its event
lost_other : (a b : Context) (key : ContKey) (mine role : ℕ) (t : StageContinuation)
    → HasLost a.log.state b.log.state a.roles b.roles key → role_at key.index a.roles ≡ Some mine
    → role ≢ mine
    → IsOfStage a.log.state.pending a.roles role t → IsOfStage b.log.state.pending b.roles role t
lost_other a b key mine role t lost named differ s = record {
  named = lost.others t.key.index other ∙ s.named;
  event = λ roused. event (s.event roused);
}
  where
    other : t.key.index ≢ key.index
    other same = differ (let both : Some role ≡ Some mine = sym s.named ∙ ap (λ i. role_at i a.roles) same ∙
        named in cc)

    event : HasEvent a.log.state.pending t.key → HasEvent b.log.state.pending t.key
    event e = record {
      event = e.event;
      there = lost.stays e.event.number e.event e.there
          (ap (λ k. same_key k key) e.of_key ∙ other_key t.key key other);
      of_key = e.of_key;
      works = e.works;
    }

pub lost_if : (a b : Context) (key : ContKey) (mine role : ℕ) (t : Option StageContinuation)
    → HasLost a.log.state b.log.state a.roles b.roles key → role_at key.index a.roles ≡ Some mine
    → role ≢ mine
    → IsOfStageIf a.log.state.pending a.roles role t → IsOfStageIf b.log.state.pending b.roles role t
lost_if a b key mine role None lost named differ s = tt
lost_if a b key mine role (Some t) lost named differ s = lost_other a b key mine role t lost named differ s

lost_behind : (a b : Context) (key : ContKey) (mine role : ℕ) (ts : List (Option StageContinuation))
    → HasLost a.log.state b.log.state a.roles b.roles key → role_at key.index a.roles ≡ Some mine
    → mine < role
    → AreOfStages a.log.state.pending a.roles role ts → AreOfStages b.log.state.pending b.roles role ts
lost_behind a b key mine role [] lost named below s = tt
lost_behind a b key mine role (t ∷ ts) lost named below (here, others) = (
  lost_if a b key mine role t lost named (λ e. omega (arith, e, below)) here,
  lost_behind a b key mine
      (role + 1) ts lost named (omega (arith, below)) others,
)

lost_at : (a b : Context) (key : ContKey) (mine role at : ℕ) (ts : List (Option StageContinuation))
    → HasLost a.log.state b.log.state a.roles b.roles key → role_at key.index a.roles ≡ Some mine
    → mine ≡ role + at
    → AreOfStages a.log.state.pending a.roles role ts
    → AreOfStages b.log.state.pending b.roles role (changed gone ts at)
lost_at a b key mine role at [] lost named is s = tt
lost_at a b key mine role zero (t ∷ ts) lost named is (here, others) =
    (tt, lost_behind a b key mine (role + 1) ts lost named (omega (arith, is)) others)
lost_at a b key mine role (suc at) (t ∷ ts) lost named is (here, others) = (
  lost_if a b key mine role t lost named (λ e. omega (arith, e, is)) here,
  lost_at a b key mine (role + 1)
      at ts lost named (omega (arith, is)) others,
)

-- the role of the continuation at a place
named_at : (pending : List Pending) (roles : List Named) (role at : ℕ) (ts : List (Option StageContinuation))
    (t : StageContinuation) → slice_get ts at ≡ Some (Some t)
    → AreOfStages pending roles role ts → role_at t.key.index roles ≡ Some (role + at)
named_at pending roles role at [] t is s = absurd
    (let wrong : ◌≡◌ {A = Option (Option StageContinuation)} None (Some (Some t)) = is in cc)
named_at pending roles role zero (u ∷ ts) t is (here, others) = by_head u (let same : u ≡ Some t = cc in same)
    here
  where
    by_head : (u : Option StageContinuation) → u ≡ Some t → IsOfStageIf pending roles role u
        → role_at t.key.index roles ≡ Some (role + zero)
    by_head u e h = let s : IsOfStage pending roles role t = subst (IsOfStageIf pending roles role) e h in
        s.named ∙ ap Some (omega arith)
named_at pending roles role (suc at) (u ∷ ts) t is (here, others) =
    named_at pending roles (role + 1) at ts t is others ∙ ap Some (omega arith)

-- a continuation was destroyed and taken out of the table
pub closed_gone : (a b : Context) (role at : ℕ) (ts : List (Option StageContinuation)) (t : StageContinuation)
    → slice_get ts at ≡ Some (Some t) → HasLost a.log.state b.log.state a.roles b.roles t.key
    → AreOfStages a.log.state.pending a.roles role ts
    → AreOfStages b.log.state.pending b.roles role (changed gone ts at)
closed_gone a b role at ts t is lost s =
    lost_at a b t.key (role + at) role at ts lost (named_at a.log.state.pending a.roles role at ts t is s)
    refl s

-- or only taken out, since it was not live
gone_at : (pending : List Pending) (roles : List Named) (role at : ℕ) (ts : List (Option StageContinuation))
    → AreOfStages pending roles role ts → AreOfStages pending roles role (changed gone ts at)
gone_at pending roles role at [] s = tt
gone_at pending roles role zero (t ∷ ts) (here, others) = (tt, others)
gone_at pending roles role (suc at) (t ∷ ts) (here, others) =
    (here, gone_at pending roles (role + 1) at ts others)

pub closed_dead : (a b : Context) (role at : ℕ) (ts : List (Option StageContinuation))
    → b.log.state ≡ a.log.state → b.roles ≡ a.roles → AreOfStages a.log.state.pending a.roles role ts
    → AreOfStages b.log.state.pending b.roles role (changed gone ts at)
closed_dead a b role at ts state roles s =
    subst (λ rs. AreOfStages b.log.state.pending rs role (changed gone ts at)) (sym roles)
    (subst (λ st. AreOfStages st.pending a.roles role (changed gone ts at)) (sym state)
    (gone_at a.log.state.pending a.roles role at ts s))

-- a continuation of a role outside those of the stages keeps its role and its event
pub named_place : (roles : List Named) (role at : ℕ) (ts : List (Option StageContinuation))
    (t : StageContinuation) → slice_get ts at ≡ Some (Some t) → AreNamed roles role ts
    → (role_at t.key.index roles ≡ Some (role + at)) × (at < length ts)
named_place roles role at [] t is named = absurd
    (let wrong : ◌≡◌ {A = Option (Option StageContinuation)} None (Some (Some t)) = is in cc)
named_place roles role zero (u ∷ ts) t is (here, others) =
    (by_head u (let same : u ≡ Some t = cc in same) here, omega arith)
  where
    by_head : (u : Option StageContinuation) → u ≡ Some t → IsNamedIf roles role u
        → role_at t.key.index roles ≡ Some (role + zero)
    by_head u e h = let s : role_at t.key.index roles ≡ Some role = subst (IsNamedIf roles role) e h in s ∙ ap
        Some (omega arith)
named_place roles role (suc at) (u ∷ ts) t is (here, others) =
    let behind = named_place roles (role + 1) at ts t is others in
    (behind.0 ∙ ap Some (omega arith), omega (arith, behind.1))

pub others_lost : (first at : ℕ) (ts : List (Option StageContinuation)) (t : StageContinuation)
    (a b : Context) → slice_get ts at ≡ Some (Some t) → HasLost a.log.state b.log.state a.roles b.roles t.key
    → KeepsOthers first ts a b
others_lost first at ts t a b is lost role u named outside s =
    let place = named_place a.roles first at ts t is named in
    lost_if a b t.key (first + at) role u lost place.0 (λ e. not_within outside e place.1) s
  where
    not_within : (role < first) ⊎ (first + length ts ≤ role) → role ≡ first + at → at < length ts → ⊥
    not_within (inl below) e within = omega (arith, below, e)
    not_within (inr above) e within = omega (arith, above, e, within)

pub others_same : (first : ℕ) (ts : List (Option StageContinuation)) (a b : Context)
    → b.log.state ≡ a.log.state → b.roles ≡ a.roles → KeepsOthers first ts a b
others_same first ts a b state roles role u named outside s =
    subst (λ rs. IsOfStageIf b.log.state.pending rs role u) (sym roles)
    (subst (λ st. IsOfStageIf st.pending a.roles role u) (sym state) s)

-- so it is whether there was a continuation to be destroyed or not
pub closed_any : (a b : Context) (d : Destroy) (first at : ℕ) (ts us : List (Option StageContinuation))
    (t : StageContinuation) → slice_get ts at ≡ Some (Some t) → us ≡ changed gone ts at
    → Destroys a.log b.log a.roles b.roles d t.key → AreOfStages a.log.state.pending a.roles first ts
    → AreOfStages b.log.state.pending b.roles first us
closed_any a b D.Gone first at ts us t there is h s =
    subst (AreOfStages b.log.state.pending b.roles first) (sym is)
    (closed_gone a b first at ts t there (h.lost refl) s)
closed_any a b D.Dead first at ts us t there is h s =
    subst (AreOfStages b.log.state.pending b.roles first) (sym is)
    (closed_dead a b first at ts (h.dead refl).1.state (h.dead refl).2 s)

pub others_any : (a b : Context) (d : Destroy) (first at : ℕ) (ts : List (Option StageContinuation))
    (t : StageContinuation) → slice_get ts at ≡ Some (Some t)
    → Destroys a.log b.log a.roles b.roles d t.key → KeepsOthers first ts a b
others_any a b D.Gone first at ts t there h = others_lost first at ts t a b there (h.lost refl)
others_any a b D.Dead first at ts t there h =
    others_same first ts a b (h.dead refl).1.state (h.dead refl).2

-- what is left of the continuation that was destroyed, if there was one
is_gone : (a b : Context) (key : ContKey) → HasLost a.log.state b.log.state a.roles b.roles key
    → IsGone a b key
is_gone a b key lost = record
    { live = lost.live; roles = lost.roles; none = λ n p there. (lost.from n p there).1; stays = lost.stays }

pub closes_some : (a b : Context) (d : Destroy) (at : ℕ) (ts : List (Option StageContinuation))
    (t : StageContinuation) → slice_get ts at ≡ Some (Some t)
    → Destroys a.log b.log a.roles b.roles d t.key → ClosesAt a b ts at
closes_some a b d at ts t there h = record {
  closed = λ u stands. subst (λ k. IsDestroyed a b k) (same_key_of u stands) (destroyed d h);
  stays = λ n p was other. stays d h n p was (other t there);
}
  where
    same_key_of : (u : StageContinuation) → slice_get ts at ≡ Some (Some u) → t.key ≡ u.key
    same_key_of u stands = let both : ◌≡◌ {A = Option (Option StageContinuation)} (Some (Some t))
        (Some (Some u)) = sym there ∙ stands in let one : t ≡ u = cc in ap (λ x. x.key) one

    destroyed : (d : Destroy) → Destroys a.log b.log a.roles b.roles d t.key → IsDestroyed a b t.key
    destroyed D.Gone h = inl (is_gone a b t.key (h.lost refl))
    destroyed D.Dead h = inr (h.dead refl).0

    stays : (d : Destroy) → Destroys a.log b.log a.roles b.roles d t.key → (n : ℕ) (p : Pending)
        → pending_at n a.log.state.pending ≡ Some p → same_key p.key t.key ≡ false
        → pending_at n b.log.state.pending ≡ Some p
    stays D.Gone h n p was other = (h.lost refl).stays n p was other
    stays D.Dead h n p was other = ap (λ s. pending_at n s.pending) (h.dead refl).1.state ∙ was

pub closes_nobody : (a : Context) (at : ℕ) (ts : List (Option StageContinuation))
    → slice_get ts at ≡ Some None → ClosesAt a a ts at
closes_nobody a at ts none = record {
  closed = λ t there. absurd (let wrong : ◌≡◌ {A = Option (Option StageContinuation)} (Some None)
      (Some (Some t)) = sym none ∙ there in cc);
  stays = λ n p was other. was;
}

pub others_kept : (first : ℕ) (ts : List (Option StageContinuation)) (a b : Context) → Keeps a b
    → KeepsOthers first ts a b
others_kept first ts a b keeps role u named outside s = kept_if a b keeps role u s

-- and then some of the stages' were destroyed
pub others_then : (first : ℕ) (ts : List (Option StageContinuation)) (a m b : Context) → Keeps a m
    → KeepsOthers first ts m b → KeepsOthers first ts a b
others_then first ts a m b keeps others role u named outside s =
    others role u (subst (λ roles. AreNamed roles first ts) (sym keeps.roles) named) outside
    (kept_if a m keeps role u s)

-- a stage that has ended need not work
pub ended-rests : {P : Type 0} (up : Bool) (from : List ℕ) (ss : List (Stage P)) (at : ℕ)
    → ended_at ss at ≡ true → MustPump up from ss at → ⊥
ended-rests up from [] at ended must = must
ended-rests up from (s ∷ ss) zero ended (work, room) =
    let enough : Bool = needs_no_more up s.part in
    let wrong : has_work true enough from ≡ true = ap (λ e. has_work e enough from) (sym ended) ∙ work in
    let no : false ≡ true = wrong in cc
ended-rests up from (s ∷ ss) (suc at) ended must = ended-rests (has_ended s) s.after ss at ended must

-- so the others are driven without its continuation
pub closed_driven : {P : Type 0} (first : ℕ) (a b : Context) (c : ChainState P)
    (ts us : List (Option StageContinuation)) (at : ℕ) → ended_at c.stages at ≡ true → us ≡ changed gone ts at
    → (AreOfStages a.log.state.pending a.roles first ts → AreOfStages b.log.state.pending b.roles first us)
    → IsDrivenBut first at c ts a.log.state.pending a.roles → IsDriven first c us b.log.state.pending b.roles
closed_driven {P} first a b c ts us at ended is of_stages s = record {
  len = ap length is ∙ length-changed gone ts at ∙ s.len;
  of_stages = of_stages s.of_stages;
  cover = cover;
}
  where
    cover : (j : ℕ) → MustPump c.given c.first c.stages j → IsRoused us j
    cover j must = by_place (eqb_tells j at)
      where
        by_place : ((eqb j at ≡ true) × (j ≡ at)) ⊎ ((eqb j at ≡ false) × (j ≢ at)) → IsRoused us j
        by_place (inl (t, e)) = absurd (ended-rests c.given c.first c.stages at ended
            (subst (MustPump c.given c.first c.stages) e must))
        by_place (inr (t, other)) = subst (λ vs. IsRoused vs j) (sym is)
            (roused-changed gone ts at j other (s.cover j other must))
