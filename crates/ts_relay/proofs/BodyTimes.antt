-- Which events the steps of a body set, and when these are due.
use Rattle.std.proofs.Common.{◌≡◌, ℕ, ◌+◌, ◌<◌, ◌⊎◌, inl, inr, List, [], Bool, true, false, Option, Some}
use Rattle.std.proofs.Common.{None, length, arith, refl, sym, ap, subst, ◌∙◌}
use Rattle.std.proofs.lemmas.Bool.{false≢true}
use Rattle.ts_journal.specs.declared.entry.Event.{Event}
use Rattle.ts_journal.specs.declared.entry.Pending.{Pending}
use Rattle.ts_journal.specs.State.{pending_at}
use Rattle.ts_group.specs.declared.action.Named.{Named}
use Rattle.ts_group.specs.Changes.{SameEvents}
use Rattle.ts_group.specs.Context.{AllPlain, Context, IsSame}
use Rattle.ts_group.specs.Entries.{Grows}
use Rattle.ts_transform.specs.Acting.{IsStage}
use Rattle.ts_transform.specs.Cover.{IsRousing, MaySet}
use Rattle.ts_transform.specs.Driven.{Acts, IsDrivenWhile, IsOfNoStage}
use Rattle.ts_transform.specs.Driving.{ActsWithin, AreNamed, IsNamedIf, IsRousingOf, Keeps, KeepsOthers}
use Rattle.ts_transform.specs.Driving.{SetsOnly, unroused_at, works_at}
use Rattle.ts_transform.specs.Flow.{ChainState}
use Rattle.ts_transform.specs.declared.continuation.StageContinuation.{StageContinuation}
use Rattle.ts_transform.specs.declared.driven.DrivenChain.{DrivenChain}
use Rattle.ts_transform.proofs.Along.{named_handled, stage_at}
use Rattle.ts_transform.proofs.Joined.{named_of}
use Rattle.ts_transform.proofs.Setting.{of_stages_named, only_none, only_same, only_trans, only_weaker}
use Rattle.ts_relay.specs.Relaying.{AddsSome, IsOfRoleFrom, StepsChain}
use Rattle.ts_relay.specs.Entering.{BeginsRelay}
use Rattle.ts_relay.specs.BodyLinks.{BeginsInTime, IsOfEnd, OnlyOfBody, OnlyOfEnds, is_late, pause_if}
use Rattle.ts_relay.specs.declared.relay.TheConstants.{MAIN, FIRST, READER}
use Rattle.ts_relay.specs.declared.last_writes.BodyStep.{BodyStep}
use Rattle.ts_relay.specs.declared.relay.Relay.{Relay}

-- ---- the ends of a body

-- one end was roused, and then the other
pub ends_both : (writes reads : ℕ) (t r : Option StageContinuation) (a c b : Context) → c.moment ≡ a.moment
    → Keeps a c → Keeps c b
    → ((role : ℕ) → IsNamedIf a.roles role t → SetsOnly (IsRousingOf role writes a.moment a.roles) a c)
    → ((role : ℕ) → IsNamedIf c.roles role r → SetsOnly (IsRousingOf role reads c.moment c.roles) c b)
    → OnlyOfEnds writes reads t r a b
ends_both writes reads t r a c b moment keeps later main reader of_main of_reader =
    only_trans (IsOfEnd writes reads a.moment a.roles) a c b
    (only_weaker (IsRousingOf MAIN writes a.moment a.roles) (IsOfEnd writes reads a.moment a.roles) a c
    (λ p h. inl h) (main MAIN of_main)) later
    (only_weaker (IsRousingOf READER reads a.moment a.roles) (IsOfEnd writes reads a.moment a.roles) c b
    (λ p h. inr h)
    (subst (λ m. SetsOnly (IsRousingOf READER reads m a.roles) c b) moment
    (subst (λ roles. SetsOnly (IsRousingOf READER reads c.moment roles) c b) keeps.roles
    (reader READER (subst (λ roles. IsNamedIf roles READER r) (sym keeps.roles) of_reader)))))

-- or the first alone
pub ends_first : (writes reads : ℕ) (t r : Option StageContinuation) (a c : Context)
    → ((role : ℕ) → IsNamedIf a.roles role t → SetsOnly (IsRousingOf role writes a.moment a.roles) a c)
    → OnlyOfEnds writes reads t r a c
ends_first writes reads t r a c main of_main of_reader =
    only_weaker (IsRousingOf MAIN writes a.moment a.roles) (IsOfEnd writes reads a.moment a.roles) a c
    (λ p h. inl h) (main MAIN of_main)

-- or none
pub ends_none : (writes reads : ℕ) (t r : Option StageContinuation) (a : Context) → OnlyOfEnds writes reads t
    r a a
ends_none writes reads t r a of_main of_reader = only_none (IsOfEnd writes reads a.moment a.roles) a

-- events of stages first, and then of the ends
pub in_time : (writes reads : ℕ) (t r : Option StageContinuation) (a c b : Context) → c.moment ≡ a.moment
    → Keeps c b → SetsOnly (IsOfRoleFrom FIRST a.roles) a c → IsNamedIf c.roles MAIN t
    → IsNamedIf c.roles READER r
    → OnlyOfEnds writes reads t r c b → OnlyOfBody writes reads a b
in_time writes reads t r a c b moment keeps first of_main of_reader ends =
    only_trans Such a c b (only_weaker (IsOfRoleFrom FIRST a.roles) Such a c (λ p h. inl h) first) keeps
    (only_weaker (IsOfEnd writes reads a.moment b.roles) Such c b (λ p h. inr h)
    (subst (λ m. SetsOnly (IsOfEnd writes reads m b.roles) c b) moment
    (subst (λ roles. SetsOnly (IsOfEnd writes reads c.moment roles) c b) (sym keeps.roles)
    (ends of_main of_reader))))
  where
    Such : Pending → Type 0
    Such p = IsOfRoleFrom FIRST a.roles p ⊎ IsOfEnd writes reads a.moment b.roles p

pub no_pause : (b : Bool) → pause_if b 0 ≡ 0
no_pause true = refl
no_pause false = refl

pub named_later : (a c : Context) (role : ℕ) (t u : Option StageContinuation) → Keeps a c → u ≡ t
    → IsNamedIf a.roles role t → IsNamedIf c.roles role u
named_later a c role t u keeps same named = subst (λ roles. IsNamedIf roles role u) (sym keeps.roles)
    (subst (IsNamedIf a.roles role) (sym same) named)

-- ---- its stages

-- whatever a stage sets is of one
of_stage : {P : Type 0} (pause : P → ℕ) (first : ℕ) (old new : ChainState P)
    (ts : List (Option StageContinuation)) (at : ℕ) (event : Event) (moment : ℕ) (roles : List Named)
    (p : Pending)
    → MaySet pause first old new ts at event moment roles p → IsOfRoleFrom first roles p
of_stage pause first old new ts at event moment roles p (inl h) =
    record { place = h.at; role_is = h.of_stage.role_is }
of_stage pause first old new ts at event moment roles p (inr (inl (h, goes, ended))) =
    record { place = h.place; role_is = h.telling.role_is }
of_stage pause first old new ts at event moment roles p (inr (inr (h, is))) = record {
  place = h.place;
  role_is = h.telling.role_is;
}

pub stage_only : {P : Type 0} (rest : P → List ℕ → List ℕ) (pause : P → ℕ) (role : ℕ) (event : Event)
    (r q : Relay P) (a b : Context)
    → ((at : ℕ) → role ≡ FIRST + at → IsStage r.driven.chain r.driven.table.items at → Acts rest pause
    at event r.driven q.driven a b) → (IsOfNoStage FIRST role r.driven → IsSame a b)
    → AreNamed a.roles FIRST r.driven.table.items → SetsOnly (IsOfRoleFrom FIRST a.roles) a b
stage_only {P} rest pause role event r q a b acts other named = by_stage (stage_at role r.driven.chain
    r.driven.table.items)
  where
    by_stage : ((at : ℕ) × (role ≡ FIRST + at) × IsStage r.driven.chain r.driven.table.items at) ⊎ ((at : ℕ)
        → role ≡ FIRST + at → IsStage r.driven.chain r.driven.table.items at → ⊥)
        → SetsOnly (IsOfRoleFrom FIRST a.roles) a b
    by_stage (inl (at, is, stage)) =
        only_weaker (MaySet pause FIRST r.driven.chain q.driven.chain (unroused_at event r.driven.table.items
        at) at event a.moment a.roles) (IsOfRoleFrom FIRST a.roles) a b
        (of_stage pause FIRST r.driven.chain q.driven.chain (unroused_at event r.driven.table.items at)
        at event a.moment a.roles)
        ((acts at is stage).only FIRST (named_handled (works_at event) a.roles FIRST at r.driven.table.items
        named))
    by_stage (inr none) = only_same (IsOfRoleFrom FIRST a.roles) a b (ap (λ s. s.pending)
        (other none).log.state)

-- an end keeps its role behind an event of a stage
pub named_others : (ts : List (Option StageContinuation)) (role : ℕ) (t : Option StageContinuation)
    (a b : Context) → KeepsOthers FIRST ts a b → AreNamed a.roles FIRST ts → role < FIRST
    → IsNamedIf a.roles role t
    → IsNamedIf b.roles role t
named_others ts role None a b others named below h = tt
named_others ts role (Some t) a b others named below h =
    (others role (Some (record t { roused = false })) named (inl below) (record {
      named = h;
      event = λ roused.
          absurd (false≢true roused);
    })).named

-- ---- a body begins

-- what a start sets is of a stage
pub starts_in_time : {P : Type 0} (pause : P → ℕ) (c : ChainState P) (moment : ℕ) (a b : Context)
    → SetsOnly (IsRousing pause FIRST c [] moment b.roles) a b → SetsOnly (IsOfRoleFrom FIRST b.roles) a b
starts_in_time pause c moment a b =
    only_weaker (IsRousing pause FIRST c [] moment b.roles) (IsOfRoleFrom FIRST b.roles) a b
    (λ p h. record { place = h.at; role_is = h.of_stage.role_is })

-- nothing was set before
pub set_behind : (Such : Pending → Type 0) (a b c : Context) → b.log.state.pending ≡ a.log.state.pending
    → SetsOnly Such b c → SetsOnly Such a c
set_behind Such a b c same only n p none there = only n p (ap (pending_at n) same ∙ none) there

-- and so is what its first step sets, while the stages run
pub begins_in_time : {P : Type 0} (step : BodyStep) (d e : DrivenChain P) (a b c f : Context)
    → b.log.state.pending ≡ a.log.state.pending → SetsOnly (IsOfRoleFrom FIRST c.roles) b c
    → IsDrivenWhile FIRST d c.log.state.pending c.roles → StepsChain step 1 d e c f → e.running ≡ true
    → SetsOnly (IsOfRoleFrom FIRST f.roles) a f
begins_in_time step d e a b c f same started driven steps runs =
    let named = of_stages_named c.log.state.pending c.roles FIRST d.table.items
    (driven (steps.falls runs)).of_stages in
    subst (λ roles. SetsOnly (IsOfRoleFrom FIRST roles) a f) (sym steps.adds.keeps.roles)
    (only_trans (IsOfRoleFrom FIRST c.roles) a c f (set_behind (IsOfRoleFrom FIRST c.roles) a b c same
    started) steps.adds.keeps (steps.only FIRST named))

-- the ends are roused behind that, at once
pub body_in_time : {P : Type 0} {stages : ℕ} (step : BodyStep) (t : Option StageContinuation) (m s : Relay P)
    (a c b : Context) → BeginsRelay step stages m a c → s.driven ≡ m.driven → AddsSome 2 c b
    → (m.driven.running ≡ true → SetsOnly (IsOfRoleFrom FIRST c.roles) a c)
    → OnlyOfEnds (pause_if (is_late step) 0) (pause_if (is_late step) 0) t m.reader c b → BeginsInTime t s a b
body_in_time step t m s a c b begins same adds first ends runs of_main =
    only_trans Such a c b (only_weaker (IsOfRoleFrom FIRST c.roles) Such a c
    (λ p h. inl (subst (λ roles. IsOfRoleFrom FIRST roles p) (sym adds.keeps.roles) h))
    (first (sym (ap (λ d. d.running) same) ∙ runs)))
    adds.keeps
    (only_weaker (IsOfEnd 0 0 a.moment b.roles) Such c b (λ p h. inr h)
    (subst (λ n. SetsOnly (IsOfEnd n n a.moment b.roles) c b) (no_pause (is_late step))
    (subst (λ m. SetsOnly (IsOfEnd (pause_if (is_late step) 0) (pause_if (is_late step) 0) m b.roles) c b)
    begins.chain.within.grows.moment
    (subst (λ roles. SetsOnly (IsOfEnd (pause_if (is_late step) 0) (pause_if (is_late step) 0) c.moment roles)
    c b) (sym adds.keeps.roles)
    (ends (named_made t of_main) (named_of c.log.state.pending c.roles READER m.reader begins.of_reader))))))
  where
    Such : Pending → Type 0
    Such p = IsOfRoleFrom FIRST b.roles p ⊎ IsOfEnd 0 0 a.moment b.roles p

    named_made : (u : Option StageContinuation) → IsNamedIf a.roles MAIN u → IsNamedIf c.roles MAIN u
    named_made None h = tt
    named_made (Some u) h =
        (begins.chain.made MAIN (Some (record u { roused = false })) (record {
          named = h;
          event = λ roused.
              absurd (false≢true roused);
        })).named

-- ---- a continuation is made

pub made_acts : (a b : Context) (n : ℕ) → Grows a b → b.log.state.held ≡ true
    → SameEvents a.log.state b.log.state → ActsWithin n a b
made_acts a b n grows turn events = record {
  grows = grows;
  turn = turn;
  plain = λ plain. subst AllPlain (sym events.pending) plain;
  few = record { next = omega (arith, events.next); pending = omega (arith, ap length events.pending) };
}
