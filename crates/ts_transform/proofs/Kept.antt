-- What the calls of a handler leave of the events and the roles of stages.
use Rattle.std.proofs.Common.{length, ◌≡◌, ℕ, zero, suc, ◌+◌, ◌≤◌, List, [], ◌∷◌, Bool, true, false, Option, Some, None, Result, Ok, Err, OnOk, IfOk, IfErr, arith, refl, sym, ap, subst, ◌∙◌, if◌then◌else◌, IsErrAnd}
use Rattle.std.specs.Prelude.{⊤}
use Rattle.ts_journal.specs.declared.entry.ContKey.{ContKey}
use Rattle.ts_journal.specs.declared.entry.Event.{Event}
use Rattle.ts_journal.specs.declared.entry.Event.TheVariants.{Immediate, Timeout}
use Rattle.ts_journal.specs.State.{IsLive}
use Rattle.ts_group.specs.declared.action.Action.{Action}
use Rattle.ts_group.specs.declared.action.SetFault.{SetFault}
use Rattle.ts_group.specs.declared.action.SetFault.TheVariants as F
use Rattle.ts_group.specs.Context.{Context, role_at}
use Rattle.ts_link.specs.Moments.{moment_after}
use Rattle.ts_group.specs.Entries.{Grows}
use Rattle.ts_group.proofs.Grows.{grows_refl, grows_trans}
use Rattle.ts_group.specs.Acts.{Sets}
use Rattle.ts_transform.specs.Driving.{works_at, ActsWithin, AddsEvents, HasEvent, HasKind, HasEventIf, IsCause, IsOfStage, IsOfStageIf, AreOfStages, IsRoused, Keeps, KeepsStage, KeepsStages, Lessens, SetsFew, all_unroused, unroused}
use Rattle.ts_transform.specs.Seats.{KeepsSeated}
use Rattle.ts_transform.specs.declared.continuation.StageContinuation.{StageContinuation}
use Rattle.ts_transform.proofs.Seating.{seated_behind, seated_front}

pub keeps_refl : (a : Context) → a.log.state.held ≡ true → Keeps a a
keeps_refl a turn = record { pending = λ n p h. h; roles = refl; plain = λ h. h; turn = turn; live = refl }

pub keeps_trans : {a b c : Context} → Keeps a b → Keeps b c → Keeps a c
keeps_trans h k = record {
  pending = λ n p there. k.pending n p (h.pending n p there);
  roles = k.roles ∙ h.roles;
  plain = λ plain. k.plain (h.plain plain);
  turn = k.turn;
  live = k.live ∙ h.live;
}

pub few_trans : {a b c : Context} (m n : ℕ) → SetsFew m a b → SetsFew n b c → SetsFew (m + n) a c
few_trans m n h k = record {
  next = omega (arith, h.next, k.next);
  pending = omega
      (arith, h.pending, k.pending);
}

-- an event was set, or none
pub set_keeps : (a b : Context) (r : Result Action SetFault) (key : ContKey) (event : Event) (due : ℕ)
    → Sets a.log b.log r key event due 0 → b.roles ≡ a.roles → Keeps a b
set_keeps a b r key event due h roles = record
    { pending = h.more.stays; roles = roles; plain = h.plain refl; turn = h.turn; live = h.keys }

-- so the call leaves what one leaves that sets an event
pub set_cause : (a b : Context) (r : Result Action SetFault) (key : ContKey) (event : Event) (due : ℕ)
    → Sets a.log b.log r key event due 0
    → IfErr r (λ fault. IsCause (IsLive b.log.state.live key) fault b)
set_cause a b (Ok action) key event due h = tt
set_cause a b (Err F.NoMemory) key event due h = tt
set_cause a b (Err F.Dead) key event due h = λ live. h.dead refl (subst (λ l. IsLive l key) h.keys live)
set_cause a b (Err F.Spent) key event due h = let same : b.log.state.next ≡ a.log.state.next = ap
    (λ s. s.next) h.err.state in omega (arith, same, h.spent refl)

pub set_few : (a b : Context) (r : Result Action SetFault) (key : ContKey) (event : Event) (due : ℕ)
    → Sets a.log b.log r key event due 0 → SetsFew 1 a b
set_few a b r key event due h = record { next = h.more.next; pending = h.more.count }

pub set_event : (a b : Context) (r : Result Action SetFault) (key : ContKey) (event : Event) (due : ℕ)
    → Sets a.log b.log r key event due 0 → works_at event ≡ true
    → OnOk r (HasEvent b.log.state.pending key)
set_event a b (Ok action) key event due h works = record
    { event = _; there = h.there; of_key = refl; works = works }
set_event a b (Err e) key event due h works = tt

pub works_soon : (b : Bool) → works_at (if b then Immediate else Timeout) ≡ true
works_soon true = refl
works_soon false = refl

pub few_refl : (a : Context) (n : ℕ) → SetsFew n a a
few_refl a n = record { next = omega arith; pending = omega arith }

pub set_adds : (a b : Context) (r : Result Action SetFault) (key : ContKey) (event : Event) (due : ℕ)
    → Grows a b → Sets a.log b.log r key event due 0 → b.roles ≡ a.roles
    → AddsEvents 1 (IsLive b.log.state.live key) r a b
set_adds a b r key event due grows h roles =
    record {
      grows = grows;
      keeps = set_keeps a b r key event due h roles;
      few = set_few a b r key event due
          h;
      cause = set_cause a b r key event due h;
    }

-- nothing was set
pub adds_none : {Live : Type 0} (a : Context) (n : ℕ) → a.log.state.held ≡ true
    → AddsEvents {T = ⊤} n Live (Ok tt) a a
adds_none a n turn = record {
  grows = grows_refl a;
  keeps = keeps_refl a turn;
  few = few_refl a n;
  cause = tt;
}

-- or nothing could be
pub adds_dead : {Live : Type 0} (a : Context) (n : ℕ) → a.log.state.held ≡ true → (Live → ⊥)
    → AddsEvents {T = ⊤} n Live (Err F.Dead) a a
adds_dead a n turn dead = record {
  grows = grows_refl a;
  keeps = keeps_refl a turn;
  few = few_refl a n;
  cause
      = dead;
}

pub adds_lacks : {Live : Type 0} (a : Context) (n : ℕ) → a.log.state.held ≡ true
    → AddsEvents {T = ⊤} n Live (Err F.NoMemory) a a
adds_lacks a n turn = record {
  grows = grows_refl a;
  keeps = keeps_refl a turn;
  few = few_refl a n;
  cause = tt;
}

-- at most so many events were set, so at most more
pub few_more : {a b : Context} (m n : ℕ) → m ≤ n → SetsFew m a b → SetsFew n a b
few_more m n more h = record { next = omega (arith, more, h.next); pending = omega (arith, more, h.pending) }

pub adds_more : {T Live : Type 0} {a b : Context} (m n : ℕ) (r : Result T SetFault) → m ≤ n
    → AddsEvents m Live r a b → AddsEvents n Live r a b
adds_more m n r more h = record {
  grows = h.grows;
  keeps = h.keeps;
  few = few_more m n more h.few;
  cause =
      h.cause;
}

-- where more continuations ought to be live, those ought to be
pub cause_weaker : {Live Other : Type 0} (fault : SetFault) (now : Context) → (Other → Live)
    → IsCause Live fault now → IsCause Other fault now
cause_weaker F.NoMemory now has cause = tt
cause_weaker F.Dead now has cause = λ other. cause (has other)
cause_weaker F.Spent now has cause = cause

pub err_weaker : {T Live Other : Type 0} (r : Result T SetFault) (now : Context) → (Other → Live)
    → IfErr r (λ fault. IsCause Live fault now) → IfErr r (λ fault. IsCause Other fault now)
err_weaker (Ok x) now has cause = tt
err_weaker (Err fault) now has cause = cause_weaker fault now has cause

pub adds_weaker : {T Live Other : Type 0} {a b : Context} (m : ℕ) (r : Result T SetFault) → (Other → Live)
    → AddsEvents m Live r a b → AddsEvents m Other r a b
adds_weaker {b = b} m r has h = record {
  grows = h.grows;
  keeps = h.keeps;
  few = h.few;
  cause = err_weaker r b
      has h.cause;
}

-- the value of a call that set its event counts for nothing
pub adds_ok : {T U Live Other : Type 0} {a b : Context} (m : ℕ) (x : T) (y : U)
    → AddsEvents {T = T} m Live (Ok x) a b → AddsEvents {T = U} m Other (Ok y) a b
adds_ok m x y h = record { grows = h.grows; keeps = h.keeps; few = h.few; cause = tt }

-- a call that could not set its event ends those after it
pub adds_err : {T U Live : Type 0} {a b : Context} (m n : ℕ) (r : Result U SetFault) (fault : SetFault)
    → IsErrAnd r (λ e. e ≡ fault) → m ≤ n → AddsEvents {T = T} m Live (Err fault) a b
    → AddsEvents {T = U} n Live r a b
adds_err m n (Ok x) fault is more h = absurd is
adds_err {U = U} {Live = Live} {a = a} {b = b} m n (Err e) fault is more h =
    subst (λ f. AddsEvents {T = U} n Live (Err f) a b) (sym is)
    (record { grows = h.grows; keeps = h.keeps; few = few_more m n more h.few; cause = h.cause })

-- one call after another
pub adds_then : {T U Live Other : Type 0} {a b c : Context} (m n k : ℕ) (q : Result T SetFault)
    (r : Result U SetFault) → m + n ≤ k → AddsEvents m Live q a b → AddsEvents n Other r b c
    → AddsEvents k Other r a c
adds_then m n k q r most h l = record {
  grows = grows_trans h.grows l.grows;
  keeps = keeps_trans h.keeps l.keeps;
  few = few_more (m + n) k most (few_trans m n h.few l.few);
  cause = l.cause;
}

-- what a handler leaves that sets nothing, that sets events, or that destroys a continuation
pub acts_none : (n : ℕ) (a : Context) → a.log.state.held ≡ true → ActsWithin n a a
acts_none n a turn = record { grows = grows_refl a; turn = turn; plain = λ plain. plain; few = few_refl a n }

pub acts_adds : {T Live : Type 0} (m n : ℕ) (r : Result T SetFault) (a b : Context) → m ≤ n
    → AddsEvents m Live r a b → ActsWithin n a b
acts_adds m n r a b more h = record {
  grows = h.grows;
  turn = h.keeps.turn;
  plain = h.keeps.plain;
  few =
      few_more m n more h.few;
}

pub acts_then : {a b c : Context} (m n k : ℕ) → m + n ≤ k → ActsWithin m a b → ActsWithin n b c
    → ActsWithin k a c
acts_then m n k most h l = record {
  grows = grows_trans h.grows l.grows;
  turn = l.turn;
  plain = λ plain.
      l.plain (h.plain plain);
  few = few_more (m + n) k most (few_trans m n h.few l.few);
}

pub acts_lessens : (n : ℕ) (a b : Context) → Lessens a b → ActsWithin n a b
acts_lessens n a b h = record {
  grows = h.grows;
  turn = h.turn;
  plain = h.plain;
  few = few_more 0 n
      (omega arith) h.few;
}

-- an event that is pending stays so
pub has_event_kept : (a b : Context) (key : ContKey) → Keeps a b → HasEvent a.log.state.pending key
    → HasEvent b.log.state.pending key
has_event_kept a b key keeps h = record {
  event = h.event;
  there = keeps.pending h.event.number h.event
      h.there;
  of_key = h.of_key;
  works = h.works;
}

pub kept : (a b : Context) → Keeps a b → (role : ℕ) (t : StageContinuation)
    → IsOfStage a.log.state.pending a.roles role t → IsOfStage b.log.state.pending b.roles role t
kept a b keeps role t h = record {
  named = ap (role_at t.key.index) keeps.roles ∙ h.named;
  event = λ roused. has_event_kept a b t.key keeps (h.event roused);
}

pub kept_if : (a b : Context) → Keeps a b → (role : ℕ) (t : Option StageContinuation)
    → IsOfStageIf a.log.state.pending a.roles role t → IsOfStageIf b.log.state.pending b.roles role t
kept_if a b keeps role None h = tt
kept_if a b keeps role (Some t) h = kept a b keeps role t h

pub kept_all : (a b : Context) → Keeps a b → (role : ℕ) (ts : List (Option StageContinuation))
    → AreOfStages a.log.state.pending a.roles role ts → AreOfStages b.log.state.pending b.roles role ts
kept_all a b keeps role [] h = tt
kept_all a b keeps role (t ∷ ts) (here, others) =
    (kept_if a b keeps role t here, kept_all a b keeps (role + 1) ts others)

-- all stages keep their continuations where none is roused
pub stages_same : (a : Context) (ts : List (Option StageContinuation)) → KeepsStages a a ts ts
stages_same a ts = record {
  of_stages = λ first h. h;
  still = λ j roused. roused;
  same = refl;
  len = refl;
  seated = λ others seated. seated;
}

pub stages_kept : (a b : Context) → Keeps a b → (ts : List (Option StageContinuation)) → KeepsSeated ts ts a b
    → KeepsStages a b ts ts
stages_kept a b keeps ts seated = record {
  of_stages = λ first h. kept_all a b keeps first ts h;
  still =
      λ j roused. roused;
  same = refl;
  len = refl;
  seated = seated;
}

pub stages_trans : {a b c : Context} {ts us vs : List (Option StageContinuation)} → KeepsStages a b ts us
    → KeepsStages b c us vs → KeepsStages a c ts vs
stages_trans h k = record {
  of_stages = λ first s. k.of_stages first (h.of_stages first s);
  still = λ j roused. k.still j (h.still j roused);
  same = k.same ∙ h.same;
  len = k.len ∙ h.len;
  seated = λ others seated. k.seated others (h.seated others seated);
}

-- a continuation was roused: its event is pending
pub roused_if : (a b : Context) → Keeps a b → (role : ℕ) (t : StageContinuation)
    → HasEvent b.log.state.pending t.key → IsOfStage a.log.state.pending a.roles role t
    → IsOfStage b.log.state.pending b.roles role (record t { roused = true })
roused_if a b keeps role t has h = record {
  named = ap (role_at t.key.index) keeps.roles ∙ h.named;
  event =
      λ roused. has;
}

-- the first continuation of a table was roused
pub roused_front : (a b : Context) → Keeps a b
    → (role : ℕ) (t t' : Option StageContinuation) (ts all : List (Option StageContinuation)) → all ≡ t ∷ ts
    → (IsOfStageIf a.log.state.pending a.roles role t → IsOfStageIf b.log.state.pending b.roles role t')
    → AreOfStages a.log.state.pending a.roles role all
    → IsOfStageIf b.log.state.pending b.roles role t' × AreOfStages b.log.state.pending b.roles (role + 1)
    ts
roused_front a b keeps role t t' ts all is here h =
    let both : AreOfStages a.log.state.pending a.roles role (t ∷ ts) = subst
    (AreOfStages a.log.state.pending a.roles role) is h in
    (here both.0, kept_all a b keeps (role + 1) ts both.1)

-- so the stages are kept where the first was roused
stages_front_same : (a b : Context) → Keeps a b
    → (t t' : Option StageContinuation) (ts : List (Option StageContinuation)) → KeepsStage a b t t'
    → KeepsSeated (t ∷ []) (t' ∷ []) a b → KeepsStages a b (t ∷ ts) (t' ∷ ts)
stages_front_same a b keeps t t' ts h seated = record {
  seated = seated_front t t' ts a b seated;
  of_stages = λ first s. (h.of_stage first s.0, kept_all a b keeps (first + 1) ts s.1);
  still = still;
  same = ap (λ u. u ∷ all_unroused ts) h.same;
  len = refl;
}
  where
    still : (j : ℕ) → IsRoused (t ∷ ts) j → IsRoused (t' ∷ ts) j
    still zero roused = h.still roused
    still (suc j) roused = roused

pub stages_front : (a b : Context) → Keeps a b
    → (t t' : Option StageContinuation) (ts all : List (Option StageContinuation)) → all ≡ t ∷ ts
    → KeepsStage a b t t' → KeepsSeated (t ∷ []) (t' ∷ []) a b → KeepsStages a b all (t' ∷ ts)
stages_front a b keeps t t' ts all is h seated = subst (λ us. KeepsStages a b us (t' ∷ ts)) (sym is)
    (stages_front_same a b keeps t t' ts h seated)

-- or one behind it
stages_behind_same : (a b : Context) → Keeps a b
    → (t : Option StageContinuation) (us vs : List (Option StageContinuation)) → KeepsStages a b us vs
    → KeepsStages a b (t ∷ us) (t ∷ vs)
stages_behind_same a b keeps t us vs h = record {
  of_stages = λ first s. (kept_if a b keeps first t s.0, h.of_stages (first + 1) s.1);
  still = still;
  same = ap (λ xs. unroused t ∷ xs) h.same;
  len = let more : length vs ≡ length us = h.len in omega (arith, more);
  seated = seated_behind t us vs a b h.seated;
}
  where
    still : (j : ℕ) → IsRoused (t ∷ us) j → IsRoused (t ∷ vs) j
    still zero roused = roused
    still (suc j) roused = h.still j roused

pub stages_behind : (a b : Context) → Keeps a b
    → (t : Option StageContinuation) (us vs all : List (Option StageContinuation)) → all ≡ t ∷ us
    → KeepsStages a b us vs → KeepsStages a b all (t ∷ vs)
stages_behind a b keeps t us vs all is h = subst (λ xs. KeepsStages a b xs (t ∷ vs)) (sym is)
    (stages_behind_same a b keeps t us vs h)

-- the first continuation of a table was marked
pub marked_front : (r : Result (Option ContKey) SetFault) (t t' : Option StageContinuation)
    (ts all : List (Option StageContinuation)) → all ≡ t ∷ ts
    → IfOk r (λ key. (a b : Context) → Keeps a b → HasEventIf b.log.state.pending key → (role : ℕ) →
    IsOfStageIf a.log.state.pending a.roles role t → IsOfStageIf b.log.state.pending b.roles role t')
    → IfOk r (λ key. (a b : Context) → Keeps a b → HasEventIf b.log.state.pending key → (role : ℕ) →
    AreOfStages a.log.state.pending a.roles role all
    → IsOfStageIf b.log.state.pending b.roles role t' × AreOfStages b.log.state.pending b.roles (role + 1) ts)
marked_front (Ok key) t t' ts all is here = λ a b keeps has role s. roused_front a b keeps role t t' ts all is
    (here a b keeps has role) s
marked_front (Err e) t t' ts all is here = tt

-- a call is due at once, and another event after its time
pub soon_now : (moment : ℕ) → (moment_after moment 0 ≤ moment) × (moment ≤ moment + 0)
soon_now moment = (omega arith, omega arith)

pub soon_later : (moment pause : ℕ) → (moment_after moment pause ≤ moment_after moment pause) ×
    (moment_after moment pause ≤ moment + pause)
soon_later moment pause = (omega arith, omega arith)

-- a stage was told of an event
pub set_kind : (a b : Context) (r : Result Action SetFault) (key : ContKey) (event : Event) (due : ℕ)
    → Sets a.log b.log r key event due 0 → OnOk r (HasKind b.log.state.pending key event)
set_kind a b (Ok action) key event due h = record { event = _; there = h.there; of_key = refl; is = refl }
set_kind a b (Err e) key event due h = tt
