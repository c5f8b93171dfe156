-- Which events the calls of a handler set.
use Rattle.std.proofs.Common.{◌≡◌, ◌≢◌, ◌+◌, ◌-◌, ◌⊎◌, inl, inr, ℕ, zero, suc, List, [], ◌∷◌, true, false, Option, Some, None, Result, Ok, Err, ◌<◌, ◌≤◌, length, get_or, eqb, arith, refl, sym, ap, subst, ◌∙◌}
use Rattle.std.proofs.lemmas.Bool.Decides.{eqb_tells}
use Rattle.ts_journal.specs.declared.entry.ContKey.{ContKey}
use Rattle.ts_journal.specs.declared.entry.Event.{Event}
use Rattle.ts_journal.specs.declared.entry.Pending.{Pending}
use Rattle.ts_journal.specs.State.{pending_at}
use Rattle.ts_group.specs.declared.action.Action.{Action}
use Rattle.ts_group.specs.declared.action.Named.{Named}
use Rattle.ts_group.specs.declared.action.SetFault.{SetFault}
use Rattle.ts_group.specs.Context.{Context, role_at}
use Rattle.ts_link.specs.Moments.{moment_after}
use Rattle.ts_group.specs.Acts.{Sets}
use Rattle.ts_group.specs.Changes.{IsLess}
use Rattle.ts_group.specs.Entries.{Grows}
use Rattle.ts_group.proofs.Grows.{grows_refl}
use Rattle.ts_transform.proofs.Kept.{few_refl}
use Rattle.ts_transform.specs.declared.continuation.StageContinuation.{StageContinuation}
use Rattle.ts_transform.specs.Driving.{works_at, AreOfStages, IsNamedIf, AreNamed, IsRousedIf, Keeps, Lessens, RousesAt, SetsOnly, IsWorkOf, IsWorkOfIf, IsRousingOf, all_unroused, unroused, error_passed, changed}

-- nothing was set
pub only_same : (Such : Pending → Type 0) (a b : Context) → b.log.state.pending ≡ a.log.state.pending
    → SetsOnly Such a b
only_same Such a b same n p none some = absurd
    (let wrong : None ≡ Some p = sym none ∙ ap (pending_at n) (sym same) ∙ some in cc)

pub only_none : (Such : Pending → Type 0) (a : Context) → SetsOnly Such a a
only_none Such a = only_same Such a a refl

-- one step after another
pub only_trans : (Such : Pending → Type 0) (a b c : Context) → SetsOnly Such a b → Keeps b c
    → SetsOnly Such b c → SetsOnly Such a c
only_trans Such a b c first keeps second n p none some = by_middle (pending_at n b.log.state.pending) refl
  where
    by_middle : (o : Option Pending) → pending_at n b.log.state.pending ≡ o → Such p
    by_middle None is = second n p is some
    by_middle (Some q) is = subst Such (let both : Some q ≡ Some p = sym (keeps.pending n q is) ∙ some in cc)
        (first n q none is)

-- the last of which sets nothing
pub only_less : (Such : Pending → Type 0) (a b c : Context) → SetsOnly Such a b → Lessens b c
    → SetsOnly Such a c
only_less Such a b c first less n p none some = first n p none (less.less.from n p some)

pub only_weaker : (Such Other : Pending → Type 0) (a b : Context) → ((p : Pending) → Such p → Other p)
    → SetsOnly Such a b → SetsOnly Other a b
only_weaker Such Other a b weaker only n p none some = weaker p (only n p none some)

-- one event was set, or none
pub set_only : (a b : Context) (r : Result Action SetFault) (key : ContKey) (event : Event) (due : ℕ)
    (Such : Pending → Type 0) → Sets a.log b.log r key event due 0
    → ((p : Pending) → p.key ≡ key → p.event ≡ event → p.due ≡ due → Such p) → SetsOnly Such a b
set_only a b (Err e) key event due Such h such n p none some = only_same Such a b
    (ap (λ s. s.pending) h.err.state) n p none some
set_only a b (Ok x) key event due Such h such n p none some = by_number (eqb_tells n x.series)
  where
    by_number : ((eqb n x.series ≡ true) × (n ≡ x.series)) ⊎ ((eqb n x.series ≡ false) × (n ≢ x.series))
        → Such p
    by_number (inl (t, is)) =
        let both : Some p ≡ Some (record {
          number = x.series;
          key = key;
          event = event;
          due = due;
          series =
              x.series;
          period = 0;
        }) = sym some ∙ ap (λ k. pending_at k b.log.state.pending) is ∙ h.there in
        let same : p ≡ record {
          number = x.series;
          key = key;
          event = event;
          due = due;
          series = x.series;
          period = 0;
        } = cc in
        such p (ap (λ q. q.key) same) (ap (λ q. q.event) same) (ap (λ q. q.due) same)
    by_number (inr (t, other)) = absurd (let wrong : None ≡ Some p = sym none ∙ sym (h.others n other) ∙ some
        in cc)

-- an event was set at which a stage works, in time
pub set_work : {event : Event} {due : ℕ} (a b : Context) (r : Result Action SetFault) (key : ContKey)
    (pause : ℕ) → Sets a.log b.log r key event due 0 → works_at event ≡ true
    → (moment_after a.moment pause ≤ due) × (due ≤ a.moment + pause)
    → SetsOnly (IsWorkOf key pause a.moment) a b
set_work {event = event} {due = due} a b r key pause h works soon =
    set_only a b r key event due (IsWorkOf key pause a.moment) h
    (λ p of_key is when. record {
      of_key = of_key;
      works = ap works_at is ∙ works;
      due = (
        subst (λ d. moment_after a.moment pause ≤ d) (sym when) soon.0,
        subst (λ d. d ≤ a.moment + pause) (sym when) soon.1,
      );
    })

-- nothing is set where a continuation is destroyed
pub lessens_less : (a b : Context) → Grows a b → b.log.state.held ≡ true → IsLess a.log.state b.log.state
    → Lessens a b
lessens_less a b grows turn less = record {
  grows = grows;
  turn = turn;
  plain = less.plain;
  few = record { next = omega (arith, less.next); pending = omega (arith, less.count) };
  none = λ n p none some. let wrong : None ≡ Some p = sym none ∙ less.from n p some in cc;
  less = less;
}

pub less_same : (a : Context) → IsLess a.log.state a.log.state
less_same a = record { from = λ n p there. there; next = refl; plain = λ plain. plain; count = omega arith }

pub lessens_none : (a : Context) → a.log.state.held ≡ true → Lessens a a
lessens_none a turn = record {
  grows = grows_refl a;
  turn = turn;
  plain = λ plain. plain;
  few = few_refl a 0;
  none = only_none (λ p. ⊥) a;
  less = less_same a;
}

-- an event of a continuation is one of its role
pub rousing_of : (roles : List Named) (role pause moment : ℕ) (t : StageContinuation) (p : Pending)
    → IsNamedIf roles role (Some t) → IsWorkOf t.key pause moment p → IsRousingOf role pause moment roles p
rousing_of roles role pause moment t p named work = record
    { role_is = ap (λ k. role_at k.index roles) work.of_key ∙ named; works = work.works; due = work.due }

pub slot_rousing : (roles : List Named) (role pause moment : ℕ) (slot : Option StageContinuation)
    (t : StageContinuation) (a b : Context) → slot ≡ Some t
    → SetsOnly (IsWorkOf t.key pause moment) a b → IsNamedIf roles role slot
    → SetsOnly (IsRousingOf role pause moment roles) a b
slot_rousing roles role pause moment slot t a b is only named =
    only_weaker (IsWorkOf t.key pause moment) (IsRousingOf role pause moment roles) a b
    (λ p work. rousing_of roles role pause moment t p (subst (IsNamedIf roles role) is named) work) only

-- one was roused, whatever its role
pub work_of : (pause moment : ℕ) (slot : Option StageContinuation) (t : StageContinuation) (a b : Context)
    → slot ≡ Some t
    → SetsOnly (IsWorkOf t.key pause moment) a b → SetsOnly (IsWorkOfIf slot pause moment) a b
work_of pause moment slot t a b is only = subst (λ s. SetsOnly (IsWorkOfIf s pause moment) a b) (sym is) only

-- so the continuation of its role was
pub work_rousing : (roles : List Named) (pause moment : ℕ) (slot : Option StageContinuation) (a b : Context)
    → SetsOnly (IsWorkOfIf slot pause moment) a b → (role : ℕ) → IsNamedIf roles role slot
    → SetsOnly (IsRousingOf role pause moment roles) a b
work_rousing roles pause moment None a b only role named =
    only_weaker (IsWorkOfIf None pause moment) (IsRousingOf role pause moment roles) a b
    (λ p none. absurd none) only
work_rousing roles pause moment (Some t) a b only role named = slot_rousing roles role pause moment (Some t) t
    a b refl only named

-- the first of a table was roused, or another
pub front_rouses : (pause at : ℕ) (t : Option StageContinuation) (ts all : List (Option StageContinuation))
    (a b : Context) → all ≡ t ∷ ts → at ≡ 0 → (IsRousedIf t → b ≡ a)
    → ((role : ℕ) → IsNamedIf a.roles role t → SetsOnly (IsRousingOf role pause a.moment a.roles) a b)
    → RousesAt at pause all a b
front_rouses pause at t ts all a b is front rests only =
    subst (λ us. RousesAt at pause us a b) (sym is) (subst (λ n. RousesAt n pause (t ∷ ts) a b) (sym front) (
      λ roused. subst (λ x. SetsOnly (λ p. ⊥) a x) (sym (rests roused)) (only_none (λ p. ⊥) a),
      λ first named. subst (λ role. SetsOnly (IsRousingOf role pause a.moment a.roles) a b) (omega arith)
          (only first named.0),
    ))

pub rest_rouses : (pause at : ℕ) (t : Option StageContinuation) (ts all : List (Option StageContinuation))
    (a b : Context) → all ≡ t ∷ ts → (at ≡ 0 → ⊥) → RousesAt (at - 1) pause ts a b → RousesAt at pause all a b
rest_rouses pause at t ts all a b is behind (rests, only) =
    let next : suc (at - 1) ≡ at = omega (arith, behind) in
    subst (λ us. RousesAt at pause us a b) (sym is) (subst (λ n. RousesAt n pause (t ∷ ts) a b) next (
      rests,
      λ first named. subst (λ role. SetsOnly (IsRousingOf role pause a.moment a.roles) a b)
          (omega arith) (only (first + 1) named.1),
    ))

-- the role of the continuation at a place
pub named_slot : (roles : List Named) (role at : ℕ) (ts : List (Option StageContinuation))
    (o : Option StageContinuation) (t : StageContinuation) → at < length ts → get_or ts at o ≡ Some t
    → AreNamed roles role ts
    → role_at t.key.index roles ≡ Some (role + at)
named_slot roles role at [] o t below is named = absurd (omega (arith, below))
named_slot roles role zero (u ∷ ts) o t below is (here, others) =
    let one : IsNamedIf roles role (Some t) = subst (IsNamedIf roles role) is here in
    one ∙ ap Some (omega arith)
named_slot roles role (suc at) (u ∷ ts) o t below is (here, others) = named_slot roles (role + 1) at ts o t
    (omega (arith, below)) is others ∙ ap Some (omega arith)

-- the roles stay, whoever is roused
named_one : (roles : List Named) (role : ℕ) (t u : Option StageContinuation) → unroused u ≡ unroused t
    → IsNamedIf roles role t → IsNamedIf roles role u
named_one roles role t None same named = tt
named_one roles role None (Some u) same named = absurd
    (let wrong : Some (record u { roused = false }) ≡ None = same in cc)
named_one roles role (Some t) (Some u) same named =
    let both : Some (record u { roused = false }) ≡ Some (record t { roused = false }) = same in
    let one : record u { roused = false } ≡ record t { roused = false } = cc in
    ap (λ v. role_at v.key.index roles) one ∙ named

pub named_same : (roles : List Named) (role : ℕ) (ts us : List (Option StageContinuation))
    → all_unroused us ≡ all_unroused ts → AreNamed roles role ts → AreNamed roles role us
named_same roles role ts [] same named = tt
named_same roles role [] (u ∷ us) same named = absurd
    (let wrong : unroused u ∷ all_unroused us ≡ [] = same in cc)
named_same roles role (t ∷ ts) (u ∷ us) same (here, others) =
    let both : unroused u ∷ all_unroused us ≡ unroused t ∷ all_unroused ts = same in
    let head : unroused u ≡ unroused t = cc in
    let tail : all_unroused us ≡ all_unroused ts = cc in
    (named_one roles role t u head here, named_same roles (role + 1) ts us tail others)

-- nor do they change where an error is passed on
named_passed_one : (roles : List Named) (role : ℕ) (t : Option StageContinuation) → IsNamedIf roles role t
    → IsNamedIf roles role (error_passed t)
named_passed_one roles role None named = tt
named_passed_one roles role (Some t) named = named

named_passed : (roles : List Named) (role at : ℕ) (ts : List (Option StageContinuation))
    → AreNamed roles role ts → AreNamed roles role (changed error_passed ts at)
named_passed roles role at [] named = tt
named_passed roles role zero (t ∷ ts) (here, others) = (named_passed_one roles role t here, others)
named_passed roles role (suc at) (t ∷ ts) (here, others) = (here, named_passed roles (role + 1) at ts others)

pub named_marked : (roles : List Named) (role at : ℕ) (ts us : List (Option StageContinuation))
    → us ≡ changed error_passed ts at → AreNamed roles role ts → AreNamed roles role us
named_marked roles role at ts us is named = subst (AreNamed roles role) (sym is)
    (named_passed roles role at ts named)

pub named_kept : (first : ℕ) (a b : Context) (ts us : List (Option StageContinuation)) → Keeps a b
    → all_unroused us ≡ all_unroused ts → AreNamed a.roles first ts → AreNamed b.roles first us
named_kept first a b ts us keeps same named = subst (λ roles. AreNamed roles first us) (sym keeps.roles)
    (named_same a.roles first ts us same named)

-- continuations of stages have their roles
pub of_stages_named : (pending : List Pending) (roles : List Named) (role : ℕ)
    (ts : List (Option StageContinuation)) → AreOfStages pending roles role ts → AreNamed roles role ts
of_stages_named pending roles role [] s = tt
of_stages_named pending roles role (None ∷ ts) (here, others) =
    (tt, of_stages_named pending roles (role + 1) ts others)
of_stages_named pending roles role (Some t ∷ ts) (here, others) =
    (here.named, of_stages_named pending roles (role + 1) ts others)

pub stages_named : (first : ℕ) (a : Context) (ts : List (Option StageContinuation))
    → AreOfStages a.log.state.pending a.roles first ts → AreNamed a.roles first ts
stages_named first a ts s = of_stages_named a.log.state.pending a.roles first ts s
