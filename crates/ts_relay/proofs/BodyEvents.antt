-- The events of the continuations while a body is passed on.
use Rattle.std.proofs.Common.{◌≡◌, ◌≢◌, ℕ, ◌≤◌, ◌⊎◌, inl, inr, List, [], ◌∷◌, Bool, true, false, Option, Some}
use Rattle.std.proofs.Common.{None, Result, refl, sym, ap, subst, ◌∙◌, arith}
use Rattle.std.specs.Prelude.{◌+◌, ⊤}
use Rattle.ts_config.specs.declared.setup.Setup.{Setup}
use Rattle.ts_hooks.specs.declared.txn_end.TxnEnd.TheVariants as E
use Rattle.ts_journal.specs.declared.entry.TheConstants.{GREATEST}
use Rattle.ts_journal.specs.declared.entry.ContKey.{ContKey}
use Rattle.ts_journal.specs.declared.entry.Event.{Event}
use Rattle.ts_journal.specs.declared.entry.Pending.{Pending}
use Rattle.ts_group.specs.declared.action.SetFault.{SetFault}
use Rattle.ts_group.proofs.Grows.{grows_refl}
use Rattle.ts_group.specs.Context.{Context, IsOrderly}
use Rattle.ts_transform.specs.Driving.{ActsWithin, IsHandled, IsRousedIf, KeepsOthers, unroused, works_at}
use Rattle.ts_transform.specs.declared.driven.DrivenChain.{DrivenChain}
use Rattle.ts_transform.specs.declared.continuation.StageContinuation.{StageContinuation}
use Rattle.ts_transform.proofs.Joined.{joined_driven, joined_ends, joined_quiet, joined_reader, joined_stage}
use Rattle.ts_transform.proofs.Joined.{joined_writer, runs_before}
use Rattle.ts_transform.specs.Seats.{HasKey, KeepsSeated}
use Rattle.ts_transform.proofs.Seating.{seated_as, seated_behind, seated_then}
use Rattle.ts_transform.proofs.Kept.{acts_none, acts_then, few_refl, keeps_refl, kept_all}
use Rattle.ts_transform.specs.Acting.{StillGives}
use Rattle.ts_transform.specs.Driven.{HandlesDriven, Loses}
use Rattle.ts_transform.specs.Flow.{ChainState, EndsInOrder}
use Rattle.ts_transform.specs.declared.transform.Transform as transform
use Rattle.ts_wire.specs.Place.{Place}
use Rattle.ts_transform.specs.Carrying.{IsJoined}
use Rattle.ts_phases.specs.View.{View}
use Rattle.ts_phases.specs.Ends.{EndFact}
use Rattle.ts_relay.specs.Feeding.{OnGoes}
use Rattle.ts_relay.specs.Finishing.{LeadsBody}
use Rattle.ts_relay.specs.Relaying.{DrivesOn, RelaysBody, StepsChain, set_by_stage, step_after}
use Rattle.ts_relay.specs.Entering.{BeginsRelay, BeginsRunning}
use Rattle.ts_relay.specs.Duties.{BeginsBody, DoesOwnWork, EndsRouse, IsBodyCovered, IsBodyJoined, MustReadOn}
use Rattle.ts_relay.specs.Duties.{HandlesBody, RunsOr, SettledAs, SettlesAfter, SettlesBody, TellsDuty}
use Rattle.ts_relay.specs.Duties.{UnlessLacking, WhileGoes, body_seats, relay_seats, set_by_beginning}
use Rattle.ts_relay.specs.declared.last_writes.BodyStep.{BodyStep}
use Rattle.ts_relay.specs.declared.last_writes.BodyStep.TheVariants as S
use Rattle.ts_relay.specs.declared.relay.TheConstants.{MAIN, FIRST, READER}
use Rattle.ts_relay.specs.declared.relay.Relay.{Relay}
use Rattle.ts_relay.specs.declared.relay.Short.{Short}
use Rattle.ts_relay.proofs.Chaining.{drives_after, grows_next}
use Rattle.ts_relay.proofs.Duty.{stage_keeps}
use Rattle.ts_relay.proofs.Relaying.{leads_after, relays_lacks}
use Rattle.ts_relay.proofs.Settling.{only_goes, settled_has, while_on}

-- ---- both ends are roused

covered_by : {P : Type 0} (step : BodyStep) (writes reads : Bool) (v : View) (u : Option StageContinuation)
    (s : Relay P) (b : Context) → TellsDuty writes v s
    → (MustReadOn s → reads ≡ true) → OnGoes step (((writes ≡ true → IsRousedIf u) × (reads ≡ true
    → IsRousedIf s.reader)) ⊎ (GREATEST ≤ b.log.state.next))
    → s.driven.running ≡ true → OnGoes step (IsBodyCovered v u s b.log.state.next)
covered_by S.Goes writes reads v u s b tells must (inl (main, reader)) runs =
    inl (runs, record { writes = λ duty. main (tells.only duty); reads = λ duty. reader (must duty) })
covered_by S.Goes writes reads v u s b tells must (inr spent) runs = inr spent
covered_by S.Lacks writes reads v u s b tells must roused runs = tt
covered_by _ writes reads v u s b tells must roused runs = absurd roused

-- used-up event numbers cover every duty
covered_spent : {P : Type 0} (X : Type 0) (step : BodyStep) (v : View) (u : Option StageContinuation)
    (s : Relay P) (next : ℕ) → OnGoes step X → GREATEST ≤ next → OnGoes step (IsBodyCovered v u s next)
covered_spent X S.Goes v u s next goes spent = inr spent
covered_spent X S.Lacks v u s next goes spent = tt
covered_spent X _ v u s next goes spent = absurd goes

-- what is left once the two ends were roused that must work
pub settles : {P : Type 0} (step : BodyStep) (writes : Bool) (v : View) (t u : Option StageContinuation)
    (r s : Relay P) (a b : Context) → IsOrderly a → TellsDuty writes v r
    → EndsRouse step writes t u r s a b → s ≡ record r { reader = s.reader } → SettlesBody step v t u r s a b
settles step writes v t u r s a b orderly tells (reads, must, only, rouses) same =
    let driven : s.driven ≡ r.driven = ap (λ x. x.driven) same in
    record {
      adds = rouses.adds;
      joined = λ was runs.
          let before = was (sym (ap (λ d. d.running) driven) ∙ runs) in
          subst (λ d. IsJoined d.chain d.table.items u s.reader b.log.state.pending b.roles) (sym driven)
          (joined_ends r.driven.chain r.driven.table.items t u r.reader s.reader a b rouses.adds.keeps
          (rouses.main MAIN) (rouses.reader READER)
          (λ d. record {
            len = d.len;
            of_stages = kept_all a b rouses.adds.keeps FIRST r.driven.table.items
                d.of_stages;
            cover = d.cover;
          }) before);
      covered = by_run step (subst (TellsDuty writes v) (sym same) (record {
        must_send = tells.must_send;
        only = tells.only;
      }))
          (λ duty. must (subst (λ x. MustReadOn x) same duty)) rouses.roused
          (λ runs. ap (λ d. d.running) driven ∙ runs);
      goes = only_goes _ step rouses.roused;
      later = grows_next a b orderly rouses.adds.grows;
      seated = subst (λ d. KeepsSeated (t ∷ r.reader ∷ r.driven.table.items) (u ∷ s.reader ∷ d.table.items) a
          b) (sym driven) (rouses.seated r.driven.table.items);
      rests = λ ends. rouses.rests (λ duty. ends.writes (tells.must_send duty)) (λ duty. ends.reads
          (only duty));
    }
  where
    by_run : (step : BodyStep) → TellsDuty writes v s → (MustReadOn s → reads ≡ true)
        → OnGoes step (((writes ≡ true → IsRousedIf u) × (reads ≡ true → IsRousedIf s.reader))
        ⊎ (GREATEST ≤ b.log.state.next))
        → (r.driven.running ≡ true → s.driven.running ≡ true) → RunsOr r a.log.state.next
        → OnGoes step (IsBodyCovered v u s b.log.state.next)
    by_run step told must roused runs (inl on) = covered_by step writes reads v u s b told must roused
        (runs on)
    by_run step told must roused runs (inr spent) =
        covered_spent _ step v u s b.log.state.next roused (omega (
          arith,
          spent,
          grows_next a b orderly
              rouses.adds.grows,
        ))

-- a step that goes on was settled, and else nothing was done
pub settles_after : {P : Type 0} (step result : BodyStep) (v : View) (t u : Option StageContinuation)
    (r s : Relay P) (a b : Context) → SettledAs step result
    → SettlesBody result v t u r s a b → SettlesAfter step result v t u r s a b
settles_after step result v t u r s a b settled h = record {
  adds = h.adds;
  joined = h.joined;
  covered = λ runs. as_goes step (h.covered runs);
  settled = settled;
  later = h.later;
  seated = h.seated;
  rests = h.rests;
}
  where
    as_goes : (step : BodyStep) → OnGoes result (IsBodyCovered v u s b.log.state.next)
        → WhileGoes step (OnGoes result (IsBodyCovered v u s b.log.state.next))
    as_goes S.Goes goes = goes
    as_goes S.Waits goes = goes
    as_goes _ goes = tt

pub settles_none : {P : Type 0} (step : BodyStep) (v : View) (t : Option StageContinuation) (r : Relay P)
    (a : Context) → a.log.state.held ≡ true → SettledAs step step
    → ((X : Type 0) → WhileGoes step X) → SettlesAfter step step v t t r r a a
settles_none step v t r a turn settled ends = record {
  adds = record { grows = grows_refl a; keeps = keeps_refl a turn; few = few_refl a 2 };
  joined = λ h. h;
  covered = λ runs. ends _;
  settled = settled;
  later = omega arith;
  seated = λ others h. h;
  rests = λ ends. refl;
}

-- where it leads
settled_leads : (setup : Setup) (refuses goes : Type 0) (v : View) (step result : BodyStep)
    → SettledAs step result → (goes → EndFact setup refuses v E.NoMemory)
    → LeadsBody setup refuses goes v step → LeadsBody setup refuses goes v result
settled_leads setup refuses goes v step result settled lacks = settled_has (LeadsBody setup refuses goes v)
    (λ h. h) lacks step result settled

-- ---- an event is handled

-- the stages run on, or the event numbers are used up
runs_or : {P : Type 0} (v : View) (t : Option StageContinuation) (r m : Relay P) (a b : ℕ) → a ≤ b
    → (m.driven.running ≡ r.driven.running) ⊎ (GREATEST ≤ b) → IsBodyCovered v t r a → RunsOr m b
runs_or v t r m a b later (inl same) (inl (runs, roused)) = inl (same ∙ runs)
runs_or v t r m a b later (inr spent) covered = inr spent
runs_or v t r m a b later (inl same) (inr spent) = inr (omega (arith, spent, later))

-- each duty is covered behind the step and its settling
covered_after : {P : Type 0} (step result : BodyStep) (v w : View) (t u : Option StageContinuation)
    (r m s : Relay P) (a b : ℕ) (c : Context) → a ≤ b → DrivesOn step r.driven m.driven c
    → c.log.state.next ≡ b
    → (next : ℕ) → SettledAs step result
    → (RunsOr m b → WhileGoes step (OnGoes result (IsBodyCovered w u s next))) → IsBodyCovered v t r a
    → WhileGoes result (IsBodyCovered w u s next)
covered_after {P} step result v w t u r m s a b c later on is next settled after covered = by_step step on
    settled after
  where
    none : (result step : BodyStep) → result ≡ step → ((X : Type 0) → WhileGoes step X)
        → WhileGoes result (IsBodyCovered w u s next)
    none result step same ends = subst (λ (x : BodyStep). WhileGoes x (IsBodyCovered w u s next)) (sym same)
        (ends _)

    runs : (m.driven.running ≡ r.driven.running) ⊎ (GREATEST ≤ c.log.state.next) → RunsOr m b
    runs h = runs_or v t r m a b later (subst (λ (n : ℕ). (m.driven.running ≡ r.driven.running)
        ⊎ (GREATEST ≤ n)) is h) covered

    by_step : (step : BodyStep) → DrivesOn step r.driven m.driven c → SettledAs step result
        → (RunsOr m b → WhileGoes step (OnGoes result (IsBodyCovered w u s next)))
        → WhileGoes result (IsBodyCovered w u s next)
    by_step S.Goes on settled after = while_on (IsBodyCovered w u s next) result (after (runs on))
    by_step S.Waits on settled after = while_on (IsBodyCovered w u s next) result (after (runs on))
    by_step step on settled after = none result step settled (λ X. tt)

-- so they do behind the step, where it leads on or to the end of a body
runs_after : {P : Type 0} (step result : BodyStep) (v : View) (t : Option StageContinuation) (r m s : Relay P)
    (a next : ℕ) (c : Context) → a ≤ c.log.state.next → c.log.state.next ≤ next
    → DrivesOn step r.driven m.driven c → s.driven ≡ m.driven → SettledAs step result → IsBodyCovered v t r a
    → UnlessLacking result (RunsOr s next)
runs_after step result v t r m s a next c later after on same settled covered =
    settled_has (λ x. UnlessLacking x (RunsOr s next)) (λ h. h) (λ h. tt) step result settled
    (by_step step on)
  where
    kept : RunsOr m c.log.state.next → RunsOr s next
    kept (inl runs) = inl (ap (λ d. d.running) same ∙ runs)
    kept (inr spent) = inr (omega (arith, spent, after))

    runs : (m.driven.running ≡ r.driven.running) ⊎ (GREATEST ≤ c.log.state.next) → RunsOr s next
    runs h = kept (runs_or v t r m a c.log.state.next later h covered)

    by_step : (step : BodyStep) → DrivesOn step r.driven m.driven c → UnlessLacking step (RunsOr s next)
    by_step S.Lacks on = tt
    by_step _ on = runs on

-- an event of a body, from the step at it and its settling
handles_by : {P : Type 0} (role : ℕ) (event : Event) (step result : BodyStep) (v w : View) (t m u : Option
    StageContinuation) (r q s : Relay P) (a c b : Context) → IsOrderly a
    → ActsWithin 4 a c → DrivesOn step r.driven q.driven c
    → ((before : List Pending) → IsHandled before a.log.state.pending a.roles role event → IsBodyJoined t r
    before a.roles → IsBodyJoined m q c.log.state.pending c.roles)
    → KeepsSeated (body_seats t r) (body_seats m q) a c
    → (EndsInOrder true r.driven.chain.stages → EndsInOrder true q.driven.chain.stages)
    → s.driven ≡ q.driven → SettlesAfter step result w m u q s c b → DoesOwnWork role v w
    → HandlesBody result role event v w t u r s a b
handles_by role event step result v w t m u r q s a c b orderly acts on joined seated ordered same after own =
    record {
      acts = acts_then 4 2 6 (omega arith) acts
          (record {
            grows = after.adds.grows;
            turn = after.adds.keeps.turn;
            plain = after.adds.keeps.plain;
            few = after.adds.few;
          });
      joined = λ before handled was. after.joined (joined before handled was);
      covered = covered_after step result v w t u r q s a.log.state.next c.log.state.next c (grows_next a c
          orderly acts.grows) on refl b.log.state.next after.settled after.covered;
      own = own;
      runs = runs_after step result v t r q s a.log.state.next b.log.state.next c (grows_next a c orderly
          acts.grows) after.later on same after.settled;
      seated = seated_then (body_seats t r) (body_seats m q) (body_seats u s) a c b seated after.seated;
      ordered = λ h. subst (λ d. EndsInOrder true d.chain.stages) (sym same) (ordered h);
    }

-- a side is touched by its own end alone
no_work : (role : ℕ) (v w : View) → w ≡ v → DoesOwnWork role v w
no_work role v w same = record {
  main = λ is. ap (λ (x : View). x.origin) same;
  reader = λ is. (ap (λ (x : View). x.client) same, ap (λ (x : View). x.sent) same);
  others = λ not_main not_reader. same;
}

writer_work : (v w : View) → w.origin ≡ v.origin → DoesOwnWork MAIN v w
writer_work v w origin = record {
  main = λ is. origin;
  reader = λ is. absurd (let wrong : MAIN ≡ READER = is in omega (arith, wrong));
  others = λ not_main not_reader. absurd (not_main refl);
}

reader_work : (v w : View) → w.client ≡ v.client → w.sent ≡ v.sent → DoesOwnWork READER v w
reader_work v w client sent = record {
  main = λ is. absurd (let wrong : READER ≡ MAIN = is in omega (arith, wrong));
  reader = λ is. (client, sent);
  others = λ not_main not_reader. absurd (not_reader refl);
}

-- one at which nobody works
runs_quiet : {P : Type 0} (v : View) (t : Option StageContinuation) (r : Relay P) (next : ℕ)
    → IsBodyCovered v t r next → RunsOr r next
runs_quiet v t r next (inl (runs, roused)) = inl runs
runs_quiet v t r next (inr spent) = inr spent

pub handles_quiet : {P : Type 0} (role : ℕ) (event : Event) (v : View) (t : Option StageContinuation)
    (r : Relay P) (a : Context) → a.log.state.held ≡ true → works_at event ≡ false
    → HandlesBody S.Goes role event v v t t r r a a
handles_quiet role event v t r a turn rests = record {
  acts = acts_none 6 a turn;
  joined = λ before handled was runs. joined_quiet r.driven.chain r.driven.table.items t r.reader before
      a.log.state.pending a.roles role event handled rests (was runs);
  covered = λ h. h;
  own = no_work role v v refl;
  runs = runs_quiet v t r a.log.state.next;
  seated = λ others h. h;
  ordered = λ h. h;
}

-- an end whose event was handled sits where it sat
unroused_key : (t : Option StageContinuation) (ts : List (Option StageContinuation)) (key : ContKey)
    → HasKey (t ∷ ts) key → HasKey (unroused t ∷ ts) key
unroused_key None ts key has = has
unroused_key (Some t) ts key has = has

main_unroused : (t : Option StageContinuation) (ts : List (Option StageContinuation)) (a : Context)
    → KeepsSeated (t ∷ ts) (unroused t ∷ ts) a a
main_unroused t ts a = seated_as (t ∷ ts) (unroused t ∷ ts) a a refl (λ key. unroused_key t ts key)

-- of the stages' continuations the same are there
stages_seated : (t r : Option StageContinuation) (ts us : List (Option StageContinuation)) (a b : Context)
    → KeepsSeated ts us a b → KeepsSeated (t ∷ r ∷ ts) (t ∷ r ∷ us) a b
stages_seated t r ts us a b seated = seated_behind t (r ∷ ts) (r ∷ us) a b (seated_behind r ts us a b seated)

-- a chain's step was made behind an event of an end
chain_acts : {P : Type 0} (step : BodyStep) (n : ℕ) (d e : DrivenChain P) (a b : Context) → n ≤ 4
    → StepsChain step n d e a b → ActsWithin 4 a b
chain_acts step n d e a b few h = record {
  grows = h.adds.grows;
  turn = h.adds.keeps.turn;
  plain = h.adds.keeps.plain;
  few = record {
    next = omega (arith, few, h.adds.few.next);
    pending = omega (arith, few, h.adds.few.pending);
  };
}

chain_joined : {P : Type 0} (step : BodyStep) (n : ℕ) (t : Option StageContinuation) (r q : Relay P)
    (a b : Context) → StepsChain step n r.driven q.driven a b → q.reader ≡ r.reader
    → IsBodyJoined t r a.log.state.pending a.roles → IsBodyJoined t q b.log.state.pending b.roles
chain_joined step n t r q a b steps same was runs =
    subst (λ (x : Option StageContinuation). IsJoined q.driven.chain q.driven.table.items t x
    b.log.state.pending b.roles) (sym same)
    (joined_driven r.driven.chain q.driven.chain r.driven.table.items q.driven.table.items t r.reader a b
    steps.adds.keeps (λ h. steps.driven FIRST (λ on. h) runs) (was (steps.falls runs)))

-- one of the first continuation
pub handles_write : {P : Type 0} (event : Event) (step result : BodyStep) (v w : View)
    (t u : Option StageContinuation) (r q s : Relay P) (a c b : Context) → IsOrderly a
    → StepsChain step 1 r.driven q.driven a c → q ≡ record r { driven = q.driven } → s.driven ≡ q.driven
    → SettlesAfter step result w (unroused t) u q s c b
    → w.origin ≡ v.origin → HandlesBody result MAIN event v w t u r s a b
handles_write event step result v w t u r q s a c b orderly steps same kept after origin =
    handles_by MAIN event step result v w t (unroused t) u r q s a c b orderly (chain_acts step 1 r.driven
    q.driven a c (omega arith) steps) steps.on
    (λ before handled was. chain_joined step 1 (unroused t) r q a c steps (ap (λ x. x.reader) same)
    (λ runs. joined_writer r.driven.chain r.driven.table.items t r.reader before a.log.state.pending a.roles
    event handled (was runs)))
    (subst (λ (x : Option StageContinuation). KeepsSeated (body_seats t r) (unroused t ∷ x
    ∷ q.driven.table.items) a c) (sym (ap (λ x. x.reader) same))
    (seated_then (body_seats t r) (body_seats (unroused t) r) (unroused t ∷ r.reader ∷ q.driven.table.items) a
    a c (main_unroused t (r.reader ∷ r.driven.table.items) a)
    (stages_seated (unroused t) r.reader r.driven.table.items q.driven.table.items a c steps.seats.seated)))
    steps.ordered kept after (writer_work v w origin)

-- one of the reader
pub handles_read : {P : Type 0} (event : Event) (step result : BodyStep) (v w : View)
    (t u : Option StageContinuation) (r q s : Relay P) (a c b : Context) → IsOrderly a
    → StepsChain step 2 r.driven q.driven a c → q.reader ≡ unroused r.reader → s.driven ≡ q.driven
    → SettlesAfter step result w t u q s c b
    → w.client ≡ v.client → w.sent ≡ v.sent → HandlesBody result READER event v w t u r s a b
handles_read event step result v w t u r q s a c b orderly steps same kept after client sent =
    handles_by READER event step result v w t t u r q s a c b orderly (chain_acts step 2 r.driven q.driven a c
    (omega arith) steps) steps.on
    (λ before handled was. chain_joined step 2 t (record r { reader = unroused r.reader }) q a c steps same
    (λ runs. joined_reader r.driven.chain r.driven.table.items t r.reader before a.log.state.pending a.roles
    event handled (was runs)))
    (subst (λ (x : Option StageContinuation). KeepsSeated (body_seats t r) (t ∷ x ∷ q.driven.table.items) a c)
    (sym same)
    (seated_then (body_seats t r) (t ∷ unroused r.reader ∷ r.driven.table.items) (t ∷ unroused r.reader
    ∷ q.driven.table.items) a a c
    (seated_behind t (r.reader ∷ r.driven.table.items) (unroused r.reader ∷ r.driven.table.items) a a
    (main_unroused r.reader r.driven.table.items a))
    (stages_seated t (unroused r.reader) r.driven.table.items q.driven.table.items a c steps.seats.seated)))
    steps.ordered kept after (reader_work v w client sent)

-- one of a stage, or of nobody
pub handles_stage : {P : Type 0} (role : ℕ) (event : Event) (f : Result ⊤ SetFault) (step result : BodyStep)
    (v : View) (t u : Option StageContinuation) (r q s : Relay P) (a c b : Context)
    → IsOrderly a → step ≡ step_after f → ActsWithin 4 a c → Loses f r.driven q.driven a c
    → KeepsOthers FIRST r.driven.table.items a c → HandlesDriven FIRST role event r.driven q.driven a c
    → role ≢ MAIN → role ≢ READER → q.reader ≡ r.reader
    → KeepsSeated r.driven.table.items q.driven.table.items a c
    → (EndsInOrder true r.driven.chain.stages → EndsInOrder true q.driven.chain.stages)
    → s.driven ≡ q.driven → SettlesAfter step result v t u q s c b → HandlesBody result role event v v t u r s
    a b
handles_stage role event f step result v t u r q s a c b orderly is acts loses others driven not_main
    not_reader same seated ordered kept after =
    handles_by role event step result v v t t u r q s a c b orderly acts
    (subst (λ (x : BodyStep). DrivesOn x r.driven q.driven c) (sym is) (drives_after f r.driven q.driven a c
    loses))
    (λ before handled was runs.
    subst (λ (x : Option StageContinuation). IsJoined q.driven.chain q.driven.table.items t x
    c.log.state.pending c.roles) (sym same)
    (joined_stage r.driven.chain q.driven.chain r.driven.table.items q.driven.table.items t r.reader before a
    c role event handled not_main not_reader others
    (λ h. driven before handled (λ on. h) runs) (was (runs_before f r.driven q.driven a c loses runs))))
    (subst (λ (x : Option StageContinuation). KeepsSeated (body_seats t r) (t ∷ x ∷ q.driven.table.items) a c)
    (sym same)
    (stages_seated t r.reader r.driven.table.items q.driven.table.items a c seated))
    ordered kept after (no_work role v v refl)

-- where the event of a stage leads
pub stage_leads : {P L : Type 0} (setup : Setup) (refuses : Type 0) (stage : transform.Ghosts P L) (v : View)
    (c d : ChainState P) (place : Place) (short : Option Short) (ts us : List (Option StageContinuation))
    (a b : Context) (f : Result ⊤ SetFault) (step : BodyStep) → step ≡ step_after f
    → StillGives stage.rest stage.soon c d ts us a b → RelaysBody setup refuses stage v c place short
    → LeadsBody setup refuses (RelaysBody setup refuses stage v d place short) v step
stage_leads setup refuses stage v c d place short ts us a b f step is gives r =
    let on = stage_keeps setup refuses stage v c d place short ts us a b gives r in
    subst (LeadsBody setup refuses (RelaysBody setup refuses stage v d place short) v) (sym is)
    (leads_after setup refuses (RelaysBody setup refuses stage v d place short) v f on
    (relays_lacks setup refuses stage short v d place on))

-- what is settled speaks of the chain that it was
pub settled_as : {P L : Type 0} (setup : Setup) (refuses : Type 0) (stage : transform.Ghosts P L) (v : View)
    (q s : Relay P) (step result : BodyStep) → SettledAs step result
    → s ≡ record q { reader = s.reader } → LeadsBody setup refuses (RelaysBody setup refuses stage v
    q.driven.chain q.body q.short) v step
    → LeadsBody setup refuses (RelaysBody setup refuses stage v s.driven.chain s.body s.short) v result
settled_as setup refuses stage v q s step result settled same h =
    subst (λ x. LeadsBody setup refuses (RelaysBody setup refuses stage v x.driven.chain x.body x.short) v
    result)
    (sym same)
    (settled_leads setup refuses (RelaysBody setup refuses stage v q.driven.chain q.body q.short) v step
    result
    settled (relays_lacks setup refuses stage q.short v q.driven.chain q.body) h)

-- ---- a body begins

begins_covered : {P : Type 0} (step result : BodyStep) (w : View) (u : Option StageContinuation)
    (m s : Relay P) (c : Context) (next : ℕ) → BeginsRunning step m.driven c → SettledAs step result
    → (RunsOr m c.log.state.next → WhileGoes step (OnGoes result (IsBodyCovered w u s next)))
    → WhileGoes result (IsBodyCovered w u s next)
begins_covered {P} step result w u m s c next runs settled after = by_step step runs settled after
  where
    by_step : (step : BodyStep) → BeginsRunning step m.driven c → SettledAs step result
        → (RunsOr m c.log.state.next → WhileGoes step (OnGoes result (IsBodyCovered w u s next)))
        → WhileGoes result (IsBodyCovered w u s next)
    by_step S.Goes runs settled after = while_on (IsBodyCovered w u s next) result (after runs)
    by_step S.Lacks runs settled after = subst (λ (x : BodyStep). WhileGoes x (IsBodyCovered w u s next))
        (sym settled) tt
    by_step _ runs settled after = absurd runs

-- so its stages run
begins_runs : {P : Type 0} (step result : BodyStep) (m s : Relay P) (c : Context) (next : ℕ)
    → c.log.state.next ≤ next → s.driven ≡ m.driven → BeginsRunning step m.driven c → SettledAs step result
    → UnlessLacking result (RunsOr s next)
begins_runs step result m s c next later same runs settled =
    settled_has (λ x. UnlessLacking x (RunsOr s next)) (λ h. h) (λ h. tt) step result settled
    (by_step step runs)
  where
    kept : (m.driven.running ≡ true) ⊎ (GREATEST ≤ c.log.state.next) → RunsOr s next
    kept (inl runs) = inl (ap (λ d. d.running) same ∙ runs)
    kept (inr spent) = inr (omega (arith, spent, later))

    by_step : (step : BodyStep) → BeginsRunning step m.driven c → UnlessLacking step (RunsOr s next)
    by_step S.Goes runs = kept runs
    by_step S.Lacks runs = tt
    by_step _ runs = absurd runs

-- and it is passed on, unless memory lacked
begins_goes : {P : Type 0} (step result : BodyStep) (m : Relay P) (c : Context) → BeginsRunning step m.driven
    c → SettledAs step result → OnGoes result ⊤
begins_goes S.Goes result m c runs settled = settled
begins_goes S.Lacks result m c runs settled = subst (λ (x : BodyStep). OnGoes x ⊤) (sym settled) tt
begins_goes _ result m c runs settled = absurd runs

pub begins_body : {P : Type 0} (step result : BodyStep) (w : View) (t u : Option StageContinuation)
    (stages : ℕ) (m s : Relay P) (a c b : Context) → BeginsRelay step stages m a c → s.driven ≡ m.driven
    → SettlesAfter step result w t u m s c b → BeginsBody result stages w t u s a b
begins_body step result w t u stages m s a c b begins same after = record {
  acts = acts_then (stages + set_by_stage) 2 (set_by_beginning stages) (omega arith) begins.chain.within
      (record {
        grows = after.adds.grows;
        turn = after.adds.keeps.turn;
        plain = after.adds.keeps.plain;
        few = after.adds.few;
      });
  joined = λ seated. after.joined (λ runs. record {
    stages = begins.chain.driven runs;
    of_writer = begins.chain.made MAIN t seated;
    of_reader = begins.of_reader;
  });
  covered = begins_covered step result w u m s c b.log.state.next begins.chain.runs after.settled
      after.covered;
  goes = begins_goes step result m c begins.chain.runs after.settled;
  runs = begins_runs step result m s c b.log.state.next after.later same begins.chain.runs after.settled;
  seated = seated_then (t ∷ []) (body_seats t m) (body_seats u s) a c b (seated_behind t [] (relay_seats m) a
      c begins.seated) after.seated;
  ordered = subst (λ d. EndsInOrder true d.chain.stages) (sym same) begins.ordered;
}
