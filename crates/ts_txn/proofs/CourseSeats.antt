-- Whose events are pending of a transaction on its course, where its next event is set and where a body is
-- left.
use Rattle.std.proofs.Common.{◌≡◌, ◌≤◌, ◌++◌, ◌⊎◌, inl, inr, ℕ, List, [], ◌∷◌, true, false, Option, Some}
use Rattle.std.proofs.Common.{None, arith, refl, sym, ap, subst, ◌∙◌}
use Rattle.ts_journal.specs.declared.entry.TheConstants.{GREATEST}
use Rattle.ts_journal.specs.declared.entry.ContKey.{ContKey}
use Rattle.ts_journal.specs.declared.entry.Pending.{Pending}
use Rattle.ts_journal.specs.State.{pending_at}
use Rattle.ts_group.specs.Context.{AllPlain, Context, IsOrderly}
use Rattle.ts_group.specs.Entries.{Grows}
use Rattle.ts_hooks.specs.declared.txn_end.TxnEnd.{TxnEnd}
use Rattle.ts_hooks.specs.declared.txn_end.TxnEnd.TheVariants as E
use Rattle.ts_transform.specs.Carrying.{IsJoined}
use Rattle.ts_transform.specs.declared.continuation.StageContinuation.{StageContinuation}
use Rattle.ts_transform.specs.Destroying.{Clears}
use Rattle.ts_transform.specs.Driving.{ActsWithin, IsOfStageIf, IsRousedIf, Keeps, KeepsStage, SetsOnly}
use Rattle.ts_transform.specs.Driving.{unroused}
use Rattle.ts_transform.specs.Seats.{AllSeated, HasKey, KeepsSeated}
use Rattle.ts_transform.proofs.Joined.{named_of}
use Rattle.ts_transform.proofs.Seating.{key_same, seated_set}
use Rattle.ts_transform.proofs.Seats.{seated_cleared}
use Rattle.ts_transform.proofs.Setting.{of_stages_named}
use Rattle.ts_txn.specs.CourseCover.{HasNextEvent, HasNextEventOr, IsOfMain, CoversAlone, CoversLed}
use Rattle.ts_txn.specs.CourseCover.{GoesAlone, HasRousedNext, HasStepDone, IsAlone, IsCoveredNow}
use Rattle.ts_txn.specs.CourseCover.{StandsBehind, StaysWhereNamed, StaysWhereSpent}
use Rattle.ts_phases.specs.Cover.{is_ended}
use Rattle.ts_relay.specs.Duties.{RunsOr, UnlessLacking, relay_seats}
use Rattle.ts_phases.specs.View.{View}
use Rattle.ts_txn.specs.declared.course.Course.{Course}
use Rattle.ts_txn.specs.declared.course.Course.TheVariants as K
use Rattle.ts_txn.specs.declared.course_leads.Lead.{Lead}
use Rattle.ts_txn.specs.declared.course_leads.Lead.TheVariants as L
use Rattle.ts_txn.specs.Course.{course_led}
use Rattle.ts_relay.specs.declared.relay.TheConstants.{MAIN, FIRST, READER}
use Rattle.ts_relay.specs.declared.last_writes.BodyStep.{BodyStep}
use Rattle.ts_relay.specs.declared.last_writes.BodyStep.TheVariants as S
use Rattle.ts_phases.specs.declared.phase.Phase.{Phase}
use Rattle.ts_phases.specs.declared.phase.Phase.TheVariants as P
use Rattle.ts_relay.specs.declared.relay.Relay.{Relay}
use Rattle.ts_relay.proofs.Chaining.{grows_next}
use Rattle.ts_txn.proofs.Coverage.{covered_roused, ended_covered, ended_idle, idle_goes}

-- ---- the first continuation is roused

-- an event of it was set, or none
pub seated_next : (t u : Option StageContinuation) (a b : Context) → Keeps a b → unroused u ≡ unroused t
    → SetsOnly (IsOfMain t) a b → KeepsSeated (t ∷ []) (u ∷ []) a b
seated_next None None a b keeps same only = λ others seated n p there. by_old others seated n p there
    (pending_at n a.log.state.pending) refl
  where
    by_old : (others : List (Option StageContinuation))
        → AllSeated a.log.state.pending (others ++ (None ∷ [])) → (n : ℕ) (p : Pending)
        → pending_at n b.log.state.pending ≡ Some p
        → (o : Option Pending) → pending_at n a.log.state.pending ≡ o → HasKey (others ++ (None ∷ [])) p.key
    by_old others seated n p there None none = absurd (only n p none there)
    by_old others seated n p there (Some q) was =
        let both : Some q ≡ Some p = sym (keeps.pending n q was) ∙ there in
        let one : q ≡ p = cc in
        subst (λ (r : Pending). HasKey (others ++ (None ∷ [])) r.key) one (seated n q was)
seated_next None (Some u) a b keeps same only = absurd
    (let wrong : ◌≡◌ {A = Option StageContinuation} (Some (record u { roused = false })) None = same in cc)
seated_next (Some t) u a b keeps same only = seated_set (Some t ∷ []) (u ∷ []) t.key a b keeps only
    (move t.key (inl refl)) move
  where
    move : (key : ContKey) → HasKey (Some t ∷ []) key → HasKey (u ∷ []) key
    move key = key_same (Some t ∷ []) (u ∷ []) key (ap (λ (x : Option StageContinuation). x ∷ []) same)

-- it is roused, or no number is left for its event
next_set : (t u : Option StageContinuation) (a b : Context) → IsOrderly a → Grows a b → KeepsStage a b t u
    → IsRousedIf u ⊎ (GREATEST ≤ b.log.state.next) → HasRousedNext true t u a b
next_set t u a b orderly grows stage set = record {
  kept = λ is. stage.of_stage MAIN;
  roused = λ is. set;
  lacks = λ wrong. absurd (cc);
  later = grows_next a b orderly grows;
}

pub roused_next : (t u : Option StageContinuation) (a b : Context) → IsOrderly a → Grows a b
    → KeepsStage a b t u → IsRousedIf u → HasRousedNext true t u a b
roused_next t u a b orderly grows stage roused = next_set t u a b orderly grows stage (inl roused)

pub spent_next : (t u : Option StageContinuation) (a b : Context) → IsOrderly a → Grows a b
    → KeepsStage a b t u → GREATEST ≤ b.log.state.next → HasRousedNext true t u a b
spent_next t u a b orderly grows stage spent = next_set t u a b orderly grows stage (inr spent)

pub lacks_next : (t u : Option StageContinuation) (ts : List (Option StageContinuation)) (a m b : Context)
    → IsOrderly a → Grows a m → Clears ts m b → u ≡ None → HasRousedNext false t u a b
lacks_next t u ts a m b orderly grows clears none = record {
  kept = λ wrong. absurd (cc);
  roused = λ wrong. absurd (cc);
  lacks = λ is. none;
  later = omega (arith, clears.less.next, grows_next a m orderly grows);
}

-- ---- it is destroyed

none_behind : (others : List (Option StageContinuation)) (key : ContKey) → HasKey others key
    → HasKey (others ++ (None ∷ [])) key
none_behind [] key has = absurd has
none_behind (None ∷ others) key has = none_behind others key has
none_behind (Some t ∷ others) key (inl own) = inl own
none_behind (Some t ∷ others) key (inr has) = inr (none_behind others key has)

pub seated_destroyed : (t u v : Option StageContinuation) (a m b : Context)
    → KeepsSeated (t ∷ []) (u ∷ []) a m → Clears (u ∷ []) m b → v ≡ None → KeepsSeated (t ∷ []) (v ∷ []) a b
seated_destroyed t u v a m b h clears none = λ others seated n p there.
    subst (λ (x : Option StageContinuation). HasKey (others ++ (x ∷ [])) p.key) (sym none)
    (none_behind others p.key (seated_cleared others (u ∷ []) m b clears (h others seated) n p there))

-- nothing is pending then
gone_seated : (t u : Option StageContinuation) (a b : Context) → Clears (t ∷ []) a b
    → AllSeated a.log.state.pending (t ∷ []) → AllSeated b.log.state.pending (u ∷ [])
gone_seated t u a b clears seated n p there = absurd (seated_cleared [] (t ∷ []) a b clears seated n p there)

-- ---- where a transaction was led

with_main : (p : Phase) (u : Option StageContinuation) (b : Context)
    → IsOfStageIf b.log.state.pending b.roles MAIN u → HasNextEventOr p u b.log.state.next
    → (IsOfStageIf b.log.state.pending b.roles MAIN u × HasNextEvent p u) ⊎ (GREATEST ≤ b.log.state.next)
with_main p u b is (inl has) = inl (is, has)
with_main p u b is (inr spent) = inr spent

module _ {Q : Type 0} (v : View) (u : Option StageContinuation) (b : Context)
    (seated : AllSeated b.log.state.pending (u ∷ [])) (plain : AllPlain b.log.state.pending) where
  -- it goes on, with its next event or with no number left for one
  goes_covered : (course : Course Q) → GoesAlone course
      → (IsOfStageIf b.log.state.pending b.roles MAIN u × IsRousedIf u) ⊎ (GREATEST ≤ b.log.state.next)
      → IsCoveredNow v u course b
  goes_covered (K.Phased p) goes has = record {
    seated = seated;
    plain = plain;
    idles = idle_goes p u goes;
    covered = by_event has;
  }
    where
      by_event : (IsOfStageIf b.log.state.pending b.roles MAIN u × IsRousedIf u) ⊎
          (GREATEST ≤ b.log.state.next)
          → (IsOfStageIf b.log.state.pending b.roles MAIN u × HasNextEvent p u) ⊎
          (GREATEST ≤ b.log.state.next)
      by_event (inl (is, roused)) = with_main p u b is (covered_roused p u b.log.state.next goes roused)
      by_event (inr spent) = inr spent
  goes_covered (K.Relaying r) goes has = absurd goes
  goes_covered (K.Finishing end) goes has = record
      { seated = seated; plain = plain; idles = tt; covered = has }

  -- it has ended
  ended_by : (p : Phase) → is_ended p ≡ true → u ≡ None → IsCoveredNow {Q = Q} v u (K.Phased p) b
  ended_by p is none = record {
    seated = seated;
    plain = plain;
    idles = ended_idle p u is none;
    covered = with_main p u b (subst (IsOfStageIf b.log.state.pending b.roles MAIN) (sym none) tt)
        (ended_covered p u b.log.state.next is);
  }

-- one that was led on goes on alone
pub goes_led : (Q : Type 0) (lead : Lead) → GoesAlone {Q = Q} (course_led lead)
goes_led Q L.TxnStart = tt
goes_led Q (L.Finishing end) = tt
goes_led Q (L.TxnClose end) = tt

-- where its next event was set, or no number was left for one
pub led_alone : {Q : Type 0} (course : Course Q) (t u : Option StageContinuation) (a b : Context)
    → HasRousedNext true t u a b → KeepsSeated (t ∷ []) (u ∷ []) a b → ActsWithin 1 a b
    → GoesAlone course → CoversAlone t u course a b
led_alone course t u a b next seated acts goes alone v =
    goes_covered v u b (seated [] alone.seated) (acts.plain alone.plain) course goes
    (by_event (next.roused refl) alone.of_main)
  where
    by_event : IsRousedIf u ⊎ (GREATEST ≤ b.log.state.next)
        → IsOfStageIf a.log.state.pending a.roles MAIN t ⊎ (GREATEST ≤ a.log.state.next)
        → (IsOfStageIf b.log.state.pending b.roles MAIN u × IsRousedIf u) ⊎ (GREATEST ≤ b.log.state.next)
    by_event (inl roused) (inl is) = inl (next.kept refl is, roused)
    by_event (inl roused) (inr spent) = inr (omega (arith, spent, next.later))
    by_event (inr spent) main = inr spent

-- where there was no memory for it
pub lacks_alone : {Q : Type 0} (result : Course Q) (t u : Option StageContinuation) (a b : Context)
    → result ≡ K.Phased (P.Ended E.NoMemory) → HasRousedNext false t u a b
    → KeepsSeated (t ∷ []) (u ∷ []) a b → ActsWithin 1 a b → CoversAlone t u result a b
lacks_alone result t u a b is next seated acts alone v =
    subst (λ x. IsCoveredNow v u x b) (sym is)
    (ended_by v u b (seated [] alone.seated) (acts.plain alone.plain) (P.Ended E.NoMemory) refl
    (next.lacks refl))

-- where it ended, and its continuation was destroyed
pub ended_alone : {Q : Type 0} (p : Phase) (result : Course Q) (t u : Option StageContinuation)
    (a b : Context) → result ≡ K.Phased p → is_ended p ≡ true → Clears (t ∷ []) a b → u ≡ None
    → CoversAlone t u result a b
ended_alone p result t u a b same is clears none alone v =
    subst (λ x. IsCoveredNow v u x b) (sym same)
    (ended_by v u b (gone_seated t u a b clears alone.seated) (clears.less.plain alone.plain) p is none)

-- ---- a body is left

-- only the first continuation is there then, with its role, and with an event where it is roused
left_main : {P : Type 0} (t : Option StageContinuation) (r : Relay P) (a b : Context)
    → Clears (relay_seats r) a b → IsJoined r.driven.chain r.driven.table.items t r.reader a.log.state.pending
    a.roles
    → IsOfStageIf b.log.state.pending b.roles MAIN t
left_main t r a b clears joined =
    (clears.others READER (
      named_of a.log.state.pending a.roles READER r.reader joined.of_reader,
      of_stages_named
          a.log.state.pending a.roles FIRST r.driven.table.items joined.stages.of_stages,
    )
    MAIN t (inl (omega arith)) (named_of a.log.state.pending a.roles MAIN t joined.of_writer)).of_stage
    joined.of_writer

left_alone : {P : Type 0} (step : BodyStep) (v : View) (t : Option StageContinuation) (r : Relay P)
    (a b : Context) → Clears (relay_seats r) a b
    → (UnlessLacking step (RunsOr r a.log.state.next) → RunsOr r a.log.state.next) → StandsBehind step v t r a
    → IsAlone t b
left_alone step v t r a b clears unless stands = record {
  seated = seated_cleared (t ∷ []) (relay_seats r) a b clears stands.seated;
  plain = clears.less.plain stands.plain;
  of_main = by_body stands.body;
}
  where
    spent_then : GREATEST ≤ a.log.state.next → GREATEST ≤ b.log.state.next
    spent_then spent = subst (λ (n : ℕ). GREATEST ≤ n) (sym clears.less.next) spent

    by_runs : HasStepDone step v t r a → RunsOr r a.log.state.next
        → IsOfStageIf b.log.state.pending b.roles MAIN t ⊎ (GREATEST ≤ b.log.state.next)
    by_runs done (inl runs) = inl (left_main t r a b clears (done.joined runs))
    by_runs done (inr spent) = inr (spent_then spent)

    by_body : HasStepDone step v t r a ⊎ (GREATEST ≤ a.log.state.next)
        → IsOfStageIf b.log.state.pending b.roles MAIN t ⊎ (GREATEST ≤ b.log.state.next)
    by_body (inl done) = by_runs done (unless done.runs)
    by_body (inr spent) = inr (spent_then spent)

-- it finishes or closes
pub runs_finishing : (step : BodyStep) (end : TxnEnd) (X : Type 0) → step ≡ S.Finishes end
    → UnlessLacking step X → X
runs_finishing step end X is h = subst (λ (s : BodyStep). UnlessLacking s X) is h

pub runs_closing : (step : BodyStep) (end : TxnEnd) (X : Type 0) → step ≡ S.Closes end → UnlessLacking step X
    → X
runs_closing step end X is h = subst (λ (s : BodyStep). UnlessLacking s X) is h

pub left_covers : {Q : Type 0} (step : BodyStep) (r : Relay Q) (result : Course Q)
    (t u : Option StageContinuation) (a m b : Context)
    → (UnlessLacking step (RunsOr r a.log.state.next) → RunsOr r a.log.state.next)
    → Clears (relay_seats r) a m → CoversAlone t u result m b → CoversLed step r t u result a b
left_covers step r result t u a m b unless clears covers v stands = covers
    (left_alone step v t r a m clears unless stands) v

-- memory lacked, and all was destroyed
pub lost_covers : {Q : Type 0} (step : BodyStep) (r : Relay Q) (result : Course Q)
    (t u : Option StageContinuation) (a m b : Context) → result ≡ K.Phased (P.Ended E.NoMemory)
    → Clears (relay_seats r) a m → Clears (t ∷ []) m b → u ≡ None → CoversLed step r t u result a b
lost_covers step r result t u a m b is clears gone none v stands =
    subst (λ x. IsCoveredNow v u x b) (sym is)
    (ended_by v u b (gone_seated t u m b gone (seated_cleared (t ∷ []) (relay_seats r) a m clears
    stands.seated)) (gone.less.plain (clears.less.plain stands.plain)) (P.Ended E.NoMemory) refl none)

-- used-up numbers do not end it there
pub left_spent : {Q : Type 0} (led : Course Q) (r : Relay Q) (result : Course Q)
    (t : Option StageContinuation) (a b : Context) → Clears (relay_seats r) a b
    → StaysWhereSpent led result t b
    → StaysWhereNamed led r result t a
left_spent led r result t a b clears stays named all spent live =
    stays (subst (λ (n : ℕ). GREATEST ≤ n) (sym clears.less.next) spent)
    ((clears.others READER all MAIN t (inl (omega arith)) named).live live)
