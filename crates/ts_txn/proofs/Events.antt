-- What one event leads to: a step of its phase, a part of a body, one of the last writes, or nothing.
use Rattle.std.proofs.Common.{◌≡◌, ◌⊎◌, inl, inr, ℕ, List, [], ◌∷◌, true, false, Option, None, refl, sym, ap}
use Rattle.std.proofs.Common.{arith, subst, ◌∙◌}
use Rattle.std.specs.Arc.{arc_value}
use Rattle.ts_config.specs.declared.fields.PluginLine.{PluginLine}
use Rattle.ts_hooks.specs.declared.txn_end.TxnEnd.{TxnEnd}
use Rattle.ts_hooks.specs.declared.txn_end.TxnEnd.TheVariants as E
use Rattle.ts_group.specs.Context.{Context}
use Rattle.ts_group.specs.Entries.{Grows}
use Rattle.ts_link.specs.Link.{Look}
use Rattle.ts_link.specs.declared.link.Link as link
use Rattle.ts_upstream.specs.declared.upstream.Upstream as upstream
use Rattle.ts_journal.specs.declared.entry.Pending.{Pending}
use Rattle.ts_transform.specs.Driving.{ActsWithin, IsDueAfter, IsNamedIf, SetsOnly, unroused}
use Rattle.ts_transform.specs.Seats.{AllSeated, HasKey}
use Rattle.ts_transform.specs.declared.continuation.StageContinuation.{StageContinuation}
use Rattle.std.specs.Prelude.{⊤}
use Rattle.ts_relay.specs.BodyLinks.{BeginsInTime}
use Rattle.ts_txn.specs.Course.{course_after, finish_after}
use Rattle.ts_phases.specs.Cover.{Proceeds, StepLeads, StepsTo, is_ended, is_fresh}
use Rattle.ts_txn.specs.CourseCover.{is_fresh_on, IsCoveredNow, LedAfter, LedBehind, PassesNoBody}
use Rattle.ts_txn.specs.CourseCover.{StaysOnOrLacks}
use Rattle.ts_relay.specs.Duties.{set_leaving}
use Rattle.ts_txn.specs.Driven.{ClosesAs, DueTo, HandlesEvent, HandlesOn}
use Rattle.ts_txn.specs.Driven.{TakesEvent, TakesOn, TakesStep, WritesOr, delay_of}
use Rattle.ts_relay.specs.Entering.{CallsNeither}
use Rattle.ts_phases.specs.Steps.{LeavesSides, MindsLinks, MindsLinksIn, WaitsRightly}
use Rattle.ts_phases.specs.Holding.{IfTold, StepKeeps}
use Rattle.ts_phases.specs.Owed.{MayAsk, MayEnter, MayFollow}
use Rattle.ts_phases.specs.View.{LinkSide, View, view_of}
use Rattle.ts_phases.proofs.Leaving.{leaves_in}
use Rattle.ts_phases.proofs.Owed.{all_kept}
use Rattle.ts_phases.proofs.Sparing.{spares_in}
use Rattle.ts_transform.proofs.Joined.{named_unroused}
use Rattle.ts_txn.specs.declared.course.Course.{Course}
use Rattle.ts_txn.specs.declared.course.Course.TheVariants as K
use Rattle.ts_relay.specs.declared.relay.TheConstants.{MAIN}
use Rattle.ts_relay.specs.Feeding.{OnGoes}
use Rattle.ts_relay.specs.declared.last_writes.BodyStep.{BodyStep}
use Rattle.ts_relay.specs.declared.last_writes.BodyStep.TheVariants as S
use Rattle.ts_phases.specs.declared.parts.Core.{Core}
use Rattle.ts_phases.specs.declared.phase.Next.{Next}
use Rattle.ts_phases.specs.declared.phase.Next.TheVariants as N
use Rattle.ts_phases.specs.declared.phase.Phase.{Phase}
use Rattle.ts_phases.specs.declared.phase.Phase.TheVariants as P
use Rattle.ts_phases.specs.declared.phase.Request.{Request}
use Rattle.ts_phases.specs.declared.phase.Step.{Step}
use Rattle.ts_wire.specs.declared.heads.ResponseHead.{ResponseHead}
use Rattle.ts_relay.specs.declared.relay.Relay.{Relay}
use Rattle.ts_txn.proofs.Coursing.{behind_led}
use Rattle.ts_txn.proofs.Seating.{due_rests}

module _ (v w : View) where
  -- a body begins
  leaves_begun : (p : Phase) → CallsNeither v w → LeavesSides p v w
  leaves_begun p calls = record {
    origin = leaves_in v w p (record {
      taken = ap (λ (s : LinkSide). s.look.taken) calls.origin;
      carried = ap (λ (s : LinkSide). s.look.carried) calls.origin;
      waits = ap (λ (s : LinkSide). s.outbox) calls.origin;
    });
    client = spares_in v w p (record {
      reads = ap (λ (l : Look). l.reads) calls.client;
      given = ap (λ (l : Look). l.given) calls.client;
      held = calls.held;
    });
  }

-- nothing is done
leaves_same : (p : Phase) (v : View) → LeavesSides p v v
leaves_same p v = record {
  origin = leaves_in v v p (record { taken = refl; carried = refl; waits = refl });
  client = spares_in v v p (record { reads = refl; given = refl; held = refl });
}

-- nothing closes where a body begins, or where a plugin is asked
enter_closes : {Q : Type 0} (lines : List PluginLine) (p : Phase) (q : Request) (h : ResponseHead)
    (new : Course Q) → MayEnter lines p q h → ClosesAs p new
enter_closes lines (P.TxnClose end) q h new enters = absurd enters
enter_closes lines _ q h new enters = tt

ask_closes : {Q : Type 0} (p next : Phase) (new : Course Q) → MayAsk p next → ClosesAs p new
ask_closes (P.TxnClose end) next new asks = absurd asks
ask_closes _ next new asks = tt

-- a body begins behind phases that may end for want of memory
enter_lacks : (lines : List PluginLine) (p : Phase) (q : Request) (h : ResponseHead) → MayEnter lines p q h
    → MayFollow lines p (P.Ended E.NoMemory)
enter_lacks lines (P.ResponseTransform r k) q h enters = refl
enter_lacks lines (P.RuleResponse r k place fields) q h enters = refl
enter_lacks lines _ q h enters = absurd enters

-- no count of a link rises where no call is made on it
minds_none : (v w : View) (made : Step) → CallsNeither v w → MindsLinks v w made
minds_none v w made calls =
    let client_faults : w.client.look.faults ≡ v.client.look.faults = ap (λ (l : Look). l.faults) calls.client
    in
    let client_waits : w.client.look.waits ≡ v.client.look.waits = ap (λ (l : Look). l.waits) calls.client in
    let faults : w.origin.look.faults ≡ v.origin.look.faults =
    ap (λ (x : LinkSide). x.look.faults) calls.origin in
    let waits : w.origin.look.waits ≡ v.origin.look.waits =
    ap (λ (x : LinkSide). x.look.waits) calls.origin in
    record {
      client_fault = λ rose. absurd (omega (arith, rose, client_faults));
      origin_fault = λ rose. absurd (omega (arith, rose, faults));
      client_again = λ rose. absurd (omega (arith, rose, client_waits));
      origin_again = λ rose. absurd (omega (arith, rose, waits));
    }

-- a phase in which a plugin is asked is one of a transaction that was started
ask_started : (p next : Phase) → MayAsk p next → is_fresh next ≡ false
ask_started (P.OsDns q place) P.Fresh asks = absurd asks
ask_started (P.SendRequestHdr q) P.Fresh asks = absurd asks
ask_started (P.RuleRequest q place fields) P.Fresh asks = absurd asks
ask_started (P.ResponseTransform q h) P.Fresh asks = absurd asks
ask_started (P.RuleResponse q h place fields) P.Fresh asks = absurd asks
ask_started (P.SendResponseHdr a) P.Fresh asks = absurd asks
ask_started (P.RuleAnswer a place fields) P.Fresh asks = absurd asks
ask_started _ P.Fresh asks = absurd asks
ask_started p _ asks = refl

-- a step leads to no phase of one that was not started
proceeds_started : (p : Phase) → Proceeds p → is_fresh p ≡ false
proceeds_started P.Fresh on = absurd on
proceeds_started (P.Ended end) on = absurd on
proceeds_started _ on = refl

ended_started : (p : Phase) → is_ended p ≡ true → is_fresh p ≡ false
ended_started P.Fresh ended = cc
ended_started _ ended = refl

pub steps_started : (next : Next) (p : Phase) → StepsTo next p → is_fresh p ≡ false
steps_started N.Done p ended = ended_started p ended
steps_started _ p on = proceeds_started p on

-- nor does its end for want of memory
pub stays_started : {Q : Type 0} (led new : Course Q) → is_fresh_on led ≡ false → StaysOnOrLacks led new
    → is_fresh_on new ≡ false
stays_started led new started (inl same) = ap is_fresh_on same ∙ started
stays_started led new started (inr lacks) = ap is_fresh_on lacks

-- a transaction that closes goes on to close
module _ {C O : Type 0} (client : link.Ghosts C) (origin : link.Ghosts O) (both : upstream.Ghosts O C) where
  -- where no call is made on either link, none is minded
  enter_minds : (s t : Core C O) (p : Phase) (q : Request) (h : ResponseHead) (made : Step)
      → MayEnter (arc_value s.setup).plugins.items p q h
      → CallsNeither (view_of client origin s) (view_of client origin t)
      → MindsLinksIn client origin both s t p made
  enter_minds s t (P.ResponseTransform r k) q h made enters calls =
      minds_none (view_of client origin s) (view_of client origin t) made calls
  enter_minds s t (P.RuleResponse r k place fields) q h made enters calls =
      minds_none (view_of client origin s) (view_of client origin t) made calls
  enter_minds s t _ q h made enters calls = absurd enters

closes_same : (Q : Type 0) (p : Phase) → ClosesAs {Q = Q} p (K.Phased p)
closes_same Q (P.TxnClose end) = inl refl
closes_same Q _ = tt

module _ {C O Q : Type 0} (client : link.Ghosts C) (origin : link.Ghosts O) (both : upstream.Ghosts O C) where
  -- a step of a phase was made, and led to the phase that it answered, or to the end for want of memory
  pub takes_step : (s t : Core C O) (p : Phase) (new : Course Q) (made : Step) → StepLeads made
      → MayFollow (arc_value s.setup).plugins.items p made.phase → MindsLinksIn client origin both s t p made
      → WaitsRightly made.next (view_of client origin s) (view_of client origin t)
      → IfTold client.tells origin.tells (LeavesSides p (view_of client origin s)
      (view_of client origin t))
      → LedBehind made.next (K.Phased made.phase) new
      → TakesStep client origin both s t p made.next new
  takes_step s t p new made leads follows minds waits leaves led = record {
    minds = inr (record {
      led = K.Phased made.phase;
      minds = (follows, minds);
      stays = behind_led made.next (K.Phased made.phase) new led;
    });
    waits = waits;
    leaves = leaves;
    closes = by_phase p minds;
    started = λ was. stays_started (K.Phased made.phase) new (steps_started made.next made.phase leads)
        (behind_led made.next (K.Phased made.phase) new led);
  }
    where
      by_phase : (p : Phase) → MindsLinksIn client origin both s t p made → ClosesAs p new
      by_phase (P.TxnClose end) minds = inr (subst (λ (m : Step). LedBehind m.next (K.Phased m.phase) new)
          minds.1 led)
      by_phase _ minds = tt

  -- where a body that begins leads: it is passed on, or memory lacked
  pub begin_led : (r : Relay Q) (step : BodyStep) (new : Course Q) → OnGoes step ⊤
      → LedAfter step (course_after r step) new
      → (new ≡ K.Relaying r) ⊎ (new ≡ K.Phased (P.Ended E.NoMemory))
  begin_led r S.Goes new goes led = inl led
  begin_led r S.Lacks new goes (inl lacks) = inr lacks
  begin_led r S.Lacks new goes (inr lacks) = inr lacks
  begin_led r _ new goes led = absurd goes

  -- a body was begun, or memory lacked for that
  pub takes_begin : (s t : Core C O) (p : Phase) (q : Request) (h : ResponseHead) (new : Course Q)
      (r : Relay Q) → MayEnter (arc_value s.setup).plugins.items p q h
      → CallsNeither (view_of client origin s) (view_of client origin t)
      → (new ≡ K.Relaying r) ⊎ (new ≡ K.Phased (P.Ended E.NoMemory))
      → TakesStep client origin both s t p N.Go new
  takes_begin s t p q h new r enters calls led = record {
    minds = inr (record {
      led = K.Relaying r;
      minds = record { request = q; head = h; enters = enters; calls = calls };
      stays = led;
    });
    waits = tt;
    leaves = λ told also. leaves_begun (view_of client origin s) (view_of client origin t) p calls;
    closes = enter_closes (arc_value s.setup).plugins.items p q h new enters;
    started = λ was. by_start led;
  }
    where
      by_start : (new ≡ K.Relaying r) ⊎ (new ≡ K.Phased (P.Ended E.NoMemory)) → is_fresh_on new ≡ false
      by_start (inl same) = ap is_fresh_on same
      by_start (inr lacks) = ap is_fresh_on lacks

  -- memory lacked for its head
  pub takes_lost : (s t : Core C O) (p : Phase) (q : Request) (h : ResponseHead)
      → MayEnter (arc_value s.setup).plugins.items p q h
      → CallsNeither (view_of client origin s) (view_of client origin t)
      → TakesStep {Q = Q} client origin both s t p N.Go (K.Phased (P.Ended E.NoMemory))
  takes_lost s t p q h enters calls = record {
    minds = inr (record {
      led = K.Phased (P.Ended E.NoMemory);
      minds = (
        enter_lacks (arc_value s.setup).plugins.items p q h enters,
        enter_minds client origin both s t p q h
            (record { phase = P.Ended E.NoMemory; next = N.Go }) enters calls,
      );
      stays = inl refl;
    });
    waits = tt;
    leaves = λ told also. leaves_begun (view_of client origin s) (view_of client origin t) p calls;
    closes = enter_closes (arc_value s.setup).plugins.items p q h (K.Phased (P.Ended E.NoMemory)) enters;
    started = λ was. refl;
  }

  -- a plugin is asked
  pub takes_ask : (s : Core C O) (p next : Phase) → MayAsk p next
      → TakesStep {Q = Q} client origin both s s p N.Go (K.Phased next)
  takes_ask s p next asks = record {
    minds = inl (refl, inr asks);
    waits = tt;
    leaves = λ told also. leaves_same p (view_of client origin s);
    closes = ask_closes p next (K.Phased next) asks;
    started = λ was. ask_started p next asks;
  }

  -- the event of the next step is due then
  pub due_step : (main : Option StageContinuation) (a b : Context) (next : Next) (p : Phase) (new : Course Q)
      → StaysOnOrLacks (K.Phased p) new
      → SetsOnly (IsDueAfter (delay_of next) a.moment) a b → DueTo main next new a b
  due_step main a b next p new (inl same) due = subst (λ x. DueTo main next x a b) (sym same) due
  due_step main a b next p new (inr lacks) due = subst (λ x. DueTo main next x a b) (sym lacks) due

  -- where a body was begun, or nothing is pending any more
  pub due_begin : (main : Option StageContinuation) (v : View) (u : Option StageContinuation)
      (a m b : Context) (step : BodyStep) (r : Relay Q) (new : Course Q) → OnGoes step ⊤
      → LedAfter step (course_after r step) new → Grows a m → BeginsInTime main r a m
      → ActsWithin (set_leaving step) m b → IsCoveredNow v u new b → DueTo main N.Go new a b
  due_begin main v u a m b S.Goes r new goes led first begins then covered = subst
      (λ x. DueTo main N.Go x a b) (sym led) (record
      { behind = m; first = first; begins = begins; then = then })
  due_begin main v u a m b S.Lacks r new goes led first begins then covered = lost (by_lead led)
    where
      by_lead : (new ≡ K.Phased (P.Ended E.NoMemory)) ⊎ (new ≡ K.Phased (P.Ended E.NoMemory))
          → new ≡ K.Phased (P.Ended E.NoMemory)
      by_lead (inl lacks) = lacks
      by_lead (inr lacks) = lacks

      unseated : (p : Pending) → HasKey (None ∷ []) p.key → ⊥
      unseated p has = has

      none_due : IsCoveredNow {Q = Q} v u (K.Phased (P.Ended E.NoMemory)) b
          → DueTo {Q = Q} main N.Go (K.Phased (P.Ended E.NoMemory)) a b
      none_due h n p none there = absurd (unseated p
          (subst (λ x. AllSeated b.log.state.pending (x ∷ [])) h.idles h.seated n p there))

      lost : new ≡ K.Phased (P.Ended E.NoMemory) → DueTo main N.Go new a b
      lost lacks = subst (λ x. DueTo main N.Go x a b) (sym lacks)
          (none_due (subst (λ x. IsCoveredNow v u x b) lacks covered))
  due_begin main v u a m b _ r new goes led first begins then covered = absurd goes

  -- in a phase, said of the first continuation before its event was handled
  due_before : (main u : Option StageContinuation) → u ≡ unroused main
      → (next : Next) (new : Course Q) (a b : Context) → DueTo u next new a b → DueTo main next new a b
  due_before main u is next (K.Phased p) a b due = due
  due_before main u is next (K.Relaying r) a b due = record {
    behind = due.behind;
    first = due.first;
    begins = λ runs named. due.begins runs (subst (IsNamedIf a.roles MAIN) (sym is)
        (named_unroused a.roles MAIN main named));
    then = due.then;
  }
  due_before main u is next (K.Finishing end) a b due = due

  -- nobody works at it, and nothing is done
  idle_on : (s : Core C O) (a : Context) (role : ℕ) (main : Option StageContinuation) (course : Course Q)
      → PassesNoBody course → HandlesOn client origin both s s a a role main course course
  idle_on s a role main (K.Phased p) none = record {
    next = N.Go;
    takes = record {
      minds = inl (refl, inl refl);
      waits = tt;
      leaves = λ told also. leaves_same p (view_of client origin s);
      closes = closes_same Q p;
      started = λ was. was;
    };
    due = due_rests a 0;
  }
  idle_on s a role main (K.Relaying r) none = absurd none
  idle_on s a role main (K.Finishing end) none =
      record { step = S.Goes; takes = inl (refl, refl, refl); due = due_rests a 0 }

  pub idle : (s : Core C O) (a : Context) (role : ℕ) (main : Option StageContinuation) (course : Course Q)
      → PassesNoBody course → HandlesEvent client origin both s s a a role main course course
  idle s a role main course none = record
      { keeps = all_kept client origin both s; handles = idle_on s a role main course none }

  -- where no body is passed on, said of the first continuation before its event was handled
  pub handles_alone : (s t : Core C O) (a b : Context) (role : ℕ) (main u : Option StageContinuation)
      → u ≡ unroused main → (course : Course Q) → PassesNoBody course → (new : Course Q)
      → HandlesEvent client origin both s t a b MAIN u course new
      → HandlesEvent client origin both s t a b role main course new
  handles_alone s t a b role main u quiet (K.Phased p) none new h = record {
    keeps = h.keeps;
    handles = record {
      next = h.handles.next;
      takes = h.handles.takes;
      due = due_before main u quiet
          h.handles.next new a b h.handles.due;
    };
  }
  handles_alone s t a b role main u quiet (K.Relaying r) none new h = absurd none
  handles_alone s t a b role main u quiet (K.Finishing end) none new h =
      record { keeps = h.keeps; handles = h.handles }

  -- where an event leads, without the moments of those that are set
  takes_on : (s t : Core C O) (a b : Context) (role : ℕ) (main : Option StageContinuation)
      (old new : Course Q) → HandlesOn client origin both s t a b role main old new
      → TakesOn client origin both s t old new
  takes_on s t a b role main (K.Phased p) new h = (h.next, h.takes)
  takes_on s t a b role main (K.Relaying r) new h = record {
    step = h.step;
    after = h.after;
    led = h.led;
    client_late = h.links.client_late;
    origin_late = h.links.origin_late;
    minds = h.links.minds;
  }
  takes_on s t a b role main (K.Finishing end) new h = (h.step, h.takes)

  pub takes_event : (s t : Core C O) (a b : Context) (role : ℕ) (main : Option StageContinuation)
      (old new : Course Q) → HandlesEvent client origin both s t a b role main old new
      → TakesEvent client origin both s t old new
  takes_event s t a b role main old new h = record
      { keeps = h.keeps; takes = takes_on s t a b role main old new h.handles }

-- an event leaves a transaction started that was
body_started : {Q : Type 0} (r : Relay Q) (step : BodyStep) (new : Course Q)
    → LedAfter step (course_after r step) new → is_fresh_on new ≡ false
body_started r S.Goes new led = ap is_fresh_on led
body_started r S.Waits new led = ap is_fresh_on led
body_started r (S.Finishes end) new led = stays_started (K.Finishing end) new refl led
body_started r (S.Closes end) new led = stays_started (K.Phased (P.TxnClose end)) new refl led
body_started r S.Lacks new led = stays_started (K.Phased (P.Ended E.NoMemory)) new refl led

after_write : (Q : Type 0) (end : TxnEnd) (step : BodyStep)
    → is_fresh_on (finish_after {Q = Q} end step) ≡ false
after_write Q end S.Goes = refl
after_write Q end _ = refl

module _ {C O Q : Type 0} (client : link.Ghosts C) (origin : link.Ghosts O) (both : upstream.Ghosts O C) where
  write_started : (s t : Core C O) (end : TxnEnd) (step : BodyStep) (new : Course Q)
      → WritesOr client origin both s t end step new → is_fresh_on new ≡ false
  write_started s t end step new (inl none) = ap is_fresh_on none.2
  write_started s t end step new (inr takes) = stays_started (finish_after end step) new
      (after_write Q end step) takes.led

  takes_started : (s t : Core C O) (old new : Course Q)
      → TakesOn client origin both s t old new → is_fresh_on old ≡ false
      → is_fresh_on new ≡ false
  takes_started s t (K.Phased p) new h was = h.1.started was
  takes_started s t (K.Relaying r) new h was = body_started h.after h.step new h.led
  takes_started s t (K.Finishing end) new h was = write_started s t end h.0 new h.1

  pub event_started : (s t : Core C O) (old new : Course Q)
      → TakesEvent client origin both s t old new → is_fresh_on old ≡ false
      → is_fresh_on new ≡ false
  event_started s t old new h was = takes_started s t old new h.takes was
