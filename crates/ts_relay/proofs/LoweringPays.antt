-- An event that is handled while a body is passed on: what was done pays for each event that was set.
use Rattle.std.proofs.Common.{◌≡◌, ◌⊎◌, inl, inr, ℕ, ◌+◌, ◌*◌, ◌≤◌, List, [], length, Bool, true, false, ◌||◌}
use Rattle.std.proofs.Common.{Result, arith, refl, sym, ap, subst, ◌∙◌}
use Rattle.std.proofs.Math.Nat.{add-le-add, le_of_eq, le_refl}
use Rattle.std.specs.Prelude.{Option, Some, is_some, ⊤, if◌then◌else◌}
use Rattle.std.proofs.lemmas.Bool.{false≢true}
use Rattle.ts_config.specs.declared.setup.Setup.{Setup}
use Rattle.ts_journal.specs.declared.entry.TheConstants.{GREATEST}
use Rattle.ts_journal.specs.declared.entry.Event.{Event}
use Rattle.ts_group.specs.declared.action.SetFault.{SetFault}
use Rattle.ts_group.specs.Answers.{Falls}
use Rattle.ts_group.specs.Context.{Context}
use Rattle.ts_group.proofs.Grows.{grows_trans}
use Rattle.ts_link.specs.Link.{Fewer}
use Rattle.ts_transform.specs.Acting.{IsStage, StillGives}
use Rattle.ts_transform.specs.Driven.{Acts, IsOfNoStage, Loses}
use Rattle.ts_transform.specs.declared.driven.DrivenChain.{DrivenChain}
use Rattle.ts_transform.specs.Driving.{ActsWithin, IsRousedIf, SetsFew, upstream_calls, unroused}
use Rattle.ts_transform.specs.Flow.{ChainState, left_to_do}
use Rattle.ts_transform.specs.Stage.{to_end}
use Rattle.ts_transform.specs.declared.continuation.StageContinuation.{StageContinuation}
use Rattle.ts_relay.specs.Duties.{set_leaving, AreBodyEndsRoused, IsBodyCovered, MustReadOn, MustSend}
use Rattle.ts_relay.specs.Duties.{SettledAs, SettlesAfter}
use Rattle.ts_relay.specs.Feeding.{OnGoes}
use Rattle.ts_relay.specs.Relaying.{StepsChain, step_after}
use Rattle.ts_relay.specs.declared.relay.TheConstants.{FIRST}
use Rattle.ts_phases.specs.Lowering.{agains_left, end_room, events_paid, number_left, pump_weight, to_hear}
use Rattle.ts_relay.specs.LoweringBody.{HasNothingDue, IsOfLines, LowersBody, PaysBody, StaysOfLines}
use Rattle.ts_relay.specs.LoweringBody.{body_work, calls_left, ended_left, has_come, left_after, relay_left}
use Rattle.ts_phases.specs.View.{View}
use Rattle.ts_relay.specs.declared.last_writes.BodyStep.{BodyStep}
use Rattle.ts_relay.specs.declared.last_writes.BodyStep.TheVariants as S
use Rattle.ts_relay.specs.declared.relay.Relay.{Relay}
use Rattle.ts_transform.proofs.Along.{stage_at}
use Rattle.ts_relay.proofs.LoweringBody.{to_ended}
use Rattle.ts_relay.proofs.LoweringEvents.{paid_fewer, paid_none, paid_sum, spent_none}
use Rattle.ts_phases.proofs.Lowering.{no_more_same}
use Rattle.ts_relay.proofs.LoweringRelay.{ended_if, calls_fewer, loses_runs}
use Rattle.ts_relay.proofs.LoweringStages.{StageDid, WorksOrStays, calls_fall, handled_lines, once_works}
use Rattle.ts_relay.proofs.LoweringStages.{stage_did}
use Rattle.ts_phases.proofs.LoweringSteps.{stays_calm}
use Rattle.ts_relay.proofs.Settling.{goes_after, on_then, settled_has, settled_while, while_on, while_then}

-- at most one event is set where a body is left
pub set_one : (step : BodyStep) → set_leaving step ≤ 1
set_one S.Goes = omega arith
set_one _ = omega arith

-- two events of a step, two of the ends, and one where the body is left are paid
four_and_one : (p q n m : ℕ) → q ≤ p + 2 → n ≤ q + 2 → m ≤ 1 → n + m ≤ p + events_paid
four_and_one p q n m first second more = omega (arith, first, second, more)

none_and_one : (p n m : ℕ) → n ≤ p → m ≤ 1 → n + m ≤ p + events_paid
none_and_one p n m none more = omega (arith, none, more)

module _ {P : Type 0} (setup : Setup) (rest : P → List ℕ → List ℕ) where
  -- which continuations are roused is not seen
  same_left : (step : BodyStep) (w : View) (m : Relay P) (reader : Option StageContinuation)
      → left_after setup rest step w (record m { reader = reader }) ≡ left_after setup rest step w m
  same_left S.Goes w m reader = refl
  same_left _ w m reader = refl

  left_settled : (step : BodyStep) (w : View) (m s : Relay P) → s ≡ record m { reader = s.reader }
      → left_after setup rest step w s ≡ left_after setup rest step w m
  left_settled step w m s is = ap (λ (x : Relay P). left_after setup rest step w x) is ∙ same_left step w m
      s.reader

  -- a body that goes on can also end for want of memory
  ended_less : (m : Option ℕ) (w : View) (r : Relay P) → Fewer m (relay_left setup rest w r)
      → Fewer m (ended_left w)
  ended_less m w r fell = ended_if m (agains_left w) (Some 0) (λ x y. body_work setup rest
      (calls_left r.driven) x w r.driven.chain (has_come r)) fell

  settled_less : (step result : BodyStep) → SettledAs step result → (m : Option ℕ) (w : View) (r : Relay P)
      → Fewer m (left_after setup rest step w r) → Fewer m (left_after setup rest result w r)
  settled_less step result settled m w r = settled_has (λ x. Fewer m (left_after setup rest x w r)) (λ h. h)
      (ended_less m w r) step result settled

  -- nothing was done, and no event was set
  stays_paid : (result : BodyStep) → OnGoes result ⊤ → (v : View) (r : Relay P) (a b : Context)
      → length b.log.state.pending ≤ length a.log.state.pending
      → Falls (number_left a.log.state.pending (relay_left setup rest v r)) (set_leaving result)
      (number_left b.log.state.pending (left_after setup rest result v r))
  stays_paid S.Goes on v r a b none = paid_none a.log.state.pending b.log.state.pending (relay_left setup rest
      v r) (relay_left setup rest v r) (no_more_same (relay_left setup rest v r)) none
  stays_paid S.Lacks on v r a b none = paid_fewer a.log.state.pending b.log.state.pending (relay_left setup
      rest v r) (ended_left v) 1
      (to_ended setup rest (calls_left r.driven) false v v r.driven.chain (has_come r) (stays_calm setup v v
      refl))
      (none_and_one (length a.log.state.pending) (length b.log.state.pending) 1 none (omega arith))
  stays_paid _ on v r a b none = absurd on

-- ---- an end made its step, and then both ends were roused that must work

module _ {P : Type 0} (ct ot : Bool) (must : Type 0) (setup : Setup) (rest : P → List ℕ → List ℕ)
    (step result : BodyStep) (v w : View) (main t u : Option StageContinuation)
    (r q m s : Relay P) (a c b : Context) where
  -- `r` is the body before its event, `q` once that was handled, `m` after the step, and `s` once it is
  -- settled
  end_pays : relay_left setup rest v q ≡ relay_left setup rest v r → (IsOfLines setup rest r.driven.chain
      → IsOfLines setup rest q.driven.chain)
      → ((must → ⊥) → AreBodyEndsRoused v main r → AreBodyEndsRoused v t q)
      → LowersBody ct ot must setup rest step v w q m a c → SetsFew 2 a c → SettlesAfter step result w t u m s
      c b → s ≡ record m { reader = s.reader }
      → PaysBody ct ot setup rest result v w main r s a b
  end_pays same of_lines roused lowers few settles is = record {
    lines = settled_while (StaysOfLines setup rest r s) step result settles.settled
        (while_then (StaysOfLines setup rest q m) (StaysOfLines setup rest r s) step
        (λ lines of. subst (λ (x : Relay P). IsOfLines setup rest x.driven.chain) (sym is)
        (lines (of_lines of))) lowers.lines);
    pays = λ told also of covered. subst (λ (n : Option ℕ). Falls (number_left a.log.state.pending
        (relay_left setup rest v r)) (set_leaving result) (number_left b.log.state.pending n))
        (sym (left_settled setup rest result w m s is))
        (subst (λ (n : Option ℕ). Falls (number_left a.log.state.pending n) (set_leaving result)
        (number_left b.log.state.pending (left_after setup rest result w m))) same
        (by_step covered (lowers.falls told also (of_lines of))));
  }
    where
      goal : Type 0
      goal = Falls (number_left a.log.state.pending (relay_left setup rest v q)) (set_leaving result)
          (number_left b.log.state.pending (left_after setup rest result w m))

      -- where nothing was done, nobody is roused
      quiet : IsBodyCovered v main r a.log.state.next → HasNothingDue must step v w q m a c
          → length b.log.state.pending ≤ length a.log.state.pending
      quiet (inl (runs, ends)) idle =
          let ends_now = subst (λ (x : View). AreBodyEndsRoused x t m) (sym idle.view)
          (subst (λ (x : Relay P). AreBodyEndsRoused v t x) (sym idle.relay) (roused idle.free ends)) in
          let same_now : b ≡ a = settles.rests ends_now ∙ idle.quiet in
          omega (arith, ap (λ (x : Context). length x.log.state.pending) same_now)
      quiet (inr spent) idle =
          let first : length c.log.state.pending ≡ length a.log.state.pending = ap (λ (x : Context). length
          x.log.state.pending) idle.quiet in
          let behind : length b.log.state.pending ≤ length c.log.state.pending =
          spent_none c b settles.adds.grows (subst (λ (x : Context). GREATEST ≤ x.log.state.next)
          (sym idle.quiet) spent) in
          omega (arith, first, behind)

      on_goes : (step : BodyStep) → step ≡ S.Goes → SettledAs step result → OnGoes result ⊤
      on_goes step is settled = subst (λ (x : BodyStep). SettledAs x result) is settled

      by_step : IsBodyCovered v main r a.log.state.next → Fewer (relay_left setup rest v q) (left_after setup
          rest step w m) ⊎ HasNothingDue must step v w q m a c → goal
      by_step covered (inl fell) = paid_fewer a.log.state.pending b.log.state.pending (relay_left setup rest v
          q) (left_after setup rest result w m) (set_leaving result)
          (settled_less setup rest step result settles.settled (relay_left setup rest v q) w m fell)
          (four_and_one (length a.log.state.pending) (length c.log.state.pending) (length b.log.state.pending)
          (set_leaving result) few.pending settles.adds.few.pending (set_one result))
      by_step covered (inr idle) =
          subst (λ (x : View). Falls (number_left a.log.state.pending (relay_left setup rest v q))
          (set_leaving result) (number_left b.log.state.pending (left_after setup rest result x m)))
          (sym idle.view)
          (subst (λ (x : Relay P). Falls (number_left a.log.state.pending (relay_left setup rest v q))
          (set_leaving result) (number_left b.log.state.pending (left_after setup rest result v x)))
          (sym idle.relay)
          (stays_paid setup rest result (on_goes step idle.goes settles.settled) v q a b (quiet covered
          idle)))

-- ---- a stage did something, or nothing, and then both ends were roused that must work

stage_less : (p p1 p2 x out hear work work' given more : ℕ) → work' + 1 ≤ work → p1 ≤ p + 4 → p2 ≤ p1 + 2
    → more ≤ 1
    → events_paid * (end_room + (x + out) + hear + pump_weight * work' + given) + p2 + more ≤ events_paid *
    (end_room + (x + out) + hear + pump_weight * work + given) + p
stage_less p p1 p2 x out hear work work' given more less few after few_more = omega (
  arith,
  less,
  few,
  after,
  few_more,
)

stage_ended : (p p1 p2 x out hear work given : ℕ) → p1 ≤ p + 4 → p2 ≤ p1 + 2 → events_paid * 0 + p2 + 1
    ≤ events_paid * (end_room + (x + out) + hear + work + given) + p
stage_ended p p1 p2 x out hear work given few after = omega (arith, few, after)

stage_rests : (p p2 x out hear work work' given : ℕ) → work' ≤ work → p2 ≤ p
    → events_paid * (end_room + (x + out) + hear + pump_weight * work' + given) + p2 + 0 ≤ events_paid *
    (end_room + (x + out) + hear + pump_weight * work + given) + p
stage_rests p p2 x out hear work work' given less none = omega (arith, less, none)

module _ {P : Type 0} (ct ot : Bool) (setup : Setup) (rest : P → List ℕ → List ℕ) (step result : BodyStep)
    (v : View) (main u : Option StageContinuation)
    (r m s : Relay P) (a c b : Context) where
  -- `r` is the body before its event, `m` once a stage worked, and `s` once it is settled
  stage_pays : OnGoes step ⊤ → StaysOfLines setup rest r m → m ≡ record r { driven = m.driven }
      → m.driven.chain.given ≡ r.driven.chain.given
      → left_to_do rest m.driven.chain [] ≤ left_to_do rest r.driven.chain []
      → upstream_calls m.driven.table.items ≤ upstream_calls r.driven.table.items
      → (m.driven.running ≡ true → r.driven.running ≡ true)
      → StageDid rest r.driven.chain m.driven.chain r.driven.table.items m.driven.table.items a c
      → ActsWithin 4 a c
      → SettlesAfter step result v main u m s c b → s ≡ record m { reader = s.reader }
      → PaysBody ct ot setup rest result v v main r s a b
  stage_pays on stays was given less fewer runs did acts settles is = record {
    lines = settled_while (StaysOfLines setup rest r s) step result settles.settled
        (while_on (StaysOfLines setup rest r s) step (on_then (StaysOfLines setup rest r s) step on
        (λ of. subst (λ (x : Relay P). IsOfLines setup rest x.driven.chain) (sym is) (stays of))));
    pays = λ told also of covered. subst (λ (n : Option ℕ). Falls (number_left a.log.state.pending
        (relay_left setup rest v r)) (set_leaving result) (number_left b.log.state.pending n))
        (sym (left_settled setup rest result v m s is)) (settled_has Paid (λ h. h) (λ h. ended_paid) step
        result settles.settled (by_step step on covered did));
  }
    where
      come : has_come m ≡ has_come r
      come = ap (λ (x : Relay P). m.driven.chain.given || is_some x.short) was
          ∙ ap (λ g. g || is_some r.short) given

      -- what the ends must do depends on the chain, and on whether more of the body comes
      still_send : m.driven.chain ≡ r.driven.chain → MustSend v m → MustSend v r
      still_send same must = subst (λ (c : ChainState P). MustSend v (record r {
        driven = record m.driven {
          chain = c;
        };
      })) same (subst (λ (x : Relay P). MustSend v x) was must)

      still_read : m.driven.chain ≡ r.driven.chain → MustReadOn m → MustReadOn r
      still_read same must = subst (λ (c : ChainState P). MustReadOn (record r {
        driven = record m.driven {
          chain = c;
        };
      })) same (subst (λ (x : Relay P). MustReadOn x) was must)

      work : ℕ
      work = left_to_do rest r.driven.chain [] + calls_left r.driven

      work' : ℕ
      work' = left_to_do rest m.driven.chain [] + calls_left m.driven

      Paid : BodyStep → Type 0
      Paid result = Falls (number_left a.log.state.pending (relay_left setup rest v r)) (set_leaving result)
          (number_left b.log.state.pending (left_after setup rest result v m))

      less_paid : work' + 1 ≤ work → Paid S.Goes
      less_paid less = paid_sum a.log.state.pending b.log.state.pending (agains_left v) (λ x. body_work setup
          rest (calls_left r.driven) x v r.driven.chain (has_come r))
          (λ x. body_work setup rest (calls_left m.driven) x v m.driven.chain (has_come m)) 0 (λ x.
          subst (λ (g : Bool). events_paid * (end_room + (x + length v.client.outbox) + to_hear setup v.origin
          + pump_weight * work' + to_end g) + length b.log.state.pending + 0
          ≤ events_paid * body_work setup rest (calls_left r.driven) x v r.driven.chain (has_come r) + length
          a.log.state.pending) (sym come)
          (stage_less (length a.log.state.pending) (length c.log.state.pending) (length b.log.state.pending) x
          (length v.client.outbox) (to_hear setup v.origin) work work' (to_end (has_come r)) 0
          less acts.few.pending settles.adds.few.pending (omega arith)))

      ended_paid : Paid S.Lacks
      ended_paid = paid_sum a.log.state.pending b.log.state.pending (agains_left v) (λ x. body_work setup rest
          (calls_left r.driven) x v r.driven.chain (has_come r)) (λ x. 0) 1 (λ x.
          stage_ended (length a.log.state.pending) (length c.log.state.pending) (length b.log.state.pending) x
          (length v.client.outbox) (to_hear setup v.origin) (pump_weight * work)
          (to_end (has_come r)) acts.few.pending settles.adds.few.pending)

      -- no event was set, and there is no more to do
      rests_paid : work' ≤ work → length b.log.state.pending ≤ length a.log.state.pending → Paid S.Goes
      rests_paid few none = paid_sum a.log.state.pending b.log.state.pending (agains_left v) (λ x. body_work
          setup rest (calls_left r.driven) x v r.driven.chain (has_come r))
          (λ x. body_work setup rest (calls_left m.driven) x v m.driven.chain (has_come m)) 0 (λ x.
          subst (λ (g : Bool). events_paid * (end_room + (x + length v.client.outbox) + to_hear setup v.origin
          + pump_weight * work' + to_end g) + length b.log.state.pending + 0
          ≤ events_paid * body_work setup rest (calls_left r.driven) x v r.driven.chain (has_come r) + length
          a.log.state.pending) (sym come)
          (stage_rests (length a.log.state.pending) (length b.log.state.pending) x (length v.client.outbox)
          (to_hear setup v.origin) work work' (to_end (has_come r)) few none))

      -- the chain is as it was, so that nobody is roused
      quiet : AreBodyEndsRoused v main r → m.driven.chain ≡ r.driven.chain → length c.log.state.pending
          ≤ length a.log.state.pending → length b.log.state.pending ≤ length a.log.state.pending
      quiet ends same none =
          let ends_now : AreBodyEndsRoused v main m = record {
            writes = λ must. ends.writes (still_send same must);
            reads = λ must. subst (λ (x : Relay P). IsRousedIf x.reader) (sym was)
                (ends.reads (still_read same must));
          } in
          omega (arith, ap (λ (x : Context). length x.log.state.pending) (settles.rests ends_now), none)

      -- while the chain runs each of the calls counts
      counted : (b : Bool) (n : ℕ) → b ≡ true → (if b then n else 0) ≡ n
      counted true n runs = refl
      counted false n runs = absurd (false≢true runs)

      at_most : (b : Bool) (n : ℕ) → (if b then n else 0) ≤ n
      at_most true n = omega arith
      at_most false n = omega arith

      less_sum : (l l' e e' f f' : ℕ) → l' + e' + 1 ≤ l + e → f ≡ e → f' ≤ e' → l' + f' + 1 ≤ l + f
      less_sum l l' e e' f f' less same few = omega (arith, less, same, few)

      same_sum : (l l' e e' f f' : ℕ) → l' ≡ l → e' ≡ e → f ≡ e → f' ≤ e' → l' + f' ≤ l + f
      same_sum l l' e e' f f' first second same few = omega (arith, first, second, same, few)

      running_paid : r.driven.running ≡ true → AreBodyEndsRoused v main r → StageDid rest r.driven.chain
          m.driven.chain r.driven.table.items m.driven.table.items a c → Paid S.Goes
      running_paid is_running ends (inl done) = less_paid
          (less_sum (left_to_do rest r.driven.chain []) (left_to_do rest m.driven.chain []) (upstream_calls
          r.driven.table.items) (upstream_calls m.driven.table.items) (calls_left r.driven)
          (calls_left m.driven)
          done (counted r.driven.running (upstream_calls r.driven.table.items) is_running)
          (at_most m.driven.running (upstream_calls m.driven.table.items)))
      running_paid is_running ends (inr (same, calls, none)) = rests_paid
          (same_sum (left_to_do rest r.driven.chain []) (left_to_do rest m.driven.chain []) (upstream_calls
          r.driven.table.items) (upstream_calls m.driven.table.items) (calls_left r.driven)
          (calls_left m.driven)
          (ap (λ (x : ChainState P). left_to_do rest x []) same) calls (counted r.driven.running
          (upstream_calls r.driven.table.items) is_running) (at_most m.driven.running (upstream_calls
          m.driven.table.items)))
          (quiet ends same none)

      goes_paid : IsBodyCovered v main r a.log.state.next → StageDid rest r.driven.chain m.driven.chain
          r.driven.table.items m.driven.table.items a c → Paid S.Goes
      goes_paid (inl (is_running, ends)) did = running_paid is_running ends did
      goes_paid (inr spent) did = rests_paid
          (add-le-add less (calls_fewer m.driven.running r.driven.running (upstream_calls
          m.driven.table.items) (upstream_calls r.driven.table.items) fewer runs))
          (spent_none a b (grows_trans acts.grows settles.adds.grows) spent)

      by_step : (step : BodyStep) → OnGoes step ⊤ → IsBodyCovered v main r a.log.state.next
          → StageDid rest r.driven.chain m.driven.chain r.driven.table.items m.driven.table.items a c
          → Paid step
      by_step S.Goes on covered did = goes_paid covered did
      by_step S.Lacks on covered did = ended_paid
      by_step _ on covered did = absurd on

-- ---- nobody works at the event

pub quiet_pays : {P : Type 0} (ct ot : Bool) (setup : Setup) (rest : P → List ℕ → List ℕ) (v : View)
    (main : Option StageContinuation) (r : Relay P) (a : Context)
    → PaysBody ct ot setup rest S.Goes v v main r r a a
quiet_pays ct ot setup rest v main r a = record {
  lines = λ of. of;
  pays = λ told also of covered. paid_none a.log.state.pending a.log.state.pending (relay_left setup rest v r)
      (relay_left setup rest v r) (no_more_same (relay_left setup rest v r))
      (le_refl (length a.log.state.pending));
}

-- ---- the first continuation, and the reader

module _ {P : Type 0} (ct ot : Bool) (setup : Setup) (rest : P → List ℕ → List ℕ) (step result : BodyStep)
    (v w : View) (main t u : Option StageContinuation)
    (r q m s : Relay P) (a c b : Context) where
  -- what was not to be sent needs nobody
  pub send_pays : t ≡ unroused main → StepsChain step 1 r.driven m.driven a c
      → LowersBody ct ot (MustSend v r) setup rest step v w r m a c
      → SettlesAfter step result w t u m s c b → s ≡ record m { reader = s.reader }
      → PaysBody ct ot setup rest result v w main r s a b
  send_pays is chain lowers settles same =
      end_pays ct ot (MustSend v r) setup rest step result v w main t u r r m s a c b
      refl (λ of. of)
      (λ free ends. record { writes = λ must. absurd (free must); reads = ends.reads }) lowers
      (few_two chain.adds.few) settles same
    where
      few_two : SetsFew 1 a c → SetsFew 2 a c
      few_two few = record { next = omega (arith, few.next); pending = omega (arith, few.pending) }

  pub read_pays : q ≡ record r { reader = unroused r.reader } → t ≡ main → StepsChain step 2 q.driven m.driven
      a c → LowersBody ct ot (MustReadOn q) setup rest step v w q m a c
      → SettlesAfter step result w t u m s c b → s ≡ record m { reader = s.reader }
      → PaysBody ct ot setup rest result v w main r s a b
  read_pays is same_main chain lowers settles same =
      end_pays ct ot (MustReadOn q) setup rest step result v w main t u r q m s a c b
      (ap (λ (x : Relay P). relay_left setup rest v x) is) (λ of. subst (λ (x : Relay P). IsOfLines setup rest
      x.driven.chain) (sym is) of)
      (λ free ends. record {
        writes = λ must. subst (λ (x : Option StageContinuation). IsRousedIf x) (sym same_main)
            (ends.writes (subst (λ (x : Relay P). MustSend v x) is must));
        reads = λ must. absurd (free must);
      }) lowers chain.adds.few settles same

-- ---- a stage

module _ {P : Type 0} (ct ot : Bool) (setup : Setup) (rest : P → List ℕ → List ℕ) (pause : P → ℕ) (role : ℕ)
    (event : Event) (answer : Result ⊤ SetFault) (result : BodyStep) (v : View)
    (main u : Option StageContinuation) (r s : Relay P) (e : DrivenChain P) (a c b : Context) where
  -- a stage's event, or one of nobody, leaves no more calls to be made upstream
  driven_calls : ((at : ℕ) → role ≡ FIRST + at → IsStage r.driven.chain r.driven.table.items at → Acts rest
      pause at event r.driven e a c) → (IsOfNoStage FIRST role r.driven → e ≡ r.driven)
      → upstream_calls e.table.items ≤ upstream_calls r.driven.table.items
  driven_calls acts other = by_stage (stage_at role r.driven.chain r.driven.table.items)
    where
      by_stage : ((at : ℕ) × (role ≡ FIRST + at) × IsStage r.driven.chain r.driven.table.items at) ⊎ ((at : ℕ)
          → role ≡ FIRST + at → IsStage r.driven.chain r.driven.table.items at → ⊥)
          → upstream_calls e.table.items ≤ upstream_calls r.driven.table.items
      by_stage (inl (at, is, stage)) = calls_fall rest pause at r.driven.chain e.chain r.driven.table.items _
          e.table.items r.driven.running e.running a c event (acts at is stage)
      by_stage (inr none) = le_of_eq (ap (λ (x : DrivenChain P). upstream_calls x.table.items) (other none))

  -- nor has the chain more to do
  chain_less : (l l' : ℕ) (c d : ChainState P) → l' ≡ left_to_do rest d [] → l ≡ left_to_do rest c []
      → WorksOrStays rest c d → l' ≤ l
  chain_less l l' c d is was (inl same) = let left : left_to_do rest d [] ≡ left_to_do rest c [] =
      ap (λ (x : ChainState P). left_to_do rest x []) same in omega (arith, is, was, left)
  chain_less l l' c d is was (inr less) = omega (arith, is, was, less)

  pub role_pays : ((at : ℕ) → role ≡ FIRST + at → IsStage r.driven.chain r.driven.table.items at → Acts rest
      pause at event r.driven e a c) → (IsOfNoStage FIRST role r.driven → e ≡ r.driven)
      → (soon : P → List ℕ → Option (List ℕ))
      → StillGives rest soon r.driven.chain e.chain r.driven.table.items e.table.items a c → ActsWithin 4 a c
      → Loses answer r.driven e a c
      → SettlesAfter (step_after answer) result v main u (record r { driven = e }) s c b
      → s ≡ record (record r { driven = e }) { reader = s.reader } → PaysBody ct ot setup rest result v v main
      r s a b
  role_pays acts other soon gives within loses settles same =
      stage_pays ct ot setup rest (step_after answer) result v main u r (record r { driven = e }) s a c b
      (goes_after answer) (handled_lines setup rest r.driven.chain e.chain gives.once) refl gives.given
      (chain_less (left_to_do rest r.driven.chain []) (left_to_do rest e.chain []) r.driven.chain e.chain
      refl refl (once_works rest r.driven.chain e.chain gives.once)) (driven_calls acts other)
      (loses_runs answer r.driven e a c loses)
      (stage_did rest r.driven.chain e.chain r.driven.table.items e.table.items a c soon gives (driven_calls
      acts
      other)) within settles same
