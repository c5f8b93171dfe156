-- Wherever an event leads a transaction on its course, what is left to do pays for each event that is set, so
-- that each event
-- that is handled lowers its number.
use Rattle.std.proofs.Common.{zero-le, ◌≡◌, ◌⊎◌, inl, inr, ℕ, ◌+◌, ◌≤◌, List, length, Bool, true, false}
use Rattle.std.proofs.Common.{arith, refl, sym, ap, subst}
use Rattle.std.proofs.Math.Nat.{le_trans}
use Rattle.std.specs.Prelude.{◌&&◌, Option, Some, None}
use Rattle.std.specs.Arc.{arc_value}
use Rattle.ts_config.specs.Bytes.{most_transforms}
use Rattle.ts_config.specs.declared.setup.Setup.{Setup}
use Rattle.ts_hooks.specs.declared.txn_end.TxnEnd.{TxnEnd}
use Rattle.ts_hooks.specs.declared.txn_end.TxnEnd.TheVariants as E
use Rattle.ts_journal.specs.declared.entry.Pending.{Pending}
use Rattle.ts_journal.specs.declared.entry.TheConstants.{GREATEST}
use Rattle.ts_journal.specs.declared.entry.Event.{Event}
use Rattle.ts_journal.specs.State.{State}
use Rattle.ts_group.proofs.Keeps.{falls_refl}
use Rattle.ts_group.specs.Answers.{Falls}
use Rattle.ts_group.specs.Calls.{IsCalled}
use Rattle.ts_group.specs.Context.{Context}
use Rattle.ts_group.specs.declared.action.Named.{Named}
use Rattle.ts_link.specs.Link.{Fewer, NoMore}
use Rattle.ts_config.specs.declared.setup.TransformLine.{TransformLine}
use Rattle.ts_link.specs.declared.link.Link as link
use Rattle.ts_upstream.specs.declared.upstream.Upstream as upstream
use Rattle.ts_transform.specs.declared.transform.Transform as transform
use Rattle.ts_txn.specs.Course.{course_after, finish_after}
use Rattle.ts_transform.specs.declared.continuation.StageContinuation.{StageContinuation}
use Rattle.ts_txn.specs.CourseCover.{BodyHasEvents, IsCoveredOn, StaysOnOrLacks}
use Rattle.ts_phases.specs.Cover.{set_after}
use Rattle.ts_relay.specs.Duties.{set_by_beginning, set_leaving, IsBodyCovered, WhileGoes}
use Rattle.ts_phases.specs.Holding.{IfTold}
use Rattle.ts_phases.specs.Lowering.{StepFalls, agains_left, enter_left, enter_work, if_told}
use Rattle.ts_phases.specs.Lowering.{number_left, phase_work, upload_in, work_left}
use Rattle.ts_relay.specs.LoweringBody.{IsOfLines, StaysOfLines, ended_left, finish_left, left_after}
use Rattle.ts_relay.specs.LoweringBody.{begin_room, rest_after, unbegun_left}
use Rattle.ts_txn.specs.LoweringCourse.{IsOfLinesOn, course_left, number_if, parts_left, transaction_left}
use Rattle.ts_phases.specs.View.{View, upload_of, view_of}
use Rattle.ts_txn.specs.World.{most_set}
use Rattle.ts_txn.specs.declared.course.Course.{Course}
use Rattle.ts_txn.specs.declared.course.Course.TheVariants as K
use Rattle.ts_relay.specs.declared.last_writes.BodyStep.{BodyStep}
use Rattle.ts_relay.specs.declared.last_writes.BodyStep.TheVariants as S
use Rattle.ts_phases.specs.declared.parts.Core.{Core}
use Rattle.ts_phases.specs.declared.phase.Next.{Next}
use Rattle.ts_phases.specs.declared.phase.Next.TheVariants as N
use Rattle.ts_phases.specs.declared.phase.Phase.{Phase}
use Rattle.ts_phases.specs.declared.phase.Phase.TheVariants as P
use Rattle.ts_phases.specs.declared.phase.Step.{Step}
use Rattle.ts_relay.specs.declared.relay.Relay.{Relay}
use Rattle.ts_txn.proofs.CourseCalls.{spent_still}
use Rattle.ts_relay.proofs.LoweringEntry.{ended_no_more}
use Rattle.ts_relay.proofs.LoweringEvents.{handled_falls, one_paid, paid_fewer, paid_none, paid_then}
use Rattle.ts_relay.proofs.LoweringEvents.{step_pays}
use Rattle.ts_relay.proofs.LoweringPays.{set_one}
use Rattle.ts_relay.proofs.LoweringRelay.{ended_if}

-- ---- it can also end at once

-- from wherever a step led
paid_end : (before mid now : List Pending) (m m' upload : Option ℕ) (f : ℕ → ℕ → ℕ) (more : ℕ)
    → Falls (number_left before m) more (number_left mid (if_told m' upload f))
    → length now ≤ length mid + more → Falls (number_left before m) 0
    (number_left now (if_told m' (Some 0) (λ x y. 0)))
paid_end before mid now None m' upload f more paid few = tt
paid_end before mid now (Some x) None upload f more paid few = absurd paid
paid_end before mid now (Some x) (Some x') None f more paid few = absurd paid
paid_end before mid now (Some x) (Some x') (Some y) f more paid few = omega (arith, paid, few)

ended_step : (next : Next) (m m' upload : Option ℕ) (f : ℕ → ℕ → ℕ) → StepFalls next m (if_told m' upload f)
    → StepFalls next m (if_told m' (Some 0) (λ x y. 0))
ended_step N.Done m m' upload f kept = ended_no_more m m' upload f kept
ended_step _ m m' upload f fell = ended_if m m' upload f fell

-- what falls by so much, and then is no more, falls by as much; and so does what is no more and then falls
falls_then : (m n k : Option ℕ) (by : ℕ) → Falls m by n → NoMore n k → Falls m by k
falls_then None n k by fell kept = tt
falls_then (Some x) None k by fell kept = absurd fell
falls_then (Some x) (Some y) None by fell kept = absurd kept
falls_then (Some x) (Some y) (Some z) by fell kept = omega (arith, fell, kept)

then_falls : (m n k : Option ℕ) (by : ℕ) → NoMore m n → Falls n by k → Falls m by k
then_falls None n k by kept fell = tt
then_falls (Some x) None k by kept fell = absurd kept
then_falls (Some x) (Some y) None by kept fell = absurd fell
then_falls (Some x) (Some y) (Some z) by kept fell = omega (arith, kept, fell)

then_none : (m n k : Option ℕ) → NoMore m n → NoMore n k → NoMore m k
then_none None n k kept none = tt
then_none (Some x) None k kept none = absurd kept
then_none (Some x) (Some y) None kept none = absurd none
then_none (Some x) (Some y) (Some z) kept none = omega (arith, kept, none)

plus_none : (a b k : ℕ) → a ≤ b + k → a + 0 ≤ b + k
plus_none a b k few = omega (arith, few)

-- the events of a beginning, with one where the body is left at once, are paid by what it lowers
begin_paid : (before mid : List Pending) (m n : Option ℕ) (more stages : ℕ) → Falls m begin_room n
    → length mid ≤ length before + set_by_beginning stages → stages ≤ most_transforms → more ≤ 1
    → Falls (number_left before m) more (number_left mid n)
begin_paid before mid None n more stages fell set few one = tt
begin_paid before mid (Some x) None more stages fell set few one = absurd fell
begin_paid before mid (Some x) (Some y) more stages fell set few one =
    let room : y + begin_room ≤ x = fell in
    omega (arith, room, set, few, one)

module _ {Q : Type 0} (setup : Setup) (rest : Q → List ℕ → List ℕ) where
  -- ---- a step of a body, and where it leads

  course_after_left : (step : BodyStep) (r : Relay Q) (w : View) (upload : Option ℕ)
      → course_left setup rest upload w (course_after r step) ≡ left_after setup rest step w r
  course_after_left S.Goes r w upload = refl
  course_after_left _ r w upload = refl

  -- so it is behind a step of a body
  after_ended : (step : BodyStep) (r : Relay Q) (w : View) (before mid now : List Pending) (m : Option ℕ)
      (more : ℕ) → Falls (number_left before m) more (number_left mid (left_after setup rest step w r))
      → length now ≤ length mid + more → Falls (number_left before m) 0 (number_left now (ended_left w))
  after_ended S.Goes r w before mid now m more paid few = paid_end before mid now m (agains_left w) (Some 0) _
      more paid few
  after_ended _ r w before mid now m more paid few = paid_end before mid now m (agains_left w) (Some 0) _ more
      paid few

  pub body_led : (step : BodyStep) (r : Relay Q) (result : Course Q) (w : View) (upload : Option ℕ)
      (before mid now : List Pending) (m : Option ℕ) → StaysOnOrLacks (course_after r step) result
      → Falls (number_left before m) (set_leaving step) (number_left mid (left_after setup rest step w r))
      → length now ≤ length mid + set_leaving step
      → Falls (number_left before m) 0 (number_left now (course_left setup rest upload w result))
  body_led step r result w upload before mid now m (inl same) paid few =
      subst (λ (c : Course Q). Falls (number_left before m) 0
      (number_left now (course_left setup rest upload w c))) (sym same)
      (subst (λ (n : Option ℕ). Falls (number_left before m) 0 (number_left now n))
      (sym (course_after_left step r w upload))
      (paid_then before mid now m (left_after setup rest step w r) (set_leaving step) 0 paid
      (plus_none (length now) (length mid) (set_leaving step) few)))
  body_led step r result w upload before mid now m (inr lacks) paid few =
      subst (λ (c : Course Q). Falls (number_left before m) 0
      (number_left now (course_left setup rest upload w c))) (sym lacks)
      (after_ended step r w before mid now m (set_leaving step) paid few)

  -- the chain stays one of the configuration's
  pub lines_stay : (led result : Course Q) → IsOfLinesOn setup rest led → StaysOnOrLacks led result
      → IsOfLinesOn setup rest result
  lines_stay led result lines (inl same) = subst (λ (c : Course Q). IsOfLinesOn setup rest c) (sym same) lines
  lines_stay led result lines (inr lacks) = subst (λ (c : Course Q). IsOfLinesOn setup rest c) (sym lacks) tt

  pub lines_after : (step : BodyStep) (r s : Relay Q) → WhileGoes step (StaysOfLines setup rest r s)
      → IsOfLines setup rest r.driven.chain → IsOfLinesOn setup rest (course_after s step)
  lines_after S.Goes r s lines of = lines of
  lines_after S.Waits r s lines of = lines of
  lines_after _ r s lines of = tt

  pub lines_last : (end : TxnEnd) (step : BodyStep) → IsOfLinesOn setup rest (finish_after end step)
  lines_last end S.Goes = tt
  lines_last end _ = tt

  -- ---- the body began

  module _ (m : Option ℕ) (v w : View) (kept : NoMore m (enter_left setup v)) where
    pub begun_led : (step : BodyStep) (r s : Relay Q) (result : Course Q) (upload : Option ℕ)
        (before mid now : List Pending) (stages : ℕ)
        → Falls (enter_left setup v) begin_room (unbegun_left setup rest w r)
        → NoMore (unbegun_left setup rest w r) (left_after setup rest step w s)
        → length mid ≤ length before + set_by_beginning stages → stages ≤ most_transforms
        → StaysOnOrLacks (course_after s step) result
        → length now ≤ length mid + set_leaving step
        → Falls (number_left before m) 0 (number_left now (course_left setup rest upload w result))
    begun_led step r s result upload before mid now stages fell stays set few led behind =
        body_led step s result w upload before mid now m led
        (begin_paid before mid m (left_after setup rest step w s) (set_leaving step) stages
        (falls_then m (unbegun_left setup rest w r) (left_after setup rest step w s) begin_room
        (then_falls m (enter_left setup v) (unbegun_left setup rest w r) begin_room kept fell) stays)
        set few (set_one step)) behind

    -- memory lacked for its head
    pub not_begun : (upload : Option ℕ) (before now : List Pending)
        → w.client.look.agains ≡ v.client.look.agains → w.origin.look.agains ≡ v.origin.look.agains
        → length now ≤ length before
        → Falls (number_left before m) 0
        (number_left now (course_left setup rest upload w (K.Phased (P.Ended E.NoMemory))))
    not_begun upload before now client origin none =
        paid_none before now m (ended_left w)
        (then_none m (enter_left setup v) (ended_left w) kept
        (zero_more (agains_left v) (agains_left w) (λ again. enter_work setup again 0 v)
        (same_agains v w client origin))) none
      where
        zero_more : (m m' : Option ℕ) (f : ℕ → ℕ) → m' ≡ m
            → NoMore (if_told m (Some 0) (λ x y. f x)) (if_told m' (Some 0) (λ x y. 0))
        zero_more None m' f same = tt
        zero_more (Some x) m' f same = subst (λ (n : Option ℕ). NoMore (Some (f x))
            (if_told n (Some 0) (λ x y. 0))) (sym same) zero-le

        same_agains : (v w : View) → w.client.look.agains ≡ v.client.look.agains
            → w.origin.look.agains ≡ v.origin.look.agains → agains_left w ≡ agains_left v
        same_agains v w client origin = rw (client, origin) refl

  -- ---- one of the last writes

  finish_after_left : (end : TxnEnd) (step : BodyStep) (w : View) (upload : Option ℕ)
      → course_left setup rest upload w (finish_after end step) ≡ rest_after step w
  finish_after_left end S.Goes w upload = refl
  finish_after_left end _ w upload = refl

  -- and behind one of the last writes
  rest_ended : (step : BodyStep) (m : Option ℕ) (w : View) → Fewer m (rest_after step w)
      → Fewer m (ended_left w)
  rest_ended (S.Closes end) m w fell = ended_if m (agains_left w) (Some 0) (λ x y. 1) fell
  rest_ended S.Lacks m w fell = fell
  rest_ended _ m w fell = ended_if m (agains_left w) (Some 0) (λ x y. 2 + (x + length w.client.outbox)) fell

  pub finish_led : (end : TxnEnd) (step : BodyStep) (result : Course Q) (v w : View) (upload : Option ℕ)
      (before now : List Pending) → StaysOnOrLacks (finish_after end step) result
      → Fewer (finish_left v) (rest_after step w) → length now ≤ length before + 1
      → Falls (number_left before (finish_left v)) 0
      (number_left now (course_left setup rest upload w result))
  finish_led end step result v w upload before now (inl same) fell few =
      subst (λ (c : Course Q). Falls (number_left before (finish_left v)) 0
      (number_left now (course_left setup rest upload w c))) (sym same)
      (subst (λ (n : Option ℕ). Falls (number_left before (finish_left v)) 0 (number_left now n))
      (sym (finish_after_left end step w upload))
      (paid_fewer before now (finish_left v) (rest_after step w) 0 fell
      (one_paid (length now) (length before) few)))
  finish_led end step result v w upload before now (inr lacks) fell few =
      subst (λ (c : Course Q). Falls (number_left before (finish_left v)) 0
      (number_left now (course_left setup rest upload w c))) (sym lacks)
      (paid_fewer before now (finish_left v) (ended_left w) 0 (rest_ended step (finish_left v) w fell)
      (one_paid (length now) (length before) few))

  -- ---- the step of a phase

  pub phase_led : (p : Phase) (step : Step) (result : Course Q) (v w : View) (upload upload_then : Option ℕ)
      (before now : List Pending) → StaysOnOrLacks (K.Phased step.phase) result
      → StepFalls step.next (work_left setup upload v p) (work_left setup upload_then w step.phase)
      → length now ≤ length before + set_after step.next
      → Falls (number_left before (work_left setup upload v p)) 0
      (number_left now (course_left setup rest upload_then w result))
  phase_led p step result v w upload upload_then before now (inl same) fell few =
      subst (λ (c : Course Q). Falls (number_left before (work_left setup upload v p)) 0
      (number_left now (course_left setup rest upload_then w c))) (sym same)
      (step_pays before now step.next (work_left setup upload v p) (work_left setup upload_then w step.phase)
      fell few)
  phase_led p step result v w upload upload_then before now (inr lacks) fell few =
      subst (λ (c : Course Q). Falls (number_left before (work_left setup upload v p)) 0
      (number_left now (course_left setup rest upload_then w c))) (sym lacks)
      (step_pays before now step.next (work_left setup upload v p) (ended_left w)
      (ended_step step.next (work_left setup upload v p) (agains_left w) (upload_in upload_then step.phase)
      (λ x y. phase_work setup x y w step.phase) fell) few)

-- ---- the events of a beginning

pub few_stages : {stages lines : ℕ} → stages ≤ lines → lines ≤ most_transforms → stages ≤ most_transforms
few_stages few within = le_trans few within

-- with the one where the body is left, they are no more than a transaction sets
pub begin_within : (stages more : ℕ) → stages ≤ most_transforms → more ≤ 1
    → set_by_beginning stages + more ≤ most_set
begin_within stages more few one = omega (arith, few, one)

-- ---- in the group

less_by_one : (m n : ℕ) → m + 1 ≡ n → m + 1 ≤ n
less_by_one m n same = omega (arith, same)

module _ {C O Q : Type 0} (client : link.Ghosts C) (origin : link.Ghosts O) (both : upstream.Ghosts O C)
    (stage : transform.Ghosts Q TransformLine) where
  -- where nothing was done
  pub stays_on : (core : Core C O) (course : Course Q) (pending : List Pending)
      → IfTold client.tells origin.tells (Falls
      (number_left pending (parts_left client origin both stage core course)) 0
      (number_left pending (parts_left client origin both stage core course)))
  stays_on core course pending told also = falls_refl
      (number_left pending (parts_left client origin both stage core course))

  pub if_both : (a b : Bool) (m n : Option ℕ) (k : ℕ) → (a ≡ true → b ≡ true → Falls m k n)
      → Falls (number_if (a && b) m) k (number_if (a && b) n)
  if_both true true m n k fell = fell refl refl
  if_both true false m n k fell = tt
  if_both false b m n k fell = tt

  -- the event that was handled is pending no more: each event lowers the number of the transaction
  pub transaction_falls : (old new : Core C O) (course result : Course Q) (before after now : List Pending)
      → new.setup ≡ old.setup → length after + 1 ≡ length before
      → IfTold client.tells origin.tells (Falls
      (number_left after (parts_left client origin both stage old course)) 0
      (number_left now (course_left (arc_value old.setup) stage.rest (upload_of both new)
      (view_of client origin new) result)))
      → Falls (transaction_left client origin both stage old course before) 1
      (transaction_left client origin both stage new result now)
  transaction_falls old new course result before after now setup handled paid =
      subst (λ (s : Setup). Falls (transaction_left client origin both stage old course before) 1
      (number_if (client.tells && origin.tells)
      (number_left now (course_left s stage.rest (upload_of both new)
      (view_of client origin new) result)))) (sym (ap arc_value setup))
      (if_both client.tells origin.tells (number_left before (parts_left client origin both stage old course))
      (number_left now (course_left (arc_value old.setup) stage.rest (upload_of both new)
      (view_of client origin new) result)) 1
      (λ told also. handled_falls before after now (parts_left client origin both stage old course)
      (course_left (arc_value old.setup) stage.rest (upload_of both new)
      (view_of client origin new) result) (less_by_one (length after) (length before) handled)
      (paid told also)))

-- where nothing was done
pub asked_same : (m n : Option ℕ) → n ≡ m → Falls m 0 n
asked_same m n same = subst (λ (x : Option ℕ). Falls m 0 x) (sym same) (falls_refl m)

-- ---- the event of a role

-- who must work in a body is covered once its event was handled
pub covered_called : {Q : Type 0} (Sound : State → List Named → Type 0) (v : View)
    (main : Option StageContinuation) (r : Relay Q) (now : Context) (role : ℕ) (event : Event)
    (c : IsCalled Sound now role event) → IsCoveredOn v main (K.Relaying r) c.before.pending c.before.next
    now.roles → IsBodyCovered v main r now.log.state.next
covered_called Sound v main r now role event c covered = by_event covered.covered
  where
    by_event : BodyHasEvents v main r c.before.pending now.roles ⊎ (GREATEST ≤ c.before.next)
        → IsBodyCovered v main r now.log.state.next
    by_event (inl has) = inl (has.runs, has.ends)
    by_event (inr spent) = inr (spent_still Sound now role event c covered.plain spent)
