-- What threads tell of their runs, and how that of several is joined.
use Rattle.std.proofs.Common.{◌≡◌, ℕ, zero, suc, ◌-◌, ◌<◌, inl, inr, List, [], Bool, true, false, Option, Result, Ok, Err, refl, sym, ◌∙◌, subst, arith}
use Rattle.std.specs.Prelude.{◌&&◌, IfOk, OnErr, is_ok}
use Rattle.ts_link.specs.declared.octets.NoMemory.{NoMemory}
use Rattle.ts_journal.specs.declared.slotted.Slotted.{Ghosts}
use Rattle.ts_journal.specs.State.{State}
use Rattle.ts_group.specs.declared.action.Named.{Named}
use Rattle.ts_group.specs.declared.group.Group.{Group}
use Rattle.ts_group.specs.declared.world.Asked.{Asked}
use Rattle.ts_queue.specs.declared.queue.QueuePass.{QueuePass}
use Rattle.ts_queue.specs.Passes.{pass_view}
use Rattle.ts_slot.specs.declared.seat.Seat.{Seat}
use Rattle.ts_thread.specs.declared.desk.Desk.{Desk}
use Rattle.ts_thread.specs.declared.did.RunEnd.{RunEnd}
use Rattle.ts_thread.specs.Ran.{IsSplit, IsRejoined, RanToEnd, AllRanToEnd, TellsRun, TellRuns}
use Rattle.ts_thread.specs.Runs.{HasRunTo, HasLacked}

-- two answers that are true together are each
both_true : (a b : Bool) → true ≡ (a && b) → (a ≡ true) × (b ≡ true)
both_true true true is = (refl, refl)
both_true true false is = absurd (cc)
both_true false b is = absurd (cc)

module _ {W Q R T U : Type 0} {d : Ghosts (Group W Q R T U) T (Group W Q R T U)}
    (Fits : T → W → Type 0) (Asking : W → State → List Named → ℕ → ℕ → Q → Type 0)
    (Answers : W → Q → R → Type 0) (Called : W → W → List ℕ → Type 0) (Heard : W → W → Asked Q R → Type 0)
    (Left : W → State → Option ℕ) (tags : List T) (budget : ℕ) where
  -- where the answer of one thread is true, it ran to its end
  one_ran : (ended : Bool) → ended ≡ true
      → (seat back : Seat (Group W Q R T U) T (Group W Q R T U) d) → (pass back_pass : QueuePass)
      → TellsRun Fits Asking Answers Called Heard Left tags budget ended seat pass back back_pass
      → RanToEnd Fits Asking Answers Called Heard Left tags budget seat pass back back_pass
  one_ran true is seat back pass back_pass tells = tells
  one_ran false is seat back pass back_pass tells = absurd (cc)

  -- where the answer of threads is true, each ran to its end
  pub all_ran : (n : ℕ) → (ended : Bool) → ended ≡ true
      → (seat back : Seat (Group W Q R T U) T (Group W Q R T U) d) → (pass back_pass : QueuePass)
      → TellRuns Fits Asking Answers Called Heard Left tags budget n ended seat pass back back_pass
      → AllRanToEnd Fits Asking Answers Called Heard Left tags budget n seat pass back back_pass
  all_ran zero ended is seat back pass back_pass tells = absurd tells
  all_ran (suc zero) ended is seat back pass back_pass tells = one_ran ended is seat back pass back_pass tells
  all_ran (suc (suc n)) ended is seat back pass back_pass (inl unsplit) = absurd (cc)
  all_ran (suc (suc n)) ended is seat back pass back_pass
      (inr (one, one', rest, rest', p, p', q, q', own, others, split, ran, tell, joins, both)) =
      let each = both_true others own (sym is ∙ both) in (
        one,
        one',
        rest,
        rest',
        p,
        p',
        q,
        q',
        split,
        one_ran own each.1 one one' p p' ran,
        all_ran (suc n) others each.0 rest rest' q q' tell,
        joins,
      )

  -- what one thread more tells, which was split off and joined again
  pub one_more : (n : ℕ) → 1 < n → (own others : Bool)
      → (seat back one one' rest rest' : Seat (Group W Q R T U) T (Group W Q R T U) d)
      → (pass back_pass p p' q q' : QueuePass) → IsSplit seat one rest pass p q
      → IsRejoined back one' rest' back_pass p' q'
      → TellRuns Fits Asking Answers Called Heard Left tags budget (n - 1) others rest q rest' q'
      → TellsRun Fits Asking Answers Called Heard Left tags budget own one p one' p'
      → TellRuns Fits Asking Answers Called Heard Left tags budget n (others && own) seat pass back back_pass
  one_more zero more own others seat back one one' rest rest' pass back_pass p p' q q' split joins tell ran =
      absurd (omega arith)
  one_more (suc zero) more own others seat back one one' rest rest' pass back_pass p p' q q' split joins tell
      ran = absurd (omega arith)
  one_more (suc (suc n)) more own others seat back one one' rest rest' pass back_pass p p' q q' split joins
      tell ran =
      let count : suc (suc n) - 1 ≡ suc n = omega arith in inr (
        one,
        one',
        rest,
        rest',
        p,
        p',
        q,
        q',
        own,
        others,
        split,
        ran,
        subst (λ m. TellRuns Fits Asking Answers Called Heard Left tags budget m others rest q rest' q') count
            tell,
        joins,
        refl,
      )

  -- what more threads than one tell where memory lacked for a part of their pass
  pub none_split : (n : ℕ) → 1 < n → (seat : Seat (Group W Q R T U) T (Group W Q R T U) d)
      → (pass back_pass : QueuePass) → pass_view back_pass ≡ pass_view pass
      → TellRuns Fits Asking Answers Called Heard Left tags budget n false seat pass seat back_pass
  none_split zero more seat pass back_pass same = absurd (omega arith)
  none_split (suc zero) more seat pass back_pass same = absurd (omega arith)
  none_split (suc (suc n)) more seat pass back_pass same = inl (refl, refl, same)

  -- what a thread tells that had a seat, a pass and an empty wheel, by the answer of its run
  pub tells_alone : (own : List T) → own ≡ tags → (result : Result RunEnd NoMemory)
      → (old new : Desk (Group W Q R T U) T (Group W Q R T U) d)
      → (seat back : Seat (Group W Q R T U) T (Group W Q R T U) d) → (pass back_pass : QueuePass)
      → (old.seat ≡ seat) × (old.pass ≡ pass) × (old.wheel ≡ []) → (new.seat ≡ back) × (new.pass ≡ back_pass)
      → IfOk result (HasRunTo Fits Asking Answers Called Heard Left own budget old new)
      → OnErr result (HasLacked Fits Asking Answers Called Heard Left own budget old new)
      → TellsRun Fits Asking Answers Called Heard Left tags budget (is_ok result) seat pass back back_pass
  tells_alone own same (Ok end) old new seat back pass back_pass begins ends ran lacked = record {
    old = old;
    new = new;
    end = end;
    begins = begins;
    ends = ends;
    ran = subst (λ (ts : List T). HasRunTo Fits Asking Answers Called Heard Left ts budget old new end)
        same ran;
  }
  tells_alone own same (Err lack) old new seat back pass back_pass begins ends ran lacked = inr (record {
    old = old;
    new = new;
    begins = begins;
    ends = ends;
    lacked = subst (λ (ts : List T). HasLacked Fits Asking Answers Called Heard Left ts budget old new)
        same lacked;
  })
