-- Turns of a thread, one after the other, and why a run of them ended.
use Rattle.std.specs.Prelude.{◌≡◌, ℕ, zero, suc, ◌<◌, List, [], Option, Some, length}
use Rattle.ts_journal.specs.declared.slotted.Slotted.{Ghosts}
use Rattle.ts_journal.specs.State.{State}
use Rattle.ts_group.specs.declared.action.Named.{Named}
use Rattle.ts_group.specs.declared.group.Group.{Group}
use Rattle.ts_group.specs.declared.world.Asked.{Asked}
use Rattle.ts_queue.specs.declared.ticket.Token.{Token}
use Rattle.ts_wheel.specs.Due.{next_moment}
use Rattle.ts_thread.specs.declared.desk.Desk.{Desk}
use Rattle.ts_thread.specs.declared.did.Did.{Did}
use Rattle.ts_thread.specs.declared.did.Did.TheVariants as did
use Rattle.ts_thread.specs.declared.did.RunEnd.{RunEnd}
use Rattle.ts_thread.specs.declared.did.RunEnd.TheVariants as end
use Rattle.ts_thread.specs.Desks.{CountsMore}
use Rattle.ts_thread.specs.Turning.{IsDid, LosesOne, StaysIdle}

-- After a turn that was idle the next moment is that at which the wheel's first token is due; else it is the
-- same.
abbrev pub IsNextMoment : Did → List (ℕ × Token) → ℕ → ℕ → Type 0
IsNextMoment did.Idle wheel now next = next_moment wheel ≡ Some next
IsNextMoment (did.Ran events) wheel now next = next ≡ now
IsNextMoment (did.PutBack group seen) wheel now next = next ≡ now
IsNextMoment (did.AskMissed group seen) wheel now next = next ≡ now
IsNextMoment did.Stale wheel now next = next ≡ now
IsNextMoment (did.NotDue due) wheel now next = next ≡ now

module _ {W Q R T U : Type 0} {d : Ghosts (Group W Q R T U) T (Group W Q R T U)}
    (Fits : T → W → Type 0) (Asking : W → State → List Named → ℕ → ℕ → Q → Type 0)
    (Answers : W → Q → R → Type 0) (Called : W → W → List ℕ → Type 0) (Heard : W → W → Asked Q R → Type 0)
    (Left : W → State → Option ℕ) (tags : List T) where
  -- So many turns were made, the first at the moment 0, and this is the moment of the next one. None of them
  -- was idle and left the wheel empty.
  abbrev pub Turns : ℕ → Desk (Group W Q R T U) T (Group W Q R T U) d
      → Desk (Group W Q R T U) T (Group W Q R T U) d → ℕ → Type 0
  Turns zero old new moment = (new ≡ old) × (moment ≡ 0)
  Turns (suc made) old new moment =
      (mid : Desk (Group W Q R T U) T (Group W Q R T U) d) × (at : ℕ) × Turns made old mid at
      × (answer : Did) × IsDid Fits Asking Answers Called Heard Left tags at mid new answer
      × IsNextMoment answer new.wheel at moment

  -- Where the budget was used up, so many turns were made, none of them idle over an empty wheel, and the
  -- desk counts as many more; else the last turn of fewer or as many was idle over one.
  abbrev pub HasRunTo : ℕ → Desk (Group W Q R T U) T (Group W Q R T U) d
      → Desk (Group W Q R T U) T (Group W Q R T U) d → RunEnd → Type 0
  HasRunTo budget old new end.Budget =
      ((moment : ℕ) × Turns budget old new moment) × CountsMore budget old new
  HasRunTo budget old new end.Idle =
      (made : ℕ) × (made < budget) × (mid : Desk (Group W Q R T U) T (Group W Q R T U) d) × (moment : ℕ)
      × Turns made old mid moment × StaysIdle (length tags) moment mid new × (new.wheel ≡ [])

  -- After fewer turns than the budget memory lacked in one.
  abbrev pub HasLacked : ℕ → Desk (Group W Q R T U) T (Group W Q R T U) d
      → Desk (Group W Q R T U) T (Group W Q R T U) d → Type 0
  HasLacked budget old new =
      (made : ℕ) × (made < budget) × (mid : Desk (Group W Q R T U) T (Group W Q R T U) d) × (moment : ℕ)
      × Turns made old mid moment × LosesOne (length tags) moment mid new
