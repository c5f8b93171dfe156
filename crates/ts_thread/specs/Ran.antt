-- What stands behind the answer of threads: that memory lacked in none of them, or in one.
use Rattle.std.specs.Prelude.{◌≡◌, ℕ, zero, suc, ◌+◌, ◌⊎◌, ◌&&◌, List, [], Bool, true, false, Option}
use mathlib.Core.Option.{some}
use lib.ListN.{get_elem?}
use Rattle.ts_journal.specs.declared.slotted.Slotted.{Ghosts}
use Rattle.ts_journal.specs.State.{State}
use Rattle.ts_group.specs.declared.action.Named.{Named}
use Rattle.ts_group.specs.declared.group.Group.{Group}
use Rattle.ts_group.specs.declared.world.Asked.{Asked}
use Rattle.ts_group.specs.Standing.{StandsAfter}
use Rattle.ts_queue.specs.declared.queue.QueuePass.{QueuePass}
use Rattle.ts_queue.specs.Passes.{pass_view}
use Rattle.ts_queue.specs.Views.{kept_part, split_part, with_joined}
use Rattle.ts_slot.specs.declared.seat.Seat.{Seat}
use Rattle.ts_slot.specs.Lists.{entries}
use Rattle.ts_slot.specs.Views.{left_half, right_half, joined, IsAfter}
use Rattle.ts_slot.specs.Words.{view}
use Rattle.ts_thread.specs.declared.desk.Desk.{Desk}
use Rattle.ts_thread.specs.declared.did.RunEnd.{RunEnd}
use Rattle.ts_thread.specs.Runs.{HasRunTo, HasLacked}
use Rattle.ts_thread.specs.Started.{AllStarted, HasPut}

module _ {X G T : Type 0} {d : Ghosts X G T} where
  -- a seat and a pass were split: one part is for one thread, and the rest for the others
  pub record IsSplit (seat one rest : Seat X G T d) (pass one_pass rest_pass : QueuePass) : Type 0 where
    pub one_seat : view one ≡ right_half (view seat)
    pub rest_seat : view rest ≡ left_half (view seat)
    pub one_part : pass_view one_pass ≡ split_part (pass_view pass)
    pub rest_part : pass_view rest_pass ≡ kept_part (pass_view pass)

  -- the one part and the rest were joined
  pub record IsRejoined (seat one rest : Seat X G T d) (pass one_pass rest_pass : QueuePass) : Type 0 where
    pub seats : view seat ≡ joined (view rest) (view one)
    pub passes : pass_view pass ≡ with_joined (pass_view rest_pass) (pass_view one_pass)

module _ {W Q R T U : Type 0} {d : Ghosts (Group W Q R T U) T (Group W Q R T U)}
    (Fits : T → W → Type 0) (Asking : W → State → List Named → ℕ → ℕ → Q → Type 0)
    (Answers : W → Q → R → Type 0) (Called : W → W → List ℕ → Type 0) (Heard : W → W → Asked Q R → Type 0)
    (Left : W → State → Option ℕ) (tags : List T) (budget : ℕ) where
  -- One thread took its turns, from this seat and this pass with an empty wheel to those, until its budget
  -- was used up or it had nothing to do.
  pub record RanToEnd (seat : Seat (Group W Q R T U) T (Group W Q R T U) d) (pass : QueuePass)
      (back : Seat (Group W Q R T U) T (Group W Q R T U) d) (back_pass : QueuePass) : Type 0 where
    pub old : Desk (Group W Q R T U) T (Group W Q R T U) d
    pub new : Desk (Group W Q R T U) T (Group W Q R T U) d
    pub end : RunEnd
    pub begins : (old.seat ≡ seat) × (old.pass ≡ pass) × (old.wheel ≡ [])
    pub ends : (new.seat ≡ back) × (new.pass ≡ back_pass)
    pub ran : HasRunTo Fits Asking Answers Called Heard Left tags budget old new end

  -- So many threads ran to their ends, each from a part of a seat and of a pass, which were joined again.
  abbrev pub AllRanToEnd : ℕ → Seat (Group W Q R T U) T (Group W Q R T U) d → QueuePass
      → Seat (Group W Q R T U) T (Group W Q R T U) d → QueuePass → Type 0
  AllRanToEnd zero seat pass back back_pass = ⊥
  AllRanToEnd (suc zero) seat pass back back_pass = RanToEnd seat pass back back_pass
  AllRanToEnd (suc (suc n)) seat pass back back_pass =
      (one one' rest rest' : Seat (Group W Q R T U) T (Group W Q R T U) d) × (p p' q q' : QueuePass)
      × IsSplit seat one rest pass p q × RanToEnd one p one' p' × AllRanToEnd (suc n) rest q rest' q'
      × IsRejoined back one' rest' back_pass p' q'

  -- One thread took turns, from this seat and this pass with an empty wheel to those, until memory lacked in one
  -- of them.
  pub record StoppedShort (seat : Seat (Group W Q R T U) T (Group W Q R T U) d) (pass : QueuePass)
      (back : Seat (Group W Q R T U) T (Group W Q R T U) d) (back_pass : QueuePass) : Type 0 where
    pub old : Desk (Group W Q R T U) T (Group W Q R T U) d
    pub new : Desk (Group W Q R T U) T (Group W Q R T U) d
    pub begins : (old.seat ≡ seat) × (old.pass ≡ pass) × (old.wheel ≡ [])
    pub ends : (new.seat ≡ back) × (new.pass ≡ back_pass)
    pub lacked : HasLacked Fits Asking Answers Called Heard Left tags budget old new

  -- What the answer of one thread says: true that it ran to its end; false that memory lacked in one of its
  -- turns, or before the first of them.
  abbrev pub TellsRun : Bool → Seat (Group W Q R T U) T (Group W Q R T U) d → QueuePass
      → Seat (Group W Q R T U) T (Group W Q R T U) d → QueuePass → Type 0
  TellsRun true seat pass back back_pass = RanToEnd seat pass back back_pass
  TellsRun false seat pass back back_pass =
      ((back ≡ seat) × (back_pass ≡ pass)) ⊎ StoppedShort seat pass back back_pass

  -- What the answer of so many threads says: it is true where that of each of them is, and false where that of
  -- one is, or where memory lacked for a part of the seat and the pass, which stay as they were.
  abbrev pub TellRuns : ℕ → Bool → Seat (Group W Q R T U) T (Group W Q R T U) d → QueuePass
      → Seat (Group W Q R T U) T (Group W Q R T U) d → QueuePass → Type 0
  TellRuns zero ended seat pass back back_pass = ⊥
  TellRuns (suc zero) ended seat pass back back_pass = TellsRun ended seat pass back back_pass
  TellRuns (suc (suc n)) ended seat pass back back_pass =
      ((ended ≡ false) × (back ≡ seat) × (pass_view back_pass ≡ pass_view pass))
      ⊎ ((one one' rest rest' : Seat (Group W Q R T U) T (Group W Q R T U) d) × (p p' q q' : QueuePass)
      × (own others : Bool) × IsSplit seat one rest pass p q × TellsRun own one p one' p'
      × TellRuns (suc n) others rest q rest' q' × IsRejoined back one' rest' back_pass p' q'
      × (ended ≡ (others && own)))

  -- the same of a triple that comes back: a seat, a pass and the answer
  abbrev pub TellsRuns : ℕ → Seat (Group W Q R T U) T (Group W Q R T U) d → QueuePass
      → Seat (Group W Q R T U) T (Group W Q R T U) d × QueuePass × Bool → Type 0
  TellsRuns threads seat pass back = TellRuns threads back.2 seat pass back.0 back.1

-- Groups that threads ran, each of them to its end: from a seat that had started the first so many, and a
-- pass that had put the tokens of their first events, to a seat after whose knowledge each group stands.
pub record WereRun {W Q R T U : Type 0} (d : Ghosts (Group W Q R T U) T (Group W Q R T U))
    (Fits : T → W → Type 0) (Asking : W → State → List Named → ℕ → ℕ → Q → Type 0)
    (Answers : W → Q → R → Type 0) (Called : W → W → List ℕ → Type 0) (Heard : W → W → Asked Q R → Type 0)
    (Left : W → State → Option ℕ) (tags : List T) (budget : ℕ)
    (First : ℕ → ℕ → Type 0) (Begun : W → W → Type 0) (Sound : W → State → List Named → Type 0)
    (starts threads : ℕ) (groups : List (Group W Q R T U)) : Type 0 where
  pub seat : Seat (Group W Q R T U) T (Group W Q R T U) d
  pub pass : QueuePass
  pub back : Seat (Group W Q R T U) T (Group W Q R T U) d
  pub back_pass : QueuePass
  pub started : AllStarted Q R U Fits First Begun Sound (HasPut pass) (view seat).known starts
  pub ran : AllRanToEnd Fits Asking Answers Called Heard Left tags budget threads seat pass back back_pass
  pub stand : (k : ℕ) (g : Group W Q R T U) → get_elem? groups k ≡ some g
      → IsAfter (StandsAfter Fits) k (entries k (view back).turns + 1) g (view back).known
