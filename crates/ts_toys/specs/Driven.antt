-- How a group stands after it was driven, and what being told a reply leaves of it.
use Rattle.std.specs.Prelude.{◌≡◌, ◌≢◌, ℕ, ◌<◌, true, false, List, [], Option}
use Rattle.ts_journal.specs.declared.entry.TheConstants.{GREATEST}
use Rattle.ts_journal.specs.declared.entry.Entry.TheVariants.{Gave}
use Rattle.ts_journal.specs.State.{State}
use Rattle.ts_journal.specs.Machine.{after}
use Rattle.ts_group.specs.declared.action.Named.{Named}
use Rattle.ts_group.specs.declared.group.Group.{Group}
use Rattle.ts_group.specs.declared.world.Asked.{Asked}
use Rattle.ts_group.specs.declared.world.Asked.TheVariants.{Reply, NoMemory}
use Rattle.ts_group.specs.Entries.{Grows}
use Rattle.ts_group.specs.Answers.{Holds, AwaitsReply, LeavesLess, KeepsTags}
use Rattle.ts_toys.specs.declared.drive.Driven.{Driven}
use Rattle.ts_toys.specs.declared.drive.Driven.TheVariants.{Done, Asks, Worn}

-- No turn is held. Where all is done nothing is pending; where a handler asks an event was handled; and where
-- the turns are used up the last one has the greatest number, and something is still pending.
abbrev pub IsDone : Driven → State → State → Type 0
IsDone Done old new = (new.held ≡ false) × (new.pending ≡ [])
IsDone Asks old new = (new.held ≡ false) × (old.handled_count < new.handled_count)
IsDone Worn old new = (new.held ≡ false) × (new.turns ≡ GREATEST) × (new.pending ≢ [])

-- one fact where a handler asks, and one where none does
abbrev pub MatchDriven : Driven → Type 0 → Type 0 → Type 0
MatchDriven Asks P Asking = Asking
MatchDriven _ P Asking = P

-- The handler that ran last waits for the reply of a group to a question, and the turn is still held.
abbrev pub AwaitsInTurn : {W Q R T U : Type 0} → (W → State → List Named → ℕ → ℕ → Q → Type 0)
    → Group W Q R T U → ℕ → Q → Type 0
AwaitsInTurn Asking g group question = (g.cx.log.state.held ≡ true) × AwaitsReply Asking g group question

-- The question of the handler that ran last stands: it was asked in a state from which nothing but the turn
-- was given back.
pub record LeftAsking {W Q R T U : Type 0} (Asking : W → State → List Named → ℕ → ℕ → Q → Type 0)
    (MayAsk : W → ℕ → Type 0) (g : Group W Q R T U) : Type 0 where
  pub before : State
  pub turn : before.held ≡ true
  pub group : ℕ
  pub question : Q
  pub asking : Asking g.world before g.cx.roles g.cx.role group question
  pub may_ask : MayAsk g.world group
  pub given : g.cx.log.state ≡ after before (Gave before.turns)

-- what a group becomes whose handler is told what came of its question, a miss aside
pub record GoesOnTold {W Q R T U : Type 0} (Fits : T → W → Type 0) (Sound : W → State → List Named → Type 0)
    (Left : W → State → Option ℕ) (old new : Group W Q R T U) : Type 0 where
  pub grows : Grows old.cx new.cx
  pub turn : new.cx.log.state.held ≡ true
  pub sound : Holds Sound new
  pub tags : KeepsTags Fits old.world new.world
  pub falls : LeavesLess Left old 0 new

-- what the asker was told is a reply of the other group's world to its question
pub record HearsReply {W V Q R : Type 0} (Heard : W → W → Asked Q R → Type 0) (Answers : V → Q → R → Type 0)
    (old new : W) (other : V) : Type 0 where
  pub question : Q
  pub reply : R
  pub answers : Answers other question reply
  pub heard : Heard old new (Reply reply)

-- what the asker was told is that memory lacked
pub record HearsNone {W Q R : Type 0} (Heard : W → W → Asked Q R → Type 0) (old new : W) : Type 0 where
  pub question : Q
  pub heard : Heard old new (NoMemory question)
