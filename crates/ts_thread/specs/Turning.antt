-- What a turn does with a thread's desk, answer by answer.
use Rattle.std.specs.Prelude.{◌≡◌, ℕ, ◌<◌, Bool, List, Option, Ok, length}
use Rattle.ts_journal.specs.declared.slotted.Slotted.{Ghosts}
use Rattle.ts_journal.specs.State.{State}
use Rattle.ts_group.specs.declared.action.Named.{Named}
use Rattle.ts_link.specs.Moments.{moment_after}
use Rattle.ts_group.specs.Standing.{StandsAfter}
use Rattle.ts_group.specs.declared.group.Group.{Group}
use Rattle.ts_group.specs.declared.world.Asked.{Asked}
use Rattle.ts_queue.specs.declared.ticket.Token.{Token}
use Rattle.ts_slot.specs.Views.{won, IsAfter}
use Rattle.ts_slot.specs.Words.{view, Misses}
use Rattle.ts_wheel.specs.Due.{added}
use Rattle.ts_link.specs.declared.clock.TheConstants.{RETRY_AFTER}
use Rattle.ts_thread.specs.declared.desk.Desk.{Desk}
use Rattle.ts_thread.specs.declared.did.Did.{Did}
use Rattle.ts_thread.specs.declared.did.Did.TheVariants as did
use Rattle.ts_thread.specs.Heard.{RunsHandlers}
use Rattle.ts_thread.specs.Held.{HasTurn, BeginsSame, LeftAs}
use Rattle.ts_thread.specs.News.{HasTold, KeepsPlaces}
use Rattle.ts_thread.specs.Seats.{KnowsTurn, Leaves}
use Rattle.ts_thread.specs.Shown.{IsShown, IsCounted, waiting}
use Rattle.ts_thread.specs.Tokens.{Gets, FindsNothing, is_shared}

-- the turn is of the token's group, and a later one than the group has recorded
pub record IsOfToken {W Q R T U : Type 0} (token : Token) (k turn : ℕ)
    (found now : Group W Q R T U) : Type 0 where
  pub group : k ≡ token.group
  pub same : found ≡ now
  pub later : now.cx.log.state.turns < turn

module _ {X G T : Type 0} {d : Ghosts X G T} where
  -- What a handler's work leaves of the desk: its seat counts what the answer says, and a token whose event
  -- is due later waits in the wheel.
  pub record Works (token : Token) (old new : Desk X G T d) (answer : Did) : Type 0 where
    pub counted : IsCounted token.group (view old.seat) (view new.seat) answer
    pub wheel : new.wheel ≡ waiting answer token old.wheel
    pub pass : new.pass ≡ old.pass

  -- The token's group was held by another seat, and the token waits in the wheel.
  pub record PutsBack (token : Token) (moment group seen : ℕ) (old new : Desk X G T d) : Type 0 where
    pub group_is : token.group ≡ group
    pub misses : Misses group seen (view old.seat) (view new.seat)
    pub wheel : new.wheel ≡ added (moment_after moment RETRY_AFTER) token old.wheel
    pub pass : new.pass ≡ old.pass

  -- A token was taken, and memory lacked then: each other token has the place that it had.
  pub record LosesOne (groups moment : ℕ) (old new : Desk X G T d) : Type 0 where
    pub token : Token
    pub taken : Desk X G T d
    pub gets : Gets groups moment old taken token
    pub keeps : KeepsPlaces taken new

  -- Nothing was taken.
  pub record StaysIdle (groups moment : ℕ) (old new : Desk X G T d) : Type 0 where
    pub finds : FindsNothing groups moment old new
    pub wheel : new.wheel ≡ old.wheel
    pub seat : new.seat ≡ old.seat

module _ {W Q R T U : Type 0} {d : Ghosts (Group W Q R T U) T (Group W Q R T U)} where
  -- The news of a group was told by a turn that is shared or not, the turn was given back, and the group was
  -- left as this.
  pub record EndsTurn (shared : Bool) (k turn moment : ℕ) (now : Group W Q R T U)
      (old new : Desk (Group W Q R T U) T (Group W Q R T U) d) : Type 0 where
    pub left : Group W Q R T U
    pub as_now : LeftAs now left
    pub told : HasTold shared k moment now left old new
    pub knows : KnowsTurn k turn left (view new.seat).known

module _ {W Q R T U : Type 0} {d : Ghosts (Group W Q R T U) T (Group W Q R T U)}
    (Fits : T → W → Type 0) (Asking : W → State → List Named → ℕ → ℕ → Q → Type 0)
    (Answers : W → Q → R → Type 0) (Called : W → W → List ℕ → Type 0) (Heard : W → W → Asked Q R → Type 0)
    (Left : W → State → Option ℕ) (tags : List T) where
  -- A turn of the token's group, from when its seat had won it: the turn begins, the handlers run, and then
  -- the news is told as a turn with this number tells it, and the group is left.
  pub record Serves (token : Token) (moment turn : ℕ) (found : Group W Q R T U)
      (old new : Desk (Group W Q R T U) T (Group W Q R T U) d) (answer : Did) : Type 0 where
    pub begun : Group W Q R T U
    pub has : HasTurn Fits found begun turn old.seat.number
    pub begins : BeginsSame found begun
    pub now : Group W Q R T U
    pub worked : Desk (Group W Q R T U) T (Group W Q R T U) d
    pub works : Works token old worked answer
    pub ran : RunsHandlers Fits Asking Answers Called Heard Left tags token.number moment
        begun now (view old.seat) (view worked.seat) (Ok answer)
    pub left : Group W Q R T U
    pub as_now : LeftAs now left
    pub shows : IsShown found.cx.log.state left.cx.log.state token.number moment answer
    pub told : HasTold (is_shared turn) token.group moment found left worked new
    pub knows : KnowsTurn token.group turn left (view new.seat).known
    pub leaves : Leaves (view worked.seat) (view new.seat)

  -- The token's group was entered, served and left.
  pub record Enters (token : Token) (moment : ℕ) (old new : Desk (Group W Q R T U) T (Group W Q R T U) d)
      (answer : Did) : Type 0 where
    pub turn : ℕ
    pub found : Group W Q R T U
    pub after : IsAfter (StandsAfter Fits) token.group turn found (view old.seat).known
    pub entered : Desk (Group W Q R T U) T (Group W Q R T U) d
    pub wins : view entered.seat ≡ won token.group turn found (view old.seat)
    pub wheel : entered.wheel ≡ old.wheel
    pub pass : entered.pass ≡ old.pass
    pub serves : Serves token moment turn found entered new answer

  -- what was done with a token that was taken
  abbrev pub Uses : Token → ℕ → Desk (Group W Q R T U) T (Group W Q R T U) d
      → Desk (Group W Q R T U) T (Group W Q R T U) d → Did → Type 0
  Uses token moment old new did.Idle = ⊥
  Uses token moment old new (did.PutBack group seen) = PutsBack token moment group seen old new
  Uses token moment old new answer = Enters token moment old new answer

  -- A token of one of the groups was taken and used.
  pub record TakesOne (moment : ℕ) (old new : Desk (Group W Q R T U) T (Group W Q R T U) d)
      (answer : Did) : Type 0 where
    pub token : Token
    pub taken : Desk (Group W Q R T U) T (Group W Q R T U) d
    pub gets : Gets (length tags) moment old taken token
    pub uses : Uses token moment taken new answer

  -- what a turn of a thread did, by its answer
  abbrev pub IsDid : ℕ → Desk (Group W Q R T U) T (Group W Q R T U) d
      → Desk (Group W Q R T U) T (Group W Q R T U) d → Did → Type 0
  IsDid moment old new did.Idle = StaysIdle (length tags) moment old new
  IsDid moment old new answer = TakesOne moment old new answer
