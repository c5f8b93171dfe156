-- The threads that work the first one at one desk, which is split among them and joined again.
use Rattle.std.specs.Prelude.{◌≡◌, ◌<◌, ◌⊎◌, ◌&&◌, ℕ, zero, suc, [], List, Bool, true, false, Option, length}
use Rattle.std.specs.Prelude.{⊤}
use Rattle.ts_group.specs.Either.{EitherAnswers, EitherAsking, EitherCalled, EitherFits, EitherHeard}
use Rattle.ts_group.specs.Either.{either_left}
use Rattle.ts_group.specs.declared.action.Named.{Named}
use Rattle.ts_group.specs.declared.either.Either.{Either}
use Rattle.ts_group.specs.declared.either.EitherTag.{EitherTag}
use Rattle.ts_group.specs.declared.group.Group.{Group}
use Rattle.ts_group.specs.declared.world.Asked.{Asked}
use Rattle.ts_journal.specs.State.{State}
use Rattle.ts_journal.specs.declared.slotted.Slotted.{Ghosts}
use Rattle.ts_queue.specs.declared.queue.EventQueue.{EventQueue}
use Rattle.ts_slot.specs.declared.slots.Slots.{Slots}
use Rattle.ts_slot.specs.Words.{view}
use Rattle.ts_thread.specs.declared.desk.Desk.{Desk}
use Rattle.ts_thread.specs.declared.did.Did.{Did}
use Rattle.ts_thread.specs.Desks.{IsDeskOf, JoinsDesk, KeepsDesk, SplitsDesk}
use Rattle.ts_thread.specs.Threads.{CanSplit}
use Rattle.ts_thread.specs.Turning.{IsDid, LosesOne}
use Rattle.ts_serve.specs.Acceptor.{KeepsDeskSome}
use Rattle.ts_serve.specs.Places.{PlaceAnswers, PlaceAsking, PlaceCalled, PlaceFits, PlaceHeard, place_left}
use Rattle.ts_serve.specs.declared.place.Place.{Place}

module _ {X G T : Type 0} {d : Ghosts X G T} where
  -- It is a desk of these slots and of this queue, of which so many threads, one at least, get each a part,
  -- and it holds no group.
  pub record CanWork (slots : Slots X G T) (queue : EventQueue) (threads : ℕ) (desk : Desk X G T d) :
      Type 0 where
    pub ready : IsDeskOf slots queue desk
    pub some : 0 < threads
    pub idle : (view desk.seat).held ≡ []
    pub splits : CanSplit threads desk.seat desk.pass

  -- what comes back of a desk: it has its shares and what it held, and got some turns more
  pub record HasWorked (slots : Slots X G T) (queue : EventQueue) (old new : Desk X G T d) : Type 0 where
    pub ready : IsDeskOf slots queue new
    pub keeps : KeepsDeskSome old new

  -- memory lacked in a turn, at some moment
  pub record LacksInTurn (tags : List G) (old new : Desk X G T d) : Type 0 where
    pub moment : ℕ
    pub loses : LosesOne (length tags) moment old new

module _ {W Q R T U : Type 0} {d : Ghosts (Group W Q R T U) T (Group W Q R T U)}
    (Fits : T → W → Type 0) (Asking : W → State → List Named → ℕ → ℕ → Q → Type 0)
    (Answers : W → Q → R → Type 0) (Called : W → W → List ℕ → Type 0) (Heard : W → W → Asked Q R → Type 0)
    (Left : W → State → Option ℕ) (tags : List T) where
  -- a turn was taken at a desk, at some moment
  pub record TakesTurn (old new : Desk (Group W Q R T U) T (Group W Q R T U) d) : Type 0 where
    pub moment : ℕ
    pub answer : Did
    pub did : IsDid Fits Asking Answers Called Heard Left tags moment old new answer

  -- so many turns were taken, one after the other
  abbrev pub TakesTurns : ℕ → Desk (Group W Q R T U) T (Group W Q R T U) d
      → Desk (Group W Q R T U) T (Group W Q R T U) d → Type 0
  TakesTurns zero old new = new ≡ old
  TakesTurns (suc made) old new =
      (mid : Desk (Group W Q R T U) T (Group W Q R T U) d) × TakesTurns made old mid × TakesTurn mid new

  -- What one thread tells: true that memory lacked in none of its turns; false that it did in the last one.
  abbrev pub TellsWork : Bool → Desk (Group W Q R T U) T (Group W Q R T U) d
      → Desk (Group W Q R T U) T (Group W Q R T U) d → Type 0
  TellsWork true old new = (made : ℕ) × TakesTurns made old new
  TellsWork false old new =
      (made : ℕ) × (mid : Desk (Group W Q R T U) T (Group W Q R T U) d) × TakesTurns made old mid
      × LacksInTurn tags mid new

  -- What so many threads tell: true where each tells so; false where one does, or where memory lacked for a
  -- part of the desk, which keeps its shares then.
  abbrev pub TellWorks : ℕ → Bool → Desk (Group W Q R T U) T (Group W Q R T U) d
      → Desk (Group W Q R T U) T (Group W Q R T U) d → Type 0
  TellWorks zero whole old new = ⊥
  TellWorks (suc zero) whole old new = TellsWork whole old new
  TellWorks (suc (suc n)) whole old new =
      ((whole ≡ false) × KeepsDesk old new 0)
      ⊎ ((kept kept' other other' : Desk (Group W Q R T U) T (Group W Q R T U) d) × (own others : Bool)
      × SplitsDesk old kept other × TellsWork own other other' × TellWorks (suc n) others kept kept'
      × JoinsDesk kept' other' new × (whole ≡ (others && own)))

  -- Memory lacked in none of the threads that worked beside the first of so many, and not for them: the first
  -- has a part of the desk of its own, and got some turns more there.
  abbrev pub WorkWhole : ℕ → Desk (Group W Q R T U) T (Group W Q R T U) d
      → Desk (Group W Q R T U) T (Group W Q R T U) d → Type 0
  WorkWhole zero old new = ⊤
  WorkWhole (suc zero) old new = ⊤
  WorkWhole (suc (suc n)) old new =
      (kept kept' first first' : Desk (Group W Q R T U) T (Group W Q R T U) d) × SplitsDesk old kept first
      × TellWorks (suc n) true kept kept' × KeepsDeskSome first first' × JoinsDesk kept' first' new

-- the same of the threads of a server
abbrev pub WorkWholeInServer : {W S A P V Q R U : Type 0}
    {d : Ghosts (Group (Either (Place W) P) Q R (EitherTag A V) U) (EitherTag A V)
    (Group (Either (Place W) P) Q R (EitherTag A V) U)}
    → (S → W → Type 0) → (A → S → Type 0) → (W → State → List Named → ℕ → ℕ → Q → Type 0)
    → (W → Q → R → Type 0) → (W → W → List ℕ → Type 0) → (W → W → Asked Q R → Type 0)
    → (W → State → Option ℕ) → (V → P → Type 0) → (P → State → List Named → ℕ → ℕ → Q → Type 0)
    → (P → Q → R → Type 0) → (P → P → List ℕ → Type 0) → (P → P → Asked Q R → Type 0)
    → (P → State → Option ℕ) → List (EitherTag A V) → ℕ
    → Desk (Group (Either (Place W) P) Q R (EitherTag A V) U) (EitherTag A V)
    (Group (Either (Place W) P) Q R (EitherTag A V) U) d
    → Desk (Group (Either (Place W) P) Q R (EitherTag A V) U) (EitherTag A V)
    (Group (Either (Place W) P) Q R (EitherTag A V) U) d → Type 0
WorkWholeInServer Fits Keeps Asking Answers Called Heard left Other OtherAsking OtherAnswers OtherCalled
    OtherHeard other_left tags threads old new =
    WorkWhole (EitherFits (PlaceFits Fits Keeps) Other) (EitherAsking (PlaceAsking Asking) OtherAsking)
    (EitherAnswers (PlaceAnswers Answers) OtherAnswers) (EitherCalled (PlaceCalled Called) OtherCalled)
    (EitherHeard (PlaceHeard Heard) OtherHeard) (either_left (place_left left) other_left)
    tags threads old new
