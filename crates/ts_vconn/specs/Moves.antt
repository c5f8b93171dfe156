-- What one read of a link into a buffer moves, and one write of a buffer's bytes to a link.
use Rattle.std.specs.Prelude.{◌≡◌, ℕ, ◌≤◌, ◌++◌, List, length, take, Bool, true, ⊤}
use Rattle.ts_link.specs.Link.{Look, Calls, GivesMore, TakesMore, IsOneRead, ReadsSurely, WritesSurely}
use Rattle.ts_link.specs.LinkAnswers.{FillsSome, EndsWell, count_got, got_again, got_bytes, got_failed}
use Rattle.ts_link.specs.declared.link.Got.{Got}
use Rattle.ts_iobuf.specs.Buffer.{Buffer, Consumes, GrowsBy}
use Rattle.ts_iobuf.specs.declared.readers.ReaderId.{ReaderId}
use Rattle.ts_vconn.specs.MoveAnswers.{Came, EndsPull, Went, count_pushed, pull_again, pull_failed, push_again, push_failed, writes_after_push}
use Rattle.ts_vconn.specs.declared.moves.Pulled.{Pulled}
use Rattle.ts_vconn.specs.declared.moves.Pushed.{Pushed}
use Rattle.ts_vconn.specs.declared.moves.Pushed.TheVariants as V

-- one read of a link, at which these bytes came
pub record Pulls (tells : Bool) (old new : Look) (answer : Pulled) (most : ℕ) (more : List ℕ) : Type 0 where
  pub came : Came answer most more
  pub once : IsOneRead old new
  pub calls : Calls old new (pull_failed answer) (pull_again answer)
  pub sure : ReadsSurely old (pull_failed answer) (pull_again answer)
  pub told : tells ≡ true → GivesMore old new more
  pub ends : tells ≡ true → EndsPull answer new.left

-- one read into the front of a room, of at most so many bytes
pub record ReadsFront (tells : Bool) (old new : Look) (answer : Got) (most : ℕ) (room : List ℕ) : Type 0 where
  pub fills : FillsSome answer (length room)
  pub few : count_got answer ≤ most
  pub once : IsOneRead old new
  pub calls : Calls old new (got_failed answer) (got_again answer)
  pub sure : ReadsSurely old (got_failed answer) (got_again answer)
  pub told : tells ≡ true → GivesMore old new (got_bytes answer room)
  pub ends : tells ≡ true → EndsWell answer new.left

-- the bytes of one read came into a buffer, behind those that were there
pub record PullsInto (tells : Bool) (old new : Look) (before after : Buffer) (answer : Pulled) (most : ℕ) :
    Type 0 where
  pub more : List ℕ
  pub grows : GrowsBy before after more
  pub pulls : Pulls tells old new answer most more

-- the bytes of one read came behind those that wait
pub record PullsOn (tells : Bool) (old new : Look) (before after : List ℕ) (answer : Pulled) (most : ℕ) : Type
    0 where
  pub more : List ℕ
  pub grows : after ≡ before ++ more
  pub pulls : Pulls tells old new answer most more

-- it was at most one write
pub record IsOnePush (answer : Pushed) (old new : Look) : Type 0 where
  pub reads : new.reads ≡ old.reads
  pub writes : new.writes ≡ writes_after_push answer old.writes

-- the reader passes over what went, and where nothing went the buffer stands as it was
abbrev pub Spends : Pushed → Buffer → Buffer → ReaderId → Type 0
Spends (V.Some n) before after reader = Consumes before after reader n
Spends _ before after reader = after ≡ before

-- want of memory leaves all that is seen of the link, and so does a push that has nothing to do
abbrev pub StandsStill : Pushed → Look → Look → Type 0
StandsStill V.Nothing old new = new ≡ old
StandsStill V.NoMemory old new = new ≡ old
StandsStill _ old new = ⊤

-- one write to a link, of the front of these bytes
pub record Pushes (tells : Bool) (old new : Look) (answer : Pushed) (before after : List ℕ) : Type 0 where
  pub went : Went answer before after
  pub once : IsOnePush answer old new
  pub calls : Calls old new (push_failed answer) (push_again answer)
  pub sure : WritesSurely old (push_failed answer) (push_again answer)
  pub stands : StandsStill answer old new
  pub told : tells ≡ true → TakesMore old new (take (count_pushed answer) before)
  -- what was taken and what is left are one text
  pub text : tells ≡ true → new.taken ++ after ≡ old.taken ++ before
