-- What is done with the bytes that a front holds.
use Rattle.std.specs.Prelude.{◌≡◌, ℕ, ◌+◌, ◌<◌, ◌≤◌, List, ◌++◌, length, take, drop, min, Bool}
use Rattle.ts_link.specs.Link.{Look, Reads}
use Rattle.ts_link.specs.LinkAnswers.{count_got}
use Rattle.ts_link.specs.declared.link.Got.{Got}
use Rattle.ts_request.specs.Text.{Text, waiting, with_more}
use Rattle.ts_wire.specs.Limits.{head_limit}

-- one read of the client, whose bytes are put behind those that are held
pub record FillsFrom (tells : Bool) (t t' : Text) (l l' : Look) (answer : Got) : Type 0 where
  pub into : List ℕ
  pub reads : Reads tells l l' answer into
  pub text : t' ≡ with_more t (take (count_got answer) into)

-- some of the room behind its first `kept` bytes is begun, which stay as they are
pub record BeginsRoom (kept : ℕ) (room room' : List ℕ) : Type 0 where
  pub front : take kept room' ≡ take kept room
  pub more : kept < length room'
  pub most : length room' ≤ head_limit

-- one read of the client into the room behind its first `kept` bytes
pub record ReadsBehind (tells : Bool) (kept : ℕ) (room room' : List ℕ) (l l' : Look)
    (answer : Got) : Type 0 where
  pub into : List ℕ
  pub reads : Reads tells l l' answer into
  pub room_is : room' ≡ take kept room ++ into
  pub long : kept + length into ≡ length room

-- so many bytes of the front of a list were copied to that of the room, as many as fit
pub record Copies (list into into' : List ℕ) (count : ℕ) : Type 0 where
  pub count_is : count ≡ min (length list) (length into)
  pub bytes : take count into' ≡ take count list
  pub room : length into' ≡ length into

-- some of what waits was given
pub record GivesFront (t t' : Text) (into into' : List ℕ) (count : ℕ) : Type 0 where
  pub text : t' ≡ record t { shown = t.shown + count }
  pub copies : Copies (waiting t) into into' count

-- some of what came behind the head was handed over
pub record HandsFront (t t' : Text) (into into' : List ℕ) (count : ℕ) : Type 0 where
  pub text : t' ≡ record t { behind = drop count t.behind }
  pub copies : Copies t.behind into into' count
