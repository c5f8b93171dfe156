-- What is done with the bytes that a span holds.
use Rattle.std.specs.Prelude.{◌≡◌, ℕ, ◌<◌, ◌≤◌, List, ◌+◌, ◌-◌, ◌++◌, ◌||◌, ◌==◌, Bool, true, length, take}
use Rattle.std.specs.Prelude.{drop, min}
use Rattle.std.specs.List.{list_all}
use Rattle.httparse.specs.Ascii.{carriage_return, line_feed}
use Rattle.ts_wire.specs.Heads.{LacksRequest}
use Rattle.ts_wire.specs.Limits.{head_limit}
use Rattle.ts_link.specs.Link.{Calls, GivesMore, Look, Reads, all_of}
use Rattle.ts_link.specs.LinkAnswers.{EndsWell, FillsSome, count_got, got_again, got_failed}
use Rattle.ts_link.specs.declared.link.Got.{Got}

-- where all that a client gave and may still give was its source, it still is
abbrev pub StaysWhole : Bool → Look → Look → Type 0
StaysWhole tells l l' = tells ≡ true → all_of l ≡ l.source → all_of l' ≡ l'.source

-- one read of the client, whose bytes are put behind those that are held
pub record FillsFrom (tells : Bool) (held held' : List ℕ) (l l' : Look) (answer : Got) : Type 0 where
  pub into : List ℕ
  pub reads : Reads tells l l' answer into
  pub whole : StaysWhole tells l l'
  pub held_is : held' ≡ held ++ take (count_got answer) into

-- one read of the client into the room behind its first `kept` bytes
pub record ReadsBehind (tells : Bool) (kept : ℕ) (room room' : List ℕ) (l l' : Look)
    (answer : Got) : Type 0 where
  pub into : List ℕ
  pub reads : Reads tells l l' answer into
  pub whole : StaysWhole tells l l'
  pub room_is : room' ≡ take kept room ++ into
  pub long : kept + length into ≡ length room

-- so many bytes of the front of a list were copied to that of the room, as many as fit, and `most` at most
pub record CopiesMost (list : List ℕ) (most : ℕ) (into into' : List ℕ) (count : ℕ) : Type 0 where
  pub count_is : count ≡ min (min (length list) (length into)) most
  pub bytes : take count into' ≡ take count list
  pub room : length into' ≡ length into

-- the front of what is held was given
pub record GivesFront (held held' : List ℕ) (most : ℕ) (into into' : List ℕ) (count : ℕ) : Type 0 where
  pub copies : CopiesMost held most into into' count
  pub held_is : held' ≡ drop count held

-- one read of the client into the front of the room, of `most` bytes at most
pub record ReadsFront (tells : Bool) (most : ℕ) (into into' : List ℕ) (l l' : Look) (answer : Got)
    : Type 0 where
  pub part : List ℕ
  pub reads : Reads tells l l' answer part
  pub whole : StaysWhole tells l l'
  pub few : length part ≤ most
  pub fits : length part ≤ length into'
  pub bytes : take (count_got answer) into' ≡ take (count_got answer) part
  pub room : length into' ≡ length into

-- Some of what is held and of what the client has to give was given, no more than `most` bytes; what came of
-- the client in this call stands behind what was held.
pub record GivesPart (tells : Bool) (held held' : List ℕ) (l l' : Look) (answer : Got) (most : ℕ)
    (into : List ℕ) : Type 0 where
  pub came : List ℕ
  pub fills : FillsSome answer (length into)
  pub few : count_got answer ≤ most
  pub calls : Calls l l' (got_failed answer) (got_again answer)
  pub writes : l'.writes ≡ l.writes
  pub whole : StaysWhole tells l l'
  pub told : tells ≡ true → GivesMore l l' came
  pub moved : held ++ came ≡ take (count_got answer) into ++ held'
  pub ends : tells ≡ true → EndsWell answer (held' ++ l'.left)

-- ---- where a head cannot end

-- a byte of the end of a line
abbrev pub is_end_byte : ℕ → Bool
is_end_byte b = (b == carriage_return) || (b == line_feed)

-- there is no other byte, so no line has begun that is not empty
abbrev pub AreBlank : List ℕ → Type 0
AreBlank bytes = list_all is_end_byte bytes ≡ true

-- what was held before the last so many bytes came
abbrev pub before_last : ℕ → List ℕ → List ℕ
before_last fresh bytes = take (length bytes - fresh) bytes

-- No head ends within the last so many bytes, and more of one can be held: where there was none before them,
-- there is none now.
pub record CannotEnd (fresh : ℕ) (bytes : List ℕ) : Type 0 where
  pub short : length bytes < head_limit
  pub lacks : LacksRequest (before_last fresh bytes) → LacksRequest bytes
