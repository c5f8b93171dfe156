-- Where a reader of what a client takes stands, and what that says of the bytes that it saw.
use Rattle.std.specs.Prelude.{◌≡◌, ◌≢◌, ℕ, ◌+◌, ◌<◌, ◌≤◌, ◌⊎◌, List, [], ◌++◌, length, slice_index}
use Rattle.ts_wire.specs.declared.framing.Framing.TheVariants as F
use Rattle.ts_wire.specs.declared.body.BodyState.{BodyState}
use Rattle.ts_wire.specs.declared.body.BodyState.TheVariants as S
use Rattle.ts_wire.specs.Blank.{EndsBlank, LacksBlank, blank_end}
use Rattle.ts_wire.specs.Place.{Place, IsFed, state_of}
use Rattle.ts_link.specs.Texts.{line_feed}
use Rattle.ts_tap.specs.declared.sent_reader.Part.{Part}
use Rattle.ts_tap.specs.declared.sent_reader.Part.TheVariants as P
use Rattle.ts_tap.specs.declared.sent_reader.TheConstants.{TAIL}
use Rattle.ts_tap.specs.SentBody.{EndsWith, SaysChunked}

-- which part comes next, the last bytes of a head that has not ended, and where a reader of chunks stands
pub record Sent : Type 0 where
  pub part : Part
  pub tail : List ℕ
  pub chunks : Place

-- these are the last bytes of a text, all of it or enough to see how it ends
pub record IsTail (text tail : List ℕ) : Type 0 where
  pub front : List ℕ
  pub whole : text ≡ front ++ tail
  pub enough : (front ≡ []) ⊎ (TAIL ≤ length tail)

-- a line feed stands in the bytes at most as their last one
abbrev pub IsOneLine : List ℕ → Type 0
IsOneLine bytes = (place : ℕ) → place + 1 < length bytes → slice_index bytes place ≢ line_feed

-- which part comes behind a text with this end: a body, where it ends with an empty line
abbrev pub FollowsEnd : List ℕ → Part → Type 0
FollowsEnd tail P.Head = EndsWith tail blank_end → ⊥
FollowsEnd tail P.Plain = EndsWith tail blank_end × (SaysChunked tail → ⊥)
FollowsEnd tail P.Chunks = EndsWith tail blank_end × SaysChunked tail

-- how many of so many bytes a reader in this state passes over: those that it took, or all behind its body
abbrev pub passed_by : BodyState → ℕ → ℕ → ℕ
passed_by S.Unfinished taken count = taken
passed_by _ taken count = count

-- in a head: it has not ended
pub record InHead (s : Sent) (told body : List ℕ) : Type 0 where
  pub lacks : LacksBlank told
  pub tail : IsTail told s.tail
  pub none : body ≡ []
  pub fresh : IsFed F.Chunked [] [] s.chunks

-- in a body that comes as it is
pub record InPlain (told body : List ℕ) : Type 0 where
  pub head : List ℕ
  pub ends : EndsBlank head
  pub says : SaysChunked head → ⊥
  pub whole : told ≡ head ++ body

-- in a body that comes in chunks, or behind it
pub record InChunks (s : Sent) (told body : List ℕ) : Type 0 where
  pub head : List ℕ
  pub ends : EndsBlank head
  pub says : SaysChunked head
  pub fed : List ℕ
  pub behind : List ℕ
  pub whole : told ≡ head ++ (fed ++ behind)
  pub reads : IsFed F.Chunked fed body s.chunks
  pub none : state_of s.chunks.phase ≡ S.Unfinished → behind ≡ []

abbrev pub SeenIn : Part → Sent → List ℕ → List ℕ → Type 0
SeenIn P.Head s told body = InHead s told body
SeenIn P.Plain s told body = InPlain told body
SeenIn P.Chunks s told body = InChunks s told body

-- it saw these bytes, and found this body data in them
abbrev pub HasSeen : List ℕ → List ℕ → Sent → Type 0
HasSeen told body s = SeenIn s.part s told body

-- whatever it saw before, it saw these bytes behind them, and found this body data in them
abbrev pub SeesOn : Sent → List ℕ → List ℕ → Sent → Type 0
SeesOn old bytes found new =
    (told body : List ℕ) → HasSeen told body old → HasSeen (told ++ bytes) (body ++ found) new

-- it saw a front of the bytes, found body data in it, and left the rest
pub record SeesFront (old new : Sent) (bytes found rest : List ℕ) : Type 0 where
  pub front : List ℕ
  pub whole : bytes ≡ front ++ rest
  pub some : 0 < length front
  pub within : length found ≤ length front
  pub sees : SeesOn old front found new
