-- How a reader of bodies in chunks follows the bytes of one to its end.
use Rattle.std.specs.Prelude.{◌≡◌, ℕ, ◌≤◌, List, ◌++◌, take, None, ⊤}
use Rattle.ts_wire.specs.Place.{IsFed, Place, state_of}
use Rattle.ts_wire.specs.declared.body.BodyState.TheVariants as B
use Rattle.ts_wire.specs.declared.ends.RequestEnd.TheVariants as E
use Rattle.ts_wire.specs.declared.framing.Framing.TheVariants as F
use Rattle.ts_session.specs.ChunksEnd.{chunks_end}
use Rattle.ts_session.specs.Requests.{IsBodyBy}
use Rattle.ts_session.specs.declared.chunks.Followed.{Followed}
use Rattle.ts_session.specs.declared.chunks.Followed.TheVariants as N

-- these are all bytes so far of a body in chunks that has not ended
pub record IsAmid (bytes : List ℕ) (reader : Place) : Type 0 where
  pub body : List ℕ
  pub fed : IsFed F.Chunked bytes body reader
  pub unfinished : state_of reader.phase ≡ B.Unfinished

-- an end is among so many bytes
abbrev pub EndsWithin : Followed → ℕ → Type 0
EndsWithin (N.Ended count) most = count ≤ most
EndsWithin _ most = ⊤

-- behind these bytes of a body come those: the body goes on, or ends behind so many of them, or never
abbrev pub FollowsTo : List ℕ → List ℕ → Place → Followed → Type 0
FollowsTo front bytes reader N.On = IsAmid (front ++ bytes) reader
FollowsTo front bytes reader (N.Ended count) = IsBodyBy E.Chunked (front ++ take count bytes)
FollowsTo front bytes reader N.Never = (more : List ℕ) → chunks_end ((front ++ bytes) ++ more) ≡ None

-- whatever bytes of a body the reader was fed before
abbrev pub Follows : Place → Place → List ℕ → Followed → Type 0
Follows old new bytes answer = (front : List ℕ) → IsAmid front old → FollowsTo front bytes new answer
