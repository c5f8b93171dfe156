-- What the first bytes of a client say of its next request.
use Rattle.std.specs.Prelude.{◌≡◌, ◌⊎◌, ℕ, ◌<◌, ◌≤◌, true, false, List, [], ◌++◌, length, drop}
use Rattle.httparse.specs.Grammar as grammar
use Rattle.httparse.specs.Grammar.{print_request}
use Rattle.ts_wire.specs.Heads.{BeginsWithRequest, LacksRequest}
use Rattle.ts_wire.specs.Limits.{head_limit}
use Rattle.ts_wire.specs.RequestEnds.{end_of_request}
use Rattle.ts_session.specs.Course.{HoldsHead, IsInChunks, StandsBy, is_head}
use Rattle.ts_session.specs.Held.{before_last}
use Rattle.ts_session.specs.Requests.{asks_head, persists}
use Rattle.ts_session.specs.declared.finding.FoundHead.{FoundHead}
use Rattle.ts_session.specs.declared.finding.Found.{Found}
use Rattle.ts_session.specs.declared.finding.Found.TheVariants as F
use Rattle.ts_session.specs.declared.request.Request.{Request}

-- no head stands at their front, whatever follows
abbrev pub NeverRequest : List ℕ → Type 0
NeverRequest bytes = (more : List ℕ) → LacksRequest (bytes ++ more)

-- they begin with this head, of so many bytes, and this was read off it
pub record IsHeadFound (bytes : List ℕ) (f : FoundHead) : Type 0 where
  pub head : grammar.RequestHead
  pub begins : BeginsWithRequest bytes head (drop f.used bytes)
  pub used_is : f.used ≡ length (print_request head)
  pub used_fits : f.used ≤ length bytes
  pub end_is : f.end ≡ end_of_request head
  pub persists_is : f.persists ≡ persists head
  pub asks_is : f.asks_head ≡ asks_head head

-- what was found is so: with more bytes there may be a head; there is none, whatever follows; or there is one
abbrev pub IsFound : List ℕ → Found → Type 0
IsFound bytes F.More = LacksRequest bytes × (length bytes < head_limit)
IsFound bytes F.Never = NeverRequest bytes
IsFound bytes (F.Head head) = IsHeadFound bytes head

-- What the bytes that are held say of a request whose head is read: with more of them it may be known; it is
-- known where it ends, or how far a body in chunks is; or all that the client gives belongs to it.
pub record Decides (old new : Request) : Type 0 where
  pub held_is : new.held ≡ old.held
  pub head : HoldsHead new.reading new.held
  pub stands : (left : List ℕ) → StandsBy new.reading new [] left
  pub unread : (is_head new.reading ≡ true) ⊎ (0 < length new.held)

-- The last so many bytes that are held were looked at, of a request whose body comes in chunks: it goes on,
-- or it is known where it ends, or all that the client gives belongs to it.
pub record GoesOnChunked (fresh : ℕ) (old new : Request) : Type 0 where
  pub held_is : new.held ≡ old.held
  pub known : is_head new.reading ≡ false
  pub stands : (given : List ℕ) → IsInChunks old (given ++ before_last fresh old.held) → (left : List ℕ)
      → StandsBy new.reading new given left
