-- The requests of a client's connection, one behind the other (RFC 9112, sections 6 and 9.3).
use Rattle.std.specs.Prelude.{◌≡◌, ℕ, Bool, not, ◌&&◌, List, [], ◌∷◌, ◌++◌, map, length, ◌==◌, codes}
use Rattle.std.specs.Prelude.{bytes_eq, ◌⊎◌, None}
use Rattle.httparse.specs.Grammar as grammar
use Rattle.ts_wire.specs.Body.{IsEndedChunked}
use Rattle.ts_wire.specs.Forward.{is_option}
use Rattle.ts_wire.specs.Heads.{BeginsWithRequest, LacksRequest, kept_field}
use Rattle.ts_wire.specs.RequestEnds.{end_of_request}
use Rattle.ts_wire.specs.declared.ends.RequestEnd.{RequestEnd}
use Rattle.ts_wire.specs.declared.ends.RequestEnd.TheVariants as E
use Rattle.ts_session.specs.ChunksEnd.{chunks_end}

-- the bytes are all that follows the head of a request that ends so
abbrev pub IsBodyBy : RequestEnd → List ℕ → Type 0
IsBodyBy (E.Sized n) bytes = length bytes ≡ n
IsBodyBy E.Chunked bytes = (body : List ℕ) × (ended : IsEndedChunked bytes body) × (ended.rest ≡ [])
IsBodyBy E.Unknown bytes = ⊥

-- the bytes are one whole request with this head: the head, and its body
pub record IsRequestWith (head : grammar.RequestHead) (bytes : List ℕ) : Type 0 where
  pub body : List ℕ
  pub begins : BeginsWithRequest bytes head body
  pub ends : IsBodyBy (end_of_request head) body

-- ONE WHOLE REQUEST
pub record IsRequest (bytes : List ℕ) : Type 0 where
  pub head : grammar.RequestHead
  pub whole : IsRequestWith head bytes

-- no whole request stands at the front of the bytes
abbrev pub LacksWhole : List ℕ → Type 0
LacksWhole bytes = (first more : List ℕ) → bytes ≡ first ++ more → IsRequest first → ⊥

-- the request is the first of these bytes, whole, or all of them
abbrev pub IsNext : List ℕ → List ℕ → Type 0
IsNext bytes request = (request ≡ bytes) ⊎ ((more : List ℕ) × (bytes ≡ request ++ more) × IsRequest request)

-- THE REQUESTS of all bytes of a client: whole ones, and a last part that begins with none
pub data AreRequests : List ℕ → List (List ℕ) → List ℕ → Type 0 where
  none : (bytes : List ℕ) → LacksWhole bytes → AreRequests bytes [] bytes
  next : (first more last : List ℕ) (others : List (List ℕ)) → IsRequest first → AreRequests more others last
      → AreRequests (first ++ more) (first ∷ others) last

-- THE LAW that the requests of some bytes are one list, and their last part is one
abbrev pub HasOneList : Type 0
HasOneList =
    (bytes : List ℕ) (a b : List (List ℕ)) (x y : List ℕ) → AreRequests bytes a x → AreRequests bytes b y
    → (a ≡ b) × (x ≡ y)

-- Why all that is left of a client's bytes belongs to one request: it begins with no head, or with one that
-- announces a body of which nobody looks where it ends, or a body in chunks that do not end in them.
pub data GivesAll (bytes : List ℕ) : Type 0 where
  no_head : LacksRequest bytes → GivesAll bytes
  unknown : (h : grammar.RequestHead) (rest : List ℕ) → BeginsWithRequest bytes h rest
      → end_of_request h ≡ E.Unknown → GivesAll bytes
  chunks : (h : grammar.RequestHead) (rest : List ℕ) → BeginsWithRequest bytes h rest
      → end_of_request h ≡ E.Chunked → chunks_end rest ≡ None → GivesAll bytes

-- the client lets the connection go on behind the answer to this request: it speaks HTTP/1.1, and no
-- Connection value has the member `close`, in any letter case
abbrev pub persists : grammar.RequestHead → Bool
persists h = (h.minor == 1) && not (is_option (map kept_field h.fields) (codes "close"))

-- it asks for the head of an answer alone
abbrev pub asks_head : grammar.RequestHead → Bool
asks_head h = bytes_eq h.method (codes "HEAD")
