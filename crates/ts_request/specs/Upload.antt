-- Which requests have a body that is passed on, what it is, and what a transaction is shown of its client
-- (RFC 9112, sections 6 and 7.1; RFC 9110, section 10.1.1).
use Rattle.std.specs.Prelude.{◌≡◌, ℕ, Bool, not, ◌||◌, List, ◌++◌, filter, Option, Some, codes, bytes_eq}
use Rattle.http_header.specs.Token.{lowercase}
use Rattle.httparse.specs.Grammar as grammar
use Rattle.httparse.specs.Grammar.{print_request}
use Rattle.ts_wire.specs.declared.body.BodyState.{BodyState}
use Rattle.ts_wire.specs.declared.framing.Framing.{Framing}
use Rattle.ts_wire.specs.Body.{BodyOf}
use Rattle.ts_wire.specs.Heads.{BeginsWithRequest}
use Rattle.ts_wire.specs.RequestEnds.{end_of_request, upload_of}

-- where the body of this request ends, if it has one that is passed on
abbrev pub upload_framing : grammar.RequestHead → Option Framing
upload_framing h = upload_of (end_of_request h)

-- the bytes begin with the head of a request with an upload, which ends so, and the rest follows
pub record HasUpload (c : List ℕ) (h : grammar.RequestHead) (framing : Framing) (rest : List ℕ) : Type 0 where
  pub begins : BeginsWithRequest c h rest
  pub framed : upload_framing h ≡ Some framing

-- the bytes are those of no request with an upload
abbrev pub LacksUpload : List ℕ → Type 0
LacksUpload c =
    (h : grammar.RequestHead) (framing : Framing) (rest : List ℕ) → HasUpload c h framing rest → ⊥

-- whatever follows them
abbrev pub NeverHasUpload : List ℕ → Type 0
NeverHasUpload c = (more : List ℕ) → LacksUpload (c ++ more)

-- The upload of a client whose bytes are these, and then their end: how it is framed, its body so far, and
-- how far that is. One that is Unfinished is cut.
pub record IsUpload (c : List ℕ) (framing : Framing) (body : List ℕ) (state : BodyState) : Type 0 where
  pub head : grammar.RequestHead
  pub rest : List ℕ
  pub has : HasUpload c head framing rest
  pub body_is : BodyOf framing rest body state

-- a field of this name, in lower case, speaks of the body, or of when it is sent
abbrev pub speaks_of_body : List ℕ → Bool
speaks_of_body name =
    bytes_eq name (codes "content-length")
    || (bytes_eq name (codes "transfer-encoding") || bytes_eq name (codes "expect"))

-- the line stays
abbrev pub stays : grammar.Field → Bool
stays f = not (speaks_of_body (lowercase f.name))

-- the head without the lines that speak of the body
abbrev pub without_body : grammar.RequestHead → grammar.RequestHead
without_body h = record h { fields = filter stays h.fields }

-- What is shown of a client's bytes: of a request with an upload the head alone, in its own bytes, without
-- the lines that speak of the body; and of any other all of them, as they are.
pub data Strips (c shown : List ℕ) : Type 0 where
  upload : (h : grammar.RequestHead) (framing : Framing) (rest : List ℕ) → HasUpload c h framing rest
      → shown ≡ print_request (without_body h) → Strips c shown
  other : LacksUpload c → shown ≡ c → Strips c shown

-- one list is shown of some bytes
abbrev pub HasOneShown : Type 0
HasOneShown = (c a b : List ℕ) → Strips c a → Strips c b → a ≡ b

-- some bytes have at most one upload: one framing, one body, in one state
abbrev pub HasOneUpload : Type 0
HasOneUpload = (c : List ℕ) (f g : Framing) (a b : List ℕ) (s t : BodyState)
    → IsUpload c f a s → IsUpload c g b t → (f ≡ g) × (a ≡ b) × (s ≡ t)
