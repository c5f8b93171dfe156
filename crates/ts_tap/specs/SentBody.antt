-- The body data of a response, by the bytes that a client took of it (RFC 9112, sections 2.1, 6.3 and 7.1):
-- the head ends with the first empty line, and where its last lines say so the body comes in chunks.
use Rattle.std.specs.Prelude.{◌≡◌, ℕ, ◌-◌, ◌<◌, ◌≤◌, List, [], ◌++◌, All, length, Bool, true, Option, Some}
use Rattle.std.specs.Prelude.{codes}
use Rattle.ts_wire.specs.declared.fields.Field.{Field}
use Rattle.ts_wire.specs.declared.framing.Framing.TheVariants as F
use Rattle.ts_wire.specs.declared.printed.ClientFraming.{ClientFraming}
use Rattle.ts_wire.specs.declared.printed.ClientFraming.TheVariants as C
use Rattle.ts_wire.specs.declared.body.BodyState.{BodyState}
use Rattle.ts_wire.specs.declared.frames.Mode.{Mode}
use Rattle.ts_wire.specs.declared.frames.Mode.TheVariants.{Plain, Chunked}
use Rattle.ts_wire.specs.Blank.{EndsBlank, LacksBlank}
use Rattle.ts_wire.specs.Body.{BodyOf}
use Rattle.ts_wire.specs.Frames.{IsPiece, content_in, cut_body, frames}
use Rattle.ts_wire.specs.Limits.{body_limit, word_limit}
use Rattle.ts_wire.specs.Printed.{client_text, framing_line}

-- the text ends so
abbrev pub EndsWith : List ℕ → List ℕ → Type 0
EndsWith text end = (front : List ℕ) × (text ≡ front ++ end)

-- the last lines of a head whose body comes in chunks, from the end of the line before them on
abbrev pub chunked_end : List ℕ
chunked_end = codes "\r\ntransfer-encoding: chunked\r\nconnection: close\r\n\r\n"

-- the line of the head before its `connection: close` is `transfer-encoding: chunked`
abbrev pub SaysChunked : List ℕ → Type 0
SaysChunked head = EndsWith head chunked_end

-- THE BODY DATA of the bytes so far: none in the head; then the content of the chunks, or all that comes
pub data IsSentBody (told body : List ℕ) : Type 0 where
  in_head : LacksBlank told → body ≡ [] → IsSentBody told body
  plain : (head : List ℕ) → EndsBlank head → (SaysChunked head → ⊥) → told ≡ head ++ body
      → IsSentBody told body
  chunked : (head rest : List ℕ) (state : BodyState) → EndsBlank head → SaysChunked head → told ≡ head ++ rest
      → BodyOf F.Chunked rest body state → IsSentBody told body

-- the head says that the body is sent so
abbrev pub SaysMode : Mode → List ℕ → Type 0
SaysMode Plain head = SaysChunked head → ⊥
SaysMode Chunked head = SaysChunked head

-- a head whose body is sent so, up to its empty line
pub record IsSentHead (mode : Mode) (head : List ℕ) : Type 0 where
  pub ends : EndsBlank head
  pub says : SaysMode mode head

-- the bytes so far have one body
abbrev pub HasOneSentBody : Type 0
HasOneSentBody = (told a b : List ℕ) → IsSentBody told a → IsSentBody told b → a ≡ b

-- of a front of a head and the frames of a body, it is the bytes of the body that stand in that front
abbrev pub SentBodyIsFront : Type 0
SentBodyIsFront =
    (mode : Mode) (head told more body : List ℕ) (pieces : List (List ℕ)) → IsSentHead mode head
    → All IsPiece pieces → length (cut_body pieces) ≤ body_limit
    → told ++ more ≡ head ++ frames mode pieces true → IsSentBody told body
    → body ≡ content_in mode pieces (length told - length head)

-- and of all of it, or of all but the end of the frames, it is the whole body
abbrev pub SentBodyIsWhole : Type 0
SentBodyIsWhole =
    (mode : Mode) (fin : Bool) (head body : List ℕ) (pieces : List (List ℕ)) → IsSentHead mode head
    → All IsPiece pieces → length (cut_body pieces) ≤ body_limit
    → IsSentBody (head ++ frames mode pieces fin) body → body ≡ cut_body pieces

-- of the heads that are printed, that of a body in chunks says so; that of a body whose length it tells does
-- not, nor does another one of an origin's
pub record PrintedHeadsSay : Type 0 where
  pub in_chunks : (status : ℕ) (reason : List ℕ) (fields : List Field) (via : Option ℕ)
      → SaysChunked (client_text status reason fields via C.Chunked)
  pub sized : (status n : ℕ) (reason : List ℕ) (fields : List Field) (via : Option ℕ) → n < word_limit
      → SaysChunked (client_text status reason fields via (C.Sized n)) → ⊥
  pub relayed : (status minor : ℕ) (reason : List ℕ) (fields : List Field) (framing : ClientFraming)
      → length (framing_line framing) ≡ 0
      → SaysChunked (client_text status reason fields (Some minor) framing) → ⊥
