-- The empty line that ends a head (RFC 9112, section 2.1).
use Rattle.std.specs.Prelude.{◌≡◌, ℕ, List, ◌++◌, length, codes}
use Rattle.memchr.specs.Find.{OccursAt}
use Rattle.ts_wire.specs.declared.printed.ClientFraming.{ClientFraming}
use Rattle.ts_wire.specs.OneHead.{SendsRequest, SendsUpload, SendsResponse}

-- the end of the last line of a head, and its empty line
abbrev pub blank_end : List ℕ
blank_end = codes "\r\n\r\n"

-- no empty line stands in the text behind another line
abbrev pub LacksBlank : List ℕ → Type 0
LacksBlank text = (place : ℕ) → OccursAt text blank_end place → ⊥

-- the text ends with an empty line, which is the only one in it
pub record EndsBlank (text : List ℕ) : Type 0 where
  pub front : List ℕ
  pub text_is : text ≡ front ++ blank_end
  pub once : (place : ℕ) → OccursAt text blank_end place → place ≡ length front

-- a head that is sent ends with its only empty line: that of a request, with a body or without, and that of a
-- response
pub record SentEndsBlank : Type 0 where
  pub request : (method target host text : List ℕ) → SendsRequest method target host text → EndsBlank text
  pub upload : (method target host text : List ℕ) (sent : ClientFraming)
      → SendsUpload method target host sent text → EndsBlank text
  pub response : (status : ℕ) (sent : ClientFraming) (text : List ℕ) → SendsResponse status sent text
      → EndsBlank text
