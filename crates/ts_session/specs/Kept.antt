-- The line `connection: close` of a response's head, and what is kept of the response without it (RFC 9112,
-- sections 2.1, 6.3 and 9.6).
use Rattle.std.specs.Prelude.{◌≡◌, ◌≢◌, ℕ, Bool, true, false, ◌&&◌, ◌||◌, List, [], ◌∷◌, ◌++◌, ◌==◌, codes}
use Rattle.std.specs.List.{list_any}
use Rattle.ts_link.specs.Texts.{line_feed}

-- the line that says that the connection closes behind this answer
abbrev pub close_line : List ℕ
close_line = codes "connection: close\r\n"

-- the line that says that the body comes in chunks
abbrev pub chunked_line : List ℕ
chunked_line = codes "transfer-encoding: chunked\r\n"

-- the line that ends a head
abbrev pub empty_line : List ℕ
empty_line = codes "\r\n"

-- the text begins with the other one
abbrev pub begins : List ℕ → List ℕ → Bool
begins [] text = true
begins (p ∷ ps) [] = false
begins (p ∷ ps) (b ∷ text) = (p == b) && begins ps text

-- it is the status line of a response that has no body: its status is 204 or 304
abbrev pub is_bodiless : List ℕ → Bool
is_bodiless line = begins (codes "HTTP/1.1 204") line || begins (codes "HTTP/1.1 304") line

-- it is a field line that tells where the body ends: a length, or that it comes in chunks
abbrev pub tells_end : List ℕ → Bool
tells_end line = begins (codes "content-length:") line || begins chunked_line line

-- bytes of a line that has not ended
abbrev pub lacks_feed : List ℕ → Type 0
lacks_feed bytes = list_any (λ b. b == line_feed) bytes ≡ false

-- a line, up to the line feed that ends it
pub record IsLine (line : List ℕ) : Type 0 where
  pub front : List ℕ
  pub is : line ≡ front ++ (line_feed ∷ [])
  pub one : lacks_feed front

-- a field line that is not `connection: close`
pub record IsOtherLine (line : List ℕ) : Type 0 where
  pub line_is : IsLine line
  pub not_close : line ≢ close_line
  pub not_empty : line ≢ empty_line

-- THE LINES of a head so far, its status line and field lines, none of them `connection: close`; and whether
-- they tell where the response ends
pub data AreLines : Bool → List ℕ → Type 0 where
  status : (line : List ℕ) → IsLine line → AreLines (is_bodiless line) line
  field : (told : Bool) (lines line : List ℕ) → AreLines told lines → IsOtherLine line
      → AreLines (told || tells_end line) (lines ++ line)

-- WHAT IS KEPT of a response whose head has the line `connection: close`: the response without it
pub record IsKept (response kept : List ℕ) : Type 0 where
  pub told : Bool
  pub lines : List ℕ
  pub are : AreLines told lines
  pub behind : List ℕ
  pub response_is : response ≡ lines ++ (close_line ++ behind)
  pub kept_is : kept ≡ lines ++ behind

-- THE LAW that the line is one: what is kept of a response is one list
abbrev pub HasOneKept : Type 0
HasOneKept = (response a b : List ℕ) → IsKept response a → IsKept response b → a ≡ b
