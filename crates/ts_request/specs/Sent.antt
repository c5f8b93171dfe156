-- The request with an upload as its origin gets it, and what is refused (RFC 9112, sections 6.1 and 6.2).
use Rattle.std.specs.Prelude.{◌≡◌, ◌≢◌, ℕ, false, List, []}
use Rattle.ts_config.specs.Bodies.{is_early}
use Rattle.ts_config.specs.declared.setup.TransformLine.{TransformLine}
use Rattle.ts_wire.specs.declared.body.BodyState.{BodyState}
use Rattle.ts_wire.specs.declared.body.BodyState.TheVariants as B
use Rattle.ts_wire.specs.declared.framing.Framing.{Framing}
use Rattle.ts_wire.specs.declared.framing.Framing.TheVariants as F
use Rattle.ts_wire.specs.declared.printed.ClientFraming.{ClientFraming}
use Rattle.ts_wire.specs.declared.printed.ClientFraming.TheVariants as C
use Rattle.ts_wire.specs.Printed.{with_framing}
use Rattle.ts_request.specs.Upload.{IsUpload}

-- how the body goes to the origin: by its length, where it has one and no line changes it, and else in chunks
abbrev pub sent_framing : Framing → List TransformLine → ClientFraming
sent_framing (F.Sized n) [] = C.Sized n
sent_framing framing lines = C.Chunked

-- the origin's head: that of the request as the transaction sends it, with one line more before its last CR
-- LF
abbrev pub sent_head : Framing → List TransformLine → List ℕ → List ℕ
sent_head framing lines request = with_framing request (sent_framing framing lines)

-- What is refused of a client whose bytes are these, and then their end: an upload whose body is cut or bad,
-- and on which no line finished early.
pub record RefusesUpload (lines : List TransformLine) (c : List ℕ) : Type 0 where
  pub framing : Framing
  pub body : List ℕ
  pub state : BodyState
  pub upload : IsUpload c framing body state
  pub short : state ≢ B.Ended
  pub late : is_early lines body ≡ false
