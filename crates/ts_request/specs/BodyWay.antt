-- What holds of a request's body on its way to the origin: what was framed of it is a front of the request
-- lines' work on what was read of it (RFC 9112, sections 6.3 and 7.1; Developer's Guide, "Transformations").
use Rattle.std.specs.Prelude.{◌≡◌, ◌≢◌, ℕ, ◌+◌, ◌*◌, ◌++◌, ◌⊎◌, List, [], Bool, true, false, All}
use Rattle.ts_config.specs.declared.setup.TransformLine.{TransformLine}
use Rattle.ts_config.specs.Bodies.{compose_lines, is_early}
use Rattle.ts_passing.specs.Lines.{IsOfSome, passes}
use Rattle.ts_passing.specs.Sends.{Sends}
use Rattle.ts_transform.specs.Flow.{IsFinished, left_to_do}
use Rattle.ts_transform.specs.declared.transform.Transform as transform
use Rattle.ts_wire.specs.declared.body.BodyState.{BodyState}
use Rattle.ts_wire.specs.declared.body.BodyState.TheVariants as B
use Rattle.ts_wire.specs.declared.framing.Framing.{Framing}
use Rattle.ts_wire.specs.declared.frames.Mode.{Mode}
use Rattle.ts_wire.specs.declared.frames.Mode.TheVariants as M
use Rattle.ts_wire.specs.declared.printed.ClientFraming.{ClientFraming}
use Rattle.ts_wire.specs.declared.printed.ClientFraming.TheVariants as C
use Rattle.ts_wire.specs.Frames.{IsPiece, cut_body, frames}
use Rattle.ts_wire.specs.Place.{IsFed, Place, state_of}
use Rattle.ts_request.specs.declared.passage.Passage.{Passage}

module _ {P : Type 0} (stage : transform.Ghosts P TransformLine) (lines : List TransformLine) where
  -- Of a body in this framing so much was fed, which is so much of the body, and so much of the lines' work
  -- on it was framed. Where memory lacked for a part of it, the reader of bodies stands behind that part.
  pub record Passes (framing : Framing) (fed read sent : List ℕ) (p : Passage P) : Type 0 where
    pub place : Place
    pub is_fed : IsFed framing fed read place
    pub now : p.lost ≡ false → p.body ≡ place
    pub sends : Sends stage.rest stage.soon lines read sent p.chain
    pub over : p.chain.given ≡ true → state_of place.phase ≡ B.Ended
    pub goes_on : p.chain.given ≡ false → state_of place.phase ≢ B.Ended
    pub of_lines : IsOfSome lines stage.rest p.chain

  -- The body's text behind the head so far: frames of pieces, and their end once the chain has finished.
  pub record Writes (framing : Framing) (fed read text : List ℕ) (p : Passage P) : Type 0 where
    pub pieces : List (List ℕ)
    pub each : All IsPiece pieces
    pub text_is : text ≡ frames p.mode pieces p.ended
    pub way : Passes framing fed read (cut_body pieces) p
    pub finished : p.ended ≡ true → IsFinished p.chain

-- ---- what the lines' work is a front of

-- one list is a front of another
abbrev pub IsFrontOf : List ℕ → List ℕ → Type 0
IsFrontOf front all = (more : List ℕ) × (all ≡ front ++ more)

-- What was sent is a front of the lines' work on a body: on what was read of it, once it has ended, and else
-- on whatever begins with that.
abbrev pub IsFrontOfWork : List TransformLine → Bool → List ℕ → List ℕ → Type 0
IsFrontOfWork lines true read sent = IsFrontOf sent (compose_lines lines read)
IsFrontOfWork lines false read sent = (more : List ℕ) → IsFrontOf sent (compose_lines lines (read ++ more))

-- The lines' work was sent whole: on a body that has ended, or one of the lines finished early, whatever of
-- the body still comes.
pub record IsWholeWork (lines : List TransformLine) (ended : Bool) (read sent : List ℕ) : Type 0 where
  pub whole : sent ≡ compose_lines lines read
  pub over : (ended ≡ true) ⊎ ((more : List ℕ) → is_early lines (read ++ more) ≡ true)

-- ---- how much is left to do

-- what a byte costs that is to be written to the origin, a byte that passes a boundary of the chain, and the
-- body's end
abbrev pub write_cost : ℕ
write_cost = 9

abbrev pub pass_cost : ℕ
pass_cost = 82

abbrev pub end_cost : ℕ
end_cost = 64

-- one where it is not so yet
abbrev pub to_come : Bool → ℕ
to_come true = 0
to_come false = 1

-- more of a body in this state may come
abbrev pub more_comes : BodyState → ℕ
more_comes B.Unfinished = 1
more_comes B.Ended = 0
more_comes B.Bad = 0

-- of a body of which so many bytes may still be read, and so many wait
abbrev pub to_read : List TransformLine → ℕ → ℕ → ℕ
to_read lines left held = pass_cost * passes lines (left + held) + 2 * left + held

-- of what has come to the chain
abbrev pub passage_left : {P : Type 0} → (P → List ℕ → List ℕ) → Passage P → ℕ
passage_left rest p = pass_cost * left_to_do rest p.chain [] + end_cost * to_come p.ended
    + more_comes (state_of p.body.phase)

-- ---- how it sets out

-- how the pieces of a body are framed that is said to end so
abbrev pub mode_said : ClientFraming → Mode
mode_said C.Chunked = M.Chunked
mode_said _ = M.Plain
