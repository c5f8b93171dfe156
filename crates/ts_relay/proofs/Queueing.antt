-- How much waits for the client once a piece of a body was framed for it, or the end of that body.
use Rattle.std.proofs.Common.{◌≡◌, ◌+◌, ◌-◌, ◌<◌, ◌≤◌, ℕ, List, ◌++◌, length, Bool, true, false, inl, inr}
use Rattle.std.proofs.Common.{arith, ap, ◌∙◌, length-append}
use Rattle.std.specs.Prelude.{◌==◌, if◌then◌else◌}
use Rattle.std.proofs.lemmas.List.{append-nil}
use Rattle.httparse.specs.Ascii.{crlf_bytes}
use Rattle.ts_wire.specs.declared.frames.Mode.{Mode}
use Rattle.ts_wire.specs.declared.frames.Mode.TheVariants as M
use Rattle.ts_wire.specs.Frames.{IsPiece, end_of, frame_of, hex}
use Rattle.ts_wire.specs.Limits.{piece_limit}
use Rattle.ts_wire.proofs.HexLemmas.{length-hex}
use Rattle.ts_phases.specs.View.{View}
use Rattle.ts_phases.specs.RelayMoves.{FramesEnd, FramesPiece, QueuesNothing}
use Rattle.ts_phases.proofs.Lowering.{same_length}
use Rattle.ts_relay.specs.BodyLinks.{HasRoomFor, MayEnd, QueuesFew, most_queued}
use Rattle.ts_relay.specs.declared.client_end.TheConstants.{MOST_FRAME, MOST_FRAMED, MOST_TOGETHER}

-- ---- how long a frame is, and the end of a body

pub end_few : (mode : Mode) → length (end_of mode) ≤ 5
end_few M.Plain = omega arith
end_few M.Chunked = omega arith

frame_few : (mode : Mode) (piece : List ℕ) → IsPiece piece → length (frame_of mode piece) ≤ length piece + 8
frame_few M.Plain piece is = omega arith
frame_few M.Chunked piece is = omega (
  arith,
  is.0,
  is.1,
  length-hex (length piece) (omega (arith, is.1)),
  length-append (hex (length piece)) (crlf_bytes ++ (piece ++ crlf_bytes)),
  length-append crlf_bytes (piece ++ crlf_bytes),
  length-append piece crlf_bytes,
)

-- ---- the room behind what waits

most_by : (waits : ℕ) (none : Bool) → (waits == 0) ≡ none
    → most_queued waits ≡ (if none then MOST_FRAMED else MOST_TOGETHER)
most_by waits none is = ap (λ (b : Bool). if b then MOST_FRAMED else MOST_TOGETHER) is

-- a whole piece, where nothing waits
pub room_none : (waits : ℕ) → waits ≡ 0 → HasRoomFor waits piece_limit
room_none waits none = record {
  piece = omega arith;
  fits = omega (arith, none, most_by waits true (ap (λ n. n == 0) none));
}

-- and else as much as a block has
pub room_some : (waits room : ℕ) → (waits == 0) ≡ false → room ≡ (MOST_TOGETHER - MOST_FRAME) - waits
    → 0 < room → HasRoomFor waits room
room_some waits room is room_is some = record {
  piece = omega (arith, room_is);
  fits = omega (arith, room_is, some, most_by waits false is);
}

-- where there is room for a piece, there is for the end
pub may_end : (waits most : ℕ) → HasRoomFor waits most → MayEnd waits
may_end waits most room = omega (arith, room.fits)

-- ---- what waits then

pub few_nothing : (v w : View) → QueuesNothing v w → QueuesFew v w
few_nothing v w queues =
    inl (same_length v.client.outbox w.client.outbox (queues.adds.outbox ∙ append-nil v.client.outbox))

pub few_piece : (v w : View) (piece : List ℕ) (most : ℕ) → HasRoomFor (length v.client.outbox) most
    → IsPiece piece → length piece ≤ most → FramesPiece piece v w → QueuesFew v w
few_piece v w piece most room is short frames =
    let frame = frame_of v.sent.mode piece in
    let len : length w.client.outbox ≡ length v.client.outbox + length frame = ap length frames.adds.outbox
    ∙ length-append v.client.outbox frame in
    inr (omega (arith, len, frame_few v.sent.mode piece is, short, room.fits))

pub few_end : (v w : View) → MayEnd (length v.client.outbox) → FramesEnd v w → QueuesFew v w
few_end v w room frames =
    let end = end_of v.sent.mode in
    let len : length w.client.outbox ≡ length v.client.outbox + length end = ap length frames.adds.outbox
    ∙ length-append v.client.outbox end in
    inr (omega (arith, len, end_few v.sent.mode, room))
