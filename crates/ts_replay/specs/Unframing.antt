-- A body that was sent in frames, and its pieces (RFC 9112, section 7.1).
use Rattle.std.specs.Prelude.{◌≡◌, ℕ, List, All, true}
use Rattle.ts_wire.specs.Frames.{IsPiece, frames}
use Rattle.ts_wire.specs.declared.frames.Mode.{Mode}

-- the bytes are these pieces in their frames, and the end of the body behind them
pub record IsFramed (mode : Mode) (bytes : List ℕ) (pieces : List (List ℕ)) : Type 0 where
  pub each : All IsPiece pieces
  pub bytes_are : bytes ≡ frames mode pieces true
