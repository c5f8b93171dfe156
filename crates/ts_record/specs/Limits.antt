-- The limits of a recording.
use Rattle.std.specs.Prelude.{◌≡◌}
use Rattle.ts_record.specs.declared.recording.TheConstants.{FIRST_VERSION, SECOND_VERSION, MOST_PIECE, MOST_STALL, MOST_STALLED, MOST_TAKEN, MOST_TXNS}

-- its two versions and its limits are these numbers: bytes of a piece, reads that wait at one stall and at
-- all stalls, bytes that a client takes which leaves, and transactions
pub record AreLimits : Type 0 where
  pub first : FIRST_VERSION ≡ 1
  pub second : SECOND_VERSION ≡ 2
  pub piece : MOST_PIECE ≡ 32768
  pub stall : MOST_STALL ≡ 1000
  pub stalled : MOST_STALLED ≡ 100000
  pub taken : MOST_TAKEN ≡ 67108864
  pub txns : MOST_TXNS ≡ 4000
