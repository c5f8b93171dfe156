-- The limits of a group.
use Rattle.std.specs.Prelude.{◌≡◌}
use Rattle.ts_journal.specs.declared.entry.TheConstants.{MOST_KEYS}
use Rattle.ts_group.specs.declared.group.TheConstants.{MOST_EVENTS}
use Rattle.ts_group.specs.declared.slot.TheConstants.{MOST_IN_TURN}
use Rattle.ts_group.specs.declared.turns.TheConstants.{MOST_STORED}
use Rattle.ts_group.specs.declared.world.TheConstants.{MOST_SET}

-- THE LIMITS OF A GROUP: how many continuations it has at most; how many events one turn handles; how many one
-- call of a handler sets, and one turn; and how many entries a journal has when it is folded.
pub record AreLimits : Type 0 where
  pub keys : MOST_KEYS ≡ 1024
  pub handled : MOST_EVENTS ≡ 64
  pub set : MOST_SET ≡ 100
  pub in_turn : MOST_IN_TURN ≡ 8192
  pub stored : MOST_STORED ≡ 4096
