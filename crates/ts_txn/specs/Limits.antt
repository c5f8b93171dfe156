-- The limits of a transaction.
use Rattle.std.specs.Prelude.{◌≡◌}
use Rattle.ts_link.specs.declared.clock.TheConstants.{RETRY_AFTER}
use Rattle.ts_vconn.specs.declared.moves.TheConstants.{MOST_PULLED}
use Rattle.ts_transform.specs.declared.transform.TheConstants.{MOST_FED}
use Rattle.ts_transform.specs.declared.pump.TheConstants.{MOST_WAITING}
use Rattle.ts_txn.specs.declared.making.TheConstants.{MOST_GROUPS, MOST_PLUGINS}

-- THE LIMITS OF A TRANSACTION: how many hook plugin lines its setup has at most, and how many groups there are
-- for them; after how many milliseconds it tries again what was not ready; how many bytes one read brings at
-- most, and one piece of a body; and below how many that wait before a chain its reader reads on.
pub record AreLimits : Type 0 where
  pub plugins : MOST_PLUGINS ≡ 64
  pub groups : MOST_GROUPS ≡ 4096
  pub again : RETRY_AFTER ≡ 10
  pub read : MOST_PULLED ≡ 32768
  pub piece : MOST_FED ≡ 32768
  pub waiting : MOST_WAITING ≡ 65536
