-- The limits of a tap.
use Rattle.std.specs.Prelude.{◌≡◌}
use Rattle.ts_tap.specs.declared.watch.TheConstants.{MOST_UNREAD}

-- how many bytes wait at most for a watcher that left them
pub record AreLimits : Type 0 where
  pub unread : MOST_UNREAD ≡ 65536
