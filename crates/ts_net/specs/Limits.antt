-- The numbers of the links over sockets: their limits, names and errors.
use Rattle.std.specs.Prelude.{◌≡◌, pos}
use Rattle.ts_net.specs.declared.dialer.TheConstants.{ORIGIN_NAME}
use Rattle.ts_net.specs.declared.half_closed.TheConstants.{LINGER}
use Rattle.ts_net.specs.declared.heard.TheConstants.{NO_DESCRIPTOR, NOT_LISTENING, NO_SOCKET}
use Rattle.ts_net.specs.declared.lingering.TheConstants.{LAST_LINGER, MOST_LINGERING, PASSED_AT_ONCE}
use Rattle.ts_net.specs.declared.poller.TheConstants.{LISTENER, MOST_TOLD}
use Rattle.ts_net.specs.declared.stream_link.TheConstants.{HURRIES_BEHIND}

-- THE LIMITS: for how many milliseconds a client lingers, and for how many once nobody listens any more; how
-- many clients do at most; how many bytes of one are passed over at once; behind how many writes of a link its
-- stream is told to send at once, which is before the second one; and of how many sockets at most is told at
-- once that they are ready.
pub record AreLimits : Type 0 where
  pub time : LINGER ≡ 5000
  pub last_time : LAST_LINGER ≡ 100
  pub clients : MOST_LINGERING ≡ 256
  pub passed : PASSED_AT_ONCE ≡ 65536
  pub hurries : HURRIES_BEHIND ≡ 1
  pub told : MOST_TOLD ≡ 256

-- THE NAMES THAT NO CLIENT HAS, since clients are counted from 1: that under which who listens is watched, and
-- that of each link to an origin.
pub record AreNames : Type 0 where
  pub listener : LISTENER ≡ 0
  pub origin : ORIGIN_NAME ≡ 0

-- THE ERRORS THAT END THE LISTENING, by their numbers (Linux, errno(3)): EBADF, EINVAL and ENOTSOCK.
pub record AreErrorNumbers : Type 0 where
  pub descriptor : NO_DESCRIPTOR ≡ pos 9
  pub listening : NOT_LISTENING ≡ pos 22
  pub socket : NO_SOCKET ≡ pos 88
