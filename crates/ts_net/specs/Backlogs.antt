-- When a client is asked for: where one may be there, and else from time to time (Linux, epoll(7): a listener
-- is told of at each change, once).
use Rattle.std.specs.Prelude.{ℕ, Bool, true, false, ◌||◌, not, nat_le, if◌then◌else◌}
use Rattle.ts_link.specs.Moments.{moment_after}
use Rattle.ts_link.specs.declared.clock.TheConstants.{RETRY_AFTER}
use Rattle.ts_net.specs.declared.backlog.Backlog.{Backlog}
use Rattle.ts_net.specs.declared.backlog.Backlog.TheVariants as B

-- before anybody was asked for: the system tells of clients, and nobody waited for that yet, or it never does
abbrev pub watched_or_not : Bool → Backlog
watched_or_not is_watched = if is_watched then B.Unheard else B.Untold

-- a client is asked for at a moment, unless none was taken in the last ten milliseconds and no wait was told
-- of one since
abbrev pub asks : ℕ → Backlog → Bool
asks moment (B.Empty at) = not (nat_le at moment) || nat_le (moment_after at RETRY_AFTER) moment
asks moment _ = true

-- a wait was told of a client, or of none
abbrev pub once_waited : Bool → Backlog → Backlog
once_waited is_told B.Untold = B.Untold
once_waited is_told (B.Empty at) = if is_told then B.Open else B.Empty at
once_waited is_told _ = B.Open

-- none was taken at a moment, which is kept where waits are told
abbrev pub once_empty : ℕ → Backlog → Backlog
once_empty moment B.Untold = B.Untold
once_empty moment B.Unheard = B.Unheard
once_empty moment _ = B.Empty moment
