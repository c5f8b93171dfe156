-- The limits of threads.
use Rattle.std.specs.Prelude.{◌≡◌, ◌^◌, ◌-◌}
use Rattle.ts_thread.specs.declared.TheConstants.{MOST_ALONE, MOST_ENTERED, MOST_THREADS, MOST_TURNS}

-- THE LIMITS OF THREADS: how many run groups at most; how many groups one turn of a thread enters; how many
-- turns a group has had after threads and the drive to its end; and how many turns it has in all.
pub record AreLimits : Type 0 where
  pub threads : MOST_THREADS ≡ 64
  pub entered : MOST_ENTERED ≡ 2
  pub alone : MOST_ALONE ≡ 2 ^ 50
  pub turns : MOST_TURNS ≡ 2 ^ 64 - 2
