-- The limits of serving.
use Rattle.std.specs.Prelude.{◌≡◌, ◌^◌}
use Rattle.ts_queue.specs.declared.TheConstants.{WHOLE_SHARE}
use Rattle.ts_serve.specs.declared.acceptor.TheConstants.{PLACES}
use Rattle.ts_serve.specs.declared.ready.TheConstants.{LONGEST_PAUSE, MOST_UNASKED}
use Rattle.ts_serve.specs.declared.worker.TheConstants.{PAUSE}

-- THE LIMITS OF SERVING: how many clients are served at a time at most; for how many milliseconds a thread
-- pauses that has nothing to do, while there are clients and at most where there are none; for how many
-- rounds at most the net is not asked who is ready; and into how many parts the queue's pass can be split.
pub record AreLimits : Type 0 where
  pub places : PLACES ≡ 256
  pub pause : PAUSE ≡ 1
  pub longest_pause : LONGEST_PAUSE ≡ 8
  pub unasked : MOST_UNASKED ≡ 16
  pub share : WHOLE_SHARE ≡ 2 ^ 32
