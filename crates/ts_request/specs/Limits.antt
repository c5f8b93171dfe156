-- The limits of request bodies.
use Rattle.std.specs.Prelude.{◌≡◌}
use Rattle.ts_request.specs.declared.carrier.TheConstants.{MOST_HELD}

-- how many bytes of a request's head are held at most until its upload begins
pub record AreLimits : Type 0 where
  pub held : MOST_HELD ≡ 4194304
