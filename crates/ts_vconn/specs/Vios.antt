-- What a contract sees of a VConnection.
use Rattle.std.specs.Prelude.{Bool}
use Rattle.ts_vconn.specs.declared.vio.Vio.{Vio}

-- its VIO, and whether it is closed
pub record Connection : Type 0 where
  pub vio : Vio
  pub closed : Bool
