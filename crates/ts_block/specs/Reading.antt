-- How far all the bytes of a body were fed to its reader.
use Rattle.std.specs.Prelude.{◌≡◌, ℕ, ◌++◌, List}
use Rattle.ts_wire.specs.declared.framing.Framing.{Framing}
use Rattle.ts_wire.specs.Place.{Place, IsFed}

-- a front of the bytes was fed and gave this body, and the rest follows
pub record HasFed (framing : Framing) (bytes body rest : List ℕ) (place : Place) : Type 0 where
  pub fed : List ℕ
  pub is_fed : IsFed framing fed body place
  pub text : fed ++ rest ≡ bytes
