-- What is said of a value, said of the box in which it stands.
use Rattle.std.specs.Global.{Box}
use Rattle.std.specs.Prelude.{Option, Some, None}

abbrev pub in_box : {X A : Type 0} → (X → A) → Box X → A
in_box f box = f box.value

abbrev pub fits_in_box : {X G : Type 0} → (G → X → Type 0) → G → Box X → Type 0
fits_in_box fits tag box = fits tag box.value

-- the value in a box, if there is one
abbrev pub unboxed : {X : Type 0} → Option (Box X) → Option X
unboxed None = None
unboxed (Some box) = Some box.value
