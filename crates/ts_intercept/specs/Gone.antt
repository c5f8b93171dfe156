-- Bytes that are gone.
use Rattle.std.specs.Prelude.{ℕ, List, [], ◌∷◌, ◌++◌}
use Rattle.ts_intercept.specs.declared.gone.Trail.{Trail}
use Rattle.ts_intercept.specs.declared.gone.Trail.TheVariants.{Nothing, Behind'}

-- the bytes of a trail, in the order in which they went
abbrev pub bytes_of : Trail → List ℕ
bytes_of Nothing = []
bytes_of (Behind' place before byte) = bytes_of before ++ (byte ∷ [])
