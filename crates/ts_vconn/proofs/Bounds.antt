-- How many bytes a read brings at most.
use Rattle.std.proofs.Common.{◌≡◌, ℕ, ◌≤◌, List, length, ap, arith}
use Rattle.ts_vconn.specs.MoveAnswers.{Came}
use Rattle.ts_vconn.specs.declared.moves.Pulled.{Pulled}
use Rattle.ts_vconn.specs.declared.moves.Pulled.TheVariants as U

-- a read brings no more than was asked for
pub came_few : (p : Pulled) (most : ℕ) (more : List ℕ) → Came p most more → length more ≤ most
came_few (U.Some n) most more (len, some, few) = omega (arith, len, few)
came_few _ most more none = let no : length more ≡ 0 = ap length none in omega (arith, no)
