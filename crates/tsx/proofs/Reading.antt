-- What was read of a file within a limit, beside all that the file has.
use Rattle.std.specs.Prelude.{◌≡◌, ℕ, ◌<◌, List, length, take, Option, None, Some, IfSome, Ok, vec_items}
use Rattle.std.proofs.Common.{◌∙◌, arith, take_all, length-take, min}
use Rattle.std.specs.Option.{option_map}
use Rattle.std.specs.declared.vec.Vec.{Vec}
use Rattle.tsx.specs.Whole.{IsAllOf}

-- a front that is shorter than it might be is the whole
pub take_whole : (limit : ℕ) (all : List ℕ) → length (take limit all) < limit → take limit all ≡ all
take_whole limit all short =
    let cut : length (take limit all) ≡ min limit (length all) = length-take limit all in
    take_all limit all (omega (arith, cut, short))

-- so what was read is all of the file, where it is shorter than the limit of the read
pub all_read : {Z : Type 0} (known : Option (List ℕ)) (limit : ℕ) (bytes : Vec ℕ Z)
    → IfSome (option_map (take limit) known) (λ xs. vec_items bytes ≡ xs) → length (vec_items bytes) < limit
    → IsAllOf known (Ok bytes)
all_read None limit bytes read short = tt
all_read (Some all) limit bytes read short = read ∙ take_whole limit all (rw read at short)
