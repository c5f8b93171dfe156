-- Names that are added behind others, as far as memory goes.
use Rattle.std.proofs.Common.{◌≡◌, ◌++◌, ◌∙◌, ℕ, cond, List, [], Bool, true, false, append-nil, sym}
use Rattle.ts_txn.specs.Net.{AddsNames}

-- all of them, or none
pub adds_names : (was now names : List ℕ) (fits : Bool) → now ≡ cond fits (was ++ names) was → AddsNames was now
adds_names was now names true is = record { more = names; behind = is }
adds_names was now names false is = record { more = []; behind = is ∙ sym (append-nil was) }
