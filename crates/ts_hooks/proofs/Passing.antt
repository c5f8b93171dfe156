-- What is left of a table's plugins once some were passed.
use Rattle.std.proofs.Common.{◌≡◌, ℕ, ◌+◌, ◌<◌, ◌≤◌, suc, List, ◌∷◌, length, drop, get_or, true, cond, Some, slice_get, ap, sym, ◌∙◌, zero-add}
use Rattle.std.specs.Prelude.{map}
use Rattle.std.specs.List.{filter}
use Rattle.std.proofs.Math.Seq.{drop-cons}
use Rattle.std.proofs.Math.ListN.{drop_of_length-le}
use Rattle.ts_hooks.specs.Hooks.{is_same, plugins_at}
use Rattle.ts_hooks.specs.declared.hook.Hook.{Hook}

-- a plugin of the hook that was not passed is the first of those that are left
pub first_left : (hook : Hook) (plugins : List (Hook × ℕ)) (i : ℕ) (d : Hook × ℕ) → i < length plugins
    → is_same (get_or plugins i d).0 hook ≡ true
    → slice_get (plugins_at hook (drop i plugins)) 0 ≡ Some (get_or plugins i d).1
first_left hook plugins i d within same =
    ap (λ ps. slice_get (plugins_at hook ps) 0) (drop-cons plugins i d within)
    ∙ ap (λ b. slice_get (map (λ (p : Hook × ℕ). p.1)
    (cond b (get_or plugins i d ∷ filter (λ p. is_same p.0 hook) (drop (suc i) plugins))
    (filter (λ p. is_same p.0 hook) (drop (suc i) plugins)))) 0) same

-- nothing is left once all were passed
pub none_left : (hook : Hook) (plugins : List (Hook × ℕ)) (i left : ℕ) → length plugins ≤ i
    → left ≡ length (plugins_at hook (drop i plugins)) + left
none_left hook plugins i left past =
    sym (ap (λ ps. length (plugins_at hook ps) + left) (drop_of_length-le plugins past) ∙ zero-add left)
