-- What is said of names is said of the events that bear them.
use Rattle.std.proofs.Common.{◌≡◌, ℕ, ◌==◌, List, [], ◌∷◌, map, Bool, ◌||◌, refl, ap}
use Rattle.std.specs.List.{list_any}
use Rattle.mio.specs.declared.event.event.Event.{Event}
use Rattle.ts_net.specs.Polls.{name_of}

-- an event bears a name where it is among the names of all
pub any_named : (name : ℕ) (es : List Event)
    → list_any (λ e. name_of e == name) es ≡ list_any (λ n. n == name) (map name_of es)
any_named name [] = refl
any_named name (e ∷ es) = ap (λ b. (name_of e == name) || b) (any_named name es)
