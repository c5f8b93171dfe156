-- The parts of a chain, made one by one, compose as their lines do.
use Rattle.std.proofs.Common.{◌≡◌, ℕ, List, [], ◌∷◌, ◌++◌, refl, sym, ap, ◌∙◌}
use Rattle.ts_transform.specs.Flow.{compose}
use Rattle.ts_stock.specs.declared.stock.State.{State}
use Rattle.ts_config.specs.declared.setup.TransformLine.{TransformLine}
use Rattle.ts_config.specs.Bodies.{whole_of, compose_lines}
use Rattle.ts_stock.specs.Stock.{still_writes}

compose-push : (ps : List State) (p : State) (z : List ℕ)
    → compose still_writes (ps ++ p ∷ []) z ≡ still_writes p (compose still_writes ps z)
compose-push [] p z = refl
compose-push (q ∷ ps) p z = compose-push ps p (still_writes q z)

-- one line more
pub composing-more : (ps : List State) (p : State) (all left rest : List TransformLine) (l : TransformLine)
    → left ≡ l ∷ rest
    → ((w : List ℕ) → still_writes p w ≡ whole_of l w)
    → ((z : List ℕ) → compose_lines left (compose still_writes ps z) ≡ compose_lines all z)
    → (z : List ℕ) → compose_lines rest (compose still_writes (ps ++ p ∷ []) z) ≡ compose_lines all z
composing-more ps p all left rest l is fresh before z =
    ap (compose_lines rest) (compose-push ps p z ∙ fresh (compose still_writes ps z))
    ∙ ap (λ ls. compose_lines ls (compose still_writes ps z)) (sym is)
    ∙ before z
