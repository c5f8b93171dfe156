-- What was written, and what is still to be written of the bytes from here on, is what becomes of the whole
-- piece.
use Rattle.std.specs.Prelude.{◌≡◌, ℕ, ◌++◌, List, drop}
use Rattle.ts_quote.specs.Quoting.{marked}
use Rattle.ts_quote.proofs.quote.quote_into.Given as goal

abbrev pub invariant-loop-i : goal.invariant-loop-i
invariant-loop-i l = (z : List ℕ) → l.initial.text.items ++ marked l.mark l.begins (l.piece ++ z)
    ≡ l.text.items ++ marked l.mark l.next (drop l.i l.piece ++ z)
