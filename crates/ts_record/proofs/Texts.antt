-- How the texts of a recording go on with what follows them.
use Rattle.std.proofs.Common.{◌≡◌, ℕ, List, [], ◌∷◌, ◌++◌, append_assoc}
use Rattle.std.specs.Fmt.{decimal}
use Rattle.ts_record.specs.Grammar.{piece_before, number_before}

-- a piece behind its keyword
pub piece_behind : (piece behind : List ℕ) → piece_before [] piece ++ behind ≡ piece_before behind piece
piece_behind piece behind = simp append_assoc

-- a number behind its keyword
pub number_behind : (n : ℕ) (behind : List ℕ) → number_before [] n ++ behind ≡ number_before behind n
number_behind n behind = append_assoc (decimal n) (10 ∷ []) behind
