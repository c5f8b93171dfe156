use Rattle.std.proofs.Common.{◌≡◌, ◌+◌, drop}
use Rattle.std.specs.Prelude.{◌==◌}
use Rattle.std.specs.List.{position_or_len}
use Rattle.ts_config.proofs.words.count_quoted.Given as goal

-- the bytes that were passed are no quotes
abbrev pub invariant-loop-i : goal.invariant-loop-i
invariant-loop-i l = position_or_len (λ b. b == 34) l.text ≡ l.i
    + position_or_len (λ b. b == 34) (drop l.i l.text)
