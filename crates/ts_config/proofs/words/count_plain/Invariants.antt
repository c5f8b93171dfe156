use Rattle.std.proofs.Common.{◌≡◌, ◌+◌, drop}
use Rattle.std.specs.List.{position_or_len}
use Rattle.ts_config.specs.Words.{is_end}
use Rattle.ts_config.proofs.words.count_plain.Given as goal

-- the bytes that were passed end no word
abbrev pub invariant-loop-i : goal.invariant-loop-i
invariant-loop-i l = position_or_len is_end l.text ≡ l.i + position_or_len is_end (drop l.i l.text)
