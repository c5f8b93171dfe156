use Rattle.std.proofs.Common.{◌≡◌, ◌+◌, drop}
use Rattle.std.specs.List.{prefix_len}
use Rattle.ts_config.specs.Words.{is_blank}
use Rattle.ts_config.proofs.words.count_blanks.Given as goal

-- the bytes that were passed are blanks
abbrev pub invariant-loop-i : goal.invariant-loop-i
invariant-loop-i l = prefix_len is_blank l.text ≡ l.i + prefix_len is_blank (drop l.i l.text)
