use Rattle.std.proofs.Common.{◌≡◌, drop}
use Rattle.std.specs.List.{list_any}
use Rattle.ts_config.specs.Words.{is_end}
use Rattle.ts_config.proofs.print.needs_quotes.Given as goal

-- the bytes that were passed end no word
abbrev pub invariant-loop-byte : goal.invariant-loop-byte
invariant-loop-byte l = list_any is_end l.word ≡ list_any is_end (drop l.byte-index l.word)
