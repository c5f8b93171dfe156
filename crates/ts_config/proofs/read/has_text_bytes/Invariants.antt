use Rattle.std.proofs.Common.{◌≡◌, drop}
use Rattle.std.specs.List.{list_all}
use Rattle.ts_config.specs.Reading.{is_text_byte}
use Rattle.ts_config.proofs.read.has_text_bytes.Given as goal

-- the bytes that were passed are text
abbrev pub invariant-loop-byte : goal.invariant-loop-byte
invariant-loop-byte l = list_all is_text_byte l.line ≡ list_all is_text_byte (drop l.byte-index l.line)
