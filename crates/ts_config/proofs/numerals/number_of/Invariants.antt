use Rattle.std.proofs.Common.{◌≡◌, ◌≤◌, drop}
use Rattle.std.specs.Str.{all_ascii_digits}
use Rattle.std.specs.Str.Parse.{digits_value, digits_value_after}
use Rattle.ts_config.proofs.numerals.number_of.Given as goal

-- the bytes that were passed are digits, and the value is theirs
abbrev pub invariant-loop-digit : goal.invariant-loop-digit
invariant-loop-digit l = record {
  digits : all_ascii_digits l.word ≡ all_ascii_digits (drop l.digit-index l.word);
  value : digits_value 10 l.word ≡ digits_value_after 10 l.value (drop l.digit-index l.word);
  fits : l.value ≤ l.most;
}
