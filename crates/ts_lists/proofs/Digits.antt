-- Bytes that are digits.
use Rattle.std.proofs.Common.{◌≡◌, ℕ, true, arith}
use Rattle.std.specs.Char.{is_ascii_digit}
use Rattle.std.specs.Int.{IsInRange}
use Rattle.std.proofs.lemmas.Bool.Decides.{nat_tests}

-- a digit stands from 48 to 57
pub digit_range : (byte : ℕ) → is_ascii_digit byte ≡ true → IsInRange 48 57 byte
digit_range byte is = grind (arith, nat_tests)
