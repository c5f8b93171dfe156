-- UTF-8 as a test.
use Rattle.std.proofs.Common.{◌≡◌, ℕ, List, true, false, Bool, refl}
use Rattle.std.specs.Str.{IsUtf8, is_utf8}
use Rattle.std.proofs.lemmas.Str.{IsUtf8-from_is_utf8, is_utf8-from_IsUtf8}

pub utf8_yes : (bytes : List ℕ) → IsUtf8 bytes → is_utf8 bytes ≡ true
utf8_yes bytes is = is_utf8-from_IsUtf8 bytes is

by_answer : (bytes : List ℕ) (b : Bool) → is_utf8 bytes ≡ b → ¬ (IsUtf8 bytes) → b ≡ false
by_answer bytes true is refused = absurd (refused (IsUtf8-from_is_utf8 bytes is))
by_answer bytes false is refused = refl

pub utf8_no : (bytes : List ℕ) → ¬ (IsUtf8 bytes) → is_utf8 bytes ≡ false
utf8_no bytes refused = by_answer bytes (is_utf8 bytes) refl refused
