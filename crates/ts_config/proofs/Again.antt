-- What is printed of a byte or a number is read as that byte or number.
use Rattle.std.proofs.Common.{◌≡◌, ℕ, zero, suc, ◌+◌, ◌*◌, ◌/◌, ◌%◌, ◌^◌, ◌<◌, ◌≤◌, List, [], ◌∷◌, get_or, Bool, true, false, cond, ◌&&◌, Some, refl, ap, ◌∙◌, arith}
use Rattle.std.specs.Option.{option_map, option_and_then}
use Rattle.std.specs.Fmt.{decimal}
use Rattle.std.specs.Char.{is_ascii_alphanumeric, is_ascii_digit}
use Rattle.std.specs.Str.{all_ascii_digits}
use Rattle.std.specs.Str.Parse.{AllDigits}
use Rattle.std.proofs.lemmas.Fmt.{decimal_is_IsNumeral, first_decimal, decimal_digit}
use Rattle.std.proofs.lemmas.Str.Parse.{digit_from_value}
use Rattle.std.proofs.lemmas.Bool.Decides.{nat_tests}
use Rattle.ts_config.specs.Numerals.{hex_value, hex_digit, byte_of, byte_word, has_no_leading_zero, number_of}
use Rattle.ts_config.proofs.Digits.{a_number}

hex_again : (d : ℕ) → d < 16 → hex_value (hex_digit d) ≡ Some d
hex_again d small = grind (arith, nat_tests)

pub hex_small : (c h : ℕ) → hex_value c ≡ Some h → h < 16
hex_small c h is = grind (arith, nat_tests)

pub byte_again : (b : ℕ) → b < 256 → byte_of (byte_word b) ≡ Some b
byte_again b small = by_kind (is_ascii_alphanumeric b)
  where
    whole : 16 * (b / 16) + b % 16 ≡ b
    whole = omega arith

    by_kind : (t : Bool) → byte_of (cond t (b ∷ []) (48 ∷ 120 ∷ hex_digit (b / 16) ∷ hex_digit (b % 16) ∷ []))
        ≡ Some b
    by_kind true = refl
    by_kind false =
        ap (λ o. option_and_then (λ h. option_map (λ l. 16 * h + l) (hex_value (hex_digit (b % 16)))) o)
        (hex_again (b / 16) (omega arith))
        ∙ ap (λ o. option_map (λ l. 16 * (b / 16) + l) o) (hex_again (b % 16) (omega arith))
        ∙ ap (λ n. Some n) whole

digits_ascii : (ds : List ℕ) → AllDigits 10 ds → all_ascii_digits ds ≡ true
digits_ascii [] are = refl
digits_ascii (d ∷ ds) are =
    let range = digit_from_value d are.0 in
    let digit : is_ascii_digit d ≡ true = grind (arith, nat_tests, range) in
    ap (λ b. b && all_ascii_digits ds) digit ∙ digits_ascii ds are.1

leads : (ds : List ℕ) → 48 < get_or ds 0 0 → has_no_leading_zero ds ≡ true
leads [] first = absurd (omega arith)
leads (b ∷ []) first = refl
leads (b ∷ c ∷ cs) first = grind (arith, nat_tests)

decimal_leads : (n : ℕ) → n < 2 ^ 64 → has_no_leading_zero (decimal n) ≡ true
decimal_leads zero small = ap has_no_leading_zero (decimal_digit 0 (omega arith))
decimal_leads (suc n) small = leads (decimal (suc n)) (first_decimal (suc n) (omega arith) small)

pub number_again : (most n : ℕ) → n ≤ most → most < 2 ^ 64 → number_of most (decimal n) ≡ Some n
number_again most n fits small =
    let numeral = decimal_is_IsNumeral n (omega arith) in
    a_number most (decimal n) (decimal_leads n (omega arith)) (digits_ascii (decimal n) numeral.0.1)
    (omega (arith, numeral.1))
    ∙ ap (λ m. Some m) numeral.1
