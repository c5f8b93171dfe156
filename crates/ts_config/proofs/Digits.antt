-- A word of digits, read from the left.
use Rattle.std.proofs.Common.{◌≡◌, ℕ, ◌+◌, ◌-◌, ◌*◌, ◌<◌, ◌≤◌, List, [], ◌∷◌, length, drop, get_or, true, false, ◌&&◌, Some, None, ap, ◌∙◌, arith, add-one}
use Rattle.std.specs.Char.{is_ascii_digit, digit_value}
use Rattle.std.specs.Str.{all_ascii_digits}
use Rattle.std.specs.Str.Parse.{digits_value, digits_value_after}
use Rattle.std.proofs.Math.Seq.{drop-cons}
use Rattle.std.proofs.lemmas.Str.{digit_value_digit}
use Rattle.std.proofs.lemmas.Grind.{common_steps}
use Rattle.ts_lists.proofs.Digits.{digit_range}
use Rattle.ts_config.specs.Numerals.{number_of, has_no_leading_zero}

pub value_grows : (v : ℕ) (ds : List ℕ) → v ≤ digits_value_after 10 v ds
value_grows v [] = omega arith
value_grows v (d ∷ ds) = omega (arith, value_grows (v * 10 + digit_value d) ds)

-- one digit more
pub digit_step : (word : List ℕ) (i v : ℕ) → i < length word → is_ascii_digit (get_or word i 0) ≡ true
    → (all_ascii_digits (drop i word) ≡ all_ascii_digits (drop (i + 1) word))
    × (digits_value_after 10 v (drop i word) ≡ digits_value_after 10 (10 * v + (get_or word i 0 - 48))
    (drop (i + 1) word))
digit_step word i v below is =
    let d : ℕ = get_or word i 0 in
    let cut : drop i word ≡ d ∷ drop (i + 1) word = rw add-one (drop-cons word i 0 below) in
    let value : digit_value d + 48 ≡ d = digit_value_digit d (digit_range d is) in
    let next : v * 10 + digit_value d ≡ 10 * v + (d - 48) = omega arith in (
      ap all_ascii_digits cut ∙ ap (λ b. b && all_ascii_digits (drop (i + 1) word)) is,
      ap (digits_value_after 10 v) cut ∙ ap (λ n. digits_value_after 10 n (drop (i + 1) word)) next,
    )

pub not_digit : (word : List ℕ) (i : ℕ) → i < length word → is_ascii_digit (get_or word i 0) ≡ false
    → all_ascii_digits (drop i word) ≡ false
not_digit word i below is =
    let cut : drop i word ≡ get_or word i 0 ∷ drop (i + 1) word = rw add-one (drop-cons word i 0 below) in
    ap all_ascii_digits cut ∙ ap (λ b. b && all_ascii_digits (drop (i + 1) word)) is

pub no_number : (most : ℕ) (word : List ℕ) → all_ascii_digits word ≡ false → number_of most word ≡ None
no_number most word is = grind (arith, common_steps)

pub too_large : (most : ℕ) (word : List ℕ) → most < digits_value 10 word → number_of most word ≡ None
too_large most word is = grind (arith, common_steps)

pub a_number : (most : ℕ) (word : List ℕ) → has_no_leading_zero word ≡ true → all_ascii_digits word ≡ true
    → digits_value 10 word ≤ most
    → number_of most word ≡ Some (digits_value 10 word)
a_number most word lead digits fits = grind (arith, common_steps)
