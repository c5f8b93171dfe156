-- What a word stands for that is a byte or a number.
use Rattle.std.specs.Prelude.{ℕ, ◌==◌, ◌+◌, ◌-◌, ◌*◌, ◌/◌, ◌%◌, ◌&&◌, not, nat_le, nat_lt, Bool, true, false, List, [], ◌∷◌, Option, Some, None, if◌then◌else◌}
use Rattle.std.specs.Option.{option_map, option_and_then}
use Rattle.std.specs.Str.{all_ascii_digits}
use Rattle.std.specs.Str.Parse.{digits_value}
use Rattle.std.specs.Char.{is_ascii_alphanumeric}
use Rattle.ts_config.specs.Bytes.{digit_0, digit_9, letter_a, letter_f, letter_x}

-- the value of a hexadecimal digit, with letters in lower case
abbrev pub hex_value : ℕ → Option ℕ
hex_value c =
    if nat_le digit_0 c && nat_le c digit_9 then Some (c - digit_0)
    else if nat_le letter_a c && nat_le c letter_f then Some (c - (letter_a - 10)) else None

-- a byte is written as itself, or as `0x` and two hexadecimal digits
abbrev pub byte_of : List ℕ → Option ℕ
byte_of (b ∷ []) = Some b
byte_of (z ∷ x ∷ high ∷ low ∷ []) =
    if z == digit_0 && x == letter_x then option_and_then (λ h. option_map (λ l. 16 * h + l) (hex_value low))
    (hex_value high) else None
byte_of other = None

-- no zero stands before other digits
abbrev pub has_no_leading_zero : List ℕ → Bool
has_no_leading_zero [] = false
has_no_leading_zero (b ∷ []) = true
has_no_leading_zero (b ∷ c ∷ bs) = not (b == digit_0)

-- a number is written in decimal, with no sign and no leading zero, and is at most `most`
abbrev pub number_of : ℕ → List ℕ → Option ℕ
number_of most word =
    if (has_no_leading_zero word && all_ascii_digits word) && nat_le (digits_value 10 word) most
    then Some (digits_value 10 word) else None

-- a hexadecimal digit in lower case
abbrev pub hex_digit : ℕ → ℕ
hex_digit d = if nat_lt d 10 then digit_0 + d else (letter_a - 10) + d

-- a byte as it is printed: a letter or a digit as itself, and else by its number
abbrev pub byte_word : ℕ → List ℕ
byte_word b =
    if is_ascii_alphanumeric b then b ∷ [] else digit_0 ∷ letter_x ∷ hex_digit (b / 16) ∷ hex_digit
    (b % 16) ∷ []
