-- A number in plain decimal, as a word.
use Rattle.std.proofs.Common.{◌≡◌, ◌≢◌, ◌≤◌, ◌<◌, ◌^◌, ℕ, Bool, true, false, List, [], ◌∷◌, length, get_or}
use Rattle.std.proofs.Common.{Option, Some, None, Result, Ok, Err, arith, refl, sym, ap, subst, ◌∙◌}
use Rattle.std.specs.Char.{is_ascii_digit}
use Rattle.std.specs.Prelude.{◌&&◌, ◌==◌, not, nat_le, if◌then◌else◌}
use Rattle.std.specs.Str.{all_ascii_digits}
use Rattle.std.specs.Str.Parse.{ParsesUnsigned, digits_value}
use Rattle.std.proofs.lemmas.Str.Parse.{IsNumeralModel, numerals_by_value, tells_all_ascii_digits}
use Rattle.std.proofs.lemmas.Str.Parse.{parse_plain}
use Rattle.ts_lists.proofs.Digits.{digit_range}
use Rattle.ts_config.proofs.Digits.{a_number, no_number, too_large}
use Rattle.ts_config.proofs.TextParts.{both}
use Rattle.ts_config.specs.Bytes.{digit_0}
use Rattle.ts_config.specs.Numerals.{has_no_leading_zero, number_of}
use Rattle.ts_proxy.specs.Words.{begins_number}

own : IsNumeralModel (λ ds. all_ascii_digits ds ≡ true) (digits_value 10)
own = numerals_by_value (λ ds. all_ascii_digits ds ≡ true) tells_all_ascii_digits

-- ---- how a number begins

-- the first byte is a digit, and no zero stands before others
record Begins (word : List ℕ) : Type 0 where
  some : 0 < length word
  digit : is_ascii_digit (get_or word 0 0) ≡ true
  plain : has_no_leading_zero word ≡ true

begins : (word : List ℕ) → begins_number word ≡ true → Begins word
begins [] is = absurd (let wrong : false ≡ true = is in cc)
begins (b ∷ []) is = record { some = omega arith; digit = is; plain = refl }
begins (b ∷ c ∷ bs) is =
    let parts = both (is_ascii_digit b) (not (b == digit_0)) is in
    record { some = omega arith; digit = parts.0; plain = parts.1 }

no-plus : (word : List ℕ) → Begins word → get_or word 0 0 ≢ 43
no-plus word begun = let range = digit_range (get_or word 0 0) begun.digit in λ is. omega (arith, range, is)

-- a word is no number by one of two tests
none-of : (digit plain rest fits : Bool) (v : ℕ) → (digit && plain) ≡ false
    → ◌≡◌ {A = Option ℕ} (if (plain && (digit && rest)) && fits then Some v else None) None
none-of true true rest fits v is = absurd (let wrong : true ≡ false = is in cc)
none-of true false rest fits v is = refl
none-of false true rest fits v is = refl
none-of false false rest fits v is = refl

-- a word that does not begin so is no number
pub no-begin : (most : ℕ) (word : List ℕ) → begins_number word ≡ false → number_of most word ≡ None
no-begin most [] is = refl
no-begin most (b ∷ []) is = no_number most (b ∷ []) (ap (λ t. t && true) is)
no-begin most (b ∷ c ∷ bs) is =
    none-of (is_ascii_digit b) (not (b == digit_0)) (all_ascii_digits (c ∷ bs))
    (nat_le (digits_value 10 (b ∷ c ∷ bs)) most) (digits_value 10 (b ∷ c ∷ bs)) is

-- ---- what was read

unread : (most : ℕ) (word : List ℕ) (digits : Bool) → all_ascii_digits word ≡ digits
    → (digits ≡ true → most < digits_value 10 word) → number_of most word ≡ None
unread most word true is above = too_large most word (above refl)
unread most word false is above = no_number most word is

too-long : (word : List ℕ)
    → ((all_ascii_digits word ≡ true) × (0 < length word) × (digits_value 10 word < 2 ^ 64) → ⊥)
    → 0 < length word → all_ascii_digits word ≡ true → 2 ^ 64 ≤ digits_value 10 word
too-long word never some digits = over (digits_value 10 word) (λ fits. never (digits, some, fits))
  where
    over : (v : ℕ) → (v < 2 ^ 64 → ⊥) → 2 ^ 64 ≤ v
    over v h = search (arith, h)

module _ {E : Type 0} (most : ℕ) (word : List ℕ) (r : Result ℕ E) (begun : begins_number word ≡ true)
    (parsed : ParsesUnsigned {E = E} 64 10 word r) where
  -- it is a number within the limit
  pub number-read : (n : ℕ) → r ≡ Ok n → n ≤ most → Some n ≡ number_of most word
  number-read n is few =
      let b = begins word begun in
      let read = parse_plain own {E = E} 64 word (Ok n) (subst (ParsesUnsigned {E = E} 64 10 word) is parsed)
      (no-plus word b) in
      let fits : digits_value 10 word ≤ most = omega (arith, read.1, few) in
      let number : number_of most word ≡ Some (digits_value 10 word) = a_number most word b.plain read.0.0
      fits in
      sym (number ∙ ap Some (sym read.1))

  -- or above it
  pub number-many : (n : ℕ) → r ≡ Ok n → most < n → None ≡ number_of most word
  number-many n is many =
      let read = parse_plain own {E = E} 64 word (Ok n) (subst (ParsesUnsigned {E = E} 64 10 word) is parsed)
      (no-plus word (begins word begun)) in
      sym (too_large most word (omega (arith, read.1, many)))

  -- or none that fits 64 bits
  pub number-unread : (e : E) → r ≡ Err e → most < 2 ^ 64 → None ≡ number_of most word
  number-unread e is low =
      let b = begins word begun in
      let never = parse_plain own {E = E} 64 word (Err e)
      (subst (ParsesUnsigned {E = E} 64 10 word) is parsed) (no-plus word b) in
      sym (unread most word (all_ascii_digits word) refl (λ digits.
      let far = too-long word never b.some digits in omega (arith, far, low)))
