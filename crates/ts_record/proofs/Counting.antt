-- The digits of a number that were counted so far, with one more.
use Rattle.std.proofs.Common.{◌≡◌, ℕ, ◌+◌, ◌*◌, ◌-◌, ◌^◌, ◌<◌, ◌≤◌, ◌⊎◌, zero, suc, List, [], ◌∷◌, length}
use Rattle.std.proofs.Common.{take, drop}
use Rattle.std.proofs.Common.{get_or, true, false, inl, inr, ap, sym, ◌∙◌, subst, refl, arith}
use Rattle.std.specs.Char.{is_ascii_digit, digit_value}
use Rattle.std.specs.Fmt.{decimal}
use Rattle.std.specs.Str.Parse.{AllDigits, digits_value}
use Rattle.std.proofs.Math.Seq.{drop-cons}
use Rattle.std.proofs.Math.ListN.{drop_of_length-le}
use Rattle.std.proofs.lemmas.List.{take-append-drop}
use Rattle.std.proofs.lemmas.Bool.Decides.{nat_tests}
use Rattle.std.proofs.lemmas.Fmt.{decimal-digits_value}
use Rattle.std.proofs.lemmas.Int.Digits.{digits_value_more, digits_more}
use Rattle.std.proofs.lemmas.Str.{digit_value_digit}
use Rattle.std.proofs.lemmas.Str.Parse.{digit_from_value}
use Rattle.ts_record.specs.Refusing.{with_digit, DigitsStop, DigitsEnd}
use Rattle.ts_record.proofs.Numbers.{own}

-- no digit of a number follows where the next byte is no digit, or makes the number too small or too large
pub stop_at : (limit : ℕ) (bytes : List ℕ) (value count : ℕ) → count < length bytes
    → (digit_value (get_or bytes count 0) < 10 → (with_digit value (get_or bytes count 0) ≡ 0)
    ⊎ (limit < with_digit value (get_or bytes count 0)))
    → DigitsStop limit value (drop count bytes)
stop_at limit bytes value count within stop =
    subst (DigitsStop limit value) (sym (drop-cons bytes count 0 within)) stop

pub stop_end : (limit : ℕ) (bytes : List ℕ) (value count : ℕ) → length bytes ≤ count
    → DigitsStop limit value (drop count bytes)
stop_end limit bytes value count past = subst (DigitsStop limit value) (sym (drop_of_length-le bytes past)) tt

pub no_digit : (b : ℕ) → is_ascii_digit b ≡ false → digit_value b < 10 → ⊥
no_digit b is digit = let range = digit_from_value b digit in grind (arith, nat_tests)

-- one more digit that makes the number too small or too large
pub no_number : (limit value b digit : ℕ) → digit ≡ b - 48
    → (10 * value + digit ≡ 0) ⊎ (limit < 10 * value + digit) → digit_value b < 10
    → (with_digit value b ≡ 0) ⊎ (limit < with_digit value b)
no_number limit value b digit is (inl small) below =
    inl (omega (arith, digit_value_digit b (digit_from_value b below)))
no_number limit value b digit is (inr large) below =
    inr (omega (arith, digit_value_digit b (digit_from_value b below)))

a_digit : (b : ℕ) → is_ascii_digit b ≡ true → (48 ≤ b) × (b ≤ 57)
a_digit b is = grind (arith, nat_tests)

-- so many bytes are digits of this number, the first of them no zero
pub record Counted (limit : ℕ) (bytes : List ℕ) (value count : ℕ) : Type 0 where
  pub worth : value ≡ digits_value 10 (take count bytes)
  pub digits : AllDigits 10 (take count bytes)
  pub none : value ≡ 0 → count ≡ 0
  pub first : 0 < count → 48 < get_or bytes 0 0
  pub most : value ≤ limit

-- one more digit
pub more_digits : (limit : ℕ) (bytes : List ℕ) (value count digit : ℕ) → count < length bytes
    → is_ascii_digit (get_or bytes count 0) ≡ true → digit ≡ get_or bytes count 0 - 48
    → (10 * value + digit ≡ 0 → ⊥) → 10 * value + digit ≤ limit → Counted limit bytes value count
    → Counted limit bytes (10 * value + digit) (count + 1)
more_digits limit bytes value count digit within is next some most c = record {
  worth = omega (
    arith,
    range,
    c.worth,
    digits_value_more 10 bytes count within,
    digit_value_digit (get_or bytes count 0) range,
  );
  digits = digits_more 10 bytes count within c.digits
      (omega (arith, range, digit_value_digit (get_or bytes count 0) range));
  none = λ nothing. absurd (some nothing);
  first = λ one. first count c.worth next c.first;
  most = most;
}
  where
    range : (48 ≤ get_or bytes count 0) × (get_or bytes count 0 ≤ 57)
    range = a_digit (get_or bytes count 0) is

    first : (n : ℕ) → value ≡ digits_value 10 (take n bytes) → digit ≡ get_or bytes n 0 - 48
        → (0 < n → 48 < get_or bytes 0 0) → 48 < get_or bytes 0 0
    first zero worth leads before = let none : digits_value 10 (take 0 bytes) ≡ 0 = refl in
        let lead : (get_or bytes 0 0 ≤ 48) → ⊥ = λ low. some (omega (arith, worth, none, leads)) in
        omega (arith, lead)
    first (suc n) worth leads before = before (omega arith)

-- the digits that were counted are all digits of the number
pub counted : (limit : ℕ) (bytes : List ℕ) (value count : ℕ) → limit < 2 ^ 64 → count ≤ length bytes
    → Counted limit bytes value count → DigitsStop limit value (drop count bytes)
    → DigitsEnd limit bytes value (drop count bytes)
counted limit bytes value count below within c stop = record {
  digits = take count bytes;
  bytes_are = sym (take-append-drop count bytes);
  none = λ nothing. ap (λ n. take n bytes) (c.none nothing);
  number = λ some. number bytes count within c.worth c.digits c.first c.most some;
  most = c.most;
  ends = stop;
}
  where
    number : (bytes : List ℕ) (count : ℕ) → count ≤ length bytes → value ≡ digits_value 10 (take count bytes)
        → AllDigits 10 (take count bytes)
        → (0 < count → 48 < get_or bytes 0 0) → value ≤ limit → 0 < value
        → take count bytes ≡ decimal value
    number bytes zero within worth digits first most some =
        let none : digits_value 10 (take 0 bytes) ≡ 0 = refl in absurd (omega (arith, worth, none))
    number [] (suc n) within worth digits first most some = absurd (omega arith)
    number (b ∷ bs) (suc n) within worth digits first most some =
        sym (decimal-digits_value own (take (suc n) (b ∷ bs)) digits (omega arith)
        (λ same. absurd (omega (arith, first (omega arith)))) (omega arith)) ∙ ap decimal (sym worth)

pub all_counted : (limit : ℕ) (bytes : List ℕ) (value count : ℕ) → limit < 2 ^ 64 → count ≡ length bytes
    → Counted limit bytes value count → DigitsEnd limit bytes value (drop (length bytes) bytes)
all_counted limit bytes value count below all c =
    let P : ℕ → Type 0 = λ n. DigitsEnd limit bytes value (drop n bytes) in
    subst P all
    (counted limit bytes value count below (omega arith) c (stop_end limit bytes value count (omega arith)))
