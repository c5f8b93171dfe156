-- Decimal numbers at the front of a text.
use Rattle.std.proofs.Common.{◌≡◌, ℕ, ◌^◌, ◌<◌, ◌≤◌, ◌⊎◌, inl, inr, List, [], ◌∷◌, ◌++◌, length, take, ap}
use Rattle.std.proofs.Common.{sym, ◌∙◌, subst, refl, arith, get_or, append_assoc, zero, suc}
use Rattle.std.specs.Fmt.{decimal}
use Rattle.std.specs.Char.{digit_value}
use Rattle.std.specs.Str.Parse.{AllDigits, digits_value}
use Rattle.std.proofs.Math.Seq.{take-append_seam}
use Rattle.std.proofs.lemmas.Str.{digit_value_digit}
use Rattle.std.proofs.lemmas.Int.Digits.{digits_value_push}
use Rattle.std.proofs.lemmas.Fmt.{digits_decimal, digits_value-decimal, decimal_injective, first_decimal}
use Rattle.std.proofs.lemmas.Str.Parse.{IsNumeralModel, numerals_by_value, tells_digits, digit_from_value}
use Rattle.std.proofs.lemmas.Str.Parse.{digits_value-take-le}
use Rattle.ts_record.specs.Refusing.{with_digit, DigitsStop, DigitsEnd}

pub own : IsNumeralModel (AllDigits 10) (digits_value 10)
own = numerals_by_value (AllDigits 10) tells_digits

-- digits before another byte are all the digits before it, where both are followed by a line feed
pub same_digits : (ds es x y : List ℕ) → AllDigits 10 ds → AllDigits 10 es → ds ++ 10 ∷ x ≡ es ++ 10 ∷ y
    → (ds ≡ es) × (x ≡ y)
same_digits [] [] x y are also same = (refl, cc)
same_digits [] (e ∷ es) x y are also same =
    let digit = digit_from_value e also.0 in let feed : 10 ≡ e = cc in absurd (omega arith)
same_digits (d ∷ ds) [] x y are also same =
    let digit = digit_from_value d are.0 in let feed : d ≡ 10 = cc in absurd (omega arith)
same_digits (d ∷ ds) (e ∷ es) x y are also same =
    let first : d ≡ e = cc in let others : ds ++ 10 ∷ x ≡ es ++ 10 ∷ y = cc in
    let rest = same_digits ds es x y are.1 also.1 others in (cc (first, rest.0), rest.1)

pub same_number : (m n : ℕ) (x y : List ℕ) → m < 2 ^ 64 → n < 2 ^ 64
    → decimal m ++ 10 ∷ x ≡ decimal n ++ 10 ∷ y → (m ≡ n) × (x ≡ y)
same_number m n x y small also same =
    let rest = same_digits (decimal m) (decimal n) x y (digits_decimal own m small)
    (digits_decimal own n also) same in
    (decimal_injective m n small also rest.0, rest.1)

-- digits that stand before any byte, and before a line feed, end there or go on with that byte
pub longer_digits : (ds es x y : List ℕ) (b : ℕ) → AllDigits 10 ds → AllDigits 10 es
    → ds ++ 10 ∷ x ≡ es ++ b ∷ y
    → ((b ≡ 10) × (ds ≡ es)) ⊎ ((more : List ℕ) × (ds ≡ es ++ b ∷ more))
longer_digits [] [] x y b are also same = inl (cc, refl)
longer_digits [] (e ∷ es) x y b are also same =
    let digit = digit_from_value e also.0 in let feed : 10 ≡ e = cc in absurd (omega arith)
longer_digits (d ∷ ds) [] x y b are also same = let first : d ≡ b = cc in inr (ds, ap (λ f. f ∷ ds) first)
longer_digits (d ∷ ds) (e ∷ es) x y b are also same =
    let first : d ≡ e = cc in let others : ds ++ 10 ∷ x ≡ es ++ b ∷ y = cc in
    again first (longer_digits ds es x y b are.1 also.1 others)
  where
    again : d ≡ e → (((b ≡ 10) × (ds ≡ es)) ⊎ ((more : List ℕ) × (ds ≡ es ++ b ∷ more)))
        → ((b ≡ 10) × ((d ∷ ds) ≡ (e ∷ es))) ⊎ ((more : List ℕ) × ((d ∷ ds) ≡ (e ∷ es) ++ b ∷ more))
    again first (inl (feed, rest)) = inl (feed, cc (first, rest))
    again first (inr (more, rest)) = inr (more, cc (first, rest))

-- a byte among digits is one
pub digit_among : (ds more : List ℕ) (b : ℕ) → AllDigits 10 (ds ++ b ∷ more) → digit_value b < 10
digit_among [] more b are = are.0
digit_among (d ∷ ds) more b are = digit_among ds more b are.1

-- the digits of a number from 1 to a limit go on where the digits so far stop no digit
pub goes_on : (limit n value b : ℕ) (ds more bs : List ℕ) → limit < 2 ^ 64 → 0 < n → n ≤ limit
    → digits_value 10 ds ≡ value → (value ≡ 0 → ds ≡ [])
    → decimal n ≡ ds ++ b ∷ more → DigitsStop limit value (b ∷ bs) → ⊥
goes_on limit n value b ds more bs below some within worth none is stop =
    either (stop digit)
  where
    small : n < 2 ^ 64
    small = omega arith

    digit : digit_value b < 10
    digit = digit_among ds more b (subst (AllDigits 10) is (digits_decimal own n small))

    split : take (length (ds ++ b ∷ [])) (decimal n) ≡ ds ++ b ∷ []
    split = ap (take (length (ds ++ b ∷ []))) (is ∙ sym (append_assoc ds (b ∷ []) more))
        ∙ take-append_seam (ds ++ b ∷ []) more

    front : digits_value 10 (ds ++ b ∷ []) ≤ n
    front =
        let less : digits_value 10 (take (length (ds ++ b ∷ [])) (decimal n)) ≤ digits_value 10 (decimal n) =
        digits_value-take-le 10 (decimal n) (length (ds ++ b ∷ [])) (omega arith) in
        omega (arith, less, ap (digits_value 10) split, digits_value-decimal own n small)

    longer : with_digit value b ≤ n
    longer = omega (arith, front, digits_value_push 10 ds b, worth)

    first : value ≡ 0 → 0 < digit_value b
    first nothing = let lead : get_or (decimal n) 0 0 ≡ b =
        ap (λ xs. get_or xs 0 0) (is ∙ ap (λ xs. xs ++ b ∷ more) (none nothing)) in
        omega (arith, lead, first_decimal n some small, digit_value_digit b (digit_from_value b digit))

    either : ((with_digit value b ≡ 0) ⊎ (limit < with_digit value b)) → ⊥
    either (inl all) = let nothing : value ≡ 0 = omega arith in omega (arith, first nothing)
    either (inr above) = omega (arith, longer)

-- the digits before the rest, and their worth
pub are_digits : (limit : ℕ) (bytes rest : List ℕ) (value : ℕ) → limit < 2 ^ 64
    → (d : DigitsEnd limit bytes value rest)
    → AllDigits 10 d.digits × (digits_value 10 d.digits ≡ value)
are_digits limit bytes rest value below d = cases value d.digits d.none d.number d.most
  where
    cases : (v : ℕ) (ds : List ℕ) → (v ≡ 0 → ds ≡ []) → (0 < v → ds ≡ decimal v) → v ≤ limit
        → AllDigits 10 ds × (digits_value 10 ds ≡ v)
    cases zero ds none number most =
        (subst (AllDigits 10) (sym (none refl)) tt, ap (digits_value 10) (none refl))
    cases (suc v) ds none number most =
        let is : ds ≡ decimal (suc v) = number (omega arith) in let small : suc v < 2 ^ 64 = omega arith in (
          subst (AllDigits 10) (sym is) (digits_decimal own (suc v) small),
          ap (digits_value 10) is
              ∙ digits_value-decimal own (suc v) small,
        )
