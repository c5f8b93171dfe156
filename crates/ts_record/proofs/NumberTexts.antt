-- Where a text stops being the front of one that begins with a number and a line feed.
use Rattle.std.proofs.Common.{◌≡◌, ℕ, ◌^◌, ◌<◌, ◌≤◌, ◌⊎◌, zero, suc, inl, inr, List, [], ◌∷◌, ◌++◌, length}
use Rattle.std.proofs.Common.{ap, sym}
use Rattle.std.proofs.Common.{◌∙◌, subst, refl, arith, append_assoc}
use Rattle.std.specs.Fmt.{decimal}
use Rattle.std.specs.Str.Parse.{AllDigits}
use Rattle.std.proofs.lemmas.Fmt.{digits_decimal, decimal_nonempty}
use Rattle.ts_record.specs.Refusing.{Opens, Stuck, BreaksOff, IsNumberText, LacksFeed, DigitsStop, DigitsEnd}
use Rattle.ts_record.proofs.Numbers.{own, longer_digits, digit_among, goes_on, are_digits}

-- the texts begin with a number from 1 to a limit and a line feed, and each such number begins one
pub record BeginWithNumber (limit : ℕ) (Token : List ℕ → Type 0) : Type 0 where
  pub some : (n : ℕ) → 1 ≤ n → n ≤ limit → (tail : List ℕ) × Token (decimal n ++ 10 ∷ tail)
  pub opens : (z : List ℕ) → Opens Token z
      → (n : ℕ) × (y : List ℕ) × (1 ≤ n) × (n ≤ limit) × (z ≡ decimal n ++ 10 ∷ y)

-- so does a number alone
pub numbers_begin : (limit : ℕ) → BeginWithNumber limit (IsNumberText limit)
numbers_begin limit = record {
  some = λ n one most. ([], (n, one, most, refl));
  opens = λ z (token, behind, (n, one, most, same), text).
      (n, behind, one, most, text ∙ ap (λ t. t ++ behind) same ∙ append_assoc (decimal n) (10 ∷ []) behind);
}

-- no number, or no line feed behind it
pub number_refused : (limit : ℕ) (Token : List ℕ → Type 0) (bytes rest : List ℕ) (value : ℕ) → 1 ≤ limit
    → limit < 2 ^ 64 → BeginWithNumber limit Token → DigitsEnd limit bytes value rest
    → (value ≡ 0) ⊎ LacksFeed rest → BreaksOff Token bytes (length rest)
number_refused limit Token bytes rest value one below w d none = record {
  front = d.digits;
  rest = rest;
  bytes_are = d.bytes_are;
  left_is = refl;
  begun = begun value d.digits d.none d.number d.most;
  stuck = stuck rest d.ends none;
}
  where
    begun : (v : ℕ) (ds : List ℕ) → (v ≡ 0 → ds ≡ []) → (0 < v → ds ≡ decimal v) → v ≤ limit
        → (more : List ℕ) × Token (ds ++ more)
    begun zero ds empty number most =
        let first = w.some 1 (omega arith) one in
        let text : List ℕ = decimal 1 ++ 10 ∷ first.0 in
        (text, subst Token (ap (λ t. t ++ text) (sym (empty refl))) first.1)
    begun (suc v) ds empty number most =
        let first = w.some (suc v) (omega arith) most in
        (10 ∷ first.0, subst Token (ap (λ t. t ++ 10 ∷ first.0) (sym (number (omega arith)))) first.1)

    digits : AllDigits 10 d.digits
    digits = (are_digits limit bytes rest value below d).0

    stuck : (xs : List ℕ) → DigitsStop limit value xs → (value ≡ 0) ⊎ LacksFeed xs
        → Stuck (Opens Token) d.digits xs
    stuck [] ends why = λ opens.
        let b = w.opens d.digits opens in
        let feed = digit_among (decimal b.0) b.1 10 (subst (AllDigits 10) b.4 digits) in absurd (omega arith)
    stuck (x ∷ xs) ends why = λ more opens.
        let b = w.opens (d.digits ++ x ∷ more) opens in follows more b.0 b.1 b.2 b.3 b.4
      where
        follows : (more : List ℕ) (n : ℕ) (y : List ℕ) → 1 ≤ n → n ≤ limit
            → d.digits ++ x ∷ more ≡ decimal n ++ 10 ∷ y → ⊥
        follows more n y some most text =
            either why (longer_digits (decimal n) d.digits y more x (digits_decimal own n small) digits
            (sym text))
          where
            small : n < 2 ^ 64
            small = omega (arith, most, below)

            either : (value ≡ 0) ⊎ LacksFeed (x ∷ xs)
                → ((x ≡ 10) × (decimal n ≡ d.digits))
                ⊎ ((tail : List ℕ) × (decimal n ≡ d.digits ++ x ∷ tail)) → ⊥
            either why (inr (tail, same)) =
                goes_on limit n value x d.digits tail xs below some most
                (are_digits limit bytes rest value below d).1 d.none same ends
            either (inl nothing) (inl (feed, same)) =
                omega (arith, decimal_nonempty n small, ap length (same ∙ d.none nothing))
            either (inr lacks) (inl (feed, same)) = lacks xs (ap (λ y. y ∷ xs) feed)
