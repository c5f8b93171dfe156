-- The length of a piece in hexadecimal.
use Rattle.std.proofs.Common.{◌≡◌, ◌≢◌, ℕ, suc, ◌/◌, ◌%◌, ◌<◌, ◌≤◌, true, false, cond, ltb, List, [], ◌∷◌, length, drop, refl, sym, ap, ◌∙◌, ⊎_elim, arith}
use Rattle.std.specs.Prelude.{IsTrue}
use Rattle.std.specs.Char.{digit_value, is_ascii_hexdigit}
use Rattle.std.specs.Fmt.{digits, digits_onto, digit_glyph}
use Rattle.std.specs.Str.Parse.{AllDigits, digits_value}
use Rattle.std.proofs.lemmas.Bool.{cases_lt, lt-ltb, le-ltb, eq-eqb, ne_eqb}
use Rattle.std.proofs.lemmas.Bool.Decides.{nat_tests}
use Rattle.std.proofs.lemmas.List.{length-drop}
use Rattle.std.proofs.lemmas.List.Elements.{All-nil, All-cons}
use Rattle.std.proofs.lemmas.Fmt.{digits_is_IsNumeral}
use Rattle.httparse.specs.Grammar.{AllPass}
use Rattle.ts_wire.specs.Frames.{hex, four_digits, leading_zeros}

last_digit : (k n : ℕ) (acc : List ℕ) → n < 16 → digits_onto (suc k) 16 false n acc
    ≡ digit_glyph false (n % 16) ∷ acc
last_digit k n acc small =
    let none : n / 16 ≡ 0 = omega arith in
    ap (λ t. cond t (digit_glyph false (n % 16) ∷ acc)
    (digits_onto k 16 false (n / 16) (digit_glyph false (n % 16) ∷ acc))) (eq-eqb (n / 16) 0 none)

one_digit : (k n : ℕ) (acc : List ℕ) → 16 ≤ n → digits_onto (suc k) 16 false n acc
    ≡ digits_onto k 16 false (n / 16) (digit_glyph false (n % 16) ∷ acc)
one_digit k n acc large =
    let some : n / 16 ≢ 0 = λ none. omega (arith, none) in
    ap (λ t. cond t (digit_glyph false (n % 16) ∷ acc)
    (digits_onto k 16 false (n / 16) (digit_glyph false (n % 16) ∷ acc))) (ne_eqb (n / 16) 0 some)

hex_onto : (n : ℕ) → hex n ≡ digits_onto (suc (suc (suc (suc 60)))) 16 false n []
unfolding digits
hex_onto n = refl

hex_one : (n : ℕ) → n < 16 → hex n ≡ digit_glyph false (n % 16) ∷ []
hex_one n small = hex_onto n ∙ last_digit (suc (suc (suc 60))) n [] small

hex_two : (n : ℕ) → 16 ≤ n → n < 256 → hex n ≡ digit_glyph false (n / 16 % 16) ∷ digit_glyph false
    (n % 16) ∷ []
hex_two n large small =
    hex_onto n ∙ one_digit (suc (suc (suc 60))) n [] large
    ∙ last_digit (suc (suc 60)) (n / 16) (digit_glyph false (n % 16) ∷ []) (omega arith)

hex_three : (n : ℕ) → 256 ≤ n → n < 4096 → hex n ≡ digit_glyph false (n / 256 % 16) ∷ digit_glyph false
    (n / 16 % 16) ∷ digit_glyph false (n % 16) ∷ []
hex_three n large small =
    let third : n / 16 / 16 ≡ n / 256 = omega arith in
    hex_onto n ∙ one_digit (suc (suc (suc 60))) n [] (omega arith)
    ∙ one_digit (suc (suc 60)) (n / 16) (digit_glyph false (n % 16) ∷ []) (omega arith)
    ∙ last_digit (suc 60) (n / 16 / 16) (digit_glyph false (n / 16 % 16) ∷ digit_glyph false (n % 16) ∷ [])
    (omega arith)
    ∙ ap (λ d. digit_glyph false (d % 16) ∷ digit_glyph false (n / 16 % 16) ∷ digit_glyph false (n % 16) ∷ [])
    third

hex_four : (n : ℕ) → 4096 ≤ n → n < 65536 → hex n ≡ four_digits n
hex_four n large small =
    let third : n / 16 / 16 ≡ n / 256 = omega arith in
    let fourth : n / 16 / 16 / 16 ≡ n / 4096 = omega arith in
    hex_onto n ∙ one_digit (suc (suc (suc 60))) n [] (omega arith)
    ∙ one_digit (suc (suc 60)) (n / 16) (digit_glyph false (n % 16) ∷ []) (omega arith)
    ∙ one_digit (suc 60) (n / 16 / 16) (digit_glyph false (n / 16 % 16) ∷ digit_glyph false (n % 16) ∷ [])
    (omega arith)
    ∙ last_digit 60 (n / 16 / 16 / 16) (digit_glyph false (n / 16 / 16 % 16) ∷ digit_glyph false
    (n / 16 % 16) ∷ digit_glyph false (n % 16) ∷ []) (omega arith)
    ∙ (λ i. digit_glyph false (fourth i % 16) ∷ digit_glyph false (third i % 16) ∷ digit_glyph false
    (n / 16 % 16) ∷ digit_glyph false (n % 16) ∷ [])

-- the four last digits without the leading zeros are the whole number
pub four_digits_are : (n : ℕ) → n < 65536 → drop (leading_zeros n) (four_digits n) ≡ hex n
four_digits_are n fits =
    ⊎_elim
    (λ (one : n < 16). ap (λ t. drop (cond t 3 (cond (ltb n 256) 2 (cond (ltb n 4096) 1 0))) (four_digits n))
    (lt-ltb n 16 one) ∙ sym (hex_one n one))
    (λ (more : 16 ≤ n). ap (λ t. drop (cond t 3 (cond (ltb n 256) 2 (cond (ltb n 4096) 1 0))) (four_digits n))
    (le-ltb n 16 more)
    ∙ ⊎_elim
    (λ (two : n < 256). ap (λ t. drop (cond t 2 (cond (ltb n 4096) 1 0)) (four_digits n)) (lt-ltb n 256 two)
    ∙ sym (hex_two n more two))
    (λ (more' : 256 ≤ n). ap (λ t. drop (cond t 2 (cond (ltb n 4096) 1 0)) (four_digits n))
    (le-ltb n 256 more')
    ∙ ⊎_elim
    (λ (three : n < 4096). ap (λ t. drop (cond t 1 0) (four_digits n)) (lt-ltb n 4096 three)
    ∙ sym (hex_three n more' three))
    (λ (four : 4096 ≤ n). ap (λ t. drop (cond t 1 0) (four_digits n)) (le-ltb n 4096 four)
    ∙ sym (hex_four n four fits))
    (cases_lt n 4096))
    (cases_lt n 256))
    (cases_lt n 16)

-- a hexadecimal number is one of httparse's grammar
hexdigit : (c : ℕ) → digit_value c < 16 → is_ascii_hexdigit c ≡ true
hexdigit c small = grind (arith, nat_tests)

pub hex_pass : (ds : List ℕ) → AllDigits 16 ds → AllPass is_ascii_hexdigit ds
hex_pass [] all = All-nil (λ c. IsTrue (is_ascii_hexdigit c))
hex_pass (c ∷ cs) all =
    All-cons (λ c. IsTrue (is_ascii_hexdigit c)) c cs (hexdigit c all.0) (hex_pass cs all.1)

-- it has four digits at most
pub length-hex : (n : ℕ) → n < 65536 → length (hex n) ≤ 4
length-hex n fits = omega (
  arith,
  ap length (four_digits_are n fits),
  length-drop (leading_zeros n) (four_digits n),
)

pub hex_value : (n : ℕ) → n < 65536 → (0 < length (hex n)) × AllDigits 16 (hex n)
    × (digits_value 16 (hex n) ≡ n)
hex_value n fits =
    let is = digits_is_IsNumeral 16 false (omega arith) (omega arith) n (omega arith) in
    (is.0.0, is.0.1, is.1)

pub hex_zero : hex 0 ≡ 48 ∷ []
unfolding digits
hex_zero = refl
