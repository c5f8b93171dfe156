-- Cases on a test, and on whether two numbers are equal.
use Rattle.std.proofs.Common.{◌≡◌, ℕ, Bool, true, false, eqb, refl}
use Rattle.std.proofs.lemmas.Bool.{eqb-true, eqb-false}

-- a fact of a test, from its two answers
pub split : (test : Bool) (P : Bool → Type 0) → (test ≡ true → P true) → (test ≡ false → P false) → P test
split true P holds fails = holds refl
split false P holds fails = fails refl

-- a fact of a comparison of two numbers
pub by_eq : (a b : ℕ) (P : Bool → Type 0) → (a ≡ b → P true) → ((a ≡ b → ⊥) → P false) → P (eqb a b)
by_eq a b P same other = split (eqb a b) P (λ e. same (eqb-true a b e)) (λ e. other (eqb-false a b e))
