-- What lines give of a body before one of them finishes early, and what stays once one did.
use Rattle.std.proofs.Common.{◌≡◌, ℕ, ◌+◌, ◌-◌, ◌<◌, ◌≤◌, List, [], ◌∷◌, ◌++◌, length, take, Bool, true, false, cond, Option, Some, None, refl, ap, sym, ◌∙◌, subst, arith, append_assoc, append-nil, length-append}
use Rattle.std.specs.Prelude.{◌==◌, nat_le, not, map, filter, if◌then◌else◌}
use Rattle.std.specs.Option.{option_and_then}
use Rattle.std.proofs.Math.Seq.{take-append-add}
use Rattle.std.proofs.lemmas.List.{map-append, take-append-le, take_all}
use Rattle.std.proofs.lemmas.List.Elements.{filter-append}
use Rattle.std.proofs.lemmas.Bool.Decides.{nat_tests}
use Rattle.ts_config.specs.declared.setup.TransformLine.{TransformLine}
use Rattle.ts_config.specs.declared.setup.TransformLine.TheVariants as t
use Rattle.ts_config.specs.Bodies.{whole_of, compose_lines, soon_of, is_early_of, soon_lines, is_early, so_far, so_far_of}

-- line by line the lines give what `soon_lines` says
pub tells : (ls : List TransformLine) (x : List ℕ)
    → so_far ls x ≡ (if is_early ls x then None else Some (soon_lines ls x))
tells [] x = refl
tells (l ∷ ls) x = by_line (is_early_of l x) (tells ls (soon_of l x))
  where
    by_line : (b : Bool)
        → so_far ls (soon_of l x) ≡ cond (is_early ls (soon_of l x)) None (Some (soon_lines ls (soon_of l x)))
        → option_and_then (so_far ls) (cond b None (Some (soon_of l x)))
        ≡ cond (cond b true (is_early ls (soon_of l x))) None (Some (soon_lines ls (soon_of l x)))
    by_line true rest = refl
    by_line false rest = rest

-- one list stands at the front of another
abbrev IsFront : (x y : List ℕ) → Type 0
IsFront x y = (more : List ℕ) × (y ≡ x ++ more)

-- what a limit passes on of a body that is not at its end
limit_front : (most : ℕ) (x z : List ℕ) → nat_le most (length x) ≡ false
    → IsFront (take most x) (take most (x ++ z))
limit_front most x z more =
    let below : length x < most = grind (arith, nat_tests) in
    let split : length x + (most - length x) ≡ most = omega arith in
    let all : take most x ≡ x = take_all most x (omega (arith, below)) in (
      take (most - length x) z,
      ap (λ n. take n (x ++ z)) (sym split) ∙ take-append-add x z (most - length x)
          ∙ ap (λ xs. xs ++ take (most - length x) z) (sym all),
    )

-- what a line that goes on has given stands at the front of what it has given later
soon_front : (l : TransformLine) (x z : List ℕ) → is_early_of l x ≡ false
    → IsFront (soon_of l x) (soon_of l (x ++ z))
soon_front t.Null x z on = (z, refl)
soon_front (t.Append file text) x z on = (z, refl)
soon_front t.Bnull x z on = ([], refl)
soon_front (t.Prepend text) [] z on = (soon_of (t.Prepend text) z, refl)
soon_front (t.Prepend text) (b ∷ bs) z on = (z, sym (append_assoc text (b ∷ bs) z))
soon_front (t.Map from to) x z on =
    (whole_of (t.Map from to) z, map-append (λ b. if b == from then to else b) x z)
soon_front (t.Drop byte) x z on = (whole_of (t.Drop byte) z, filter-append (λ b. not (b == byte)) x z)
soon_front (t.Delay ms) x z on = (z, refl)
soon_front (t.Limit most) x z on = limit_front most x z on

-- and at the front of what it makes of the whole
whole_front : (l : TransformLine) (x : List ℕ) → IsFront (soon_of l x) (whole_of l x)
whole_front t.Null x = ([], sym (append-nil x))
whole_front (t.Append file text) x = (text, refl)
whole_front t.Bnull x = (x, refl)
whole_front (t.Prepend text) [] = (text ++ [], refl)
whole_front (t.Prepend text) (b ∷ bs) = ([], sym (append-nil (text ++ (b ∷ bs))))
whole_front (t.Map from to) x = ([], sym (append-nil (whole_of (t.Map from to) x)))
whole_front (t.Drop byte) x = ([], sym (append-nil (whole_of (t.Drop byte) x)))
whole_front (t.Delay ms) x = ([], sym (append-nil x))
whole_front (t.Limit most) x = ([], sym (append-nil (take most x)))

-- a line that finished early makes the same of each longer body
line_final : (l : TransformLine) (x z : List ℕ) → is_early_of l x ≡ true
    → (is_early_of l (x ++ z) ≡ true) × (whole_of l (x ++ z) ≡ whole_of l x)
line_final (t.Limit most) x z early =
    let within : most ≤ length x = grind (arith, nat_tests) in
    let longer : most ≤ length (x ++ z) = omega (arith, within, length-append x z) in
    (grind (arith, nat_tests), take-append-le most x z within)
line_final t.Null x z wrong = absurd (let e : false ≡ true = wrong in cc)
line_final (t.Append file text) x z wrong = absurd (let e : false ≡ true = wrong in cc)
line_final t.Bnull x z wrong = absurd (let e : false ≡ true = wrong in cc)
line_final (t.Prepend text) x z wrong = absurd (let e : false ≡ true = wrong in cc)
line_final (t.Map from to) x z wrong = absurd (let e : false ≡ true = wrong in cc)
line_final (t.Drop byte) x z wrong = absurd (let e : false ≡ true = wrong in cc)
line_final (t.Delay ms) x z wrong = absurd (let e : false ≡ true = wrong in cc)

-- lines that finished early make the same of each longer body
abbrev IsFinal : List TransformLine → (x z : List ℕ) → Type 0
IsFinal ls x z = (is_early ls (x ++ z) ≡ true) × (compose_lines ls (x ++ z) ≡ compose_lines ls x)

either : (b : Bool) → cond b true true ≡ true
either true = refl
either false = refl

pub early_final : (ls : List TransformLine) (x z : List ℕ) → is_early ls x ≡ true → IsFinal ls x z
early_final [] x z wrong = absurd (let e : false ≡ true = wrong in cc)
early_final (l ∷ ls) x z early =
    by_line (is_early_of l x) refl early (λ more. early_final ls (soon_of l x) more)
  where
    by_line : (b : Bool) → is_early_of l x ≡ b → cond b true (is_early ls (soon_of l x)) ≡ true
        → ((more : List ℕ) → is_early ls (soon_of l x) ≡ true → IsFinal ls (soon_of l x) more)
        → IsFinal (l ∷ ls) x z
    by_line true is held rest =
        let (still, same) = line_final l x z is in (
          ap (λ b. cond b true (is_early ls (soon_of l (x ++ z)))) still,
          ap (compose_lines ls) same,
        )
    by_line false is held rest =
        let (next, later) = soon_front l x z is in
        let (last, whole) = whole_front l (x ++ z) in
        let (now, first) = whole_front l x in
        let front : List ℕ = soon_of l x in
        let goes : is_early ls (soon_of l (x ++ z)) ≡ true = ap (is_early ls) later ∙ (rest next held).0 in
        let long : whole_of l (x ++ z) ≡ front ++ (next ++ last) =
        whole ∙ ap (λ xs. xs ++ last) later ∙ append_assoc front next last in (
          ap (λ b. cond (is_early_of l (x ++ z)) true b) goes ∙ either (is_early_of l (x ++ z)),
          ap (compose_lines ls) long ∙ (rest (next ++ last) held).1
              ∙ sym (ap (compose_lines ls) first ∙ (rest now held).1),
        )
