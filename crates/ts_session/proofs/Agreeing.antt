-- Two lists of which one begins with the other.
use Rattle.std.proofs.Common.{◌≡◌, ℕ, ◌<◌, ◌≤◌, Bool, true, ◌||◌, List, [], ◌∷◌, ◌++◌, length, take, drop}
use Rattle.std.proofs.Common.{⊎_elim, refl, sym, ap, ◌∙◌, arith}
use Rattle.std.specs.Prelude.{◌==◌}
use Rattle.std.proofs.lemmas.Bool.{and_from, and_parts, cases_lt, eq-eqb, eqb-true, or_cases, or_left}
use Rattle.std.proofs.lemmas.Bool.{or_right}
use Rattle.std.proofs.lemmas.List.{take-append-drop}
use Rattle.ts_session.specs.Lines.{agrees}
use Rattle.ts_session.proofs.LineFronts.{agreed_front, same_tests}

-- what goes on behind a text goes with it
agrees_more : (text more : List ℕ) → agrees text (text ++ more) ≡ true
agrees_more [] more = refl
agrees_more (b ∷ text) more =
    and_from (b == b) (agrees text (text ++ more)) (eq-eqb b b refl) (agrees_more text more)

-- and so does a front of it
agrees_front : (list more : List ℕ) → agrees (list ++ more) list ≡ true
agrees_front [] [] = refl
agrees_front [] (b ∷ more) = refl
agrees_front (b ∷ list) more =
    and_from (b == b) (agrees (list ++ more) list) (eq-eqb b b refl) (agrees_front list more)

-- nothing else does
agreed_text : (text list : List ℕ) → agrees text list ≡ true → length text ≤ length list
    → text ≡ take (length text) list
agreed_text [] list agreed short = refl
agreed_text (p ∷ ps) [] agreed short = absurd (omega (arith, short))
agreed_text (p ∷ ps) (b ∷ list) agreed short =
    let parts = and_parts (p == b) (agrees ps list) agreed in
    let first = eqb-true p b parts.0 in
    let rest = agreed_text ps list parts.1 (omega (arith, short)) in
    λ i. first i ∷ rest i

-- tests of both ways
pub agrees_tests : (text list : List ℕ) (a b : Bool) → (a ≡ true → list ≡ text ++ drop (length text) list)
    → ((rest : List ℕ) → list ≡ text ++ rest → a ≡ true)
    → (b ≡ true → text ≡ list ++ drop (length list) text)
    → ((rest : List ℕ) → text ≡ list ++ rest → b ≡ true) → (a || b) ≡ agrees text list
agrees_tests text list a b more is_more front is_front =
    same_tests (a || b) (agrees text list)
    (λ so. ⊎_elim
    (λ (x : a ≡ true). ap (agrees text) (more x) ∙ agrees_more text (drop (length text) list))
    (λ (y : b ≡ true). ap (λ t. agrees t list) (front y) ∙ agrees_front list (drop (length list) text))
    (or_cases a b so))
    (λ agreed. ⊎_elim
    (λ (short : length text < length list).
    or_left a b (is_more (drop (length text) list)
    (sym (take-append-drop (length text) list)
    ∙ ap (λ t. t ++ drop (length text) list) (sym (agreed_text text list agreed (omega (arith, short)))))))
    (λ (long : length list ≤ length text).
    or_right a b (is_front (drop (length list) text)
    (sym (take-append-drop (length list) text)
    ∙ ap (λ t. t ++ drop (length list) text) (sym (agreed_front text list agreed long)))))
    (cases_lt (length text) (length list)))
