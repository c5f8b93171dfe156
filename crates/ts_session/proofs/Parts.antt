-- What is seen of a request, by what stands before it and what is held.
use Rattle.std.proofs.Common.{◌≡◌, ℕ, zero, suc, ◌+◌, List, [], ◌∷◌, ◌++◌, length, take, drop, refl, sym, ap}
use Rattle.std.proofs.Common.{◌∙◌, arith}
use Rattle.std.proofs.Common.{append_assoc}
use Rattle.std.proofs.lemmas.List.{drop_at}
use Rattle.ts_lists.proofs.Fronts.{rest_by_length}
use Rattle.ts_link.specs.Link.{Look, all_of}
use Rattle.ts_session.specs.Course.{given_on, since}

-- what stands behind a front is the rest
pub since_is : (front rest bytes : List ℕ) → bytes ≡ front ++ rest → since front bytes ≡ rest
since_is front rest bytes is = ap (drop (length front)) is ∙ drop_at front rest (length front) refl

-- what was given on of the request, of all that came
pub given_is : (before given held all : List ℕ) → all ≡ before ++ (given ++ held)
    → since before (given_on held all) ≡ given
given_is before given held all is =
    since_is before given (given_on held all)
    (rest_by_length all (before ++ given) held (is ∙ sym (append_assoc before given held)))

-- what a client gives from where the request begins, whose source is all that it gives
pub asked_is : (before given held : List ℕ) (l : Look) → l.given ≡ before ++ (given ++ held) → all_of l ≡ l.source
    → since before l.source ≡ given ++ (held ++ l.left)
asked_is before given held l placed whole =
    since_is before (given ++ (held ++ l.left)) l.source
    (sym whole ∙ ap (λ g. g ++ l.left) placed ∙ append_assoc before (given ++ held) l.left
    ∙ ap (λ t. before ++ t) (append_assoc given held l.left))

-- what came stands behind what was held
pub came_behind : (before given held came l m : List ℕ) → l ≡ before ++ (given ++ held) → m ≡ l ++ came
    → m ≡ before ++ (given ++ (held ++ came))
came_behind before given held came l m placed is =
    is ∙ ap (λ x. x ++ came) placed ∙ append_assoc before (given ++ held) came
    ∙ ap (λ x. before ++ x) (append_assoc given held came)

-- a piece of what was held and came is given on
pub given_more : (before given held came piece held' l m : List ℕ) → l ≡ before ++ (given ++ held)
    → m ≡ l ++ came → held ++ came ≡ piece ++ held' → m ≡ before ++ ((given ++ piece) ++ held')
given_more before given held came piece held' l m placed is moved =
    came_behind before given held came l m placed is
    ∙ ap (λ x. before ++ (given ++ x)) moved
    ∙ ap (λ x. before ++ x) (sym (append_assoc given piece held'))

-- and what was left begins with it
pub left_more : (held came piece held' left left' : List ℕ) → left ≡ came ++ left'
    → held ++ came ≡ piece ++ held' → held ++ left ≡ piece ++ (held' ++ left')
left_more held came piece held' left left' is moved =
    ap (λ x. held ++ x) is ∙ sym (append_assoc held came left') ∙ ap (λ x. x ++ left') moved
    ∙ append_assoc piece held' left'

-- the whole of it stays
pub whole_more : (given held left piece held' left' : List ℕ) → held ++ left ≡ piece ++ (held' ++ left')
    → given ++ (held ++ left) ≡ (given ++ piece) ++ (held' ++ left')
whole_more given held left piece held' left' is =
    ap (λ x. given ++ x) is ∙ sym (append_assoc given piece (held' ++ left'))

-- a front, and what follows it
pub take_on : (n m : ℕ) (l : List ℕ) → take n l ++ take m (drop n l) ≡ take (n + m) l
take_on zero m l = ap (λ k. take k l) (omega arith)
take_on (suc n) m [] =
    let long : suc n + m ≡ suc (n + m) = omega arith in
    none m ∙ ap (λ k. take k []) (sym long)
  where
    none : (k : ℕ) → take {A = ℕ} k [] ≡ []
    none zero = refl
    none (suc k) = refl
take_on (suc n) m (b ∷ l) =
    let long : suc n + m ≡ suc (n + m) = omega arith in
    ap (λ t. b ∷ t) (take_on n m l) ∙ ap (λ k. take k (b ∷ l)) (sym long)
