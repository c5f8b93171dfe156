-- A list is cut where a test first fails.
use Rattle.std.proofs.Common.{◌≡◌, ℕ, ◌+◌, List, [], ◌∷◌, ◌++◌, take, drop, Bool, true, false, cond, refl, ap, ◌∙◌, one-add}
use Rattle.std.specs.Prelude.{⊤}
use Rattle.std.specs.List.{prefix_len, AllByRecursion}

-- the list is empty, or begins with an element that fails
abbrev pub Stops : (ℕ → Bool) → List ℕ → Type 0
Stops p [] = ⊤
Stops p (x ∷ xs) = p x ≡ false

abbrev pub Passes : (ℕ → Bool) → List ℕ → Type 0
Passes p xs = AllByRecursion (λ x. p x ≡ true) xs

-- one element that passes
pub take_yes : (p : ℕ → Bool) (x : ℕ) (xs : List ℕ) → p x ≡ true
    → take (prefix_len p (x ∷ xs)) (x ∷ xs) ≡ x ∷ take (prefix_len p xs) xs
take_yes p x xs is = ap (λ b. take (cond b (1 + prefix_len p xs) 0) (x ∷ xs)) is
    ∙ ap (λ n. take n (x ∷ xs)) (one-add (prefix_len p xs))

drop_yes : (p : ℕ → Bool) (x : ℕ) (xs : List ℕ) → p x ≡ true
    → drop (prefix_len p (x ∷ xs)) (x ∷ xs) ≡ drop (prefix_len p xs) xs
drop_yes p x xs is = ap (λ b. drop (cond b (1 + prefix_len p xs) 0) (x ∷ xs)) is
    ∙ ap (λ n. drop n (x ∷ xs)) (one-add (prefix_len p xs))

-- one that fails
take_no : (p : ℕ → Bool) (x : ℕ) (xs : List ℕ) → p x ≡ false → take (prefix_len p (x ∷ xs)) (x ∷ xs) ≡ []
take_no p x xs is = ap (λ b. take (cond b (1 + prefix_len p xs) 0) (x ∷ xs)) is

drop_no : (p : ℕ → Bool) (x : ℕ) (xs : List ℕ) → p x ≡ false → drop (prefix_len p (x ∷ xs)) (x ∷ xs) ≡ x ∷ xs
drop_no p x xs is = ap (λ b. drop (cond b (1 + prefix_len p xs) 0) (x ∷ xs)) is

-- a front that passes, and a rest that does not begin so, are what the list is cut into
pub cut_front : (p : ℕ → Bool) (front rest : List ℕ) → Passes p front → Stops p rest
    → take (prefix_len p (front ++ rest)) (front ++ rest) ≡ front
cut_front p [] [] passes stops = refl
cut_front p [] (x ∷ xs) passes stops = take_no p x xs stops
cut_front p (f ∷ front) rest passes stops =
    take_yes p f (front ++ rest) passes.0 ∙ ap (λ xs. f ∷ xs) (cut_front p front rest passes.1 stops)

pub cut_rest : (p : ℕ → Bool) (front rest : List ℕ) → Passes p front → Stops p rest
    → drop (prefix_len p (front ++ rest)) (front ++ rest) ≡ rest
cut_rest p [] [] passes stops = refl
cut_rest p [] (x ∷ xs) passes stops = drop_no p x xs stops
cut_rest p (f ∷ front) rest passes stops =
    drop_yes p f (front ++ rest) passes.0 ∙ cut_rest p front rest passes.1 stops

by_test : (p : ℕ → Bool) (x : ℕ) (P : Type 0) → (p x ≡ true → P) → (p x ≡ false → P) → P
by_test p x P if_passes if_fails =
    elim (p x) as (λ b. p x ≡ b → P) [ true ↦ if_passes | false ↦ if_fails ] refl

-- and the front of a list that is cut passes
pub front_passes : (p : ℕ → Bool) (xs : List ℕ) → Passes p (take (prefix_len p xs) xs)
front_passes p [] = tt
front_passes p (x ∷ xs) = by_test p x (Passes p (take (prefix_len p (x ∷ xs)) (x ∷ xs)))
    (λ is. rw (take_yes p x xs is) (is, front_passes p xs))
    (λ is. rw (take_no p x xs is) tt)

-- and its rest does not begin so
pub rest_stops : (p : ℕ → Bool) (xs : List ℕ) → Stops p (drop (prefix_len p xs) xs)
rest_stops p [] = tt
rest_stops p (x ∷ xs) = by_test p x (Stops p (drop (prefix_len p (x ∷ xs)) (x ∷ xs)))
    (λ is. rw (drop_yes p x xs is) (rest_stops p xs))
    (λ is. rw (drop_no p x xs is) is)
