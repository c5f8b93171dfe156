-- A list of lines that is printed one by one.
use Rattle.std.proofs.Common.{◌≡◌, ℕ, ◌+◌, ◌<◌, List, [], ◌∷◌, ◌++◌, length, take, get_or, ap, sym, ◌∙◌}
use Rattle.std.specs.Prelude.{flat_map}
use Rattle.std.proofs.lemmas.List.{flat_map_more, take_more}

-- one line more
pub listed_more : {A : Type 0} (text_of : A → List ℕ) (before old new : List ℕ) (xs : List A) (i : ℕ) (x : A)
    → i < length xs → get_or xs i x ≡ x → old ≡ before ++ flat_map text_of (take i xs)
    → new ≡ old ++ text_of x → new ≡ before ++ flat_map text_of (take (i + 1) xs)
listed_more text_of before old new xs i x below is so_far more =
    more ∙ ap (λ front. front ++ text_of x) so_far ∙ flat_map_more text_of before (take i xs) x
    ∙ ap (λ y. before ++ flat_map text_of (take i xs ++ y ∷ [])) (sym is)
    ∙ ap (λ ys. before ++ flat_map text_of ys) (sym (take_more xs i x below))
