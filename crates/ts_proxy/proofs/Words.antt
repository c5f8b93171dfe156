-- The words of a command.
use Rattle.std.proofs.Common.{◌≡◌, List, [], ◌∷◌, ℕ, length, None, true, refl, sym, subst, codes}
use Rattle.std.specs.declared.string.String.{String}
use Rattle.std.proofs.lemmas.Slice.Eq.{bytes_eq-Decides}
use Rattle.ts_proxy.specs.Words.{begins_transform, ordered_task, task_of_bytes, word_bytes}

-- all commands whose words have an order take two words more, three or four
pub none_other : {A : Type 0} (words : List (String A)) → (length words ≡ 3 → ⊥) → (length words ≡ 4 → ⊥)
    → (length words ≡ 5 → ⊥) → ordered_task (word_bytes words) ≡ None
none_other [] three four five = refl
none_other (a ∷ []) three four five = refl
none_other (a ∷ b ∷ []) three four five = refl
none_other (a ∷ b ∷ c ∷ []) three four five = absurd (three refl)
none_other (a ∷ b ∷ c ∷ d ∷ []) three four five = absurd (four refl)
none_other (a ∷ b ∷ c ∷ d ∷ e ∷ []) three four five = absurd (five refl)
none_other (a ∷ b ∷ c ∷ d ∷ e ∷ f ∷ words) three four five = refl

-- words that begin with `transform` have an order
pub transform_ordered : (words : List (List ℕ)) → begins_transform words ≡ true
    → task_of_bytes words ≡ ordered_task words
transform_ordered [] begins = refl
transform_ordered (word ∷ words) begins =
    let is : word ≡ codes "transform" = (bytes_eq-Decides word (codes "transform")).0 begins in
    subst (λ w. task_of_bytes (w ∷ words) ≡ ordered_task (w ∷ words)) (sym is) refl
