-- Lines of text, each with a line feed, are cut into these lines.
use Rattle.std.proofs.Common.{◌≡◌, ℕ, zero, suc, ◌-◌, List, [], ◌∷◌, ◌++◌, length, take, map, get_or, true, false, cond, refl, ap, ◌∙◌, arith, append_assoc}
use Rattle.std.specs.Prelude.{◌==◌, flat_map}
use Rattle.std.specs.List.{list_all, slice_split, onto_first, AllByRecursion}
use Rattle.std.specs.Str.Lines.{strip_carriage_return}
use Rattle.std.proofs.lemmas.Bool.Decides.{nat_tests}
use Rattle.ts_config.specs.Lines.{config_lines, less_empty_last}
use Rattle.ts_config.specs.Reading.{is_text_byte}
use Rattle.ts_config.proofs.LineCuts.{some_part, more_parts}
use Rattle.ts_config.proofs.TextParts.{IsText, both}

no_feed : (b : ℕ) → is_text_byte b ≡ true → (b == 10) ≡ false
no_feed b is = grind (arith, nat_tests)

no_return : (b : ℕ) → is_text_byte b ≡ true → (b == 13) ≡ false
no_return b is = grind (arith, nat_tests)

split_text : (text rest : List ℕ) → list_all is_text_byte text ≡ true
    → slice_split (λ b. b == 10) (text ++ 10 ∷ rest) ≡ text ∷ slice_split (λ b. b == 10) rest
split_text [] rest are = refl
split_text (b ∷ bs) rest are =
    let parts = both (is_text_byte b) (list_all is_text_byte bs) are in
    let more : List (List ℕ) = slice_split (λ b. b == 10) (bs ++ 10 ∷ rest) in
    ap (λ x. cond x ([] ∷ more) (onto_first b more)) (no_feed b parts.0)
    ∙ ap (onto_first b) (split_text bs rest parts.1)

no_return_at : (text : List ℕ) (i : ℕ) → list_all is_text_byte text ≡ true → (get_or text i 0 == 13) ≡ false
no_return_at [] i are = refl
no_return_at (b ∷ bs) zero are = no_return b (both (is_text_byte b) (list_all is_text_byte bs) are).0
no_return_at (b ∷ bs) (suc i) are = no_return_at bs i (both (is_text_byte b) (list_all is_text_byte bs) are).1

text_kept : (text : List ℕ) → list_all is_text_byte text ≡ true → strip_carriage_return text ≡ text
text_kept text are = ap (λ x. cond x (take (length text - 1) text) text)
    (no_return_at text (length text - 1) are)

line_again : (text rest : List ℕ) → IsText text → config_lines (text ++ 10 ∷ rest) ≡ text ∷ config_lines rest
line_again text rest is =
    let (next, others, some) = some_part (λ b. b == 10) rest in
    ap (λ parts. map strip_carriage_return (less_empty_last parts)) (split_text text rest is.bytes)
    ∙ ap (map strip_carriage_return) (more_parts text (slice_split (λ b. b == 10) rest) next others some)
    ∙ ap (λ l. l ∷ config_lines rest) (text_kept text is.bytes)

pub lines_again : {A : Type 0} (text_of : A → List ℕ) (xs : List A)
    → AllByRecursion (λ x. IsText (text_of x)) xs
    → config_lines (flat_map (λ x. text_of x ++ 10 ∷ []) xs) ≡ map text_of xs
lines_again text_of [] are = refl
lines_again text_of (x ∷ xs) are =
    ap config_lines (append_assoc (text_of x) (10 ∷ []) (flat_map (λ x. text_of x ++ 10 ∷ []) xs))
    ∙ line_again (text_of x) (flat_map (λ x. text_of x ++ 10 ∷ []) xs) are.0
    ∙ ap (λ ls. text_of x ∷ ls) (lines_again text_of xs are.1)
