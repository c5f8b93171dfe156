-- The lines of a block, part by part.
use Rattle.std.proofs.Common.{◌≡◌, ℕ, List, ◌++◌, Result, Ok, Err, ap, ◌∙◌, append_assoc}
use Rattle.std.specs.Prelude.{OnOk}

-- five parts, one behind the other
pub block_parts : {X Y : Type 0} (r : Result X Y) (before a b c d e one two three four five : List ℕ)
    → one ≡ before ++ a → two ≡ one ++ b → three ≡ two ++ c → four ≡ three ++ d → OnOk r (five ≡ four ++ e)
    → OnOk r (five ≡ before ++ ((((a ++ b) ++ c) ++ d) ++ e))
block_parts (Ok x) before a b c d e one two three four five first second third fourth fifth =
    fifth
    ∙ ap (λ l. l ++ e)
    (fourth ∙ ap (λ l. l ++ d) (third ∙ ap (λ l. l ++ c) (second ∙ ap (λ l. l ++ b) first)))
    ∙ ap (λ l. l ++ e) (ap (λ l. l ++ d) (ap (λ l. l ++ c) (append_assoc before a b)
    ∙ append_assoc before (a ++ b) c) ∙ append_assoc before ((a ++ b) ++ c) d)
    ∙ append_assoc before (((a ++ b) ++ c) ++ d) e
block_parts (Err f) before a b c d e one two three four five first second third fourth fifth = tt
