-- The first line of a configuration, and the lines behind it.
use Rattle.std.proofs.Common.{◌≡◌, ℕ, suc, not, ◌+◌, ◌<◌, List, [], ◌∷◌, length, take, drop, map, Bool, true, false, cond, Some, None, refl, ap, ◌∙◌, arith}
use Rattle.std.specs.Prelude.{◌==◌, position}
use Rattle.std.specs.List.{slice_split, onto_first, position_or_len}
use Rattle.std.specs.Str.Lines.{strip_carriage_return}
use Rattle.std.proofs.lemmas.List.Splits.{slice_split_first}
use Rattle.std.proofs.lemmas.Grind.{common_steps}
use Rattle.std.proofs.lemmas.List.Sums.{prefix_len-le-length}
use Rattle.ts_config.specs.Lines.{config_lines, less_empty_last}

-- a list is cut into one part at least
pub some_part : (p : ℕ → Bool) (xs : List ℕ) → (part : List ℕ) × (parts : List (List ℕ))
    × (slice_split p xs ≡ part ∷ parts)
some_part p [] = ([], [], refl)
some_part p (x ∷ xs) =
    elim (p x) as (λ b. (part : List ℕ) × (parts : List (List ℕ))
    × (cond b ([] ∷ slice_split p xs) (onto_first x (slice_split p xs)) ≡ part ∷ parts)) [
      | true ↦ ([], slice_split p xs, refl)
      | false ↦ let (part, parts, is) = some_part p xs in (x ∷ part, parts, ap (onto_first x) is)
    ]

-- a part with other parts behind it is a line
pub more_parts : (part : List ℕ) (parts : List (List ℕ)) (next : List ℕ) (others : List (List ℕ))
    → parts ≡ next ∷ others
    → less_empty_last (part ∷ parts) ≡ part ∷ less_empty_last parts
more_parts part parts next others is = rw is

-- where a test first passes
found : (p : ℕ → Bool) (xs : List ℕ) (at : ℕ) → position p xs ≡ Some at
    → (at ≡ position_or_len p xs) × (at < length xs)
found p xs at is = grind (arith, common_steps)

-- and where it never does
missing : (p : ℕ → Bool) (xs : List ℕ) → position p xs ≡ None → position_or_len p xs ≡ length xs
missing p xs is = grind (arith, common_steps, prefix_len-le-length (λ x. not (p x)) xs)

pub first_line : (bytes line behind : List ℕ) (end : ℕ) → position (λ b. b == 10) bytes ≡ Some end
    → line ≡ take end bytes → behind ≡ drop (end + 1) bytes
    → config_lines bytes ≡ strip_carriage_return line ∷ config_lines behind
first_line bytes line behind end is front back =
    let newline : ℕ → Bool = λ b. b == 10 in
    let at = found newline bytes end is in
    let cut : slice_split newline bytes ≡ line ∷ slice_split newline behind =
    slice_split_first newline bytes 0 (omega arith) ∙ cc in
    let (next, others, some) = some_part newline behind in
    ap (λ parts. map strip_carriage_return (less_empty_last parts)) cut
    ∙ ap (map strip_carriage_return) (more_parts line (slice_split newline behind) next others some)

-- where no element passes, the list is the one part
one_part : (p : ℕ → Bool) (xs : List ℕ) → position_or_len p xs ≡ length xs → slice_split p xs ≡ xs ∷ []
one_part p [] is = refl
one_part p (x ∷ xs) is =
    elim (p x) as (λ b. cond (not b) (1 + position_or_len p xs) 0 ≡ suc (length xs)
    → cond b ([] ∷ slice_split p xs) (onto_first x (slice_split p xs)) ≡ (x ∷ xs) ∷ []) [
      | true ↦ λ no. absurd (omega arith)
      | false ↦ λ yes. ap (onto_first x) (one_part p xs (omega arith))
    ] is

pub last_line : (bytes : List ℕ) → position (λ b. b == 10) bytes ≡ None → 0 < length bytes
    → config_lines bytes ≡ strip_carriage_return bytes ∷ []
last_line [] is some = absurd (omega arith)
last_line (b ∷ bs) is some =
    let newline : ℕ → Bool = λ b. b == 10 in
    ap (λ parts. map strip_carriage_return (less_empty_last parts))
    (one_part newline (b ∷ bs) (missing newline (b ∷ bs) is))
