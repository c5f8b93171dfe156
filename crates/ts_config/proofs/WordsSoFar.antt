-- A line whose first words were read.
use Rattle.std.proofs.Common.{◌≡◌, ℕ, ◌<◌, List, [], ◌∷◌, ◌++◌, length, inl, inr, refl, ap, sym, ◌∙◌, subst, arith, append_assoc, append-nil, length-append}
use Rattle.ts_config.specs.Words.{Spells, IsPlain, HasNoWord, BeginsWithWord, IsWords}
use Rattle.ts_config.proofs.Scan.{one_word, word_or_none}

-- the line's words are these, and then the words of the rest
pub record ReadSoFar (line rest : List ℕ) (so_far : List (List ℕ)) : Type 0 where
  pub build : (words : List (List ℕ)) → IsWords rest words → IsWords line (so_far ++ words)
  pub only : (words : List (List ℕ)) → IsWords line words
      → (others : List (List ℕ)) × IsWords rest others × (words ≡ so_far ++ others)

pub read_none : (line : List ℕ) → ReadSoFar line line []
read_none line = record { build = λ words are. are; only = λ words are. (words, are, refl) }

-- one word more
pub read_word : (line rest behind w : List ℕ) (so_far : List (List ℕ)) → ReadSoFar line rest so_far
    → BeginsWithWord rest w behind → ReadSoFar line behind (so_far ++ w ∷ [])
read_word line rest behind w so_far read begins = record {
  build = λ words are. subst (IsWords line) (sym (append_assoc so_far (w ∷ []) words))
      (read.build (w ∷ words) (behind, begins, are));
  only = λ words are. let (others, rest_are, is) = read.only words are in rest_only words others rest_are is;
}
  where
    rest_only : (words others : List (List ℕ)) → IsWords rest others → words ≡ so_far ++ others
        → (more : List (List ℕ)) × IsWords behind more × (words ≡ (so_far ++ w ∷ []) ++ more)
    rest_only words [] none is = absurd (word_or_none rest w behind none begins)
    rest_only words (v ∷ vs) (after, first, are) is =
        let same = one_word rest v after w behind first begins in (
          vs,
          subst (λ r. IsWords r vs) same.1 are,
          is ∙ ap (λ x. so_far ++ x ∷ vs) same.0
              ∙ sym (append_assoc so_far (w ∷ []) vs),
        )

pub read_all : (line rest : List ℕ) (so_far : List (List ℕ)) → ReadSoFar line rest so_far → HasNoWord rest
    → IsWords line so_far
read_all line rest so_far read none = subst (IsWords line) (append-nil so_far) (read.build [] none)

pub read_unfit : (line rest : List ℕ) (so_far : List (List ℕ)) → ReadSoFar line rest so_far
    → ((words : List (List ℕ)) → ¬ IsWords rest words)
    → (words : List (List ℕ)) → ¬ IsWords line words
read_unfit line rest so_far read unfit words are = let (others, rest_are, is) = read.only words are in
    unfit others rest_are

-- a word takes at least one byte
pub rest_shorter : (line w rest : List ℕ) → BeginsWithWord line w rest → length rest < length line
rest_shorter line w rest (blanks, text, are, spells, ends, is) =
    let some : 0 < length text = not_empty text w spells in
    omega (arith, some, ap length is, length-append blanks (text ++ rest), length-append text rest)
  where
    plain : (v : List ℕ) → IsPlain v → 0 < length v
    plain [] none = absurd none
    plain (b ∷ bs) p = omega arith

    not_empty : (t v : List ℕ) → Spells t v → 0 < length t
    not_empty t v (inl as_it_is) = subst (λ x. 0 < length x) (sym as_it_is.1) (plain v as_it_is.0)
    not_empty t v (inr between) = subst (λ x. 0 < length x) (sym between.1) (omega arith)
