-- The words of a line of text can be written again.
use Rattle.std.proofs.Common.{◌≡◌, ℕ, ◌<◌, List, [], ◌∷◌, ◌++◌, true, ◌⊎◌, inl, inr, ap, ◌∙◌, subst, arith, append-nil}
use Rattle.std.specs.List.{AllByRecursion}
use Rattle.std.proofs.lemmas.Bool.Decides.{nat_tests}
use Rattle.ts_config.specs.Words.{is_blank, is_end, EndsWord, IsQuotable, IsPlain, Spells, IsBlanks, IsWords}
use Rattle.ts_config.proofs.Scan.{behind_quote}
use Rattle.ts_config.proofs.TextParts.{IsText, text-nil, text-front, text-back, text-tail}

-- a word of a line of text
pub record IsFine (w : List ℕ) : Type 0 where
  pub writable : IsPlain w ⊎ IsQuotable w
  pub text : IsText w

end_small : (b : ℕ) → is_end b ≡ true → b < 128
end_small b is = grind (arith, nat_tests)

blank_small : (b : ℕ) → is_blank b ≡ true → b < 128
blank_small b is = grind (arith, nat_tests)

behind : (blanks more : List ℕ) → IsBlanks blanks → IsText (blanks ++ more) → IsText more
behind [] more are is = is
behind (b ∷ bs) more are is = behind bs more are.1 (text-tail b (bs ++ more) (blank_small b are.0) is)

plain_front : (w rest : List ℕ) → EndsWord rest → IsText (w ++ rest) → IsText w
plain_front w [] ends is = subst IsText (append-nil w) is
plain_front w (b ∷ bs) ends is = text-front w b bs (end_small b ends) is

plain_back : (w rest : List ℕ) → EndsWord rest → IsText (w ++ rest) → IsText rest
plain_back w [] ends is = text-nil
plain_back w (b ∷ bs) ends is = text-back w b bs (end_small b ends) is

-- the word that a text of a line begins with, and the rest
word_fine : (spelling w rest : List ℕ) → Spells spelling w → EndsWord rest → IsText (spelling ++ rest)
    → IsFine w × IsText rest
word_fine spelling w rest (inl plain) ends is =
    let whole : IsText (w ++ rest) = subst (λ s. IsText (s ++ rest)) plain.1 is in
    (record { writable = inl plain.0; text = plain_front w rest ends whole }, plain_back w rest ends whole)
word_fine spelling w rest (inr between) ends is =
    let whole : IsText (34 ∷ (w ++ 34 ∷ rest)) =
    subst IsText (ap (λ s. s ++ rest) between.1 ∙ behind_quote w rest) is in
    let inner : IsText (w ++ 34 ∷ rest) = text-tail 34 (w ++ 34 ∷ rest) (omega arith) whole in (
      record {
        writable = inr between.0;
        text = text-front w 34 rest (omega arith) inner;
      },
      text-tail 34 rest (omega arith) (text-back w 34 rest (omega arith) inner),
    )

pub words_fine : (words : List (List ℕ)) (line : List ℕ) → IsText line → IsWords line words
    → AllByRecursion IsFine words
words_fine [] line text are = tt
words_fine (w ∷ ws) line text (rest, (blanks, spelling, blank, spells, ends, is), others) =
    let both = word_fine spelling w rest spells ends
    (behind blanks (spelling ++ rest) blank (subst IsText is text)) in
    (both.0, words_fine ws rest both.1 others)
