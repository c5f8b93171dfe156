-- Words that are printed are read back.
use Rattle.std.proofs.Common.{◌≡◌, ℕ, List, [], ◌∷◌, ◌++◌, Bool, true, false, cond, ◌||◌, ◌⊎◌, inl, inr, refl, ap, sym, ◌∙◌, arith}
use Rattle.std.specs.List.{list_any, AllByRecursion}
use Rattle.ts_config.specs.Words.{is_end, EndsWord, IsQuotable, IsPlain, Spells, IsWords}
use Rattle.ts_config.specs.Printing.{needs_quotes, spelled, spelled_words}
use Rattle.ts_config.proofs.TextParts.{IsText, text-cons, text-append, text-nil}
use Rattle.ts_config.proofs.FineWords.{IsFine}

none_of : (x y : Bool) → (x || y) ≡ false → (x ≡ false) × (y ≡ false)
none_of true y is = absurd (let wrong : true ≡ false = is in cc)
none_of false y is = (refl, is)

pub none_ends : (w : List ℕ) → list_any is_end w ≡ false → AllByRecursion (λ b. is_end b ≡ false) w
none_ends [] is = tt
none_ends (b ∷ bs) is = let parts = none_of (is_end b) (list_any is_end bs) is in
    (parts.0, none_ends bs parts.1)

all_no_ends : (w : List ℕ) → AllByRecursion (λ b. is_end b ≡ false) w → list_any is_end w ≡ false
all_no_ends [] are = refl
all_no_ends (b ∷ bs) are = ap (λ x. x || list_any is_end bs) are.0 ∙ all_no_ends bs are.1

-- a plain word needs no quotes
plain_bare : (w : List ℕ) → IsPlain w → needs_quotes w ≡ false
plain_bare [] is = absurd is
plain_bare (b ∷ bs) is = all_no_ends (b ∷ bs) is.1

-- and a word that needs none is plain
bare_plain : (w : List ℕ) → IsPlain w ⊎ IsQuotable w → needs_quotes w ≡ false → IsPlain w
bare_plain w (inl plain) bare = plain
bare_plain [] (inr quotable) bare = let wrong : true ≡ false = bare in cc
bare_plain (b ∷ bs) (inr quotable) bare = (quotable.0, none_ends (b ∷ bs) bare)

quoted_quotable : (w : List ℕ) → IsPlain w ⊎ IsQuotable w → needs_quotes w ≡ true → IsQuotable w
quoted_quotable w (inl plain) quotes = let wrong : true ≡ false = sym quotes ∙ plain_bare w plain in
    absurd (let w' = wrong in cc)
quoted_quotable w (inr quotable) quotes = quotable

-- a word is spelled as the grammar has it
spelled_spells : (w : List ℕ) → IsPlain w ⊎ IsQuotable w → Spells (spelled w) w
spelled_spells w is = by_need (needs_quotes w) refl
  where
    by_need : (q : Bool) → needs_quotes w ≡ q → Spells (cond q (34 ∷ w ++ 34 ∷ []) w) w
    by_need true quotes = inr (quoted_quotable w is quotes, refl)
    by_need false bare = inl (bare_plain w is bare, refl)

words_end : (ws : List (List ℕ)) → EndsWord (spelled_words ws)
words_end [] = tt
words_end (w ∷ ws) = refl

-- words behind one space each are these words
pub words_again : (ws : List (List ℕ)) → AllByRecursion IsFine ws → IsWords (spelled_words ws) ws
words_again [] fine = ([], [], tt, tt, refl)
words_again (w ∷ ws) fine =
    let one : IsFine w = fine.0 in (
      spelled_words ws,
      (32 ∷ [], spelled w, (refl, tt), spelled_spells w one.writable, words_end ws, refl),
      words_again ws fine.1,
    )

-- and behind a plain word that begins the line
pub line_words_again : (name : List ℕ) (ws : List (List ℕ)) → IsPlain name → AllByRecursion IsFine ws
    → IsWords (name ++ spelled_words ws) (name ∷ ws)
line_words_again name ws plain fine =
    (spelled_words ws, ([], name, tt, inl (plain, refl), words_end ws, refl), words_again ws fine)

-- they are text
spelled_text : (w : List ℕ) → IsText w → IsText (spelled w)
spelled_text w is = by_need (needs_quotes w)
  where
    by_need : (q : Bool) → IsText (cond q (34 ∷ w ++ 34 ∷ []) w)
    by_need true = text-cons 34 (w ++ 34 ∷ []) (omega arith) refl
        (text-append w (34 ∷ []) is (text-cons 34 [] (omega arith) refl text-nil))
    by_need false = is

pub words_text : (ws : List (List ℕ)) → AllByRecursion IsFine ws → IsText (spelled_words ws)
words_text [] fine = text-nil
words_text (w ∷ ws) fine =
    let one : IsFine w = fine.0 in
    text-cons 32 (spelled w ++ spelled_words ws) (omega arith) refl
    (text-append (spelled w) (spelled_words ws) (spelled_text w one.text) (words_text ws fine.1))
