-- What a line begins with: there is one answer at most.
use Rattle.std.proofs.Common.{◌≡◌, ℕ, List, [], ◌∷◌, ◌++◌, take, drop, not, Bool, true, false, cond, ◌||◌, inl, inr, refl, ap, sym, ◌∙◌, subst, append_assoc}
use Rattle.std.specs.Prelude.{◌==◌}
use Rattle.std.specs.List.{prefix_len, AllByRecursion}
use Rattle.ts_config.specs.Words.{is_blank, is_end, EndsWord, EndsLine, IsQuotable, IsPlain, Spells, IsBlanks, HasNoWord, BeginsWithWord, IsWords}
use Rattle.ts_config.specs.Value.{Front, nothing, word, unclosed, is_plain_byte, is_quotable_byte, quote_closed, quoted, front_of_text, front_of}
use Rattle.ts_config.proofs.Cuts.{Stops, Passes, cut_front, cut_rest}

-- tests
pub not_blank : (b : ℕ) → is_end b ≡ false → is_blank b ≡ false
not_blank b is = either (is_blank b) (b == 35) is
  where
    either : (x y : Bool) → (x || y) ≡ false → x ≡ false
    either true y h = h
    either false y h = refl

pub not_comment : (b : ℕ) → is_end b ≡ false → (b == 35) ≡ false
not_comment b is = either (is_blank b) (b == 35) is
  where
    either : (x y : Bool) → (x || y) ≡ false → y ≡ false
    either true y h = cc
    either false y h = h

-- what holds of each
pub each : {P Q : ℕ → Type 0} (xs : List ℕ) → ((x : ℕ) → P x → Q x) → AllByRecursion P xs
    → AllByRecursion Q xs
each [] f h = tt
each (x ∷ xs) f h = (f x h.0, each xs f h.1)

pub plain_passes : (w : List ℕ) → AllByRecursion (λ b. is_end b ≡ false) w → Passes is_plain_byte w
plain_passes w h = each {P = λ b. is_end b ≡ false} {Q = λ b. is_plain_byte b ≡ true} w (λ b is. ap not is) h

pub quotable_passes : (w : List ℕ) → IsQuotable w → Passes is_quotable_byte w
quotable_passes w h =
    each {P = λ b. (b == 34) ≡ false} {Q = λ b. is_quotable_byte b ≡ true} w (λ b is. ap not is) h

pub EndsWord-stops : (rest : List ℕ) → EndsWord rest → Stops is_plain_byte rest
EndsWord-stops [] h = tt
EndsWord-stops (b ∷ bs) h = ap not h

pub EndsLine-stops : (rest : List ℕ) → EndsLine rest → Stops is_blank rest
EndsLine-stops [] h = tt
EndsLine-stops (b ∷ bs) h = ap is_blank h

-- what stands between the quotes and behind them, as one text
pub behind_quote : (w rest : List ℕ) → (34 ∷ w ++ 34 ∷ []) ++ rest ≡ 34 ∷ (w ++ 34 ∷ rest)
behind_quote w rest = ap (λ xs. 34 ∷ xs) (append_assoc w (34 ∷ []) rest)

Spells-stops : (text w rest : List ℕ) → Spells text w → Stops is_blank (text ++ rest)
Spells-stops text w rest (inl plain) = subst (λ t. Stops is_blank (t ++ rest)) (sym plain.1) (first w plain.0)
  where
    first : (v : List ℕ) → IsPlain v → Stops is_blank (v ++ rest)
    first [] none = absurd none
    first (b ∷ bs) is = not_blank b is.1.0
Spells-stops text w rest (inr between) = subst (λ t. Stops is_blank (t ++ rest)) (sym between.1) refl

-- the line behind its blanks
pub behind_blanks : (line blanks more : List ℕ) → IsBlanks blanks → Stops is_blank more
    → line ≡ blanks ++ more → drop (prefix_len is_blank line) line ≡ more
behind_blanks line blanks more are stops is =
    ap (λ xs. drop (prefix_len is_blank xs) xs) is ∙ cut_rest is_blank blanks more are stops

pub behind_blanks-word : (line w rest : List ℕ) → (begins : BeginsWithWord line w rest)
    → drop (prefix_len is_blank line) line ≡ begins.1 ++ rest
behind_blanks-word line w rest (blanks, text, are, spells, ends, is) =
    behind_blanks line blanks (text ++ rest) are (Spells-stops text w rest spells) is

front-plain : (w rest : List ℕ) → IsPlain w → EndsWord rest → front_of_text (w ++ rest) ≡ word w rest
front-plain [] rest none ends = absurd none
front-plain (b ∷ bs) rest is ends =
    let front = cut_front is_plain_byte (b ∷ bs) rest (plain_passes (b ∷ bs) is.1)
    (EndsWord-stops rest ends) in
    let back = cut_rest is_plain_byte (b ∷ bs) rest (plain_passes (b ∷ bs) is.1) (EndsWord-stops rest ends) in
    let n : ℕ = prefix_len is_plain_byte ((b ∷ bs) ++ rest) in
    let last : Front = word (take n ((b ∷ bs) ++ rest)) (drop n ((b ∷ bs) ++ rest)) in
    let other : Front =
    quoted (take (prefix_len is_quotable_byte (bs ++ rest)) (bs ++ rest))
    (drop (prefix_len is_quotable_byte (bs ++ rest)) (bs ++ rest)) in
    ap (λ t. cond t nothing (cond (b == 34) other last)) (not_comment b is.1.0)
    ∙ ap (λ t. cond t other last) is.0
    ∙ ap (λ x. word x (drop n ((b ∷ bs) ++ rest))) front
    ∙ ap (word (b ∷ bs)) back

front-closed : (w rest : List ℕ) → EndsWord rest → quote_closed w rest ≡ word w rest
front-closed w [] ends = refl
front-closed w (b ∷ bs) ends = ap (λ t. cond t (word w (b ∷ bs)) unclosed) ends

front-quoted : (w rest : List ℕ) → IsQuotable w → EndsWord rest
    → front_of_text (34 ∷ (w ++ 34 ∷ rest)) ≡ word w rest
front-quoted w rest is ends =
    let bs : List ℕ = w ++ 34 ∷ rest in
    let n : ℕ = prefix_len is_quotable_byte bs in
    ap (λ x. quoted x (drop n bs)) (cut_front is_quotable_byte w (34 ∷ rest) (quotable_passes w is) refl)
    ∙ ap (quoted w) (cut_rest is_quotable_byte w (34 ∷ rest) (quotable_passes w is) refl)
    ∙ front-closed w rest ends

front-spelled : (text w rest : List ℕ) → Spells text w → EndsWord rest
    → front_of_text (text ++ rest) ≡ word w rest
front-spelled text w rest (inl plain) ends =
    ap (λ t. front_of_text (t ++ rest)) plain.1 ∙ front-plain w rest plain.0 ends
front-spelled text w rest (inr between) ends =
    ap (λ t. front_of_text (t ++ rest)) between.1 ∙ ap front_of_text (behind_quote w rest)
    ∙ front-quoted w rest between.0 ends

pub front-word : (line w rest : List ℕ) → BeginsWithWord line w rest → front_of line ≡ word w rest
front-word line w rest (blanks, text, are, spells, ends, is) =
    ap front_of_text (behind_blanks line blanks (text ++ rest) are (Spells-stops text w rest spells) is)
    ∙ front-spelled text w rest spells ends

front-end : (rest : List ℕ) → EndsLine rest → front_of_text rest ≡ nothing
front-end [] ends = refl
front-end (b ∷ bs) ends = ap (λ x. front_of_text (x ∷ bs)) ends

pub front-nothing : (line : List ℕ) → HasNoWord line → front_of line ≡ nothing
front-nothing line (blanks, rest, are, ends, is) =
    ap front_of_text (behind_blanks line blanks rest are (EndsLine-stops rest ends) is) ∙ front-end rest ends

-- so a line begins with one word at most
pub one_word : (line w rest v behind : List ℕ) → BeginsWithWord line w rest → BeginsWithWord line v behind
    → (w ≡ v) × (rest ≡ behind)
one_word line w rest v behind first second =
    let same : word w rest ≡ word v behind =
    sym (front-word line w rest first) ∙ front-word line v behind second in (cc, cc)

pub word_or_none : (line w rest : List ℕ) → HasNoWord line → BeginsWithWord line w rest → ⊥
word_or_none line w rest none begins =
    let same : nothing ≡ word w rest = sym (front-nothing line none) ∙ front-word line w rest begins in cc

-- and has one list of words at most
pub one_words : (vs ws : List (List ℕ)) (line : List ℕ) → IsWords line vs → IsWords line ws → vs ≡ ws
one_words [] [] line a b = refl
one_words [] (w ∷ ws) line a b = absurd (word_or_none line w b.0 a b.1)
one_words (v ∷ vs) [] line a b = absurd (word_or_none line v a.0 b a.1)
one_words (v ∷ vs) (w ∷ ws) line a b =
    let same = one_word line v a.0 w b.0 a.1 b.1 in
    let others = one_words vs ws a.0 a.2 (subst (λ r. IsWords r ws) (sym same.1) b.2) in
    ap (λ x. x ∷ vs) same.0 ∙ ap (λ xs. w ∷ xs) others
