-- What the readers of a line find at its front is what the grammar says.
use Rattle.std.proofs.Common.{◌≡◌, ◌≢◌, ℕ, List, [], ◌∷◌, ◌++◌, length, take, drop, not, Bool, true, false, inl, inr, refl, ap, sym, ◌∙◌, subst, arith}
use Rattle.std.specs.Prelude.{◌==◌}
use Rattle.std.specs.List.{prefix_len, position_or_len, AllByRecursion}
use Rattle.std.proofs.lemmas.List.{take-append-drop}
use Rattle.std.proofs.lemmas.Bool.Decides.{nat_tests}
use Rattle.ts_config.specs.declared.words.NextWord.{NextWord}
use Rattle.ts_config.specs.declared.words.NextWord.TheVariants.{Nothing, Word, Unclosed}
use Rattle.ts_config.specs.Words.{is_blank, is_end, EndsWord, EndsLine, IsQuotable, IsPlain, Spells, HasNoWord, BeginsWithWord, IsWords}
use Rattle.ts_config.specs.Scanning.{IsQuoted, IsNextWord}
use Rattle.ts_config.specs.Value.{is_plain_byte, is_quotable_byte}
use Rattle.ts_config.proofs.Cuts.{Stops, Passes, cut_rest, front_passes, rest_stops, take_yes}
use Rattle.ts_config.proofs.Scan.{each, quotable_passes, behind_quote, behind_blanks, behind_blanks-word, EndsLine-stops}

-- tests
same_byte : (b : ℕ) → not (b == 34) ≡ false → b ≡ 34
same_byte b is = grind (arith, nat_tests)

is_false : (b : Bool) → not b ≡ true → b ≡ false
is_false true wrong = cc
is_false false is = refl

is_true : (b : Bool) → not b ≡ false → b ≡ true
is_true true is = refl
is_true false wrong = cc

plain_byte : (b : ℕ) → is_blank b ≡ false → b ≢ 35 → is_end b ≡ false
plain_byte b blank comment = grind (arith, nat_tests)

no_quote : (b : ℕ) → b ≢ 34 → (b == 34) ≡ false
no_quote b other = grind (arith, nat_tests)

passes-quotable : (w : List ℕ) → Passes is_quotable_byte w → IsQuotable w
passes-quotable w h =
    each {P = λ b. is_quotable_byte b ≡ true} {Q = λ b. (b == 34) ≡ false} w (λ b is. is_false (b == 34) is) h

passes-plain : (w : List ℕ) → Passes is_plain_byte w → AllByRecursion (λ b. is_end b ≡ false) w
passes-plain w h = each {P =
    λ b. is_plain_byte b ≡ true} {Q = λ b. is_end b ≡ false} w (λ b is. is_false (is_end b) is) h

stops-EndsWord : (rest : List ℕ) → Stops is_plain_byte rest → EndsWord rest
stops-EndsWord [] h = tt
stops-EndsWord (b ∷ bs) h = is_true (is_end b) h

pub EndsLine-empty : (rest : List ℕ) → length rest ≡ 0 → EndsLine rest
EndsLine-empty [] h = tt
EndsLine-empty (b ∷ bs) h = omega (arith, h)

-- a text behind a quote, cut at its first quote
module _ (text behind : List ℕ) (is_behind : behind ≡ drop (position_or_len (λ b. b == 34) text) text) where
  same_behind : (w rest : List ℕ) → IsQuotable w → text ≡ w ++ 34 ∷ rest → behind ≡ 34 ∷ rest
  same_behind w rest quotable is =
      is_behind ∙ ap (λ xs. drop (prefix_len is_quotable_byte xs) xs) is
      ∙ cut_rest is_quotable_byte w (34 ∷ rest) (quotable_passes w quotable) refl

  pub never_closed : length behind ≡ 0 → (w rest : List ℕ) → IsQuotable w → EndsWord rest
      → text ≡ w ++ 34 ∷ rest → ⊥
  never_closed empty w rest quotable ends is = omega (arith, ap length (same_behind w rest quotable is))

  pub closed_within : (q : ℕ) (rest : List ℕ) → behind ≡ q ∷ rest → ¬ (EndsWord rest) → (w others : List ℕ)
      → IsQuotable w → EndsWord others → text ≡ w ++ 34 ∷ others → ⊥
  closed_within q rest cut within w others quotable ends is =
      let both : q ∷ rest ≡ 34 ∷ others = sym cut ∙ same_behind w others quotable is in
      let same : others ≡ rest = cc in
      within (subst EndsWord same ends)

  pub closed_word : (w : List ℕ) → w ≡ take (position_or_len (λ b. b == 34) text) text
      → (q : ℕ) (rest : List ℕ) → behind ≡ q ∷ rest
      → IsQuotable w × (text ≡ w ++ 34 ∷ rest)
  closed_word w is_w q rest cut =
      let n : ℕ = prefix_len is_quotable_byte text in
      let stops : Stops is_quotable_byte (q ∷ rest) =
      subst (Stops is_quotable_byte) (sym is_behind ∙ cut) (rest_stops is_quotable_byte text) in
      let quote : q ≡ 34 = same_byte q stops in
      let whole : text ≡ w ++ behind =
      sym (take-append-drop n text) ∙ ap (λ xs. xs ++ drop n text) (sym is_w)
      ∙ ap (λ xs. w ++ xs) (sym is_behind) in (
        passes-quotable w (subst (Passes is_quotable_byte) (sym is_w) (front_passes is_quotable_byte text)),
        whole ∙ ap (λ xs. w ++ xs) cut ∙ ap (λ b. w ++ b ∷ rest) quote,
      )

-- a line, cut behind its blanks
module _ (line text : List ℕ) (is_text : text ≡ drop (prefix_len is_blank line) line) where
  parts : line ≡ take (prefix_len is_blank line) line ++ text
  parts = sym (ap (λ xs. take (prefix_len is_blank line) line ++ xs) is_text
      ∙ take-append-drop (prefix_len is_blank line) line)

  pub end-found : EndsLine text → HasNoWord line
  end-found ends = (take (prefix_len is_blank line) line, text, front_passes is_blank line, ends, parts)

  pub spelled-found : (spelling w rest : List ℕ) → Spells spelling w → EndsWord rest → text ≡ spelling ++ rest
      → BeginsWithWord line w rest
  spelled-found spelling w rest spells ends is = (
    take (prefix_len is_blank line) line,
    spelling,
    front_passes is_blank line,
    spells,
    ends,
    parts
        ∙ ap (λ xs. take (prefix_len is_blank line) line ++ xs) is,
  )

  pub plain-found : (first : ℕ) (behind w rest : List ℕ) → text ≡ first ∷ behind → first ≢ 34 → first ≢ 35
      → w ≡ take (position_or_len is_end text) text → rest ≡ drop (position_or_len is_end text) text
      → BeginsWithWord line w rest
  plain-found first behind w rest cut quote comment is_w is_rest =
      let n : ℕ = prefix_len is_plain_byte text in
      let blank : is_blank first ≡ false =
      subst (Stops is_blank) (sym is_text ∙ cut) (rest_stops is_blank line) in
      let plain : is_end first ≡ false = plain_byte first blank comment in
      let begins : w ≡ first ∷ take (prefix_len is_plain_byte behind) behind =
      is_w ∙ ap (λ xs. take (prefix_len is_plain_byte xs) xs) cut
      ∙ take_yes is_plain_byte first behind (ap not plain) in
      let each : AllByRecursion (λ b. is_end b ≡ false) w =
      passes-plain w (subst (Passes is_plain_byte) (sym is_w) (front_passes is_plain_byte text)) in
      let word : IsPlain w =
      subst IsPlain (sym begins) (
        no_quote first quote,
        subst (AllByRecursion (λ b. is_end b ≡ false)) begins each,
      ) in
      let whole : text ≡ w ++ rest =
      sym (take-append-drop n text) ∙ ap (λ xs. xs ++ drop n text) (sym is_w)
      ∙ ap (λ xs. w ++ xs) (sym is_rest) in
      spelled-found w w rest (inl (word, refl)) (subst EndsWord (sym is_rest)
      (stops-EndsWord (drop n text) (rest_stops is_plain_byte text))) whole

  -- nothing that begins with a quote is a comment, and a word there stands between quotes
  pub no_words : (behind : List ℕ) → text ≡ 34 ∷ behind
      → ((w rest : List ℕ) → IsQuotable w → EndsWord rest → behind ≡ w ++ 34 ∷ rest → ⊥)
      → (words : List (List ℕ)) → ¬ IsWords line words
  no_words behind cut unfit [] (blanks, rest, are, ends, is) =
      let same : 34 ∷ behind ≡ rest =
      sym cut ∙ is_text ∙ behind_blanks line blanks rest are (EndsLine-stops rest ends) is in
      let comment : 34 ≡ 35 = subst EndsLine (sym same) ends in
      omega (arith, comment)
  no_words behind cut unfit (w ∷ ws) (rest, begins, others) =
      let same : 34 ∷ behind ≡ begins.1 ++ rest = sym cut ∙ is_text ∙ behind_blanks-word line w rest begins in
      by_spelling begins.1 begins.3 same
    where
      plain : (v : List ℕ) → IsPlain v → 34 ∷ behind ≡ v ++ rest → ⊥
      plain [] is same = is
      plain (b ∷ bs) is same = let quote : 34 ≡ b = cc in
          let wrong : (34 == 34) ≡ false = subst (λ x. (x == 34) ≡ false) (sym quote) is.0 in cc

      by_spelling : (spelling : List ℕ) → Spells spelling w → 34 ∷ behind ≡ spelling ++ rest → ⊥
      by_spelling spelling (inl as_it_is) same = plain w as_it_is.0 (same ∙ ap (λ xs. xs ++ rest) as_it_is.1)
      by_spelling spelling (inr quoted) same =
          let all : 34 ∷ behind ≡ 34 ∷ (w ++ 34 ∷ rest) =
          same ∙ ap (λ xs. xs ++ rest) quoted.1 ∙ behind_quote w rest in
          let inner : behind ≡ w ++ 34 ∷ rest = cc in
          unfit w rest quoted.0 begins.4 inner

  pub quoted-found : (behind : List ℕ) (next : NextWord) → text ≡ 34 ∷ behind → IsQuoted behind next
      → IsNextWord line next
  quoted-found behind Nothing cut is = absurd is
  quoted-found behind (Word w rest) cut is =
      spelled-found (34 ∷ w.now ++ 34 ∷ []) w.now rest.now (inr (is.0, refl)) is.1 (cut
      ∙ ap (λ xs. 34 ∷ xs) is.2 ∙ sym (behind_quote w.now rest.now))
  quoted-found behind Unclosed cut is = no_words behind cut is
