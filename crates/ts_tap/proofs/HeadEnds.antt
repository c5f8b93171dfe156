-- A head that is read line by line: it ends where a line ends it with an empty one (RFC 9112, section 2.1).
use Rattle.std.proofs.Common.{◌≡◌, ℕ, ◌+◌, ◌-◌, ◌<◌, ◌≤◌, true, false, List, [], ◌++◌, length, take, drop}
use Rattle.std.proofs.Common.{get_or, inl, inr, ⊎_elim, refl, sym, ap, ◌∙◌, arith, length-append}
use Rattle.std.proofs.Common.{take-append-drop}
use Rattle.std.specs.Prelude.{◌⊎◌, nat_lt}
use Rattle.std.proofs.lemmas.Bool.{cases_Bool, ltb-true, ltb-false}
use Rattle.std.proofs.lemmas.List.{get_or_append_left, get_or-append_right, drop_all}
use Rattle.memchr.specs.Find.{OccursAt}
use Rattle.memchr.proofs.lemmas.MatchLemmas.{OccursAt-split}
use Rattle.ts_link.specs.Texts.{line_feed}
use Rattle.ts_wire.specs.Blank.{EndsBlank, LacksBlank, blank_end}
use Rattle.ts_tap.specs.Sending.{IsOneLine}
use Rattle.ts_tap.specs.SentBody.{EndsWith}

-- one number is at most another, or greater
pub le_or_lt : (m n : ℕ) → (m ≤ n) ⊎ (n < m)
le_or_lt m n =
    ⊎_elim (λ (less : nat_lt n m ≡ true). inr (ltb-true n m less))
    (λ (more : nat_lt n m ≡ false). inl (ltb-false n m more)) (cases_Bool (nat_lt n m))

-- what stands within the front of a text stands in the front
pub occurs_in_front : (front rest needle : List ℕ) (place : ℕ) → place + length needle ≤ length front
    → OccursAt (front ++ rest) needle place → OccursAt front needle place
occurs_in_front front rest needle place within occurs = record {
  fits = within;
  reads = λ j low. sym (get_or_append_left front rest 0 (place + j) (omega (arith, low, within)))
      ∙ occurs.reads j low;
}

-- and what stands in the front of a text stands in the text
pub occurs_with_rest : (front rest needle : List ℕ) (place : ℕ) → OccursAt front needle place
    → OccursAt (front ++ rest) needle place
occurs_with_rest front rest needle place occurs = record {
  fits = omega (arith, occurs.fits, length-append front rest);
  reads = λ j low. get_or_append_left front rest 0 (place + j) (omega (arith, low, occurs.fits))
      ∙ occurs.reads j low;
}

-- what a text ends with stands in it
pub occurs_last : (front needle : List ℕ) → OccursAt (front ++ needle) needle (length front)
occurs_last front needle = record {
  fits = omega (arith, length-append front needle);
  reads = λ j low.
      let same : length front + j - length front ≡ j = omega arith in
      get_or-append_right front needle (length front) (length front + j) 0 refl (omega arith)
      ∙ ap (λ k. get_or needle k 0) same;
}

module _ (told line : List ℕ) (lacks : LacksBlank told) (one : IsOneLine line) where
  -- an empty line that ends beyond the text ends with the line, whose last byte is a line feed
  ends_line : (place : ℕ) → OccursAt (told ++ line) blank_end place → length told < place + length blank_end
      → place + length blank_end ≡ length (told ++ line)
  ends_line place occurs beyond =
      let k = place + 3 - length told in
      let fits = occurs.fits in
      let sums = length-append told line in
      let feed : get_or line k 0 ≡ line_feed =
      sym (get_or-append_right told line (length told) (place + 3) 0 refl (omega (arith, beyond)))
      ∙ occurs.reads 3 (omega arith) in
      ⊎_elim
      (λ (high : length line ≤ k + 1). omega (arith, fits, sums, high, beyond))
      (λ (low : k + 1 < length line). absurd (one k low feed))
      (le_or_lt (length line) (k + 1))

  -- so each ends there
  last_place : (place : ℕ) → OccursAt (told ++ line) blank_end place
      → place + length blank_end ≡ length (told ++ line)
  last_place place occurs =
      ⊎_elim
      (λ (within : place + length blank_end ≤ length told). absurd (lacks place
      (occurs_in_front told line blank_end place within occurs)))
      (λ (beyond : length told < place + length blank_end). ends_line place occurs beyond)
      (le_or_lt (place + length blank_end) (length told))

  -- a head that ends so has its only empty line there
  pub line_ends : EndsWith (told ++ line) blank_end → EndsBlank (told ++ line)
  line_ends (front, is) = record {
    front = front;
    text_is = is;
    once = λ place occurs.
        let last = last_place place occurs in
        let long : length (told ++ line) ≡ length front + length blank_end =
        ap length is ∙ length-append front blank_end in
        omega (arith, last, long);
  }

  -- and one that does not has none yet
  pub line_lacks : (EndsWith (told ++ line) blank_end → ⊥) → LacksBlank (told ++ line)
  line_lacks open_ended place occurs =
      let text = told ++ line in
      let last = last_place place occurs in
      let none : drop (place + length blank_end) text ≡ [] =
      drop_all (place + length blank_end) text (omega (arith, last)) in
      open_ended (
        take place text,
        sym (take-append-drop place text)
            ∙ ap (λ l. take place text ++ l) (OccursAt-split text blank_end place occurs
            ∙ ap (λ l. blank_end ++ l) none),
      )
