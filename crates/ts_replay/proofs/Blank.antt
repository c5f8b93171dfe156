-- The head in front of some bytes ends with the first empty line in them (RFC 9112, section 2.1).
use Rattle.std.proofs.Common.{◌≡◌, Some, ⊎_elim, ℕ, ◌+◌, ◌<◌, ◌≤◌, List, ◌++◌, take, drop, length, refl}
use Rattle.std.proofs.Common.{sym, ap, ◌∙◌}
use Rattle.std.proofs.Common.{arith, append_assoc, length-append}
use Rattle.std.proofs.lemmas.Bool.{cases_lt}
use Rattle.std.proofs.lemmas.List.{length-drop, take_at, drop_at, take-append-le, drop-append-le}
use Rattle.memchr.specs.Find.{IsFirst, Nowhere, OccursAt}
use Rattle.memchr.proofs.lemmas.MatchLemmas.{OccursAt-part, OccursAt-from_part}
use Rattle.ts_wire.specs.Blank.{EndsBlank, blank_end}

module _ (bytes head behind : List ℕ) (is : bytes ≡ head ++ behind) (h : EndsBlank head) where
  -- how long the head is
  head_length : length head ≡ length h.front + 4
  head_length = ap length h.text_is ∙ length-append h.front blank_end

  -- its empty line stands in the bytes
  occurs_there : OccursAt bytes blank_end (length h.front)
  occurs_there =
      let split : bytes ≡ h.front ++ (blank_end ++ behind) = is ∙ ap (λ l. l ++ behind) h.text_is ∙
      append_assoc h.front blank_end behind in
      let long = ap length is ∙ length-append head behind in
      OccursAt-from_part bytes blank_end (length h.front) (omega (arith, long, head_length))
      (ap (λ l. take 4 (drop (length h.front) l)) split
      ∙ ap (take 4) (drop_at h.front (blank_end ++ behind) (length h.front) refl)
      ∙ take_at blank_end behind 4 refl)

  -- the place of the first empty line
  only_place : (place : ℕ) → IsFirst (OccursAt bytes blank_end) 0 (length bytes + 1) (Some place)
      → place ≡ length h.front
  only_place place first =
      let low : place ≤ length h.front =
      ⊎_elim
      (λ (before : length h.front < place). absurd (first.0.before (length h.front) (omega arith) before
      occurs_there))
      (λ (up : place ≤ length h.front). up)
      (cases_lt (length h.front) place) in
      let within : place ≤ length head = omega (arith, low, head_length) in
      let room : 4 ≤ length (drop place head) = let left = length-drop place head
      in omega (arith, left, low, head_length) in
      h.once place (OccursAt-from_part head blank_end place (omega (arith, low, head_length))
      (sym (take-append-le 4 (drop place head) behind room)
      ∙ ap (take 4) (sym (drop-append-le place head behind within))
      ∙ ap (λ l. take 4 (drop place l)) (sym is)
      ∙ OccursAt-part bytes blank_end place first.1))

  -- the head stands up to its end
  pub head_up_to : (place : ℕ) → IsFirst (OccursAt bytes blank_end) 0 (length bytes + 1) (Some place)
      → take (place + 4) bytes ≡ head
  head_up_to place first =
      let at = only_place place first in
      ap (take (place + 4)) is ∙ take_at head behind (place + 4) (omega (arith, at, head_length))

  -- and behind it stands the rest
  pub rest_from : (place : ℕ) → IsFirst (OccursAt bytes blank_end) 0 (length bytes + 1) (Some place)
      → drop (place + 4) bytes ≡ behind
  rest_from place first =
      let at = only_place place first in
      ap (drop (place + 4)) is ∙ drop_at head behind (place + 4) (omega (arith, at, head_length))

  -- there is one
  pub some_blank : Nowhere (OccursAt bytes blank_end) 0 (length bytes + 1) → ⊥
  some_blank none = none (length h.front) (omega arith) (let fits = occurs_there.fits in omega (arith, fits))
      occurs_there
