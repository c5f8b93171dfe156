-- The head that a text begins with, found by its first empty line (RFC 9112, section 2.1).
use Rattle.std.proofs.Common.{◌≡◌, ℕ, ◌+◌, ◌<◌, ◌≤◌, ◌++◌, List, take, drop, length, Some, sym, ap, ◌∙◌}
use Rattle.std.proofs.Common.{⊎_elim, arith}
use Rattle.std.proofs.lemmas.Bool.{cases_lt}
use Rattle.std.proofs.lemmas.List.{length-drop, length-take-le, take-append-drop, take-append-le}
use Rattle.std.proofs.lemmas.List.{drop-append-le}
use Rattle.std.proofs.Math.Seq.{take-add}
use Rattle.memchr.specs.Find.{IsFirst, Nowhere, OccursAt}
use Rattle.memchr.proofs.lemmas.MatchLemmas.{OccursAt-part, OccursAt-from_part}
use Rattle.ts_wire.specs.Blank.{LacksBlank, blank_end}
use Rattle.ts_intercept.specs.Deciding.{HasHead}

module _ (text : List ℕ) (place : ℕ) (first : IsFirst (OccursAt text blank_end) 0 (length text + 1) (Some
    place)) where
  within : place + 4 ≤ length text
  within = let fits = first.1.fits in omega (arith, fits)

  -- an empty line in the head is one in the text
  there : (at : ℕ) → OccursAt (take (place + 4) text) blank_end at → OccursAt text blank_end at
  there at occurs =
      let head : List ℕ = take (place + 4) text in
      let rest : List ℕ = drop (place + 4) text in
      let fits : at + 4 ≤ length head = let most = occurs.fits in omega (arith, most) in
      let long : length head ≡ place + 4 = length-take-le (place + 4) text within in
      let room : 4 ≤ length (drop at head) = omega (arith, length-drop at head, fits) in
      OccursAt-from_part text blank_end at (omega (arith, fits, long, within))
      (ap (λ l. take 4 (drop at l)) (sym (take-append-drop (place + 4) text))
      ∙ ap (take 4) (drop-append-le at head rest (omega (arith, fits)))
      ∙ take-append-le 4 (drop at head) rest room
      ∙ OccursAt-part head blank_end at occurs)

  -- the text up to the end of its first empty line is a whole head
  pub head_found : HasHead text (take (place + 4) text)
  head_found = record {
    rest = drop (place + 4) text;
    text_is = sym (take-append-drop (place + 4) text);
    ends = record {
      front = take place text;
      text_is = take-add place 4 text ∙ ap (λ l. take place text ++ l)
          (OccursAt-part text blank_end place first.1);
      once = λ at occurs.
          let front : length (take place text) ≡ place = length-take-le place text (omega (arith, within)) in
          let long : length (take (place + 4) text) ≡ place + 4 = length-take-le (place + 4) text within in
          let most : at ≤ place = let fits = occurs.fits in omega (arith, fits, long) in
          let least : place ≤ at =
          ⊎_elim
          (λ (before : at < place). absurd (first.0.before at (omega arith) before (there at occurs)))
          (λ (up : place ≤ at). up)
          (cases_lt at place) in
          omega (arith, front, most, least);
    };
  }

-- a text in which none is found has none
pub lacks_blank : (text : List ℕ) → Nowhere (OccursAt text blank_end) 0 (length text + 1) → LacksBlank text
lacks_blank text none = λ place occurs.
    none place (omega arith) (let fits = occurs.fits in omega (arith, fits)) occurs
