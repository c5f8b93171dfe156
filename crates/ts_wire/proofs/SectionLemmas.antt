-- A trailer section of so many fields has one line feed more, and ends with it.
use Rattle.std.proofs.Common.{◌≡◌, ℕ, ◌+◌, ◌-◌, ◌<◌, ◌≤◌, ◌⊎◌, Bool, true, false, cond, eqb, List, [], ◌∷◌, ◌++◌, length, take, drop, refl, sym, ap, ◌∙◌, ⊎_elim, arith, append_assoc, length-append}
use Rattle.std.specs.Prelude.{All, flat_map, IsTrue}
use Rattle.std.proofs.lemmas.List.Elements.{All-head, All-tail}
use Rattle.std.proofs.lemmas.List.Sums.{sum_by-cons}
use Rattle.std.proofs.lemmas.Bool.{cases_eq, cases_lt, ne_eqb}
use Rattle.ts_lists.proofs.Fronts.{front_ends_in, front_was_there}
use Rattle.httparse.specs.Grammar.{is_token_byte, is_value_byte, AllPass, LineEnd, crlf, lf, print_end, Field, IsField, print_field, print_section}
use Rattle.ts_wire.specs.Limits.{trailer_limit, trailer_lines}
use Rattle.ts_wire.specs.Body.{line_feeds, LacksTrailer}
use Rattle.ts_wire.proofs.TrailerLemmas.{line_feeds-append, end_has_one}

-- bytes of a class without line feeds have none
no_line_feeds : (test : ℕ → Bool) → test 10 ≡ false → (xs : List ℕ) → AllPass test xs → line_feeds xs ≡ 0
no_line_feeds test none [] pass = refl
no_line_feeds test none (b ∷ bs) pass =
    let here = All-head (λ x. IsTrue (test x)) b bs pass in
    let later = no_line_feeds test none bs (All-tail (λ x. IsTrue (test x)) b bs pass) in
    ⊎_elim
    (λ (same : b ≡ 10). absurd (let e : true ≡ false = sym here ∙ ap test same ∙ none in cc))
    (λ (other : (b ≡ 10) → ⊥). let tail : 0 + line_feeds bs ≡ 0 = omega (arith, later) in
    sum_by-cons (λ x. cond (eqb x 10) 1 0) b bs ∙ ap (λ t. cond t 1 0 + line_feeds bs) (ne_eqb b 10 other)
    ∙ tail)
    (cases_eq b 10)

token_no_line_feed : is_token_byte 10 ≡ false
unfolding is_token_byte
token_no_line_feed = refl

field_line_feeds : (f : Field) → IsField f → line_feeds (print_field f) ≡ 1
field_line_feeds f good =
    let name = no_line_feeds is_token_byte token_no_line_feed f.name good.name.1 in
    let raw = no_line_feeds is_value_byte refl f.raw good.raw in
    let ends = line_feeds-append (f.name ++ 58 ∷ f.raw) (print_end f.end) in
    let start = line_feeds-append f.name (58 ∷ f.raw) in
    omega (arith, name, raw, ends, start, end_has_one f.end)

fields_line_feeds : (fields : List Field) → All IsField fields
    → line_feeds (flat_map print_field fields) ≡ length fields
fields_line_feeds [] good = refl
fields_line_feeds (f ∷ fs) good =
    omega (
      arith,
      line_feeds-append (print_field f) (flat_map print_field fs),
      field_line_feeds f (All-head IsField f fs good),
      fields_line_feeds fs (All-tail IsField f fs good),
    )

-- the section before its last byte, which is a line feed
section_front : (fields : List Field) (last : LineEnd) → All IsField fields
    → (front : List ℕ) × (print_section fields last ≡ front ++ 10 ∷ []) × (line_feeds front ≡ length fields)
section_front fields lf good = (flat_map print_field fields, refl, fields_line_feeds fields good)
section_front fields crlf good =
    let section = flat_map print_field fields in (
      section ++ 13 ∷ [],
      sym (append_assoc section (13 ∷ []) (10 ∷ [])),
      line_feeds-append section (13 ∷ [])
          ∙ omega (arith, fields_line_feeds fields good),
    )

-- a text that is as long as a trailer section may be, and is none, stays so whatever follows
pub lacks_more : (text rest : List ℕ) → (trailer_lines ≤ line_feeds text) ⊎ (trailer_limit ≤ length text)
    → LacksTrailer text → LacksTrailer (text ++ rest)
lacks_more text rest full lacks fields last after reads few short =
    let p = print_section fields last in
    ⊎_elim
    (λ (longer : length text < length p). ⊎_elim
    (λ (lines : trailer_lines ≤ line_feeds text).
    let front = section_front fields last reads.0 in
    let split : front.0 ++ 10 ∷ [] ≡ text ++ take (length p - length text) rest =
    sym front.1 ∙ front_ends_in text rest p after reads.1 (omega (arith, longer)) in
    let inside : front.0 ≡ text ++ drop (length text) front.0 =
    front_was_there front.0 (10 ∷ []) text _ split (omega (
      arith,
      ap length front.1,
      length-append front.0 (10 ∷ []),
    )) in
    absurd (omega (
      arith,
      ap line_feeds inside,
      line_feeds-append text (drop (length text) front.0),
      front.2,
      few,
      lines,
    )))
    (λ (bytes : trailer_limit ≤ length text). absurd (omega (arith, bytes, longer, short)))
    full)
    (λ (within : length p ≤ length text). lacks fields last (drop (length p) text) (
      reads.0,
      front_was_there text rest p after reads.1 within,
    ) few short)
    (cases_lt (length text) (length p))
