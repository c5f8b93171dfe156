-- The only empty line of a head that is printed is the one that ends it (RFC 9112, section 2.1).
use Rattle.std.proofs.Common.{◌≡◌, ◌≢◌, ◌⊎◌, ⊎_elim, ℕ, zero, suc, ◌+◌, ◌<◌, List, [], ◌∷◌, ◌++◌}
use Rattle.std.proofs.Common.{All, Bool, false, take, drop, get_or, length, inl, inr, refl, sym, ap, subst}
use Rattle.std.proofs.Common.{◌∙◌, arith, append_assoc, length-append}
use Rattle.std.specs.Prelude.{IsTrue}
use Rattle.std.proofs.lemmas.List.{length-take, length-drop}
use Rattle.std.proofs.lemmas.List.Elements.{All-append, All-cons, All-head, All-tail, All-weaker}
use Rattle.std.specs.List.{flat_map}
use Rattle.httparse.specs.Ascii.{colon, crlf_bytes}
use Rattle.httparse.specs.Grammar as grammar
use Rattle.httparse.specs.Grammar.{IsField, crlf, is_token_byte, is_value_byte, print_end, print_field, print_section}
use Rattle.memchr.proofs.lemmas.MatchLemmas.{OccursAt-part}
use Rattle.ts_wire.specs.Blank.{EndsBlank, blank_end}

-- ---- line by line

abbrev CR : ℕ
CR = 13

-- the byte is no carriage return
abbrev pub IsOtherByte : ℕ → Type 0
IsOtherByte b = b ≢ CR

-- none of these is one
abbrev pub NoReturn : List ℕ → Type 0
NoReturn = All IsOtherByte

-- an empty line behind another line ends the text, wherever it stands
abbrev pub BlankLast : List ℕ → Type 0
BlankLast text = (place : ℕ) → take 4 (drop place text) ≡ blank_end → place + 4 ≡ length text

-- the text begins with a line that is not empty, or is one empty line
abbrev pub BeginsLine : List ℕ → Type 0
BeginsLine [] = ⊥
BeginsLine (b ∷ bytes) = IsOtherByte b ⊎ (b ∷ bytes ≡ crlf_bytes)

-- some lines of which the last alone is empty
pub record AreLines (text : List ℕ) : Type 0 where
  pub blank : BlankLast text
  pub begins : BeginsLine text
  pub ends : (text ≡ crlf_bytes) ⊎ ((front : List ℕ) × (text ≡ front ++ blank_end))

-- the empty line alone
last_line : AreLines crlf_bytes
last_line = record {
  blank = λ place is.
      let whole = ap length is in
      let most = length-take 4 (drop place crlf_bytes) in
      let left = length-drop place crlf_bytes in
      absurd (omega (arith, whole, most, left));
  begins = inr refl;
  ends = inl refl;
}

-- no empty line begins at a byte of a line
other_byte : (b : ℕ) (text : List ℕ) → IsOtherByte b → BlankLast text → BlankLast (b ∷ text)
other_byte b text other last zero is = absurd (other (ap (λ l. get_or l 0 0) is))
other_byte b text other last (suc place) is = let on = last place is in omega (arith, on)

other_bytes : (bytes text : List ℕ) → NoReturn bytes → BlankLast text → BlankLast (bytes ++ text)
other_bytes [] text none last = last
other_bytes (b ∷ bytes) text none last =
    other_byte b (bytes ++ text) (All-head IsOtherByte b bytes none)
    (other_bytes bytes text (All-tail IsOtherByte b bytes none) last)

-- nor at the end of a line, unless the empty line that is last stands behind it
line_end : (text : List ℕ) → BeginsLine text → BlankLast text → BlankLast (crlf_bytes ++ text)
line_end [] begins last place is = absurd begins
line_end (b ∷ bytes) begins last zero is =
    ⊎_elim
    (λ (other : IsOtherByte b). absurd (other (ap (λ l. get_or l 2 0) is)))
    (λ (one : b ∷ bytes ≡ crlf_bytes). let long = ap length one in omega (arith, long))
    begins
line_end (b ∷ bytes) begins last (suc place) is =
    let on = other_byte 10 (b ∷ bytes) (λ wrong. absurd (omega (arith, wrong))) last place is in
    omega (arith, on)

-- a line that is not empty begins one
begins_line : (line text : List ℕ) → 0 < length line → NoReturn line → BeginsLine (line ++ text)
begins_line [] text some none = absurd (omega (arith, some))
begins_line (b ∷ bytes) text some none = inl (All-head IsOtherByte b bytes none)

-- a line in front of lines ends with the empty line that they end with
ends_blank : (line text : List ℕ) → AreLines text
    → (front : List ℕ) × (line ++ (crlf_bytes ++ text) ≡ front ++ blank_end)
ends_blank line text lines =
    ⊎_elim
    (λ (one : text ≡ crlf_bytes). (line, ap (λ l. line ++ (crlf_bytes ++ l)) one))
    (λ (more : (front : List ℕ) × (text ≡ front ++ blank_end)). (
      line ++ (crlf_bytes ++ more.0),
      ap (λ l. line ++ (crlf_bytes ++ l)) more.1 ∙ sym (append_assoc line (crlf_bytes ++ more.0) blank_end),
    ))
    lines.ends

-- and they are lines
one_more : (line text : List ℕ) → 0 < length line → NoReturn line → AreLines text
    → AreLines (line ++ (crlf_bytes ++ text))
one_more line text some none lines = record {
  blank = other_bytes line (crlf_bytes ++ text) none (line_end text lines.begins lines.blank);
  begins = begins_line line (crlf_bytes ++ text) some none;
  ends = inr (ends_blank line text lines);
}

-- ---- the lines of a head

-- bytes that pass a test which a carriage return fails
pub pass_other : (test : ℕ → Bool) (bytes : List ℕ) → test CR ≡ false → All (λ b. IsTrue (test b)) bytes
    → NoReturn bytes
pass_other test bytes fails pass = All-weaker (λ b. IsTrue (test b)) IsOtherByte other bytes pass
  where
    other : (b : ℕ) → IsTrue (test b) → IsOtherByte b
    other b passes is = let wrong : IsTrue (test CR) = subst (λ x. IsTrue (test x)) is passes in absurd (cc)

pub token_other : (bytes : List ℕ) → All (λ b. IsTrue (is_token_byte b)) bytes → NoReturn bytes
unfolding is_token_byte
token_other bytes pass = pass_other is_token_byte bytes refl pass

-- a field line, without its end
abbrev field_line : grammar.Field → List ℕ
field_line f = f.name ++ (colon ∷ f.raw)

-- in it stands no carriage return
field_other : (f : grammar.Field) → IsField f → NoReturn (field_line f)
field_other f good =
    All-append IsOtherByte f.name (colon ∷ f.raw) (token_other f.name good.name.1)
    (All-cons IsOtherByte colon f.raw (λ wrong. absurd (omega (arith, wrong)))
    (pass_other is_value_byte f.raw refl good.raw))

-- fields are printed as the line of the first, its end and the others
section_is : (f : grammar.Field) (fs : List grammar.Field) → f.end ≡ crlf
    → print_section (f ∷ fs) crlf ≡ field_line f ++ (crlf_bytes ++ print_section fs crlf)
section_is f fs ends =
    let others = flat_map print_field fs in
    ap (λ e. ((field_line f ++ print_end e) ++ others) ++ crlf_bytes) ends
    ∙ append_assoc (field_line f ++ crlf_bytes) others crlf_bytes
    ∙ append_assoc (field_line f) crlf_bytes (others ++ crlf_bytes)

-- so they are lines
section_lines : (fields : List grammar.Field) → All IsField fields → All (λ f. f.end ≡ crlf) fields
    → AreLines (print_section fields crlf)
section_lines [] good ends = last_line
section_lines (f ∷ fs) good ends =
    let here = All-head IsField f fs good in
    let some : 0 < length (field_line f) = let long = length-append f.name (colon ∷ f.raw)
    in omega (arith, long, here.name.0) in
    subst AreLines (sym (section_is f fs (All-head (λ g. g.end ≡ crlf) f fs ends)))
    (one_more (field_line f) (print_section fs crlf) some (field_other f here)
    (section_lines fs (All-tail IsField f fs good) (All-tail (λ g. g.end ≡ crlf) f fs ends)))

-- a start line, its end and the section of a head end with their only empty line
pub head_ends : (start text : List ℕ) (fields : List grammar.Field) → 0 < length start → NoReturn start
    → All IsField fields → All (λ f. f.end ≡ crlf) fields
    → text ≡ start ++ (crlf_bytes ++ print_section fields crlf) → EndsBlank text
head_ends start text fields some none good ends is =
    let section = section_lines fields good ends in
    let lines = one_more start (print_section fields crlf) some none section in
    let blank = ends_blank start (print_section fields crlf) section in
    subst EndsBlank (sym is) (record {
      front = blank.0;
      text_is = blank.1;
      once = λ place occurs.
          let at = lines.blank place (OccursAt-part (start ++ (crlf_bytes ++ print_section fields crlf)) blank_end
          place occurs) in
          let long = ap length blank.1 ∙ length-append blank.0 blank_end in
          omega (arith, at, long);
    })
