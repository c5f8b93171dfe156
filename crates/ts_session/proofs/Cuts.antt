-- What the tests of field lines and of sections of them say, both ways.
use Rattle.std.proofs.Common.{◌≡◌, ℕ, zero, suc, ◌≤◌, Bool, true, List, [], ◌∷◌, ◌++◌, length, ⊎_elim}
use Rattle.std.proofs.Common.{refl, sym, ap, subst, ◌∙◌, arith, append_assoc}
use Rattle.std.specs.Prelude.{◌&&◌, ◌==◌, All, bytes_eq, flat_map, nat_lt}
use Rattle.std.specs.List.{list_all}
use Rattle.std.proofs.lemmas.Bool.{and_from, and_parts, eqb-true, lt-ltb, ltb-true, or_cases, or_left}
use Rattle.std.proofs.lemmas.Bool.{or_right}
use Rattle.std.proofs.lemmas.List.{append-nil}
use Rattle.std.proofs.lemmas.List.Elements.{All-cons, All-head, All-nil, All-tail}
use Rattle.std.proofs.lemmas.List.Sums.{AllPass-from_list_all, list_all-from_AllPass}
use Rattle.std.proofs.lemmas.Slice.Eq.{bytes_eq-Decides}
use Rattle.httparse.specs.Ascii.{colon, crlf_bytes, line_feed}
use Rattle.httparse.specs.Grammar.{AllPass, Field, IsField, IsToken, LineEnd, crlf, is_token, is_token_byte}
use Rattle.httparse.specs.Grammar.{is_value_byte, lf, print_end, print_field, print_section}
use Rattle.ts_session.specs.Cuts.{cuts, cuts_behind, is_end_with, is_field_with, is_name_end, is_section_with}

-- ---- cuts

-- the bytes are cut in two of which the test is true
pub record HasCut (test : List ℕ → List ℕ → Bool) (bytes : List ℕ) : Type 0 where
  pub first : List ℕ
  pub rest : List ℕ
  pub is : bytes ≡ first ++ rest
  pub passes : test first rest ≡ true

-- the same, where this front stands before the first
record HasCutBehind (test : List ℕ → List ℕ → Bool) (front bytes : List ℕ) : Type 0 where
  first : List ℕ
  rest : List ℕ
  is : bytes ≡ first ++ rest
  passes : test (front ++ first) rest ≡ true

cut_here : (test : List ℕ → List ℕ → Bool) (front bytes : List ℕ) → test front bytes ≡ true
    → HasCutBehind test front bytes
cut_here test front bytes here = record {
  first = [];
  rest = bytes;
  is = refl;
  passes = subst (λ l. test l bytes ≡ true) (sym (append-nil front)) here;
}

cut_behind : (test : List ℕ → List ℕ → Bool) (front bytes : List ℕ) → cuts_behind test front bytes ≡ true
    → HasCutBehind test front bytes
cut_behind test front [] found = cut_here test front [] found
cut_behind test front (b ∷ bytes) found =
    ⊎_elim
    (λ (here : test front (b ∷ bytes) ≡ true). cut_here test front (b ∷ bytes) here)
    (λ (later : cuts_behind test (front ++ b ∷ []) bytes ≡ true).
    let cut = cut_behind test (front ++ b ∷ []) bytes later in
    let whole : HasCutBehind test front (b ∷ bytes) = record {
      first = b ∷ cut.first;
      rest = cut.rest;
      is = ap (λ l. b ∷ l) cut.is;
      passes = subst (λ l. test l cut.rest ≡ true) (append_assoc front (b ∷ []) cut.first) cut.passes;
    } in
    whole)
    (or_cases (test front (b ∷ bytes)) (cuts_behind test (front ++ b ∷ []) bytes) found)

pub cut_found : (test : List ℕ → List ℕ → Bool) (bytes : List ℕ) → cuts test bytes ≡ true → HasCut test bytes
cut_found test bytes found =
    let cut = cut_behind test [] bytes found in
    record { first = cut.first; rest = cut.rest; is = cut.is; passes = cut.passes }

cut_there_behind : (test : List ℕ → List ℕ → Bool) (front first rest : List ℕ)
    → test (front ++ first) rest ≡ true → cuts_behind test front (first ++ rest) ≡ true
cut_there_behind test front [] [] passes = subst (λ l. test l [] ≡ true) (append-nil front) passes
cut_there_behind test front [] (b ∷ rest) passes =
    or_left (test front (b ∷ rest)) (cuts_behind test (front ++ b ∷ []) rest)
    (subst (λ l. test l (b ∷ rest) ≡ true) (append-nil front) passes)
cut_there_behind test front (b ∷ first) rest passes =
    or_right (test front (b ∷ (first ++ rest))) (cuts_behind test (front ++ b ∷ []) (first ++ rest))
    (cut_there_behind test (front ++ b ∷ []) first rest
    (subst (λ l. test l rest ≡ true) (sym (append_assoc front (b ∷ []) first)) passes))

pub cut_there : (test : List ℕ → List ℕ → Bool) (first rest : List ℕ) → test first rest ≡ true
    → cuts test (first ++ rest) ≡ true
cut_there test first rest passes = cut_there_behind test [] first rest passes

pub same_bytes : (a b : List ℕ) → bytes_eq a b ≡ true → a ≡ b
same_bytes a b same = (bytes_eq-Decides a b).0 same

-- ---- a line end

pub record HasEnd (test : LineEnd → Bool) (bytes : List ℕ) : Type 0 where
  pub end : LineEnd
  pub is : bytes ≡ print_end end
  pub passes : test end ≡ true

pub end_found : (test : LineEnd → Bool) (bytes : List ℕ) → is_end_with test bytes ≡ true → HasEnd test bytes
unfolding is_end_with
end_found test bytes found =
    ⊎_elim
    (λ (two : (bytes_eq bytes crlf_bytes && test crlf) ≡ true).
    let parts = and_parts (bytes_eq bytes crlf_bytes) (test crlf) two in
    let e : HasEnd test bytes =
    record { end = crlf; is = same_bytes bytes crlf_bytes parts.0; passes = parts.1 } in e)
    (λ (one : (bytes_eq bytes (line_feed ∷ []) && test lf) ≡ true).
    let parts = and_parts (bytes_eq bytes (line_feed ∷ [])) (test lf) one in
    let e : HasEnd test bytes =
    record { end = lf; is = same_bytes bytes (line_feed ∷ []) parts.0; passes = parts.1 } in e)
    (or_cases (bytes_eq bytes crlf_bytes && test crlf) (bytes_eq bytes (line_feed ∷ []) && test lf) found)

pub end_there : (test : LineEnd → Bool) (end : LineEnd) → test end ≡ true → is_end_with test (print_end end) ≡ true
unfolding is_end_with
end_there test crlf passes =
    or_left (bytes_eq crlf_bytes crlf_bytes && test crlf) (bytes_eq crlf_bytes (line_feed ∷ []) && test lf)
    (and_from (bytes_eq crlf_bytes crlf_bytes) (test crlf) refl passes)
end_there test lf passes =
    or_right (bytes_eq (line_feed ∷ []) crlf_bytes && test crlf)
    (bytes_eq (line_feed ∷ []) (line_feed ∷ []) && test lf)
    (and_from (bytes_eq (line_feed ∷ []) (line_feed ∷ [])) (test lf) refl passes)

-- ---- a field line

record HasNameEnd (test : List ℕ → LineEnd → Bool) (bytes : List ℕ) : Type 0 where
  raw : List ℕ
  good : AllPass is_value_byte raw
  end : LineEnd
  is : bytes ≡ (colon ∷ raw) ++ print_end end
  passes : test raw end ≡ true

abbrev values : (List ℕ → LineEnd → Bool) → List ℕ → List ℕ → Bool
values test raw end = list_all is_value_byte raw && is_end_with (test raw) end

name_end_found : (test : List ℕ → LineEnd → Bool) (bytes : List ℕ) → is_name_end test bytes ≡ true
    → HasNameEnd test bytes
unfolding is_name_end
name_end_found test [] found = absurd (cc)
name_end_found test (b ∷ bytes) found =
    let parts = and_parts (b == colon) (cuts (values test) bytes) found in
    let cut = cut_found (values test) bytes parts.1 in
    let passes = and_parts (list_all is_value_byte cut.first) (is_end_with (test cut.first) cut.rest) cut.passes in
    let e = end_found (test cut.first) cut.rest passes.1 in
    let first = eqb-true b colon parts.0 in
    let behind : bytes ≡ cut.first ++ print_end e.end = cut.is ∙ ap (λ t. cut.first ++ t) e.is in
    record {
      raw = cut.first;
      good = AllPass-from_list_all is_value_byte cut.first passes.0;
      end = e.end;
      is = λ i. first i ∷ behind i;
      passes = e.passes;
    }

name_end_there : (test : List ℕ → LineEnd → Bool) (raw : List ℕ) (end : LineEnd) → AllPass is_value_byte raw
    → test raw end ≡ true → is_name_end test ((colon ∷ raw) ++ print_end end) ≡ true
unfolding is_name_end
name_end_there test raw end good passes =
    and_from (colon == colon) (cuts (values test) (raw ++ print_end end)) refl
    (cut_there (values test) raw (print_end end)
    (and_from (list_all is_value_byte raw) (is_end_with (test raw) (print_end end))
    (list_all-from_AllPass is_value_byte raw good) (end_there (test raw) end passes)))

pub record HasField (test : Field → Bool) (line : List ℕ) : Type 0 where
  pub parsed : Field
  pub good : IsField parsed
  pub is : line ≡ print_field parsed
  pub passes : test parsed ≡ true

abbrev ends_of : (Field → Bool) → List ℕ → List ℕ → LineEnd → Bool
ends_of test name raw last = test (record { name = name; raw = raw; end = last })

abbrev names : (Field → Bool) → List ℕ → List ℕ → Bool
names test name end = is_token name && is_name_end (ends_of test name) end

pub token_found : (name : List ℕ) → is_token name ≡ true → IsToken name
token_found name found =
    let parts = and_parts (nat_lt 0 (length name)) (list_all is_token_byte name) found in
    (ltb-true 0 (length name) parts.0, AllPass-from_list_all is_token_byte name parts.1)

pub token_there : (name : List ℕ) → IsToken name → is_token name ≡ true
token_there name token =
    and_from (nat_lt 0 (length name)) (list_all is_token_byte name) (lt-ltb 0 (length name) token.0)
    (list_all-from_AllPass is_token_byte name token.1)

pub field_found : (test : Field → Bool) (line : List ℕ) → is_field_with test line ≡ true → HasField test line
unfolding is_field_with
field_found test line found =
    let cut = cut_found (names test) line found in
    let parts = and_parts (is_token cut.first) (is_name_end (ends_of test cut.first) cut.rest) cut.passes in
    let e = name_end_found (ends_of test cut.first) cut.rest parts.1 in
    record {
      parsed = record { name = cut.first; raw = e.raw; end = e.end };
      good = record { name = token_found cut.first parts.0; raw = e.good };
      is = cut.is ∙ ap (λ t. cut.first ++ t) e.is
          ∙ sym (append_assoc cut.first (colon ∷ e.raw) (print_end e.end));
      passes = e.passes;
    }

pub field_there : (test : Field → Bool) (f : Field) → IsField f → test f ≡ true
    → is_field_with test (print_field f) ≡ true
unfolding is_field_with
field_there test f good passes =
    subst (λ t. cuts (names test) t ≡ true) (sym (append_assoc f.name (colon ∷ f.raw) (print_end f.end)))
    (cut_there (names test) f.name ((colon ∷ f.raw) ++ print_end f.end)
    (and_from (is_token f.name) (is_name_end (ends_of test f.name) ((colon ∷ f.raw) ++ print_end f.end))
    (token_there f.name good.name) (name_end_there (ends_of test f.name) f.raw f.end good.raw passes)))

-- ---- a section

-- the bytes are a section of so many fields at most, of which the test is true
pub record IsSectionOf (test : List Field → Bool) (most : ℕ) (bytes : List ℕ) : Type 0 where
  pub fields : List Field
  pub good : All IsField fields
  pub last : LineEnd
  pub is : bytes ≡ print_section fields last
  pub few : length fields ≤ most
  pub passes : test fields ≡ true

abbrev goes_behind : (List Field → Bool) → Field → List Field → Bool
goes_behind test f fields = test (f ∷ fields)

abbrev sections : (List Field → Bool) → ℕ → List ℕ → List ℕ → Bool
sections test most line rest = is_field_with (λ f. is_section_with (goes_behind test f) most rest) line

no_fields : (test : List Field → Bool) (most : ℕ) (bytes : List ℕ) → is_end_with (λ last. test []) bytes ≡ true
    → IsSectionOf test most bytes
no_fields test most bytes found =
    let e = end_found (λ last. test []) bytes found in
    record {
      fields = [];
      good = All-nil IsField;
      last = e.end;
      is = e.is;
      few = omega arith;
      passes = e.passes;
    }

one_more : (test : List Field → Bool) (most : ℕ) (bytes line rest : List ℕ) → bytes ≡ line ++ rest
    → (f : HasField (λ f. is_section_with (goes_behind test f) most rest) line)
    → IsSectionOf (goes_behind test f.parsed) most rest → IsSectionOf test (suc most) bytes
one_more test most bytes line rest is f s = record {
  fields = f.parsed ∷ s.fields;
  good = All-cons IsField f.parsed s.fields f.good s.good;
  last = s.last;
  is = is ∙ (λ i. f.is i ++ s.is i)
      ∙ sym (append_assoc (print_field f.parsed) (flat_map print_field s.fields) (print_end s.last));
  few = omega (arith, s.few);
  passes = s.passes;
}

pub section_found : (test : List Field → Bool) (most : ℕ) (bytes : List ℕ) → is_section_with test most bytes ≡ true
    → IsSectionOf test most bytes
unfolding is_section_with
section_found test zero bytes found = no_fields test zero bytes found
section_found test (suc most) bytes found =
    ⊎_elim
    (λ (none : is_end_with (λ last. test []) bytes ≡ true). no_fields test (suc most) bytes none)
    (λ (some : cuts (sections test most) bytes ≡ true).
    let cut = cut_found (sections test most) bytes some in
    let f = field_found (λ f. is_section_with (goes_behind test f) most cut.rest) cut.first cut.passes in
    one_more test most bytes cut.first cut.rest cut.is f
    (section_found (goes_behind test f.parsed) most cut.rest f.passes))
    (or_cases (is_end_with (λ last. test []) bytes) (cuts (sections test most) bytes) found)

pub section_there : (test : List Field → Bool) (most : ℕ) (fields : List Field) (last : LineEnd) → All IsField fields
    → length fields ≤ most → test fields ≡ true → is_section_with test most (print_section fields last) ≡ true
unfolding is_section_with
section_there test zero [] last good few passes = end_there (λ last. test []) last passes
section_there test zero (f ∷ fields) last good few passes = absurd (omega (arith, few))
section_there test (suc most) [] last good few passes =
    or_left (is_end_with (λ last. test []) (print_end last)) (cuts (sections test most) (print_end last))
    (end_there (λ last. test []) last passes)
section_there test (suc most) (f ∷ fields) last good few passes =
    let behind : List ℕ = print_section fields last in
    let is : print_field f ++ behind ≡ print_section (f ∷ fields) last =
    sym (append_assoc (print_field f) (flat_map print_field fields) (print_end last)) in
    or_right (is_end_with (λ last. test []) (print_section (f ∷ fields) last))
    (cuts (sections test most) (print_section (f ∷ fields) last))
    (subst (λ t. cuts (sections test most) t ≡ true) is
    (cut_there (sections test most) (print_field f) behind
    (field_there (λ f. is_section_with (goes_behind test f) most behind) f (All-head IsField f fields good)
    (section_there (goes_behind test f) most fields last (All-tail IsField f fields good) (omega (arith, few))
    passes))))
