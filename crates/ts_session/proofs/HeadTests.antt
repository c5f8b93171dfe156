-- What the tests of a request's head say, both ways.
use Rattle.std.proofs.Common.{◌≡◌, ℕ, zero, suc, ◌≤◌, ◌<◌, Bool, true, List, [], ◌∷◌, ◌++◌, length, ⊎_elim}
use Rattle.std.proofs.Common.{refl, sym, ap, subst, ◌∙◌, append_assoc, arith, length-append}
use Rattle.std.specs.Prelude.{◌&&◌, ◌==◌, IsUtf8, bytes_eq, nat_lt}
use Rattle.std.specs.List.{list_all}
use Rattle.std.specs.Str.{is_utf8}
use Rattle.std.proofs.lemmas.Bool.{and_from, and_parts, eqb-true, lt-ltb, ltb-true, or_cases, or_left}
use Rattle.std.proofs.lemmas.Bool.{or_right}
use Rattle.std.proofs.lemmas.List.Sums.{AllPass-from_list_all, list_all-from_AllPass}
use Rattle.std.proofs.lemmas.Slice.Eq.{bytes_eq-Decides}
use Rattle.std.proofs.lemmas.Str.{IsUtf8-from_is_utf8, is_utf8-from_IsUtf8}
use Rattle.httparse.specs.Ascii.{space}
use Rattle.httparse.specs.Grammar.{AllPass, Field, IsRequestHead, IsToken, LineEnd, RequestHead, crlf}
use Rattle.httparse.specs.Grammar.{is_token}
use Rattle.httparse.specs.Grammar.{is_uri_byte, lf, print_blank, print_end, print_request, print_section}
use Rattle.httparse.specs.Grammar.{print_version}
use Rattle.ts_wire.specs.Limits.{field_limit}
use Rattle.ts_session.specs.Cuts.{cuts, is_end_with, is_section_with}
use Rattle.ts_session.specs.FirstRequest.{are_blank, are_fields_with, is_head_with, is_method_end}
use Rattle.ts_session.specs.FirstRequest.{is_start_with}
use Rattle.ts_session.specs.FirstRequest.{is_target, is_target_end, is_version_with}
use Rattle.ts_session.proofs.Cuts.{IsSectionOf, cut_found, cut_there, end_found, end_there, same_bytes}
use Rattle.ts_session.proofs.Cuts.{section_found, section_there, token_found, token_there}

-- ---- the empty lines ahead

record HasBlank (bytes : List ℕ) : Type 0 where
  ends : List LineEnd
  is : bytes ≡ print_blank ends

abbrev any_end : LineEnd → Bool
any_end end = true

abbrev blanks : ℕ → List ℕ → List ℕ → Bool
blanks most line rest = is_end_with any_end line && are_blank most rest

blank_found : (most : ℕ) (bytes : List ℕ) → are_blank most bytes ≡ true → HasBlank bytes
unfolding are_blank
blank_found zero bytes found = record { ends = []; is = same_bytes bytes [] found }
blank_found (suc most) bytes found =
    ⊎_elim
    (λ (none : bytes_eq bytes [] ≡ true).
    let b : HasBlank bytes = record { ends = []; is = same_bytes bytes [] none } in b)
    (λ (some : cuts (blanks most) bytes ≡ true).
    let cut = cut_found (blanks most) bytes some in
    let parts = and_parts (is_end_with any_end cut.first) (are_blank most cut.rest) cut.passes in
    let e = end_found any_end cut.first parts.0 in
    let b = blank_found most cut.rest parts.1 in
    let more : HasBlank bytes =
    record { ends = e.end ∷ b.ends; is = cut.is ∙ (λ i. e.is i ++ b.is i) } in more)
    (or_cases (bytes_eq bytes []) (cuts (blanks most) bytes) found)

blank_there : (most : ℕ) (ends : List LineEnd) → length ends ≤ most → are_blank most (print_blank ends) ≡ true
unfolding are_blank
blank_there zero [] few = refl
blank_there zero (e ∷ ends) few = absurd (omega (arith, few))
blank_there (suc most) [] few = refl
blank_there (suc most) (e ∷ ends) few =
    or_right (bytes_eq (print_blank (e ∷ ends)) []) (cuts (blanks most) (print_blank (e ∷ ends)))
    (cut_there (blanks most) (print_end e) (print_blank ends)
    (and_from (is_end_with any_end (print_end e)) (are_blank most (print_blank ends)) (end_there any_end e refl)
    (blank_there most ends (omega (arith, few)))))

end_some : (e : LineEnd) → 0 < length (print_end e)
end_some crlf = omega arith
end_some lf = omega arith

blank_count : (ends : List LineEnd) → length ends ≤ length (print_blank ends)
blank_count [] = omega arith
blank_count (e ∷ ends) =
    omega (arith, blank_count ends, end_some e, length-append (print_end e) (print_blank ends))

-- ---- the version, the end of its line, and the field lines

record HasVersion (test : ℕ → Bool) (bytes : List ℕ) : Type 0 where
  minor : ℕ
  low : minor ≤ 1
  is : bytes ≡ print_version minor
  passes : test minor ≡ true

version_found : (test : ℕ → Bool) (bytes : List ℕ) → is_version_with test bytes ≡ true → HasVersion test bytes
unfolding is_version_with
version_found test bytes found =
    ⊎_elim
    (λ (old : (bytes_eq bytes (print_version 0) && test 0) ≡ true).
    let parts = and_parts (bytes_eq bytes (print_version 0)) (test 0) old in
    let v : HasVersion test bytes = record {
      minor = 0;
      low = omega arith;
      is = same_bytes bytes (print_version 0) parts.0;
      passes = parts.1;
    } in v)
    (λ (new : (bytes_eq bytes (print_version 1) && test 1) ≡ true).
    let parts = and_parts (bytes_eq bytes (print_version 1)) (test 1) new in
    let v : HasVersion test bytes = record {
      minor = 1;
      low = omega arith;
      is = same_bytes bytes (print_version 1) parts.0;
      passes = parts.1;
    } in v)
    (or_cases (bytes_eq bytes (print_version 0) && test 0) (bytes_eq bytes (print_version 1) && test 1) found)

version_there : (test : ℕ → Bool) (minor : ℕ) → minor ≤ 1 → test minor ≡ true
    → is_version_with test (print_version minor) ≡ true
unfolding is_version_with
version_there test zero low passes =
    or_left (bytes_eq (print_version 0) (print_version 0) && test 0)
    (bytes_eq (print_version 0) (print_version 1) && test 1)
    (and_from (bytes_eq (print_version 0) (print_version 0)) (test 0)
    ((bytes_eq-Decides (print_version 0) (print_version 0)).1 refl) passes)
version_there test (suc zero) low passes =
    or_right (bytes_eq (print_version 1) (print_version 0) && test 0)
    (bytes_eq (print_version 1) (print_version 1) && test 1)
    (and_from (bytes_eq (print_version 1) (print_version 1)) (test 1)
    ((bytes_eq-Decides (print_version 1) (print_version 1)).1 refl) passes)
version_there test (suc (suc more)) low passes = absurd (omega (arith, low))

record HasFields (test : List Field → Bool) (bytes : List ℕ) : Type 0 where
  line_end : LineEnd
  rest : List ℕ
  section : IsSectionOf test field_limit rest
  is : bytes ≡ print_end line_end ++ rest

abbrev fields_behind : (List Field → Bool) → List ℕ → List ℕ → Bool
fields_behind test end rest = is_end_with any_end end && is_section_with test field_limit rest

fields_found : (test : List Field → Bool) (bytes : List ℕ) → are_fields_with test bytes ≡ true
    → HasFields test bytes
unfolding are_fields_with
fields_found test bytes found =
    let cut = cut_found (fields_behind test) bytes found in
    let parts = and_parts (is_end_with any_end cut.first) (is_section_with test field_limit cut.rest) cut.passes in
    let e = end_found any_end cut.first parts.0 in
    record {
      line_end = e.end;
      rest = cut.rest;
      section = section_found test field_limit cut.rest parts.1;
      is = cut.is ∙ ap (λ t. t ++ cut.rest) e.is;
    }

fields_there : (test : List Field → Bool) (end : LineEnd) (rest : List ℕ)
    → is_section_with test field_limit rest ≡ true → are_fields_with test (print_end end ++ rest) ≡ true
unfolding are_fields_with
fields_there test end rest section =
    cut_there (fields_behind test) (print_end end) rest
    (and_from (is_end_with any_end (print_end end)) (is_section_with test field_limit rest)
    (end_there any_end end refl) section)

-- ---- what follows the target

record HasTargetEnd (test : ℕ → List Field → Bool) (bytes : List ℕ) : Type 0 where
  minor : ℕ
  low : minor ≤ 1
  rest : List ℕ
  fields : HasFields (test minor) rest
  is : bytes ≡ space ∷ (print_version minor ++ rest)

abbrev fields_of : (ℕ → List Field → Bool) → List ℕ → ℕ → Bool
fields_of test rest minor = are_fields_with (test minor) rest

abbrev versions : (ℕ → List Field → Bool) → List ℕ → List ℕ → Bool
versions test version rest = is_version_with (fields_of test rest) version

target_end_found : (test : ℕ → List Field → Bool) (bytes : List ℕ) → is_target_end test bytes ≡ true
    → HasTargetEnd test bytes
unfolding is_target_end
target_end_found test [] found = absurd (cc)
target_end_found test (b ∷ bytes) found =
    let parts = and_parts (b == space) (cuts (versions test) bytes) found in
    let first = eqb-true b space parts.0 in
    let cut = cut_found (versions test) bytes parts.1 in
    let v = version_found (fields_of test cut.rest) cut.first cut.passes in
    let behind : bytes ≡ print_version v.minor ++ cut.rest = cut.is ∙ ap (λ t. t ++ cut.rest) v.is in
    record {
      minor = v.minor;
      low = v.low;
      rest = cut.rest;
      fields = fields_found (test v.minor) cut.rest v.passes;
      is = λ i. first i ∷ behind i;
    }

target_end_there : (test : ℕ → List Field → Bool) (minor : ℕ) (rest : List ℕ) → minor ≤ 1
    → are_fields_with (test minor) rest ≡ true → is_target_end test (space ∷ (print_version minor ++ rest)) ≡ true
unfolding is_target_end
target_end_there test minor rest low fields =
    and_from (space == space) (cuts (versions test) (print_version minor ++ rest)) refl
    (cut_there (versions test) (print_version minor) rest (version_there (fields_of test rest) minor low fields))

-- ---- what follows the method

record HasMethodEnd (test : List ℕ → ℕ → List Field → Bool) (bytes : List ℕ) : Type 0 where
  target : List ℕ
  good : (0 < length target) × AllPass is_uri_byte target
  text : IsUtf8 target
  rest : List ℕ
  end : HasTargetEnd (test target) rest
  is : bytes ≡ space ∷ (target ++ rest)

abbrev targets : (List ℕ → ℕ → List Field → Bool) → List ℕ → List ℕ → Bool
targets test target rest = is_target target && is_target_end (test target) rest

method_end_found : (test : List ℕ → ℕ → List Field → Bool) (bytes : List ℕ) → is_method_end test bytes ≡ true
    → HasMethodEnd test bytes
unfolding is_method_end
method_end_found test [] found = absurd (cc)
method_end_found test (b ∷ bytes) found =
    let parts = and_parts (b == space) (cuts (targets test) bytes) found in
    let first = eqb-true b space parts.0 in
    let cut = cut_found (targets test) bytes parts.1 in
    let passes = and_parts (is_target cut.first) (is_target_end (test cut.first) cut.rest) cut.passes in
    let some = and_parts (nat_lt 0 (length cut.first)) (list_all is_uri_byte cut.first && is_utf8 cut.first) passes.0 in
    let good = and_parts (list_all is_uri_byte cut.first) (is_utf8 cut.first) some.1 in
    let behind = cut.is in
    record {
      target = cut.first;
      good = (ltb-true 0 (length cut.first) some.0, AllPass-from_list_all is_uri_byte cut.first good.0);
      text = IsUtf8-from_is_utf8 cut.first good.1;
      rest = cut.rest;
      end = target_end_found (test cut.first) cut.rest passes.1;
      is = λ i. first i ∷ behind i;
    }

method_end_there : (test : List ℕ → ℕ → List Field → Bool) (target rest : List ℕ)
    → (0 < length target) × AllPass is_uri_byte target → IsUtf8 target → is_target_end (test target) rest ≡ true
    → is_method_end test (space ∷ (target ++ rest)) ≡ true
unfolding is_method_end
method_end_there test target rest good text end =
    and_from (space == space) (cuts (targets test) (target ++ rest)) refl
    (cut_there (targets test) target rest
    (and_from (is_target target) (is_target_end (test target) rest)
    (and_from (nat_lt 0 (length target)) (list_all is_uri_byte target && is_utf8 target)
    (lt-ltb 0 (length target) good.0)
    (and_from (list_all is_uri_byte target) (is_utf8 target) (list_all-from_AllPass is_uri_byte target good.1)
    (is_utf8-from_IsUtf8 target text))) end))

-- ---- the head

abbrev Test : Type 0
Test = List ℕ → List ℕ → ℕ → List Field → Bool

-- the bytes are a head of few fields, and the test is true of its parts
pub record HasHead (test : List ℕ → List ℕ → ℕ → List Field → Bool) (bytes : List ℕ) : Type 0 where
  pub head : RequestHead
  pub good : IsRequestHead head
  pub few : length head.fields ≤ field_limit
  pub is : bytes ≡ print_request head
  pub passes : test head.method head.target head.minor head.fields ≡ true

record HasStart (test : Test) (bytes : List ℕ) : Type 0 where
  method : List ℕ
  good : IsToken method
  rest : List ℕ
  end : HasMethodEnd (test method) rest
  is : bytes ≡ method ++ rest

abbrev methods : Test → List ℕ → List ℕ → Bool
methods test method rest = is_token method && is_method_end (test method) rest

start_found : (test : Test) (bytes : List ℕ) → is_start_with test bytes ≡ true → HasStart test bytes
unfolding is_start_with
start_found test bytes found =
    let cut = cut_found (methods test) bytes found in
    let parts = and_parts (is_token cut.first) (is_method_end (test cut.first) cut.rest) cut.passes in
    record {
      method = cut.first;
      good = token_found cut.first parts.0;
      rest = cut.rest;
      end = method_end_found (test cut.first) cut.rest parts.1;
      is = cut.is;
    }

start_there : (test : Test) (method rest : List ℕ) → IsToken method → is_method_end (test method) rest ≡ true
    → is_start_with test (method ++ rest) ≡ true
unfolding is_start_with
start_there test method rest good end =
    cut_there (methods test) method rest
    (and_from (is_token method) (is_method_end (test method) rest) (token_there method good) end)

-- six parts, one behind the other
parts_one : (a b c d e f : List ℕ)
    → a ++ (b ++ (c ++ (d ++ (e ++ f)))) ≡ ((((a ++ b) ++ c) ++ d) ++ e) ++ f
parts_one a b c d e f =
    sym (append_assoc a b (c ++ (d ++ (e ++ f))))
    ∙ sym (append_assoc (a ++ b) c (d ++ (e ++ f)))
    ∙ sym (append_assoc ((a ++ b) ++ c) d (e ++ f))
    ∙ sym (append_assoc (((a ++ b) ++ c) ++ d) e f)

-- the parts of a head, each behind the one before
head_text : (bytes first rest blank method behind target after version later end last section : List ℕ)
    → bytes ≡ first ++ rest → first ≡ blank → rest ≡ method ++ behind → behind ≡ space ∷ (target ++ after)
    → after ≡ space ∷ (version ++ later) → later ≡ end ++ last → last ≡ section
    → bytes ≡ ((((blank ++ method) ++ (space ∷ target)) ++ (space ∷ version)) ++ end) ++ section
head_text bytes first rest blank method behind target after version later end last section is a b c d e f =
    is ∙ (λ i. a i ++ b i) ∙ ap (λ r. blank ++ (method ++ r)) c
    ∙ ap (λ r. blank ++ (method ++ (space ∷ (target ++ r)))) d
    ∙ ap (λ r. blank ++ (method ++ (space ∷ (target ++ (space ∷ (version ++ r)))))) e
    ∙ ap (λ r. blank ++ (method ++ (space ∷ (target ++ (space ∷ (version ++ (end ++ r))))))) f
    ∙ parts_one blank method (space ∷ target) (space ∷ version) end section

abbrev starts : Test → List ℕ → List ℕ → Bool
starts test blank rest = are_blank (length blank) blank && is_start_with test rest

pub head_found : (test : List ℕ → List ℕ → ℕ → List Field → Bool) (bytes : List ℕ)
    → is_head_with test bytes ≡ true → HasHead test bytes
unfolding is_head_with print_request
head_found test bytes found =
    let cut = cut_found (starts test) bytes found in
    let parts = and_parts (are_blank (length cut.first) cut.first) (is_start_with test cut.rest) cut.passes in
    let b = blank_found (length cut.first) cut.first parts.0 in
    let s = start_found test cut.rest parts.1 in
    let m = s.end in
    let t = m.end in
    let f = t.fields in
    record {
      head = record {
        blank = b.ends;
        method = s.method;
        target = m.target;
        minor = t.minor;
        line_end = f.line_end;
        fields = f.section.fields;
        last = f.section.last;
      };
      good = record {
        method = s.good;
        target = m.good;
        target_text = m.text;
        minor = t.low;
        fields = f.section.good;
      };
      few = f.section.few;
      is = head_text bytes cut.first cut.rest (print_blank b.ends) s.method s.rest m.target m.rest
          (print_version t.minor) t.rest (print_end f.line_end) f.rest
          (print_section f.section.fields f.section.last) cut.is b.is s.is m.is t.is f.is f.section.is;
      passes = f.section.passes;
    }

pub head_there : (test : List ℕ → List ℕ → ℕ → List Field → Bool) (h : RequestHead) → IsRequestHead h
    → length h.fields ≤ field_limit → test h.method h.target h.minor h.fields ≡ true
    → is_head_with test (print_request h) ≡ true
unfolding is_head_with print_request
head_there test h good few passes =
    let section : List ℕ = print_section h.fields h.last in
    let behind : List ℕ = print_end h.line_end ++ section in
    let ends : List ℕ = space ∷ (print_version h.minor ++ behind) in
    let rest : List ℕ = space ∷ (h.target ++ ends) in
    subst (λ t. cuts (starts test) t ≡ true)
    (parts_one (print_blank h.blank) h.method (space ∷ h.target) (space ∷ print_version h.minor)
    (print_end h.line_end) section)
    (cut_there (starts test) (print_blank h.blank) (h.method ++ rest)
    (and_from (are_blank (length (print_blank h.blank)) (print_blank h.blank)) (is_start_with test (h.method ++ rest))
    (blank_there (length (print_blank h.blank)) h.blank (blank_count h.blank))
    (start_there test h.method rest good.method
    (method_end_there (test h.method) h.target ends good.target good.target_text
    (target_end_there (test h.method h.target) h.minor behind good.minor
    (fields_there (test h.method h.target h.minor) h.line_end section
    (section_there (test h.method h.target h.minor) field_limit h.fields h.last good.fields few passes)))))))
