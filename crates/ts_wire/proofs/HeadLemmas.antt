-- Heads in the front of some bytes, as the parser's spans cover them.
use Rattle.std.proofs.Common.{◌≡◌, ℕ, ◌+◌, ◌-◌, ◌<◌, ◌≤◌, List, [], ◌∷◌, ◌++◌, map, length, get_or, take, drop, refl, sym, ap, subst, ◌∙◌, arith, append_assoc, length-append}
use Rattle.std.specs.Prelude.{All, flat_map, slice_range}
use Rattle.std.proofs.lemmas.List.Elements.{All-head, All-tail}
use Rattle.std.proofs.lemmas.List.{drop-take, take-take, take-append-drop, length-take, length-drop, length-map, get_or-map}
use Rattle.std.proofs.lemmas.Simd.{map-map}
use Rattle.http_header.specs.Token as name
use Rattle.http_header.specs.FieldName.{IsFieldName}
use Rattle.http_header.specs.FieldValue.{IsFieldValue}
use Rattle.httparse.specs.declared.spans.HeaderSpan.{HeaderSpan}
use Rattle.httparse.specs.Grammar as grammar
use Rattle.httparse.specs.Grammar.{IsToken, is_value_byte, LineEnd, crlf, lf, print_end, Field, IsField, field_value, print_field, print_section}
use Rattle.httparse.specs.declared.spans.Span.{Span}
use Rattle.httparse.specs.Spans.{span_bytes, IsWithin, IsHeaderWithin, header_bytes, name_and_value}
use Rattle.httparse.proofs.TrimLemmas.{AllPass-trim_ows}
use Rattle.ts_wire.specs.Limits.{head_limit}
use Rattle.ts_wire.specs.declared.fields.Field as kept
use Rattle.ts_wire.specs.Heads.{field_of, kept_field, span_field, IsFieldAt}

-- more bytes follow the front of n bytes
pub front_and_more : (n : ℕ) (bytes front more : List ℕ) → front ≡ take n bytes
    → bytes ++ more ≡ front ++ (drop n bytes ++ more)
front_and_more n bytes front more is =
    ap (λ l. l ++ more) (sym (take-append-drop n bytes)) ∙ append_assoc (take n bytes) (drop n bytes) more
    ∙ ap (λ l. l ++ (drop n bytes ++ more)) (sym is)

-- a name's token is a name
name_from_token : (bytes : List ℕ) → IsToken bytes → length bytes ≤ 65535 → IsFieldName bytes
unfolding grammar.is_token_byte name.is_token_byte
name_from_token bytes token short = (token, short)

value_from_raw : (f : Field) → IsField f → IsFieldValue (field_value f)
value_from_raw f good = AllPass-trim_ows is_value_byte f.raw good.raw

no_field : Field
no_field = record { name = []; raw = []; end = lf }

length-slice_range-le : (bytes : List ℕ) (from to : ℕ) → length (slice_range bytes from to) ≤ length bytes
length-slice_range-le bytes from to =
    omega (arith, length-take (to - from) (drop from bytes), length-drop from bytes)

-- the spans that cover the fields of a head cover names and values
pub fields_good : (buf : List ℕ) (hs : List HeaderSpan) (fs : List Field) (n : ℕ)
    → map (header_bytes buf) hs ≡ map name_and_value fs → All IsField fs → n ≤ length buf
    → length buf ≤ head_limit
    → All (IsHeaderWithin n) hs → All (IsFieldAt buf) hs
fields_good buf hs fs n same good within short spans k d inside =
    let len : length hs ≡ length fs =
    sym (length-map hs (header_bytes buf)) ∙ ap length same ∙ length-map fs name_and_value in
    let h = get_or hs k d in
    let f = get_or fs k no_field in
    let here : header_bytes buf h ≡ name_and_value f =
    sym (get_or-map (header_bytes buf) hs k d ([], []) inside) ∙ ap (λ l. get_or l k ([], [])) same
    ∙ get_or-map name_and_value fs k no_field ([], []) (omega arith) in
    let is : IsField f = good k no_field (omega arith) in
    let spot : IsHeaderWithin n h = spans k d inside in
    record {
      within = ((spot.0.0, omega arith), (spot.1.0, omega arith));
      name = subst IsFieldName (sym (ap (λ p. p.0) here))
          (name_from_token f.name is.name (omega (
            arith,
            ap length (ap (λ p. p.0) here),
            length-slice_range-le buf h.name.start h.name.end,
          )));
      value = subst IsFieldValue (sym (ap (λ p. p.1) here)) (value_from_raw f is);
    }

-- the field of a name and a value
abbrev pair_field : List ℕ × List ℕ → kept.Field
pair_field p = field_of p.0 p.1

-- what is kept of the spans is what is kept of the field lines
pub fields_kept : (buf : List ℕ) (hs : List HeaderSpan) (fs : List Field)
    → map (header_bytes buf) hs ≡ map name_and_value fs → map (span_field buf) hs ≡ map kept_field fs
fields_kept buf hs fs same =
    sym (map-map pair_field (header_bytes buf) hs) ∙ ap (map pair_field) same
    ∙ map-map pair_field name_and_value fs

pub few_fields : (hs : List HeaderSpan) (count : ℕ) (buf : List ℕ) (fs : List Field)
    → map (header_bytes buf) (take count hs) ≡ map name_and_value fs → length fs ≤ length hs
few_fields hs count buf fs same =
    let len : length (take count hs) ≡ length fs =
    sym (length-map (take count hs) (header_bytes buf)) ∙ ap length same ∙ length-map fs name_and_value in
    omega (arith, length-take count hs)

pub end_some : (last : LineEnd) → 0 < length (print_end last)
end_some crlf = omega arith
end_some lf = omega arith

-- what ends in a section is not empty
pub ends_some : (start : List ℕ) (fields : List Field) (last : LineEnd)
    → 0 < length (start ++ print_section fields last)
ends_some start fields last =
    omega (
      arith,
      length-append start (print_section fields last),
      length-append (flat_map print_field fields) (print_end last),
      end_some last,
    )

-- what a span within the first n bytes covers, it covers in those alone
pub span_front : (n : ℕ) (buf : List ℕ) (s : Span) → IsWithin n s
    → span_bytes (take n buf) s ≡ span_bytes buf s
span_front n buf s within =
    let size = s.end - s.start in
    let front : take n buf ≡ take (s.start + (n - s.start)) buf = ap (λ k. take k buf) (omega arith) in
    ap (λ l. take size (drop s.start l)) front ∙ ap (take size) (drop-take s.start (n - s.start) buf)
    ∙ take-take size (n - s.start) (drop s.start buf) (omega arith)

pub headers_front : (n : ℕ) (buf : List ℕ) (hs : List HeaderSpan) → All (IsHeaderWithin n) hs
    → map (header_bytes (take n buf)) hs ≡ map (header_bytes buf) hs
headers_front n buf [] within = refl
headers_front n buf (h ∷ hs) within =
    let here : IsHeaderWithin n h = All-head (IsHeaderWithin n) h hs within in
    λ i. (span_front n buf h.name here.0 i, span_front n buf h.value here.1 i) ∷ headers_front n buf hs
    (All-tail (IsHeaderWithin n) h hs within) i
