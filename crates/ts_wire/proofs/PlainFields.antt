-- A field as it is printed is a line of the grammar, of which a reader keeps the same name and value.
use Rattle.std.proofs.Common.{◌≡◌, ℕ, Bool, true, false, cond, List, [], ◌∷◌, ◌++◌, map, reverse, refl, sym, ap, ◌∙◌, arith, append_assoc}
use Rattle.std.specs.Prelude.{All, flat_map, IsTrue, not, bytes_eq, codes}
use Rattle.std.proofs.lemmas.Bool.Decides.{nat_tests}
use Rattle.std.proofs.lemmas.List.{length-map}
use Rattle.std.proofs.lemmas.List.Elements.{All-nil, All-cons, All-head, All-tail, All-map, All-weaker}
use Rattle.std.specs.Char.{to_ascii_lowercase}
use Rattle.http_header.specs.Token as name
use Rattle.http_header.specs.Token.{lowercase}
use Rattle.http_header.specs.FieldName.{IsHeaderName}
use Rattle.http_header.specs.FieldValue.{IsFieldValue}
use Rattle.http_header.proofs.TokenLemmas.{is_token_byte-to_ascii_lowercase, lowercase-lowercase_lem}
use Rattle.httparse.specs.Ascii.{crlf_bytes}
use Rattle.httparse.specs.Grammar as grammar
use Rattle.httparse.specs.Grammar.{AllPass, IsToken, is_ows, is_value_byte, trim_ows, crlf, IsField, print_field, field_value}
use Rattle.httparse.proofs.TrimLemmas.{AllPass-reverse, AllPass-trim_ows}
use Rattle.ts_wire.specs.declared.fields.Field.{Field}
use Rattle.ts_wire.specs.FieldList.{is_named, value_of, value_in, values_named, members_named}
use Rattle.ts_wire.specs.Values.{members}
use Rattle.ts_wire.specs.Heads.{kept_field}
use Rattle.ts_wire.specs.Printed.{field_text, fields_text}
use Rattle.ts_wire.specs.OneHead.{IsPlainField}
use Rattle.ts_wire.proofs.TrimTwice.{Starts, trim_twice, trim_space, trim_none}

-- the field as a line
abbrev pub line_of : Field → grammar.Field
line_of f = record { name = f.name; raw = 32 ∷ f.value.bytes; end = crlf }

-- the texts of both are the same
line_text : (f : Field) → print_field (line_of f) ≡ field_text f
line_text f = ap (λ l. l ++ crlf_bytes) (sym (append_assoc f.name (codes ": ") f.value.bytes))

pub lines_text : (fs : List Field) → flat_map print_field (map line_of fs) ≡ fields_text fs
lines_text [] = refl
lines_text (f ∷ fs) = λ i. line_text f i ++ lines_text fs i

line_good : (f : Field) → IsPlainField f → IsField (line_of f)
line_good f plain =
    record { name = plain.0; raw = All-cons (λ b. IsTrue (is_value_byte b)) 32 f.value.bytes refl plain.2 }

pub lines_good : (fs : List Field) → All IsPlainField fs → All IsField (map line_of fs)
lines_good fs plain =
    All-map IsField line_of fs (All-weaker IsPlainField (λ f. IsField (line_of f)) line_good fs plain)

pub lines_end : (fs : List Field) → All (λ f. f.end ≡ crlf) (map line_of fs)
lines_end fs = All-map (λ f. f.end ≡ crlf) line_of fs (λ k d inside. refl)

-- a name that is written out, and a value, make a plain field
pub plain_from : (f : Field) → IsHeaderName f.name → IsFieldValue f.value.bytes → IsPlainField f
unfolding grammar.is_token_byte name.is_token_byte
plain_from f named valued = (named.0.0, named.1, valued)

lowered : (bytes : List ℕ) → IsToken bytes → IsToken (lowercase bytes)
unfolding grammar.is_token_byte name.is_token_byte
lowered bytes token =
    let same = length-map bytes to_ascii_lowercase in (
      omega (arith, same),
      All-map (λ b. IsTrue (name.is_token_byte b)) to_ascii_lowercase bytes
          (All-weaker _ _ is_token_byte-to_ascii_lowercase bytes token.1),
    )

kept_plain : (f : grammar.Field) → IsField f → IsPlainField (kept_field f)
kept_plain f good = (
  lowered f.name good.name,
  lowercase-lowercase_lem f.name,
  AllPass-trim_ows is_value_byte f.raw good.raw,
)

-- what is kept of field lines is plain
pub all_kept_plain : (fs : List grammar.Field) → All IsField fs → All IsPlainField (map kept_field fs)
all_kept_plain fs good =
    All-map IsPlainField kept_field fs (All-weaker IsField
    (λ f. IsPlainField (kept_field f)) kept_plain fs good)

value_kept : (name : List ℕ) (f : Field) → IsPlainField f
    → value_in name (kept_field (line_of f)) ≡ value_in name f
value_kept name f plain =
    let same : trim_ows (trim_ows (32 ∷ f.value.bytes)) ≡ value_of f =
    ap trim_ows (trim_space f.value.bytes) ∙ trim_twice f.value.bytes in
    λ i. cond (bytes_eq (plain.1 i) name) (same i ∷ []) []

-- the values that are read are those that were printed
pub values_kept : (name : List ℕ) (fs : List Field) → All IsPlainField fs
    → values_named name (map kept_field (map line_of fs)) ≡ values_named name fs
values_kept name [] plain = refl
values_kept name (f ∷ fs) plain =
    λ i. value_kept name f (All-head IsPlainField f fs plain) i
    ++ values_kept name fs (All-tail IsPlainField f fs plain) i

-- the field has another name
abbrev pub IsOther : List ℕ → Field → Type 0
IsOther name f = is_named name f ≡ false

-- where a name has no values, each field has another one
pub others_from_values : (name : List ℕ) (fs : List Field) → values_named name fs ≡ [] → All (IsOther name) fs
others_from_values name [] none = All-nil (IsOther name)
others_from_values name (f ∷ fs) none = by_test (is_named name f) refl (others_from_values name fs)
  where
    by_test : (t : Bool) → is_named name f ≡ t → (values_named name fs ≡ [] → All (IsOther name) fs)
        → All (IsOther name) (f ∷ fs)
    by_test true named later =
        absurd (let e : value_of f ∷ values_named name fs ≡ [] =
        ap (λ t. cond t (value_of f ∷ []) [] ++ values_named name fs) (sym named) ∙ none in cc)
    by_test false other later =
        let lacks : values_named name fs ≡ [] =
        ap (λ t. cond t (value_of f ∷ []) [] ++ values_named name fs) (sym other) ∙ none in
        All-cons (IsOther name) f fs other (later lacks)

pub values_from_others : (name : List ℕ) (fs : List Field) → All (IsOther name) fs → values_named name fs ≡ []
values_from_others name [] others = refl
values_from_others name (f ∷ fs) others =
    let here = All-head (IsOther name) f fs others in
    ap (λ t. cond t (value_of f ∷ []) [] ++ values_named name fs) here
    ∙ values_from_others name fs (All-tail (IsOther name) f fs others)

pub members_from_others : (name : List ℕ) (fs : List Field) → All (IsOther name) fs
    → members_named name fs ≡ []
members_from_others name [] others = refl
members_from_others name (f ∷ fs) others =
    let here = All-head (IsOther name) f fs others in
    ap (λ t. cond t (members f.value.bytes) [] ++ members_named name fs) here
    ∙ members_from_others name fs (All-tail (IsOther name) f fs others)

-- bytes among which no space or tab is
abbrev pub is_solid : ℕ → Bool
is_solid b = not (is_ows b)

solid_byte : (b : ℕ) → IsTrue (is_solid b) → is_ows b ≡ false
solid_byte b solid = grind (arith, nat_tests)

solid_starts : (v : List ℕ) → AllPass is_solid v → Starts v
solid_starts [] pass = tt
solid_starts (b ∷ bs) pass = solid_byte b (All-head (λ x. IsTrue (is_solid x)) b bs pass)

-- of them nothing is trimmed
pub trim_solid : (v : List ℕ) → AllPass is_solid v → trim_ows v ≡ v
trim_solid v pass = trim_none v (solid_starts v pass)
    (solid_starts (reverse v) (AllPass-reverse is_solid v pass))
