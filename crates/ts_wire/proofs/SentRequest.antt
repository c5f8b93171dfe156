-- The head that the origin gets is one request of the grammar.
use Rattle.std.proofs.Common.{◌≡◌, ℕ, Bool, true, false, cond, eqb, ◌&&◌, List, [], ◌∷◌, ◌++◌, map, refl, sym, ap, subst, ◌∙◌, arith, append_assoc}
use Rattle.std.specs.Prelude.{All, codes, flat_map, filter}
use Rattle.std.specs.List.{list_any}
use Rattle.std.proofs.lemmas.Grind.{flat_map-append}
use Rattle.std.proofs.lemmas.List.{append-nil}
use Rattle.std.proofs.lemmas.List.Elements.{All-nil, All-cons, All-append, All-map, All-weaker}
use Rattle.http_header.specs.FieldValue.{plain_value, IsFieldValue}
use Rattle.http_header.proofs.TokenLemmas.{IsHeaderName-from_test, AllPass-from_test}
use Rattle.httparse.specs.Ascii.{crlf_bytes}
use Rattle.httparse.specs.Grammar as grammar
use Rattle.httparse.specs.Grammar.{is_value_byte, crlf, trim_ows, IsToken, IsField, IsRequestHead, ReadsRequest, print_field, print_request}
use Rattle.httparse.proofs.GrammarLemmas.{print_request-append, request_unique}
use Rattle.ts_wire.specs.declared.fields.Field.{Field}
use Rattle.ts_wire.specs.declared.heads.RequestHead.{RequestHead}
use Rattle.ts_wire.specs.FieldList.{is_named, value_of, value_in, values_named, first_value}
use Rattle.ts_wire.specs.Forward.{is_forwarded}
use Rattle.ts_wire.specs.Check.{is_absolute}
use Rattle.ts_wire.specs.Printed.{field_text, fields_text, via_text, host_text, request_field_text, missing_host_text, origin_text}
use Rattle.ts_wire.specs.OneHead.{IsPlainField, SendsRequest, LeavesFraming, IsReadRequest, SendsOneRequest}
use Rattle.ts_wire.proofs.PlainFields.{line_of, lines_text, lines_good, lines_end, plain_from, all_kept_plain, values_kept, IsOther, others_from_values, values_from_others}
use Rattle.ts_wire.proofs.CheckedRequest.{IsGoodTarget, AreGoodParts, HasOneAtMost, none, one, passed, passed_good, sent_hosts}

-- ---- the fields that are printed

-- the Host field with this value
abbrev pub host_field : List ℕ → Field
host_field host = record { name = codes "host"; value = plain_value host }

-- a field as it is sent: an absolute target's authority stands for the value of Host
abbrev pub sent_field : Bool → List ℕ → Field → Field
sent_field absolute host f = cond (absolute && is_named (codes "host") f) (host_field host) f

-- a Host field, where there is none
abbrev pub missing_host : List ℕ → List Field → List Field
missing_host host fs = cond (list_any (is_named (codes "host")) fs) [] (host_field host ∷ [])

abbrev pub via_value : Bool → List ℕ
via_value old = cond old (codes "1.0 tsx") (codes "1.1 tsx")

abbrev pub via_field : ℕ → Field
via_field minor = record { name = codes "via"; value = plain_value (via_value (eqb minor 0)) }

abbrev pub close_field : Field
close_field = record { name = codes "connection"; value = plain_value (codes "close") }

-- all of them
abbrev pub sent_fields : Bool → ℕ → List ℕ → List Field → List Field
sent_fields absolute minor host fs =
    missing_host host fs ++ (map (sent_field absolute host) fs ++ via_field minor ∷ close_field ∷ [])

-- ---- their text

field_text_sent : (absolute : Bool) (host : List ℕ) (f : Field)
    → field_text (sent_field absolute host f) ≡ request_field_text absolute host f
field_text_sent absolute host f = by_test (absolute && is_named (codes "host") f)
  where
    by_test : (t : Bool) → field_text (cond t (host_field host) f) ≡ cond t (host_text host) (field_text f)
    by_test true = refl
    by_test false = refl

fields_text_sent : (absolute : Bool) (host : List ℕ) (fs : List Field)
    → fields_text (map (sent_field absolute host) fs) ≡ flat_map (request_field_text absolute host) fs
fields_text_sent absolute host [] = refl
fields_text_sent absolute host (f ∷ fs) =
    λ i. field_text_sent absolute host f i ++ fields_text_sent absolute host fs i

missing_text : (host : List ℕ) (fs : List Field) → fields_text (missing_host host fs)
    ≡ missing_host_text host fs
missing_text host fs = by_test (list_any (is_named (codes "host")) fs)
  where
    by_test : (t : Bool) → fields_text (cond t [] (host_field host ∷ [])) ≡ cond t [] (host_text host)
    by_test true = refl
    by_test false = append-nil (host_text host)

pub via_text_is : (minor : ℕ) → field_text (via_field minor) ≡ via_text minor
via_text_is minor = by_test (eqb minor 0)
  where
    by_test : (t : Bool) → codes "via" ++ codes ": " ++ via_value t ++ crlf_bytes
        ≡ cond t (codes "via: 1.0 tsx\r\n") (codes "via: 1.1 tsx\r\n")
    by_test true = refl
    by_test false = refl

-- three parts, and the end of the head
parts_text : (a b c : List Field) → fields_text (a ++ (b ++ c)) ≡ fields_text a
    ++ (fields_text b ++ fields_text c)
parts_text a b c = flat_map-append field_text a (b ++ c)
    ∙ ap (λ l. fields_text a ++ l) (flat_map-append field_text b c)

-- four texts, and what follows the last
pub regroup : (a b c d e : List ℕ) → a ++ (b ++ (c ++ (d ++ e))) ≡ (a ++ (b ++ (c ++ (d ++ [])))) ++ e
regroup a b c d e = simp (append_assoc, append-nil)

section_text : (absolute : Bool) (minor : ℕ) (host : List ℕ) (fs : List Field)
    → missing_host_text host fs ++ (flat_map (request_field_text absolute host) fs
    ++ (via_text minor ++ codes "connection: close\r\n\r\n"))
    ≡ flat_map print_field (map line_of (sent_fields absolute minor host fs)) ++ crlf_bytes
section_text absolute minor host fs =
    let middle = map (sent_field absolute host) fs in
    let ends = via_field minor ∷ close_field ∷ [] in
    let close = codes "connection: close\r\n" in
    let texts : fields_text (missing_host host fs)
    ++ (fields_text middle ++ (field_text (via_field minor) ++ (close ++ crlf_bytes)))
    ≡ missing_host_text host fs ++ (flat_map (request_field_text absolute host) fs
    ++ (via_text minor ++ (close ++ crlf_bytes))) =
    λ i. missing_text host fs i ++ (fields_text_sent absolute host fs i
    ++ (via_text_is minor i ++ (close ++ crlf_bytes))) in
    sym texts ∙ regroup (fields_text (missing_host host fs)) (fields_text middle)
    (field_text (via_field minor)) close crlf_bytes
    ∙ ap (λ l. l ++ crlf_bytes) (sym (parts_text (missing_host host fs) middle ends)
    ∙ sym (lines_text (sent_fields absolute minor host fs)))

-- the head of the grammar that is printed
abbrev pub sent_request : List ℕ → Bool → ℕ → List ℕ → List ℕ → List Field → grammar.RequestHead
sent_request method absolute minor target host fs = record {
  blank = [];
  method = method;
  target = target;
  minor = 1;
  line_end = crlf;
  fields = map line_of (sent_fields absolute minor host fs);
  last = crlf;
}

-- a head as it is appended, and as the grammar prints it
eight : (a b c d e f g h : List ℕ) → a ++ b ++ c ++ d ++ e ++ f ++ g ++ h ≡ a
    ++ (b ++ (c ++ (d ++ (e ++ (f ++ (g ++ h))))))
eight a b c d e f g h = simp append_assoc

printed_is : (method : List ℕ) (absolute : Bool) (minor : ℕ) (target host : List ℕ) (fs : List Field)
    → origin_text method absolute minor target host fs
    ≡ print_request (sent_request method absolute minor target host fs) ++ []
printed_is method absolute minor target host fs =
    eight method (codes " ") target (codes " HTTP/1.1\r\n") (missing_host_text host fs)
    (flat_map (request_field_text absolute host) fs) (via_text minor) (codes "connection: close\r\n\r\n")
    ∙ ap (λ l. method ++ (codes " " ++ (target ++ (codes " HTTP/1.1\r\n" ++ l))))
    (section_text absolute minor host fs ∙ sym (append-nil _))
    ∙ sym (print_request-append (sent_request method absolute minor target host fs) [])

-- ---- their names and values

host_plain : (host : List ℕ) → IsFieldValue host → IsPlainField (host_field host)
host_plain host valued = plain_from (host_field host) (IsHeaderName-from_test (codes "host") refl) valued

pub via_plain : (minor : ℕ) → IsPlainField (via_field minor)
via_plain minor = plain_from (via_field minor) (IsHeaderName-from_test (codes "via") refl)
    (by_test (eqb minor 0))
  where
    by_test : (t : Bool) → IsFieldValue (via_value t)
    by_test true = AllPass-from_test is_value_byte (codes "1.0 tsx") refl
    by_test false = AllPass-from_test is_value_byte (codes "1.1 tsx") refl

pub close_plain : IsPlainField close_field
close_plain =
    plain_from close_field (IsHeaderName-from_test (codes "connection") refl)
    (AllPass-from_test is_value_byte (codes "close") refl)

sent_plain : (absolute : Bool) (host : List ℕ) → IsFieldValue host → (f : Field) → IsPlainField f
    → IsPlainField (sent_field absolute host f)
sent_plain absolute host valued f plain = by_test (absolute && is_named (codes "host") f)
  where
    by_test : (t : Bool) → IsPlainField (cond t (host_field host) f)
    by_test true = host_plain host valued
    by_test false = plain

missing_plain : (host : List ℕ) (fs : List Field) → IsFieldValue host
    → All IsPlainField (missing_host host fs)
missing_plain host fs valued = by_test (list_any (is_named (codes "host")) fs)
  where
    by_test : (t : Bool) → All IsPlainField (cond t [] (host_field host ∷ []))
    by_test true = All-nil IsPlainField
    by_test false = All-cons IsPlainField (host_field host) [] (host_plain host valued) (All-nil IsPlainField)

sent_all_plain : (absolute : Bool) (minor : ℕ) (host : List ℕ) (fs : List Field) → IsFieldValue host
    → All IsPlainField fs → All IsPlainField (sent_fields absolute minor host fs)
sent_all_plain absolute minor host fs valued plain =
    let middle = map (sent_field absolute host) fs in
    let ends = via_field minor ∷ close_field ∷ [] in
    All-append IsPlainField (missing_host host fs) (middle ++ ends) (missing_plain host fs valued)
    (All-append IsPlainField middle ends
    (All-map IsPlainField (sent_field absolute host) fs
    (All-weaker IsPlainField (λ f. IsPlainField (sent_field absolute host f))
    (sent_plain absolute host valued) fs plain))
    (All-cons IsPlainField (via_field minor) (close_field ∷ []) (via_plain minor)
    (All-cons IsPlainField close_field [] close_plain (All-nil IsPlainField))))

-- the values of a name among three parts
pub values_parts : (name : List ℕ) (a b c : List Field)
    → values_named name (a ++ (b ++ c)) ≡ values_named name a ++ (values_named name b ++ values_named name c)
values_parts name a b c =
    flat_map-append (value_in name) a (b ++ c) ∙ ap (λ l. values_named name a ++ l)
    (flat_map-append (value_in name) b c)

-- what is put in for Host has the name Host alone
other_missing : (name host : List ℕ) (fs : List Field) → is_named name (host_field host) ≡ false
    → values_named name (missing_host host fs) ≡ []
other_missing name host fs other = by_test (list_any (is_named (codes "host")) fs)
  where
    by_test : (t : Bool) → values_named name (cond t [] (host_field host ∷ [])) ≡ []
    by_test true = refl
    by_test false = ap (λ t. cond t (value_of (host_field host) ∷ []) [] ++ []) other

other_sent : (absolute : Bool) (name host : List ℕ) → is_named name (host_field host) ≡ false → (f : Field)
    → IsOther name f → IsOther name (sent_field absolute host f)
other_sent absolute name host other f own = by_test (absolute && is_named (codes "host") f)
  where
    by_test : (t : Bool) → IsOther name (cond t (host_field host) f)
    by_test true = other
    by_test false = own

-- a name that the fields do not have, and Host is not, is not among those that are sent
others_sent : (absolute : Bool) (name host : List ℕ) (fs : List Field)
    → is_named name (host_field host) ≡ false → values_named name fs ≡ []
    → values_named name (map (sent_field absolute host) fs) ≡ []
others_sent absolute name host fs other lacks =
    values_from_others name (map (sent_field absolute host) fs)
    (All-map (IsOther name) (sent_field absolute host) fs
    (All-weaker (IsOther name) (λ f. IsOther name (sent_field absolute host f))
    (other_sent absolute name host other) fs (others_from_values name fs lacks)))

-- so the values of such a name are those at the end
values_at_end : (absolute : Bool) (minor : ℕ) (name host : List ℕ) (fs : List Field)
    → is_named name (host_field host) ≡ false → values_named name fs ≡ []
    → values_named name (sent_fields absolute minor host fs)
    ≡ values_named name (via_field minor ∷ close_field ∷ [])
values_at_end absolute minor name host fs other lacks =
    let ends = via_field minor ∷ close_field ∷ [] in
    values_parts name (missing_host host fs) (map (sent_field absolute host) fs) ends
    ∙ (λ i. other_missing name host fs other i ++
    (others_sent absolute name host fs other lacks i ++ values_named name ends))

pub close_value : values_named (codes "connection") (close_field ∷ []) ≡ codes "close" ∷ []
unfolding trim_ows
close_value = refl

-- ---- Host

-- what is sent of the value of a Host field
abbrev host_sent : Bool → List ℕ → Field → List ℕ
host_sent absolute host f = cond absolute host (value_of f)

host_values : (absolute : Bool) (host : List ℕ) → trim_ows host ≡ host → (fs : List Field)
    → values_named (codes "host") (map (sent_field absolute host) fs)
    ≡ map (host_sent absolute host) (filter (is_named (codes "host")) fs)
host_values absolute host trimmed [] = refl
host_values absolute host trimmed (f ∷ fs) =
    by_test (is_named (codes "host") f) absolute refl (host_values absolute host trimmed fs)
  where
    by_test : (t a : Bool) → is_named (codes "host") f ≡ t
        → values_named (codes "host") (map (sent_field a host) fs)
        ≡ map (host_sent a host) (filter (is_named (codes "host")) fs)
        → values_named (codes "host") (map (sent_field a host) (f ∷ fs))
        ≡ map (host_sent a host) (filter (is_named (codes "host")) (f ∷ fs))
    by_test true true named later = rw named (λ i. trimmed i ∷ later i)
    by_test true false named later = rw named (λ i. value_of f ∷ later i)
    by_test false true named later = rw (named, named) later
    by_test false false named later = rw named later

none_found : (p : Field → Bool) (fs : List Field) → filter p fs ≡ [] → list_any p fs ≡ false
none_found p [] is = refl
none_found p (f ∷ fs) is = by_test (p f) refl (none_found p fs)
  where
    by_test : (t : Bool) → p f ≡ t → (filter p fs ≡ [] → list_any p fs ≡ false) → list_any p (f ∷ fs) ≡ false
    by_test true passes later =
        absurd (let e : f ∷ filter p fs ≡ [] =
        ap (λ t. cond t (f ∷ filter p fs) (filter p fs)) (sym passes) ∙ is in cc)
    by_test false misses later =
        rw misses (later (ap (λ t. cond t (f ∷ filter p fs) (filter p fs)) (sym misses) ∙ is))

one_found : (p : Field → Bool) (fs : List Field) (g : Field) → filter p fs ≡ g ∷ [] → list_any p fs ≡ true
one_found p [] g is = absurd (let e : [] ≡ g ∷ [] = is in cc)
one_found p (f ∷ fs) g is = by_test (p f) refl (one_found p fs g)
  where
    by_test : (t : Bool) → p f ≡ t → (filter p fs ≡ g ∷ [] → list_any p fs ≡ true)
        → list_any p (f ∷ fs) ≡ true
    by_test true passes later = rw passes
    by_test false misses later =
        rw misses (later (ap (λ t. cond t (f ∷ filter p fs) (filter p fs)) (sym misses) ∙ is))

-- exactly one Host is sent
one_host : (absolute : Bool) (minor : ℕ) (first host : List ℕ) (fs : List Field) → trim_ows host ≡ host
    → (absolute ≡ false → host ≡ first)
    → HasOneAtMost (filter (is_named (codes "host")) fs) first
    → values_named (codes "host") (sent_fields absolute minor host fs) ≡ host ∷ []
one_host absolute minor first host fs trimmed own few =
    values_parts (codes "host") (missing_host host fs) (map (sent_field absolute host) fs)
    (via_field minor ∷ close_field ∷ []) ∙ by_case few
  where
    both : List (List ℕ)
    both = values_named (codes "host") (missing_host host fs)
        ++ (values_named (codes "host") (map (sent_field absolute host) fs) ++ [])

    by_kind : (a : Bool) (g : Field) → (a ≡ false → host ≡ first) → value_of g ≡ first
        → host_sent a host g ≡ host
    by_kind true g owned is = refl
    by_kind false g owned is = is ∙ sym (owned refl)

    by_case : HasOneAtMost (filter (is_named (codes "host")) fs) first → both ≡ host ∷ []
    by_case (none lacks) =
        let left : values_named (codes "host") (missing_host host fs) ≡ host ∷ [] =
        ap (λ t. values_named (codes "host") (cond t [] (host_field host ∷ [])))
        (none_found (is_named (codes "host")) fs lacks) ∙ ap (λ l. l ∷ []) trimmed in
        let right : values_named (codes "host") (map (sent_field absolute host) fs) ≡ [] =
        host_values absolute host trimmed fs ∙ ap (map (host_sent absolute host)) lacks in
        λ i. left i ++ (right i ++ [])
    by_case (one g here is) =
        let left : values_named (codes "host") (missing_host host fs) ≡ [] =
        ap (λ t. values_named (codes "host") (cond t [] (host_field host ∷ [])))
        (one_found (is_named (codes "host")) fs g here) in
        let right : values_named (codes "host") (map (sent_field absolute host) fs) ≡ host ∷ [] =
        host_values absolute host trimmed fs ∙ ap (map (host_sent absolute host)) here
        ∙ ap (λ l. l ∷ []) (by_kind absolute g own is) in
        λ i. left i ++ (right i ++ [])

-- ---- the law

-- what makes the text one request
sends_request : (method : List ℕ) (minor : ℕ) (target host : List ℕ) (fs : List Field) (absolute : Bool)
    (first : List ℕ) → IsToken method
    → AreGoodParts target host absolute first → HasOneAtMost (filter (is_named (codes "host")) fs) first
    → LeavesFraming fs
    → SendsRequest method target host (origin_text method absolute minor target host fs)
sends_request method minor target host fs absolute first token parts few leaves =
    let text = origin_text method absolute minor target host fs in
    let h = sent_request method absolute minor target host fs in
    let all = sent_fields absolute minor host fs in
    let plain = sent_all_plain absolute minor host fs parts.value leaves.plain in
    let read : ReadsRequest text h [] = (
      record {
        method = token;
        target = (parts.good.some, parts.good.bytes);
        target_text = parts.good.text;
        minor = omega arith;
        fields = lines_good all plain;
      },
      printed_is method absolute minor target host fs,
    ) in
    record {
      head = h;
      one = record { whole = read; only = λ k rest reads. request_unique text k h rest [] reads read };
      lines = record { none_before = refl; start_line = refl; field_lines = lines_end all; last_line = refl };
      method_is = refl;
      target_is = refl;
      version = refl;
      place = parts.place;
      hosts = values_kept (codes "host") all plain
          ∙ one_host absolute minor first host fs parts.trimmed parts.own few;
      closes = values_kept (codes "connection") all plain
          ∙ values_at_end absolute minor (codes "connection") host fs refl leaves.connections ∙ close_value;
      lengths = values_kept (codes "content-length") all plain
          ∙ values_at_end absolute minor (codes "content-length") host fs refl leaves.lengths;
      codings = values_kept (codes "transfer-encoding") all plain
          ∙ values_at_end absolute minor (codes "transfer-encoding") host fs refl leaves.codings;
    }

read_fields_plain : (head : RequestHead) → IsReadRequest head → All IsPlainField head.fields
read_fields_plain head read =
    subst (All IsPlainField) (sym read.keeps.fields) (all_kept_plain read.parsed.fields read.good.fields)

-- a request that was read and passed the check is sent as one
pub sends_one_request : (head : RequestHead) (target host : List ℕ) (fields : List Field) (text : List ℕ)
    → text ≡ origin_text head.method (is_absolute head.target) head.minor target host fields
    → SendsOneRequest head target host fields text
sends_one_request head target host fields text is read checked change =
    let token : IsToken head.method = subst IsToken (sym read.keeps.method) read.good.method in
    let good : IsGoodTarget head.target = subst IsGoodTarget (sym read.keeps.target) (record {
      some = read.good.target.0;
      bytes = read.good.target.1;
      text = read.good.target_text;
    }) in
    let seen = passed head target host checked in
    subst (SendsRequest head.method target host) (sym is)
    (sends_request head.method head.minor target host fields (is_absolute head.target)
    (first_value (codes "host") head.fields) token
    (passed_good head target host good (read_fields_plain head read) checked)
    (sent_hosts head (is_forwarded head.fields) fields seen.hosts change.hosts) change.leaves)
