-- The head that the client gets is one response of the grammar, whose body ends as it was to say.
use Rattle.std.proofs.Common.{◌≡◌, ℕ, ◌+◌, ◌/◌, ◌%◌, ◌<◌, ◌≤◌, Bool, true, false, cond, ◌&&◌, List, [], ◌∷◌, ◌++◌, map, length, Option, Some, None, refl, sym, ap, subst, ◌∙◌, arith, append_assoc}
use Rattle.std.specs.Prelude.{All, IsTrue, codes, flat_map, decimal, nat_lt}
use Rattle.std.specs.List.{list_all}
use Rattle.std.specs.Char.{digit_value, is_ascii_digit}
use Rattle.std.specs.Str.Parse.{AllDigits, digits_value}
use Rattle.std.proofs.lemmas.Bool.{lt-ltb, le-leb}
use Rattle.std.proofs.lemmas.Bool.Decides.{nat_tests}
use Rattle.std.proofs.lemmas.Fmt.{decimal_is_IsNumeral}
use Rattle.std.proofs.lemmas.Grind.{flat_map-append}
use Rattle.std.proofs.lemmas.List.{append-nil, map-append}
use Rattle.std.proofs.lemmas.List.Splits.{slice_split_none}
use Rattle.std.proofs.lemmas.List.Elements.{All-nil, All-cons, All-append, All-weaker}
use Rattle.http_header.specs.FieldValue.{plain_value}
use Rattle.http_header.proofs.TokenLemmas.{IsHeaderName-from_test, AllPass-from_test}
use Rattle.httparse.specs.Ascii.{crlf_bytes}
use Rattle.httparse.specs.Grammar as grammar
use Rattle.httparse.specs.Grammar.{AllPass, is_value_byte, crlf, trim_ows, status_code, ReadsResponse, print_field, print_response}
use Rattle.httparse.proofs.GrammarLemmas.{print_response-append, response_unique}
use Rattle.ts_wire.specs.Limits.{body_limit, status_limit}
use Rattle.ts_wire.specs.declared.fields.Field.{Field}
use Rattle.ts_wire.specs.declared.framing.ContentLength.TheVariants as L
use Rattle.ts_wire.specs.declared.framing.Framing.TheVariants as F
use Rattle.ts_wire.specs.declared.printed.ClientFraming.{ClientFraming}
use Rattle.ts_wire.specs.declared.printed.ClientFraming.TheVariants.{Nothing, Sized, Chunked, Close}
use Rattle.ts_wire.specs.Values.{is_comma, members}
use Rattle.ts_wire.specs.FieldList.{value_in, values_named, members_in, members_named}
use Rattle.ts_wire.specs.Framing.{content_length, transfer_coding, length_named, coding_named, framing_by, has_no_body}
use Rattle.ts_wire.specs.Heads.{kept_field}
use Rattle.ts_wire.specs.Printed.{field_text, fields_text, via_line, status_text, reason_text, framing_line, client_text}
use Rattle.ts_wire.specs.OneHead.{IsPlainField, LeavesFraming, length_said, coding_said, framing_said, EndsAsSaid, IsSendable, SendsResponse, SendsOneResponse}
use Rattle.ts_wire.proofs.PlainFields.{line_of, lines_text, lines_good, lines_end, plain_from, values_kept, others_from_values, members_from_others, is_solid, trim_solid}
use Rattle.ts_wire.proofs.TrimTwice.{trim_space}
use Rattle.ts_wire.proofs.SentRequest.{via_field, via_plain, via_text_is, close_field, close_plain, close_value, regroup}

-- ---- the fields that are printed

abbrev via_fields : Option ℕ → List Field
via_fields None = []
via_fields (Some minor) = via_field minor ∷ []

abbrev length_field : ℕ → Field
length_field n = record { name = codes "content-length"; value = plain_value (decimal n) }

abbrev coding_field : Field
coding_field = record { name = codes "transfer-encoding"; value = plain_value (codes "chunked") }

abbrev pub framing_fields : ClientFraming → List Field
framing_fields Nothing = []
framing_fields (Sized n) = length_field n ∷ []
framing_fields Chunked = coding_field ∷ []
framing_fields Close = []

-- all of them
abbrev client_fields : List Field → Option ℕ → ClientFraming → List Field
client_fields fs via sent = fs ++ (via_fields via ++ (framing_fields sent ++ close_field ∷ []))

-- ---- their text

via_fields_text : (via : Option ℕ) → fields_text (via_fields via) ≡ via_line via
via_fields_text None = refl
via_fields_text (Some minor) = append-nil (field_text (via_field minor)) ∙ via_text_is minor

pub framing_fields_text : (sent : ClientFraming) → fields_text (framing_fields sent) ≡ framing_line sent
framing_fields_text Nothing = refl
framing_fields_text (Sized n) = append-nil (field_text (length_field n))
framing_fields_text Chunked = refl
framing_fields_text Close = refl

-- what a function that joins gives of four parts
parts : {A : Type 0} (f : Field → List A) (a b c d : List Field)
    → flat_map f (a ++ (b ++ (c ++ d))) ≡ flat_map f a ++ (flat_map f b ++ (flat_map f c ++ flat_map f d))
parts f a b c d =
    flat_map-append f a (b ++ (c ++ d))
    ∙ ap (λ l. flat_map f a ++ l) (flat_map-append f b (c ++ d)
    ∙ ap (λ l. flat_map f b ++ l) (flat_map-append f c d))

section_text : (fs : List Field) (via : Option ℕ) (sent : ClientFraming)
    → fields_text fs ++ (via_line via ++ (framing_line sent ++ codes "connection: close\r\n\r\n"))
    ≡ flat_map print_field (map line_of (client_fields fs via sent)) ++ crlf_bytes
section_text fs via sent =
    let close = codes "connection: close\r\n" in
    let texts : fields_text fs ++ (fields_text (via_fields via)
    ++ (fields_text (framing_fields sent) ++ (close ++ crlf_bytes))) ≡ fields_text fs
    ++ (via_line via ++ (framing_line sent ++ (close ++ crlf_bytes))) =
    λ i. fields_text fs ++ (via_fields_text via i ++ (framing_fields_text sent i ++ (close ++ crlf_bytes))) in
    sym texts ∙ regroup (fields_text fs) (fields_text (via_fields via))
    (fields_text (framing_fields sent)) close crlf_bytes
    ∙ ap (λ l. l ++ crlf_bytes) (sym (parts field_text fs (via_fields via) (framing_fields sent)
    (close_field ∷ [])) ∙ sym (lines_text (client_fields fs via sent)))

-- the head of the grammar that is printed
abbrev sent_response : ℕ → List ℕ → List Field → Option ℕ → ClientFraming → grammar.ResponseHead
sent_response status reason fs via sent = record {
  blank = [];
  minor = 1;
  digits = status_text status;
  reason = Some (reason_text reason);
  line_end = crlf;
  fields = map line_of (client_fields fs via sent);
  last = crlf;
}

-- a head as it is appended, and as the grammar prints it
nine : (a b c d e f g h i : List ℕ) → a ++ b ++ c ++ d ++ e ++ f ++ g ++ h ++ i ≡ a
    ++ (b ++ (c ++ (d ++ (e ++ (f ++ (g ++ (h ++ i)))))))
nine a b c d e f g h i = simp append_assoc

printed_is : (status : ℕ) (reason : List ℕ) (fs : List Field) (via : Option ℕ) (sent : ClientFraming)
    → client_text status reason fs via sent ≡ print_response (sent_response status reason fs via sent) ++ []
printed_is status reason fs via sent =
    nine (codes "HTTP/1.1 ") (status_text status) (codes " ") (reason_text reason) crlf_bytes (fields_text fs)
    (via_line via) (framing_line sent) (codes "connection: close\r\n\r\n")
    ∙ ap (λ l. codes "HTTP/1.1 " ++ (status_text status
    ++ (codes " " ++ (reason_text reason ++ (crlf_bytes ++ l))))) (section_text fs via sent
    ∙ sym (append-nil _))
    ∙ sym (print_response-append (sent_response status reason fs via sent) [])

-- ---- the status and the reason

digit_is : (d : ℕ) → d < 10 → digit_value (48 + d) ≡ d
digit_is d small = grind (arith, nat_tests)

digit_passes : (d : ℕ) → d < 10 → is_ascii_digit (48 + d) ≡ true
digit_passes d small = grind (arith, nat_tests)

status_digits : (status : ℕ) → status ≤ status_limit → AllPass is_ascii_digit (status_text status)
status_digits status most =
    let P : ℕ → Type 0 = λ b. IsTrue (is_ascii_digit b) in
    let a = 48 + status / 100 in
    let b = 48 + status / 10 % 10 in
    let c = 48 + status % 10 in
    All-cons P a (b ∷ c ∷ []) (digit_passes (status / 100) (omega arith))
    (All-cons P b (c ∷ []) (digit_passes (status / 10 % 10) (omega arith))
    (All-cons P c [] (digit_passes (status % 10) (omega arith)) (All-nil P)))

status_value : (status : ℕ) → status ≤ status_limit → digits_value 10 (status_text status) ≡ status
status_value status most =
    let a = digit_is (status / 100) (omega arith) in
    let b = digit_is (status / 10 % 10) (omega arith) in
    let c = digit_is (status % 10) (omega arith) in
    omega (arith, a, b, c)

reason_passes : (reason : List ℕ) → AllPass is_value_byte reason → AllPass is_value_byte (reason_text reason)
reason_passes reason pass = by_test (list_all (λ b. nat_lt b 128) reason)
  where
    by_test : (t : Bool) → AllPass is_value_byte (cond t reason [])
    by_test true = pass
    by_test false = All-nil (λ b. IsTrue (is_value_byte b))

-- ---- a length in digits

digit_byte : (b : ℕ) → digit_value b < 10 → is_ascii_digit b ≡ true
digit_byte b small = grind (arith, nat_tests)

digits_pass : (ds : List ℕ) → AllDigits 10 ds → AllPass is_ascii_digit ds
digits_pass [] all = All-nil (λ b. IsTrue (is_ascii_digit b))
digits_pass (d ∷ ds) all =
    All-cons (λ b. IsTrue (is_ascii_digit b)) d ds (digit_byte d all.0) (digits_pass ds all.1)

digits_test : (ds : List ℕ) → AllDigits 10 ds → list_all is_ascii_digit ds ≡ true
digits_test [] all = refl
digits_test (d ∷ ds) all = λ i. digit_byte d all.0 i && digits_test ds all.1 i

digit_valued : (b : ℕ) → IsTrue (is_ascii_digit b) → IsTrue (is_value_byte b)
digit_valued b digit = grind (arith, nat_tests)

digit_solid : (b : ℕ) → IsTrue (is_ascii_digit b) → IsTrue (is_solid b)
digit_solid b digit = grind (arith, nat_tests)

digit_no_comma : (b : ℕ) → IsTrue (is_ascii_digit b) → is_comma b ≡ false
digit_no_comma b digit = grind (arith, nat_tests)

decimal_passes : (n : ℕ) → n ≤ body_limit → AllPass is_ascii_digit (decimal n)
decimal_passes n most = digits_pass (decimal n) (decimal_is_IsNumeral n (omega arith)).0.1

decimal_trimmed : (n : ℕ) → n ≤ body_limit → trim_ows (decimal n) ≡ decimal n
decimal_trimmed n most =
    trim_solid (decimal n) (All-weaker (λ b. IsTrue (is_ascii_digit b)) (λ b. IsTrue (is_solid b)) digit_solid
    (decimal n) (decimal_passes n most))

-- the value that is read has one member
decimal_members : (n : ℕ) → n ≤ body_limit → members (trim_ows (32 ∷ decimal n)) ≡ decimal n ∷ []
decimal_members n most =
    let none = All-weaker (λ b. IsTrue (is_ascii_digit b)) (λ b. is_comma b ≡ false) digit_no_comma
    (decimal n) (decimal_passes n most) in
    ap members (trim_space (decimal n) ∙ decimal_trimmed n most)
    ∙ ap (map trim_ows) (slice_split_none is_comma (decimal n) none)
    ∙ ap (λ l. l ∷ []) (decimal_trimmed n most)

-- which is that length
decimal_length : (n : ℕ) → n ≤ body_limit → content_length (decimal n ∷ []) ≡ L.Valid n
decimal_length n most =
    let is = decimal_is_IsNumeral n (omega arith) in
    let some = lt-ltb 0 (length (decimal n)) is.0.0 in
    let all = digits_test (decimal n) is.0.1 in
    let small : digits_value 10 (decimal n) ≤ body_limit = omega (arith, is.1) in
    let fits = le-leb (digits_value 10 (decimal n)) body_limit small in
    (λ i. cond ((some i && (all i && fits i)) && true) (L.Valid (digits_value 10 (decimal n))) L.Faulty)
    ∙ ap L.Valid is.1

-- ---- their names and values

via_all_plain : (via : Option ℕ) → All IsPlainField (via_fields via)
via_all_plain None = All-nil IsPlainField
via_all_plain (Some minor) =
    All-cons IsPlainField (via_field minor) [] (via_plain minor) (All-nil IsPlainField)

coding_plain : IsPlainField coding_field
coding_plain =
    plain_from coding_field (IsHeaderName-from_test (codes "transfer-encoding") refl)
    (AllPass-from_test is_value_byte (codes "chunked") refl)

length_plain : (n : ℕ) → n ≤ body_limit → IsPlainField (length_field n)
length_plain n most =
    plain_from (length_field n) (IsHeaderName-from_test (codes "content-length") refl)
    (All-weaker (λ b. IsTrue (is_ascii_digit b)) (λ b. IsTrue (is_value_byte b)) digit_valued (decimal n)
    (decimal_passes n most))

pub framing_all_plain : (sent : ClientFraming) → IsSendable sent → All IsPlainField (framing_fields sent)
framing_all_plain Nothing sendable = All-nil IsPlainField
framing_all_plain (Sized n) sendable =
    All-cons IsPlainField (length_field n) [] (length_plain n sendable) (All-nil IsPlainField)
framing_all_plain Chunked sendable = All-cons IsPlainField coding_field [] coding_plain (All-nil IsPlainField)
framing_all_plain Close sendable = All-nil IsPlainField

client_all_plain : (fs : List Field) (via : Option ℕ) (sent : ClientFraming) → All IsPlainField fs
    → IsSendable sent → All IsPlainField (client_fields fs via sent)
client_all_plain fs via sent plain sendable =
    let ends = close_field ∷ [] in
    All-append IsPlainField fs (via_fields via ++ (framing_fields sent ++ ends)) plain
    (All-append IsPlainField (via_fields via) (framing_fields sent ++ ends) (via_all_plain via)
    (All-append IsPlainField (framing_fields sent) ends (framing_all_plain sent sendable)
    (All-cons IsPlainField close_field [] close_plain (All-nil IsPlainField))))

-- a reader keeps the parts one by one
abbrev kept : List Field → List Field
kept fs = map kept_field (map line_of fs)

kept_parts : (a b c d : List Field) → kept (a ++ (b ++ (c ++ d))) ≡ kept a ++ (kept b ++ (kept c ++ kept d))
kept_parts a b c d = simp map-append

-- Connection
via_connections : (via : Option ℕ) → values_named (codes "connection") (via_fields via) ≡ []
via_connections None = refl
via_connections (Some minor) = refl

pub framing_connections : (sent : ClientFraming) → values_named (codes "connection") (framing_fields sent) ≡ []
framing_connections Nothing = refl
framing_connections (Sized n) = refl
framing_connections Chunked = refl
framing_connections Close = refl

closes_once : (fs : List Field) (via : Option ℕ) (sent : ClientFraming) → LeavesFraming fs
    → values_named (codes "connection") (client_fields fs via sent) ≡ codes "close" ∷ []
closes_once fs via sent leaves =
    parts (value_in (codes "connection")) fs (via_fields via) (framing_fields sent) (close_field ∷ [])
    ∙ (λ i. leaves.connections i ++ (via_connections via i ++ (framing_connections sent i ++ close_value i)))

-- Transfer-Encoding
via_codings : (via : Option ℕ) → values_named (codes "transfer-encoding") (via_fields via) ≡ []
via_codings None = refl
via_codings (Some minor) = refl

pub framing_codings : (sent : ClientFraming) → transfer_coding
    (values_named (codes "transfer-encoding") (framing_fields sent) ++ []) ≡ coding_said sent
unfolding trim_ows
framing_codings Nothing = refl
framing_codings (Sized n) = refl
framing_codings Chunked = refl
framing_codings Close = refl

says_coding : (fs : List Field) (via : Option ℕ) (sent : ClientFraming) → LeavesFraming fs → IsSendable sent
    → coding_named (kept (client_fields fs via sent)) ≡ coding_said sent
says_coding fs via sent leaves sendable =
    let tail = values_named (codes "transfer-encoding") (framing_fields sent) ++ [] in
    let values : values_named (codes "transfer-encoding") (client_fields fs via sent) ≡ tail =
    parts (value_in (codes "transfer-encoding")) fs (via_fields via) (framing_fields sent) (close_field ∷ [])
    ∙ (λ i. leaves.codings i ++ (via_codings via i ++ tail)) in
    ap transfer_coding (values_kept (codes "transfer-encoding") (client_fields fs via sent)
    (client_all_plain fs via sent leaves.plain sendable) ∙ values)
    ∙ framing_codings sent

-- Content-Length
via_lengths : (via : Option ℕ) → members_named (codes "content-length") (kept (via_fields via)) ≡ []
via_lengths None = refl
via_lengths (Some minor) = refl

pub framing_lengths : (sent : ClientFraming) → IsSendable sent
    → content_length (members_named (codes "content-length") (kept (framing_fields sent)) ++ [])
    ≡ length_said sent
framing_lengths Nothing sendable = refl
framing_lengths (Sized n) sendable =
    ap content_length (ap (λ l. (l ++ []) ++ []) (decimal_members n sendable)) ∙ decimal_length n sendable
framing_lengths Chunked sendable = refl
framing_lengths Close sendable = refl

says_length : (fs : List Field) (via : Option ℕ) (sent : ClientFraming) → LeavesFraming fs → IsSendable sent
    → length_named (kept (client_fields fs via sent)) ≡ length_said sent
says_length fs via sent leaves sendable =
    let name = codes "content-length" in
    let own = members_from_others name (kept fs) (others_from_values name (kept fs)
    (values_kept name fs leaves.plain ∙ leaves.lengths)) in
    let tail = members_named name (kept (framing_fields sent)) ++ [] in
    ap content_length (ap (members_named name) (kept_parts fs (via_fields via) (framing_fields sent)
    (close_field ∷ []))
    ∙ parts (members_in name) (kept fs) (kept (via_fields via)) (kept (framing_fields sent))
    (kept (close_field ∷ []))
    ∙ (λ i. own i ++ (via_lengths via i ++ tail)))
    ∙ framing_lengths sent sendable

-- ---- the law

framing_is : (sent : ClientFraming) → framing_by 1 (coding_said sent) (length_said sent) ≡ framing_said sent
framing_is Nothing = refl
framing_is (Sized n) = refl
framing_is Chunked = refl
framing_is Close = refl

ends_as_said : (status : ℕ) (sent : ClientFraming) (fields : List Field)
    → length_named fields ≡ length_said sent → coding_named fields ≡ coding_said sent
    → EndsAsSaid status sent fields
ends_as_said status sent fields says codes_ to_head =
    ap (λ f. cond (has_no_body status to_head) F.Nothing f) ((λ i. framing_by 1 (codes_ i) (says i))
    ∙ framing_is sent)

sends_response : (status : ℕ) (reason : List ℕ) (fs : List Field) (via : Option ℕ) (sent : ClientFraming)
    → status ≤ status_limit → AllPass is_value_byte reason
    → LeavesFraming fs → IsSendable sent → SendsResponse status sent (client_text status reason fs via sent)
sends_response status reason fs via sent most passes leaves sendable =
    let text = client_text status reason fs via sent in
    let h = sent_response status reason fs via sent in
    let all = client_fields fs via sent in
    let plain = client_all_plain fs via sent leaves.plain sendable in
    let read : ReadsResponse text h [] = (
      record {
        minor = omega arith;
        digits = (refl, status_digits status most);
        reason = reason_passes reason passes;
        fields = lines_good all plain;
      },
      printed_is status reason fs via sent,
    ) in
    let length_ = says_length fs via sent leaves sendable in
    let coding_ = says_coding fs via sent leaves sendable in
    record {
      head = h;
      one = record { whole = read; only = λ k rest reads. response_unique text k h rest [] reads read };
      lines = record { none_before = refl; start_line = refl; field_lines = lines_end all; last_line = refl };
      status_is = status_value status most;
      version = refl;
      closes = values_kept (codes "connection") all plain ∙ closes_once fs via sent leaves;
      length = length_;
      coding = coding_;
      ends = ends_as_said status sent (kept all) length_ coding_;
    }

-- what is printed for a client is one response
pub sends_one_response : (status : ℕ) (reason : List ℕ) (fields : List Field) (via : Option ℕ)
    (sent : ClientFraming) → status ≤ status_limit → (text : List ℕ)
    → text ≡ client_text status reason fields via sent → SendsOneResponse status reason fields sent text
sends_one_response status reason fields via sent most text is passes leaves sendable =
    subst (SendsResponse status sent) (sym is) (sends_response status reason fields via sent most passes
    leaves sendable)
