-- The head of a request with the line of its body's end is one request of the grammar (RFC 9112, section 6).
use Rattle.std.proofs.Common.{◌≡◌, ℕ, ◌+◌, ◌-◌, List, [], ◌++◌, map, length, take, drop, refl, sym, ap, ◌∙◌, arith, append_assoc, length-append}
use Rattle.std.specs.Prelude.{codes, flat_map}
use Rattle.std.proofs.lemmas.Grind.{flat_map-append}
use Rattle.std.proofs.lemmas.List.{append-nil, map-append, take_at, drop_at}
use Rattle.std.proofs.lemmas.List.Elements.{All-append}
use Rattle.httparse.specs.Ascii.{crlf_bytes}
use Rattle.httparse.specs.Grammar as grammar
use Rattle.httparse.specs.Grammar.{IsField, IsRequestHead, ReadsRequest, crlf, print_field, print_request}
use Rattle.httparse.proofs.GrammarLemmas.{request_unique}
use Rattle.ts_wire.specs.declared.fields.Field.{Field}
use Rattle.ts_wire.specs.declared.printed.ClientFraming.{ClientFraming}
use Rattle.ts_wire.specs.declared.printed.ClientFraming.TheVariants as C
use Rattle.ts_wire.specs.FieldList.{members_in, members_named, value_in, values_named}
use Rattle.ts_wire.specs.Framing.{coding_named, content_length, length_named, transfer_coding}
use Rattle.ts_wire.specs.Heads.{kept_field}
use Rattle.ts_wire.specs.OneHead.{HasCrlfLines, IsSendable, SendsOneUpload, coding_said, length_said, values_read}
use Rattle.ts_wire.specs.Printed.{framing_line, with_framing}
use Rattle.ts_wire.proofs.PlainFields.{line_of, lines_end, lines_good, lines_text, members_from_others, others_from_values, values_kept}
use Rattle.ts_wire.proofs.SentBlank.{request_is, request_line}
use Rattle.ts_wire.proofs.SentResponse.{framing_all_plain, framing_connections, framing_codings, framing_fields, framing_fields_text, framing_lengths}

-- the line as a field line of the grammar, if there is one
abbrev framing_lines : ClientFraming → List grammar.Field
framing_lines sent = map line_of (framing_fields sent)

-- the head with this line as its last one
abbrev framed : ClientFraming → grammar.RequestHead → grammar.RequestHead
framed sent h = record h { fields = h.fields ++ framing_lines sent }

-- ---- its text

-- what stands in front of the last CR LF
abbrev front_of : grammar.RequestHead → List ℕ
front_of h = request_line h ++ (crlf_bytes ++ flat_map print_field h.fields)

-- a head ends with CR LF
ends_so : (h : grammar.RequestHead) → HasCrlfLines h.blank h.line_end h.fields h.last
    → print_request h ≡ front_of h ++ crlf_bytes
ends_so h lines =
    request_is h lines
    ∙ ap (λ l. request_line h ++ l) (sym (append_assoc crlf_bytes (flat_map print_field h.fields) crlf_bytes))
    ∙ sym (append_assoc (request_line h) (crlf_bytes ++ flat_map print_field h.fields) crlf_bytes)

-- the line is put behind what stands there
line_put : (front : List ℕ) (sent : ClientFraming)
    → with_framing (front ++ crlf_bytes) sent ≡ (front ++ framing_line sent) ++ crlf_bytes
line_put front sent =
    let at : length (front ++ crlf_bytes) - length crlf_bytes ≡ length front =
    omega (arith, length-append front crlf_bytes) in
    (λ i. take (at i) (front ++ crlf_bytes) ++ framing_line sent ++ drop (at i) (front ++ crlf_bytes))
    ∙ (λ i. take_at front crlf_bytes (length front) refl i ++ framing_line sent
    ++ drop_at front crlf_bytes (length front) refl i)

-- so is its field line
front_framed : (h : grammar.RequestHead) (sent : ClientFraming)
    → front_of h ++ framing_line sent ≡ front_of (framed sent h)
front_framed h sent =
    let fields = flat_map print_field h.fields in
    let more = flat_map print_field (framing_lines sent) in
    ap (λ l. front_of h ++ l) (sym (lines_text (framing_fields sent) ∙ framing_fields_text sent))
    ∙ append_assoc (request_line h) (crlf_bytes ++ fields) more
    ∙ ap (λ l. request_line h ++ l) (append_assoc crlf_bytes fields more)
    ∙ ap (λ l. request_line h ++ (crlf_bytes ++ l)) (sym (flat_map-append print_field h.fields
    (framing_lines sent)))

framed_lines : (h : grammar.RequestHead) (sent : ClientFraming)
    → HasCrlfLines h.blank h.line_end h.fields h.last
    → HasCrlfLines h.blank h.line_end (h.fields ++ framing_lines sent) h.last
framed_lines h sent lines = record {
  none_before = lines.none_before;
  start_line = lines.start_line;
  field_lines = All-append (λ f. f.end ≡ crlf) h.fields (framing_lines sent) lines.field_lines
      (lines_end (framing_fields sent));
  last_line = lines.last_line;
}

text_is : (h : grammar.RequestHead) (sent : ClientFraming) → HasCrlfLines h.blank h.line_end h.fields h.last
    → with_framing (print_request h) sent ≡ print_request (framed sent h)
text_is h sent lines =
    ap (λ l. with_framing l sent) (ends_so h lines) ∙ line_put (front_of h) sent
    ∙ ap (λ l. l ++ crlf_bytes) (front_framed h sent)
    ∙ sym (ends_so (framed sent h) (framed_lines h sent lines))

-- ---- what is read of it

-- the values of a name, and then those of the line
values_both : (name : List ℕ) (fields : List grammar.Field) (sent : ClientFraming) → IsSendable sent
    → values_read name (fields ++ framing_lines sent)
    ≡ values_read name fields ++ values_named name (framing_fields sent)
values_both name fields sent sendable =
    ap (values_named name) (map-append kept_field fields (framing_lines sent))
    ∙ flat_map-append (value_in name) (map kept_field fields) (map kept_field (framing_lines sent))
    ∙ ap (λ l. values_read name fields ++ l) (values_kept name (framing_fields sent)
    (framing_all_plain sent sendable))

-- the line speaks neither of the host nor of the connection
hosts_none : (sent : ClientFraming) → values_named (codes "host") (framing_fields sent) ≡ []
hosts_none C.Nothing = refl
hosts_none (C.Sized n) = refl
hosts_none C.Chunked = refl
hosts_none C.Close = refl

-- of the coding it alone speaks
says_coding : (fields : List grammar.Field) (sent : ClientFraming) → IsSendable sent
    → values_read (codes "transfer-encoding") fields ≡ []
    → coding_named (map kept_field (fields ++ framing_lines sent)) ≡ coding_said sent
says_coding fields sent sendable none =
    let name = codes "transfer-encoding" in
    ap transfer_coding (values_both name fields sent sendable
    ∙ ap (λ l. l ++ values_named name (framing_fields sent)) none
    ∙ sym (append-nil (values_named name (framing_fields sent))))
    ∙ framing_codings sent

-- and of the length
says_length : (fields : List grammar.Field) (sent : ClientFraming) → IsSendable sent
    → values_read (codes "content-length") fields ≡ []
    → length_named (map kept_field (fields ++ framing_lines sent)) ≡ length_said sent
says_length fields sent sendable none =
    let name = codes "content-length" in
    let kept = map kept_field fields in
    let more = map kept_field (framing_lines sent) in
    ap content_length (ap (members_named name) (map-append kept_field fields (framing_lines sent))
    ∙ flat_map-append (members_in name) kept more
    ∙ ap (λ l. l ++ members_named name more) (members_from_others name kept (others_from_values name kept none))
    ∙ sym (append-nil (members_named name more)))
    ∙ framing_lengths sent sendable

-- ---- the law

pub sends_one_upload : (request : List ℕ) (sent : ClientFraming) (text : List ℕ)
    → text ≡ with_framing request sent → SendsOneUpload request sent text
sends_one_upload request sent text is method target host sends sendable =
    let h = sends.head in
    let k = framed sent h in
    let good : IsRequestHead h = sends.one.whole.0 in
    let read : ReadsRequest text k [] = (
      record {
        method = good.method;
        target = good.target;
        target_text = good.target_text;
        minor = good.minor;
        fields = All-append IsField h.fields (framing_lines sent) good.fields
            (lines_good (framing_fields sent) (framing_all_plain sent sendable));
      },
      is ∙ ap (λ l. with_framing l sent) (sends.one.whole.1 ∙ append-nil (print_request h))
          ∙ text_is h sent sends.lines ∙ sym (append-nil (print_request k)),
    ) in
    record {
      head = k;
      one = record { whole = read; only = λ other rest reads. request_unique text other k rest [] reads read };
      lines = framed_lines h sent sends.lines;
      method_is = sends.method_is;
      target_is = sends.target_is;
      version = sends.version;
      place = sends.place;
      hosts = values_both (codes "host") h.fields sent sendable
          ∙ (λ i. sends.hosts i ++ hosts_none sent i);
      closes = values_both (codes "connection") h.fields sent sendable
          ∙ (λ i. sends.closes i ++ framing_connections sent i);
      length = says_length h.fields sent sendable sends.lengths;
      coding = says_coding h.fields sent sendable sends.codings;
    }
