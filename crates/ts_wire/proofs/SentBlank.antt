-- A request and a response that are sent end with their only empty line (RFC 9112, section 2.1).
use Rattle.std.proofs.Common.{◌≡◌, ℕ, ◌+◌, ◌<◌, List, [], ◌∷◌, ◌++◌, Option, Some, None, length, refl, ◌∙◌, arith, append_assoc, length-append, codes}
use Rattle.std.specs.Char.{is_ascii_digit}
use Rattle.std.proofs.lemmas.List.{append-nil}
use Rattle.std.proofs.lemmas.List.Elements.{All-append, All-cons, All-nil}
use Rattle.http_header.proofs.TokenLemmas.{AllPass-from_test}
use Rattle.httparse.specs.Ascii.{crlf_bytes, space}
use Rattle.httparse.specs.Grammar as grammar
use Rattle.httparse.specs.Grammar.{AllPass, IsRequestHead, IsResponseHead, LineEnd, crlf, is_uri_byte, is_value_byte, print_blank, print_end, print_reason, print_request, print_response, print_section, print_version, reason_phrase}
use Rattle.ts_wire.specs.Blank.{EndsBlank, SentEndsBlank}
use Rattle.ts_wire.specs.OneHead.{HasCrlfLines, SendsRequest, SendsResponse, SendsUpload}
use Rattle.ts_wire.specs.declared.printed.ClientFraming.{ClientFraming}
use Rattle.ts_wire.proofs.BlankLines.{IsOtherByte, NoReturn, head_ends, pass_other, token_other}

-- in the version stands no carriage return
version_other : (minor : ℕ) → NoReturn (print_version minor)
version_other minor =
    All-append IsOtherByte (codes "HTTP/1.") ((48 + minor) ∷ [])
    (pass_other is_value_byte (codes "HTTP/1.") refl (AllPass-from_test is_value_byte (codes "HTTP/1.") refl))
    (All-cons IsOtherByte (48 + minor) [] (λ wrong. absurd (omega (arith, wrong))) (All-nil IsOtherByte))

space_other : (bytes : List ℕ) → NoReturn bytes → NoReturn (space ∷ bytes)
space_other bytes none = All-cons IsOtherByte space bytes (λ wrong. absurd (omega (arith, wrong))) none

-- ---- requests

-- the start line, without its end
abbrev pub request_line : grammar.RequestHead → List ℕ
request_line h = (h.method ++ (space ∷ h.target)) ++ (space ∷ print_version h.minor)

-- in it stands no carriage return
request_other : (h : grammar.RequestHead) → IsRequestHead h → NoReturn (request_line h)
request_other h good =
    All-append IsOtherByte (h.method ++ (space ∷ h.target)) (space ∷ print_version h.minor)
    (All-append IsOtherByte h.method (space ∷ h.target) (token_other h.method good.method.1)
    (space_other h.target (pass_other is_uri_byte h.target refl good.target.1)))
    (space_other (print_version h.minor) (version_other h.minor))

-- a head as it is printed with these empty lines in front of it and these line ends
abbrev printed_request : grammar.RequestHead → List LineEnd → LineEnd → LineEnd → List ℕ
printed_request h before start last =
    print_blank before ++ h.method ++ space ∷ h.target ++ space ∷ print_version h.minor ++ print_end start ++
    print_section h.fields last

-- with none in front and CR LF each time, it is its start line, the end of that and its fields
pub request_is : (h : grammar.RequestHead) → HasCrlfLines h.blank h.line_end h.fields h.last
    → print_request h ≡ request_line h ++ (crlf_bytes ++ print_section h.fields crlf)
unfolding print_request
request_is h lines =
    (λ i. printed_request h (lines.none_before i) (lines.start_line i) (lines.last_line i))
    ∙ append_assoc (request_line h) crlf_bytes (print_section h.fields crlf)

-- a text that is one request with CR LF lines ends with its only empty line
one_request_ends : (text : List ℕ) (h : grammar.RequestHead) → grammar.ReadsRequest text h []
    → HasCrlfLines h.blank h.line_end h.fields h.last → EndsBlank text
one_request_ends text h reads lines =
    let good = reads.0 in
    let some : 0 < length (request_line h) =
    let long = length-append (h.method ++ (space ∷ h.target)) (space ∷ print_version h.minor) in
    let front = length-append h.method (space ∷ h.target) in
    omega (arith, long, front, good.method.0) in
    head_ends (request_line h) text h.fields some (request_other h good) good.fields lines.field_lines
    (reads.1 ∙ append-nil (print_request h) ∙ request_is h lines)

pub request_ends : (method target host text : List ℕ) → SendsRequest method target host text → EndsBlank text
request_ends method target host text sends = one_request_ends text sends.head sends.one.whole sends.lines

pub upload_ends : (method target host text : List ℕ) (sent : ClientFraming)
    → SendsUpload method target host sent text → EndsBlank text
upload_ends method target host text sent sends = one_request_ends text sends.head sends.one.whole sends.lines

-- ---- responses

-- the start line, without its end
abbrev status_line : grammar.ResponseHead → List ℕ
status_line h = (print_version h.minor ++ (space ∷ h.digits)) ++ print_reason h.reason

digit_other : (digits : List ℕ) → AllPass is_ascii_digit digits → NoReturn digits
digit_other digits pass = pass_other is_ascii_digit digits refl pass

reason_other : (reason : Option (List ℕ)) → AllPass is_value_byte (reason_phrase reason)
    → NoReturn (print_reason reason)
reason_other None pass = All-nil IsOtherByte
reason_other (Some phrase) pass = space_other phrase (pass_other is_value_byte phrase refl pass)

-- in it stands no carriage return
status_other : (h : grammar.ResponseHead) → IsResponseHead h → NoReturn (status_line h)
status_other h good =
    All-append IsOtherByte (print_version h.minor ++ (space ∷ h.digits)) (print_reason h.reason)
    (All-append IsOtherByte (print_version h.minor) (space ∷ h.digits) (version_other h.minor)
    (space_other h.digits (digit_other h.digits good.digits.1)))
    (reason_other h.reason good.reason)

-- a head as it is printed with these empty lines in front of it and these line ends
abbrev printed_response : grammar.ResponseHead → List LineEnd → LineEnd → LineEnd → List ℕ
printed_response h before start last =
    print_blank before ++ print_version h.minor ++ space ∷ h.digits ++ print_reason h.reason ++ print_end start
    ++ print_section h.fields last

-- with none in front and CR LF each time, it is its start line, the end of that and its fields
response_is : (h : grammar.ResponseHead) → HasCrlfLines h.blank h.line_end h.fields h.last
    → print_response h ≡ status_line h ++ (crlf_bytes ++ print_section h.fields crlf)
unfolding print_response
response_is h lines =
    (λ i. printed_response h (lines.none_before i) (lines.start_line i) (lines.last_line i))
    ∙ append_assoc (status_line h) crlf_bytes (print_section h.fields crlf)

pub response_ends : (status : ℕ) (sent : ClientFraming) (text : List ℕ) → SendsResponse status sent text
    → EndsBlank text
response_ends status sent text sends =
    let h = sends.head in
    let good = sends.one.whole.0 in
    let some : 0 < length (status_line h) =
    let long = length-append (print_version h.minor ++ (space ∷ h.digits)) (print_reason h.reason) in
    let front = length-append (print_version h.minor) (space ∷ h.digits) in
    omega (arith, long, front) in
    head_ends (status_line h) text h.fields some (status_other h good) good.fields sends.lines.field_lines
    (sends.one.whole.1 ∙ append-nil (print_response h) ∙ response_is h sends.lines)

-- ---- both

pub sent_ends_blank : SentEndsBlank
sent_ends_blank = record { request = request_ends; upload = upload_ends; response = response_ends }
