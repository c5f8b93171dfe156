-- The head of a request, with the line in it that says how its body is framed, ends with its only empty line;
-- and in that line alone stands none (RFC 9112, sections 2.1 and 6).
use Rattle.std.proofs.Common.{◌≡◌, ◌≢◌, ◌∙◌, ◌⊎◌, ℕ, zero, suc, ◌<◌, ◌≤◌, List, [], ◌∷◌, ◌++◌, length}
use Rattle.std.proofs.Common.{take, drop}
use Rattle.std.proofs.Common.{get_or, map, Bool, true, false, cond, All, None, Some, refl, sym, ap}
use Rattle.std.proofs.Common.{subst, arith}
use Rattle.std.proofs.Common.{length-append}
use Rattle.std.specs.Prelude.{◌==◌, ◌&&◌, ◌||◌, IsTrue, codes, flat_map, nat_le, nat_lt}
use Rattle.std.specs.Char.{is_ascii_digit}
use Rattle.std.specs.List.{list_all}
use Rattle.std.specs.Str.Parse.{digits_value}
use Rattle.std.proofs.lemmas.Bool.Decides.{nat_tests}
use Rattle.std.proofs.lemmas.List.{append-nil}
use Rattle.std.proofs.lemmas.List.Elements.{All-append, All-cons, All-head, All-tail, All-weaker}
use Rattle.std.proofs.lemmas.Option.{same_Some}
use Rattle.httparse.specs.Ascii.{carriage_return, colon, crlf_bytes}
use Rattle.httparse.specs.Grammar as grammar
use Rattle.httparse.specs.Grammar.{IsField, crlf, is_token_byte, is_value_byte, print_end, print_field}
use Rattle.memchr.proofs.lemmas.MatchLemmas.{OccursAt-part}
use Rattle.ts_config.specs.declared.setup.TransformLine.{TransformLine}
use Rattle.ts_config.proofs.TextParts.{both}
use Rattle.ts_request.specs.Sent.{sent_framing, sent_head}
use Rattle.ts_request.specs.Upload.{upload_framing}
use Rattle.ts_wire.specs.Blank.{EndsBlank, LacksBlank, blank_end}
use Rattle.ts_wire.specs.FieldList.{members_named}
use Rattle.ts_wire.specs.Framing.{coding_named, content_length, is_length, is_length_of, length_named}
use Rattle.ts_wire.specs.Heads.{kept_field}
use Rattle.ts_wire.specs.Limits.{body_limit}
use Rattle.ts_wire.specs.OneHead.{IsSendable, SendsRequest}
use Rattle.ts_wire.specs.Printed.{framing_line, with_framing}
use Rattle.ts_wire.specs.RequestEnds.{end_by, is_addressed, upload_of}
use Rattle.ts_wire.specs.declared.ends.RequestEnd.TheVariants as E
use Rattle.ts_wire.specs.declared.framing.ContentLength.{ContentLength}
use Rattle.ts_wire.specs.declared.framing.ContentLength.TheVariants as L
use Rattle.ts_wire.specs.declared.framing.Framing.{Framing}
use Rattle.ts_wire.specs.declared.framing.Framing.TheVariants as F
use Rattle.ts_wire.specs.declared.framing.TransferCoding.{TransferCoding}
use Rattle.ts_wire.specs.declared.framing.TransferCoding.TheVariants as T
use Rattle.ts_wire.specs.declared.printed.ClientFraming.{ClientFraming}
use Rattle.ts_wire.specs.declared.printed.ClientFraming.TheVariants as C
use Rattle.ts_wire.proofs.PlainFields.{line_of, lines_end, lines_good, lines_text}
use Rattle.ts_wire.proofs.SentBlank.{request_ends, upload_ends}
use Rattle.ts_wire.proofs.SentResponse.{framing_all_plain, framing_fields, framing_fields_text}
use Rattle.ts_wire.proofs.SentUpload.{sends_one_upload}

-- ---- a request that is sent, if there is one

-- the text is one request, with some method, target and host
abbrev pub IsOneSent : List ℕ → Type 0
IsOneSent text =
    (method : List ℕ) × (target : List ℕ) × (host : List ℕ) × SendsRequest method target host text

-- or there is none
abbrev pub IsSentIf : List ℕ → Type 0
IsSentIf text = (text ≡ []) ⊎ IsOneSent text

pub sent_ends : (text : List ℕ) → IsOneSent text → EndsBlank text
sent_ends text (method, target, host, sends) = request_ends method target host text sends

-- ---- the length of an upload can be sent

-- a length that was read is within the limit
pub valid_small : (ms : List (List ℕ)) (n : ℕ) → content_length ms ≡ L.Valid n → n ≤ body_limit
valid_small [] n is = absurd (let wrong : L.Absent ≡ L.Valid n = is in cc)
valid_small (m ∷ ms) n is = by_test (is_length m && list_all (is_length_of (digits_value 10 m)) ms) refl is
  where
    by_test : (t : Bool) → (is_length m && list_all (is_length_of (digits_value 10 m)) ms) ≡ t
        → cond t (L.Valid (digits_value 10 m)) L.Faulty ≡ L.Valid n → n ≤ body_limit
    by_test false so other = absurd (let wrong : L.Faulty ≡ L.Valid n = other in cc)
    by_test true so same =
        let value : digits_value 10 m ≡ n = cc in
        let long = (both (is_length m) (list_all (is_length_of (digits_value 10 m)) ms) so).0 in
        let digits = (both (nat_lt 0 (length m)) (list_all is_ascii_digit m
        && nat_le (digits_value 10 m) body_limit) long).1 in
        let few = (both (list_all is_ascii_digit m) (nat_le (digits_value 10 m) body_limit) digits).1 in
        let within : digits_value 10 m ≤ body_limit = grind (arith, nat_tests, few) in
        omega (arith, value, within)

-- where the end of a request is told by a length, that length was read
told_length : (addressed : Bool) (minor : ℕ) (coding : TransferCoding) (read : ContentLength) (n : ℕ)
    → upload_of (end_by addressed minor coding read) ≡ Some (F.Sized n) → read ≡ L.Valid n
told_length addressed minor T.Absent L.Absent n is = absurd (let none : None ≡ Some (F.Sized n) = is in cc)
told_length addressed minor T.Absent L.Faulty n is = absurd (let none : None ≡ Some (F.Sized n) = is in cc)
told_length addressed minor T.Absent (L.Valid m) n is = by_length ((m == 0) || addressed) is
  where
    sized : (zero : Bool) → cond zero None (Some (F.Sized m)) ≡ Some (F.Sized n) → L.Valid m ≡ L.Valid n
    sized true same = absurd (let none : None ≡ Some (F.Sized n) = same in cc)
    sized false same = let framing = same_Some (F.Sized m) (F.Sized n) same in cc

    by_length : (t : Bool) → upload_of (cond t (E.Sized m)
        E.Unknown) ≡ Some (F.Sized n)
        → L.Valid m ≡ L.Valid n
    by_length true same = sized (m == 0) same
    by_length false same = absurd (let none : None ≡ Some (F.Sized n) = same in cc)
told_length addressed minor T.Chunked L.Absent n is = by_version (addressed && (minor == 1)) is
  where
    by_version : (t : Bool) → upload_of (cond t E.Chunked
        E.Unknown) ≡ Some (F.Sized n)
        → L.Absent ≡ L.Valid n
    by_version true same = absurd (let wrong = same_Some F.Chunked (F.Sized n) same in cc)
    by_version false same = absurd (let none : None ≡ Some (F.Sized n) = same in cc)
told_length addressed minor T.Chunked (L.Valid m) n is =
    absurd (let none : None ≡ Some (F.Sized n) = is in cc)
told_length addressed minor T.Chunked L.Faulty n is = absurd (let none : None ≡ Some (F.Sized n) = is in cc)
told_length addressed minor T.Other read n is = absurd (let none : None ≡ Some (F.Sized n) = is in cc)

-- so the length of an upload can be sent
sendable : (h : grammar.RequestHead) (framing : Framing) (lines : List TransformLine)
    → upload_framing h ≡ Some framing → IsSendable (sent_framing framing lines)
sendable h (F.Sized n) [] framed =
    let fields = map kept_field h.fields in
    valid_small (members_named (codes "content-length") fields) n
    (told_length (is_addressed h.method h.target h.minor fields) h.minor (coding_named fields)
    (length_named fields) n framed)
sendable h (F.Sized n) (l ∷ ls) framed = tt
sendable h F.Nothing lines framed = tt
sendable h F.Chunked lines framed = tt
sendable h F.UntilClose lines framed = tt
sendable h F.Faulty lines framed = tt

-- and the head with its line ends with its only empty line
pub framed_ends : (h : grammar.RequestHead) (framing : Framing) (lines : List TransformLine)
    (request : List ℕ) → upload_framing h ≡ Some framing → IsOneSent request
    → EndsBlank (sent_head framing lines request)
framed_ends h framing lines request framed (method, target, host, sends) =
    let said = sent_framing framing lines in
    upload_ends method target host (with_framing request said) said
    (sends_one_upload request said (with_framing request said) refl method target host sends
    (sendable h framing lines framed))

-- ---- the line alone

-- in nothing stands no empty line
pub lacks_none : LacksBlank []
lacks_none place occurs = let fits = occurs.fits in absurd (omega (arith, fits))

-- the byte is no carriage return
abbrev IsOtherByte : ℕ → Type 0
IsOtherByte b = b ≢ carriage_return

-- none of these is one
abbrev NoReturn : List ℕ → Type 0
NoReturn = All IsOtherByte

-- nor does it in one line in which no carriage return stands
in_line : (line : List ℕ) → NoReturn line → (place : ℕ) → place < length line
    → take 4 (drop place (line ++ crlf_bytes)) ≡ blank_end → ⊥
in_line [] none place low is = omega (arith, low)
in_line (b ∷ bytes) none zero low is = All-head IsOtherByte b bytes none (ap (λ l. get_or l 0 0) is)
in_line (b ∷ bytes) none (suc place) low is =
    in_line bytes (All-tail IsOtherByte b bytes none) place (omega (arith, low)) is

lacks_line : (line : List ℕ) → NoReturn line → LacksBlank (line ++ crlf_bytes)
lacks_line line none place occurs =
    let fits = occurs.fits in
    let long = length-append line crlf_bytes in
    in_line line none place (omega (arith, fits, long))
    (OccursAt-part (line ++ crlf_bytes) blank_end place occurs)

-- as a field line is
pass_other : (test : ℕ → Bool) (bytes : List ℕ) → test carriage_return ≡ false
    → All (λ b. IsTrue (test b)) bytes → NoReturn bytes
pass_other test bytes fails pass = All-weaker (λ b. IsTrue (test b)) IsOtherByte other bytes pass
  where
    other : (b : ℕ) → IsTrue (test b) → IsOtherByte b
    other b passes is =
        let wrong : IsTrue (test carriage_return) = subst (λ x. IsTrue (test x)) is passes in absurd (cc)

token_other : (bytes : List ℕ) → All (λ b. IsTrue (is_token_byte b)) bytes → NoReturn bytes
unfolding is_token_byte
token_other bytes pass = pass_other is_token_byte bytes refl pass

field_other : (f : grammar.Field) → IsField f → NoReturn (f.name ++ (colon ∷ f.raw))
field_other f good =
    All-append IsOtherByte f.name (colon ∷ f.raw) (token_other f.name good.name.1)
    (All-cons IsOtherByte colon f.raw (λ wrong. absurd (omega (arith, wrong)))
    (pass_other is_value_byte f.raw refl good.raw))

lacks_fields : (fs : List grammar.Field) → length fs ≤ 1 → All IsField fs → All (λ f. f.end ≡ crlf) fs
    → LacksBlank (flat_map print_field fs)
lacks_fields [] few good ends = lacks_none
lacks_fields (f ∷ []) few good ends =
    let line = f.name ++ (colon ∷ f.raw) in
    subst LacksBlank (ap (λ e. line ++ print_end e) (sym (All-head (λ g. g.end ≡ crlf) f [] ends))
    ∙ sym (append-nil (print_field f))) (lacks_line line (field_other f (All-head IsField f [] good)))
lacks_fields (f ∷ g ∷ fs) few good ends = absurd (omega (arith, few))

-- the line of a framing is one at most
few_lines : (said : ClientFraming) → length (map line_of (framing_fields said)) ≤ 1
few_lines C.Nothing = omega arith
few_lines (C.Sized n) = omega arith
few_lines C.Chunked = omega arith
few_lines C.Close = omega arith

-- so none stands in that line alone
pub bare_lacks : (h : grammar.RequestHead) (framing : Framing) (lines : List TransformLine)
    → upload_framing h ≡ Some framing → LacksBlank (sent_head framing lines [])
bare_lacks h framing lines framed =
    let said = sent_framing framing lines in
    let fields = framing_fields said in
    let plain = framing_all_plain said (sendable h framing lines framed) in
    subst LacksBlank (lines_text fields ∙ framing_fields_text said ∙ sym (append-nil (framing_line said)))
    (lacks_fields (map line_of fields) (few_lines said) (lines_good fields plain) (lines_end fields))

-- a text that ends with an empty line is not empty
pub ends_some : (text : List ℕ) → EndsBlank text → text ≡ [] → ⊥
ends_some text ends none =
    let long = ap length (sym none ∙ ends.text_is) in
    let parts = length-append ends.front blank_end in
    omega (arith, long, parts)
