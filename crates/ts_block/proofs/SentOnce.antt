-- The heads that a transaction sends are one request and one response each, header rules included.
use Rattle.std.proofs.Common.{◌≡◌, ◌⊎◌, inl, inr, ℕ, ◌≤◌, List, [], ◌∷◌, Bool, true, false, cond, Option}
use Rattle.std.proofs.Common.{Some, None, Result, Ok, Err, sym, subst, refl, arith}
use Rattle.std.specs.Prelude.{◌&&◌, ◌||◌, ◌==◌, ⊤, codes, length, nat_le, nat_lt}
use Rattle.std.specs.Char.{is_ascii_digit}
use Rattle.std.specs.List.{list_all}
use Rattle.std.specs.Str.Parse.{digits_value}
use Rattle.std.proofs.lemmas.Bool.Decides.{nat_tests}
use Rattle.std.proofs.lemmas.List.Elements.{All-cons, All-nil}
use Rattle.http_header.proofs.TokenLemmas.{AllPass-from_test, IsHeaderName-from_test}
use Rattle.httparse.specs.Grammar.{AllPass, is_value_byte}
use Rattle.ts_config.specs.declared.setup.Setup.{Setup}
use Rattle.ts_config.specs.declared.fields.Side.TheVariants as S
use Rattle.ts_config.proofs.TextParts.{both}
use Rattle.ts_wire.specs.declared.fields.Field.{Field}
use Rattle.ts_wire.specs.declared.heads.RequestHead.{RequestHead}
use Rattle.ts_wire.specs.declared.heads.ResponseHead.{ResponseHead}
use Rattle.ts_wire.specs.declared.framing.Framing.{Framing}
use Rattle.ts_wire.specs.declared.framing.Framing.TheVariants as F
use Rattle.ts_wire.specs.declared.framing.ContentLength.{ContentLength}
use Rattle.ts_wire.specs.declared.framing.ContentLength.TheVariants as L
use Rattle.ts_wire.specs.declared.framing.TransferCoding.{TransferCoding}
use Rattle.ts_wire.specs.declared.framing.TransferCoding.TheVariants as T
use Rattle.ts_wire.specs.declared.printed.ClientFraming.TheVariants as C
use Rattle.ts_wire.specs.FieldList.{members_named}
use Rattle.ts_wire.specs.Limits.{body_limit, no_content, status_limit}
use Rattle.ts_wire.specs.Check.{check}
use Rattle.ts_wire.specs.Forward.{forwarded}
use Rattle.ts_wire.specs.Framing.{is_length, is_length_of, content_length, coding_named, length_named}
use Rattle.ts_wire.specs.Framing.{has_no_body, framing_by, framing}
use Rattle.ts_wire.specs.OneHead.{IsPlainField, IsChangeOf, IsSendable}
use Rattle.ts_wire.specs.OneHead.{IsReadRequest, IsReadResponse}
use Rattle.ts_wire.proofs.PlainFields.{plain_from}
use Rattle.ts_wire.proofs.PlainForward.{forwards_plainly, forwards_unchanged}
use Rattle.ts_wire.proofs.SentRequest.{sends_one_request}
use Rattle.ts_wire.proofs.SentResponse.{sends_one_response}
use Rattle.ts_block.specs.declared.own_answer.OwnStatus.{OwnStatus}
use Rattle.ts_block.specs.declared.own_answer.OwnStatus.TheVariants as O
use Rattle.ts_block.specs.declared.block.Block.{Block}
use Rattle.ts_block.specs.Rules.{ruled}
use Rattle.ts_block.specs.Own.{code_of, own_body, own_field, own_reason}
use Rattle.ts_block.specs.Relayed.{client_framing, framing_of, kept_length, length_by, length_told}
use Rattle.ts_block.specs.Relayed.{mode_of, open_framing}
use Rattle.ts_block.specs.Heads.{HasRequest, HasResponse, FinalHead}
use Rattle.ts_block.specs.Block.{request_text, own_text, own_block, framing_for, relayed_head}
use Rattle.ts_block.specs.Block.{is_acted_on, AnswerSays, lacking, passed_on, BodySays, ended, early, cut, bad}
use Rattle.ts_block.specs.Block.{DialSays, DenySays, VerdictSays, IsBlock, silent, no_head, asked}
use Rattle.ts_block.specs.Sent.{HasPlainRules, RequestStaysOne, AnswerStaysOne, ResponseStaysOne}
use Rattle.ts_block.specs.Sent.{IsClientRequest, IsOneResponse, SendsOneEach, BlocksSendOneEach}
use Rattle.ts_block.proofs.PlainRules.{ruled_plain}

-- ---- a length that was read can be sent

valid_small : (ms : List (List ℕ)) (n : ℕ) → content_length ms ≡ L.Valid n → n ≤ body_limit
valid_small [] n is = absurd (let wrong : L.Absent ≡ L.Valid n = is in cc)
valid_small (m ∷ ms) n is = by_test (is_length m && list_all (is_length_of (digits_value 10 m)) ms) refl is
  where
    by_test : (t : Bool) → (is_length m && list_all (is_length_of (digits_value 10 m)) ms) ≡ t
        → cond t (L.Valid (digits_value 10 m)) L.Faulty ≡ L.Valid n → n ≤ body_limit
    by_test false so other = absurd (let wrong : L.Faulty ≡ L.Valid n = other in cc)
    by_test true so same =
        let value : digits_value 10 m ≡ n = cc in
        let long = (both (is_length m) (list_all (is_length_of (digits_value 10 m)) ms) so).0 in
        let digits = (both (nat_lt 0 (length m)) (list_all is_ascii_digit m
        && nat_le (digits_value 10 m) body_limit) long).1 in
        let few = (both (list_all is_ascii_digit m) (nat_le (digits_value 10 m) body_limit) digits).1 in
        let within : digits_value 10 m ≤ body_limit = grind (arith, nat_tests, few) in
        omega (arith, value, within)

-- a framing whose length, if it has one, can be sent
abbrev HasSmallLength : Framing → Type 0
HasSmallLength (F.Sized n) = n ≤ body_limit
HasSmallLength _ = ⊤

abbrev IsSmallIf : Option ℕ → Type 0
IsSmallIf None = ⊤
IsSmallIf (Some n) = n ≤ body_limit

abbrev IsSmallValid : ContentLength → Type 0
IsSmallValid (L.Valid n) = n ≤ body_limit
IsSmallValid _ = ⊤

length_small : (fields : List Field) → IsSmallValid (length_named fields)
length_small fields = by_length (length_named fields) refl
  where
    by_length : (l : ContentLength) → length_named fields ≡ l → IsSmallValid l
    by_length L.Absent is = tt
    by_length (L.Valid n) is = valid_small (members_named (codes "content-length") fields) n is
    by_length L.Faulty is = tt

told_small : (coding : TransferCoding) (l : ContentLength) → IsSmallValid l → IsSmallIf (length_by coding l)
told_small T.Absent L.Absent small = tt
told_small T.Absent (L.Valid n) small = small
told_small T.Absent L.Faulty small = tt
told_small T.Chunked l small = tt
told_small T.Other l small = tt

by_small : (minor : ℕ) (coding : TransferCoding) (l : ContentLength) → IsSmallValid l
    → HasSmallLength (framing_by minor coding l)
by_small minor T.Absent L.Absent small = tt
by_small minor T.Absent (L.Valid n) small = small
by_small minor T.Absent L.Faulty small = tt
by_small minor T.Chunked l small = by_version (minor == 0)
  where
    by_version : (b : Bool) → HasSmallLength (cond b F.Faulty F.Chunked)
    by_version true = tt
    by_version false = tt
by_small minor T.Other l small = tt

framing_small : (status minor : ℕ) (fields : List Field) (to_head : Bool)
    → HasSmallLength (framing status minor fields to_head)
framing_small status minor fields to_head = by_body (has_no_body status to_head)
  where
    by_body : (b : Bool)
        → HasSmallLength (cond b F.Nothing (framing_by minor (coding_named fields) (length_named fields)))
    by_body true = tt
    by_body false = by_small minor (coding_named fields) (length_named fields) (length_small fields)

open_sendable : (chunks : Bool) → IsSendable (open_framing chunks)
open_sendable true = tt
open_sendable false = tt

kept_sendable : (acts : Bool) (status : ℕ) (told : Option ℕ) → IsSmallIf told
    → IsSendable (kept_length acts status told)
kept_sendable acts status None small = tt
kept_sendable acts status (Some n) small = by_test ((status == no_content) || acts)
  where
    by_test : (b : Bool) → IsSendable (cond b C.Nothing (C.Sized n))
    by_test true = tt
    by_test false = small

client_sendable : (f : Framing) (status : ℕ) (told : Option ℕ) (acts chunks : Bool) → HasSmallLength f
    → IsSmallIf told → IsSendable (client_framing f status told acts chunks)
client_sendable F.Nothing status told acts chunks small told_is = kept_sendable acts status told told_is
client_sendable (F.Sized n) status told false chunks small told_is = small
client_sendable (F.Sized n) status told true chunks small told_is = open_sendable chunks
client_sendable F.Chunked status told acts chunks small told_is = open_sendable chunks
client_sendable F.UntilClose status told acts chunks small told_is = open_sendable chunks
client_sendable F.Faulty status told acts chunks small told_is = tt

-- ---- the answers of the proxy's own

own_reason_passes : (status : OwnStatus) → AllPass is_value_byte (own_reason status)
own_reason_passes O.BadRequest = AllPass-from_test is_value_byte (own_reason O.BadRequest) refl
own_reason_passes O.Forbidden = AllPass-from_test is_value_byte (own_reason O.Forbidden) refl
own_reason_passes O.NotImplemented = AllPass-from_test is_value_byte (own_reason O.NotImplemented) refl
own_reason_passes O.BadGateway = AllPass-from_test is_value_byte (own_reason O.BadGateway) refl

own_status_small : (status : OwnStatus) → code_of status ≤ status_limit
own_status_small O.BadRequest = omega arith
own_status_small O.Forbidden = omega arith
own_status_small O.NotImplemented = omega arith
own_status_small O.BadGateway = omega arith

own_body_small : (status : OwnStatus) → length (own_body status) ≤ body_limit
own_body_small O.BadRequest = omega arith
own_body_small O.Forbidden = omega arith
own_body_small O.NotImplemented = omega arith
own_body_small O.BadGateway = omega arith

-- the one field of such an answer leaves the framing to the proxy
own_unchanged : IsChangeOf (own_field ∷ []) (own_field ∷ [])
own_unchanged =
    let plain : IsPlainField own_field = plain_from own_field (IsHeaderName-from_test own_field.name refl)
    (AllPass-from_test is_value_byte own_field.value.bytes refl) in
    record {
      leaves = record {
        plain = All-cons IsPlainField own_field [] plain (All-nil IsPlainField);
        connections = refl;
        lengths = refl;
        codings = refl;
      };
      hosts = refl;
    }

-- every head that a transaction finds is kept of a head of the grammar
pub was_read : (c : List ℕ) (q : RequestHead) (rest : List ℕ) → HasRequest c q rest → IsReadRequest q
was_read c q rest has = record { parsed = has.parsed; good = has.begins.reads.0; keeps = has.keeps }

pub was_answered : (o : List ℕ) (h : ResponseHead) (rest : List ℕ) → HasResponse o h rest → IsReadResponse h
was_answered o h rest has = record { parsed = has.parsed; good = has.begins.reads.0; keeps = has.keeps }

module _ (setup : Setup) (plain : HasPlainRules setup) where
  -- ---- the three heads

  pub request_stays_one : RequestStaysOne setup
  request_stays_one q target host read passes =
      sends_one_request q target host (ruled S.Request setup.plugins.items (forwarded q.fields))
      (request_text setup q target host) refl read passes
      (ruled_plain S.Request setup.plugins.items (forwarded q.fields) (forwarded q.fields) plain
      (forwards_unchanged q read))

  pub answer_stays_one : AnswerStaysOne setup
  answer_stays_one status =
      let fields = ruled S.Response setup.plugins.items (own_field ∷ []) in
      sends_one_response (code_of status) (own_reason status) fields None (C.Sized (length (own_body status)))
      (own_status_small status) (own_text setup status) refl (own_reason_passes status)
      (ruled_plain S.Response setup.plugins.items (own_field ∷ []) (own_field ∷ []) plain
      own_unchanged).leaves (own_body_small status)

  -- how a response is framed for the client can be sent
  framing_sendable : (q : RequestHead) (h : ResponseHead) → IsSendable (framing_for setup q h)
  framing_sendable q h =
      client_sendable (framing_of q h) h.status (length_told h.fields) (is_acted_on setup h) _
      (framing_small h.status h.minor h.fields _)
      (told_small (coding_named h.fields) (length_named h.fields) (length_small h.fields))

  pub response_stays_one : ResponseStaysOne setup
  response_stays_one q h read =
      let sent = forwards_plainly h read in
      let unchanged : IsChangeOf (forwarded h.fields) (forwarded h.fields) =
      record { leaves = sent.1; hosts = refl } in
      let fields = ruled S.Response setup.plugins.items (forwarded h.fields) in
      sends_one_response h.status h.reason fields (Some h.minor) (framing_for setup q h) h.digits
      (relayed_head setup q h) refl sent.0
      (ruled_plain S.Response setup.plugins.items (forwarded h.fields) (forwarded h.fields) plain
      unchanged).leaves
      (framing_sendable q h)

  -- ---- the block, case by case

  -- a block that is this one
  made_so : (c : List ℕ) (b made : Block) → b ≡ made → (made.request ≡ []) ⊎ IsClientRequest c made.request
      → IsOneResponse made.mode made.head → SendsOneEach c b
  made_so c b made is request answer =
      subst (SendsOneEach c) (sym is) (record { request = request; answer = inr answer })

  own_so : (c request : List ℕ) (status : OwnStatus) (to_head : Bool) (b : Block)
      → (request ≡ []) ⊎ IsClientRequest c request → b ≡ own_block setup request status to_head
      → SendsOneEach c b
  own_so c request status to_head b once is =
      made_so c b (own_block setup request status to_head) is once
      (record {
        status = code_of status;
        framing = C.Sized (length (own_body status));
        mode_is = refl;
        sends = answer_stays_one status;
      })

  relayed_answer : (q : RequestHead) (o : List ℕ) (h : ResponseHead) (rest : List ℕ) → FinalHead o h rest
      → IsOneResponse (mode_of (framing_for setup q h)) (relayed_head setup q h)
  relayed_answer q o h rest final = record {
    status = h.status;
    framing = framing_for setup q h;
    mode_is = refl;
    sends = response_stays_one q h (was_answered final.from h rest final.reads);
  }

  body_so : (c request : List ℕ) (q : RequestHead) (o : List ℕ) (h : ResponseHead) (rest : List ℕ) (b : Block)
      → (request ≡ []) ⊎ IsClientRequest c request → FinalHead o h rest → BodySays setup request q h rest b
      → SendsOneEach c b
  body_so c request q o h rest b once final (ended body over is) =
      made_so c b _ is once (relayed_answer q o h rest final)
  body_so c request q o h rest b once final (early front more read state text part soon is) =
      made_so c b _ is once (relayed_answer q o h rest final)
  body_so c request q o h rest b once final (cut body short late is) =
      made_so c b _ is once (relayed_answer q o h rest final)
  body_so c request q o h rest b once final (bad body wrong late is) =
      made_so c b _ is once (relayed_answer q o h rest final)

  answer_so : (c request : List ℕ) (q : RequestHead) (o : List ℕ) (b : Block)
      → (request ≡ []) ⊎ IsClientRequest c request → AnswerSays setup request q o b → SendsOneEach c b
  answer_so c request q o b once (lacking l is) = own_so c request O.BadGateway _ b once is
  answer_so c request q o b once (passed_on h rest final good says) =
      body_so c request q o h rest b once final says

  module _ (dialed : Bool) (refuses : Type 0) (o c : List ℕ) where
    dial_so : (d : Bool) (request : List ℕ) (q : RequestHead) (b : Block) → IsClientRequest c request
        → DialSays setup dialed refuses o d request q b → SendsOneEach c b
    dial_so false request q b once is = own_so c [] O.BadGateway _ b (inl refl) is
    dial_so true request q b once (inl (r, is)) = own_so c request O.BadRequest _ b (inr once) is
    dial_so true request q b once (inr (free, says)) = answer_so c request q o b (inr once) says

    deny_so : (d : Bool) (request : List ℕ) (q : RequestHead) (b : Block) → IsClientRequest c request
        → DenySays setup dialed refuses o d request q b → SendsOneEach c b
    deny_so true request q b once is = own_so c [] O.Forbidden _ b (inl refl) is
    deny_so false request q b once says = dial_so dialed request q b once says

    verdict_so : (r : Result (List ℕ × List ℕ) ℕ) (q : RequestHead) (rest : List ℕ) (b : Block)
        → HasRequest c q rest → check q ≡ r → VerdictSays setup dialed refuses o r q b → SendsOneEach c b
    verdict_so (Err status) q rest b has is says = own_so c [] _ _ b (inl refl) says
    verdict_so (Ok (target, host)) q rest b has is says =
        let once : IsClientRequest c (request_text setup q target host) = record {
          head = q;
          rest = rest;
          target = target;
          host = host;
          has = has;
          checked = is;
          sends = request_stays_one q target host (was_read c q rest has) is;
        } in
        deny_so _ (request_text setup q target host) q b once says

    pub block_sends_one_each : (b : Block) → IsBlock setup dialed refuses o c b → SendsOneEach c b
    block_sends_one_each b (silent e is) = subst (SendsOneEach c) (sym is)
        (record { request = inl refl; answer = inl refl })
    block_sends_one_each b (no_head n l is) = own_so c [] O.BadRequest false b (inl refl) is
    block_sends_one_each b (asked n q rest has says) = verdict_so (check q) q rest b has refl says

-- the block of all bytes, where a link refuses uploads or not
pub blocks_send_one_each : (setup : Setup) → HasPlainRules setup → BlocksSendOneEach setup
blocks_send_one_each setup plain dialed refuses o c b says =
    block_sends_one_each setup plain dialed (refuses ≡ true) o c b says
