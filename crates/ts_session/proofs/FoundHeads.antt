-- What the parser's answer on the first bytes of a client says of its next request.
use Rattle.std.proofs.Common.{◌≡◌, ℕ, ◌<◌, ◌≤◌, List, [], ◌++◌, length, drop, sym, ap, ◌∙◌, arith}
use Rattle.std.proofs.Common.{append_assoc}
use Rattle.std.proofs.Common.{length-append}
use Rattle.std.proofs.lemmas.List.{take_all}
use Rattle.httparse.specs.declared.spans.HeaderSpan.{HeaderSpan}
use Rattle.httparse.specs.declared.spans.RequestSpans.{RequestSpans}
use Rattle.httparse.specs.Grammar.{HasNoRequest, NeverHasRequest, RequestHead, print_request}
use Rattle.httparse.specs.Spans.{IsRequestAt, IsRequestWithin, RequestExceeds, RequestOverflows}
use Rattle.ts_wire.specs.Heads.{BeginsWithRequest, LacksRequest}
use Rattle.ts_wire.specs.Limits.{field_limit, head_limit}
use Rattle.ts_wire.proofs.FrontLemmas.{full_of_none}
use Rattle.ts_wire.proofs.HeadLemmas.{few_fields}
use Rattle.ts_wire.proofs.RequestLemmas.{request_some}
use Rattle.ts_session.specs.Finding.{NeverRequest}

-- no head is there
pub none_now : (bytes : List ℕ) → HasNoRequest bytes → LacksRequest bytes
none_now bytes none h rest begins = none h rest begins.reads

-- none comes to be
pub none_ever : (bytes : List ℕ) → NeverHasRequest bytes → NeverRequest bytes
none_ever bytes never more h rest begins = never more h rest begins.reads

-- each has too many fields
pub too_many_ever : (bytes : List ℕ) (room : ℕ) → field_limit ≤ room → RequestOverflows room bytes
    → NeverRequest bytes
too_many_ever bytes room wide over more h rest begins =
    absurd (omega (arith, over more h rest begins.reads, begins.few, wide))

-- none is there, in as many bytes as a head may have
pub too_long_ever : (bytes : List ℕ) → length bytes ≤ head_limit → head_limit ≤ length bytes
    → HasNoRequest bytes → NeverRequest bytes
too_long_ever bytes fits full none more h rest begins =
    (full_of_none {Exceeds = RequestExceeds} bytes bytes (sym
    (take_all head_limit bytes fits)) full none).lacks more h rest begins

-- one is there
pub head_there : (bytes : List ℕ) (hs : List HeaderSpan) (spans : RequestSpans) (h : RequestHead)
    → length bytes ≤ head_limit → length hs ≡ field_limit → IsRequestWithin bytes hs spans
    → IsRequestAt bytes hs spans h → BeginsWithRequest bytes h (drop spans.len bytes)
head_there bytes hs spans h fits room within at =
    let short = within.section.len_fits in
    let few = few_fields hs spans.headers bytes h.fields at.fields in
    record {
      reads = at.reads;
      short = omega (arith, at.len, short, fits);
      few = omega (arith, few, room);
    }

-- it stays there, whatever follows
pub begins_more : (bytes more : List ℕ) (h : RequestHead) (rest : List ℕ) → BeginsWithRequest bytes h rest
    → BeginsWithRequest (bytes ++ more) h (rest ++ more)
begins_more bytes more h rest begins = record {
  reads = (
    begins.reads.0,
    ap (λ l. l ++ more) begins.reads.1 ∙ append_assoc (print_request h) rest more,
  );
  short = begins.short;
  few = begins.few;
}

-- and has some bytes
pub begins_some : (bytes : List ℕ) (h : RequestHead) (rest : List ℕ) → BeginsWithRequest bytes h rest
    → 0 < length bytes
begins_some bytes h rest begins =
    omega (arith, ap length begins.reads.1, length-append (print_request h) rest, request_some h)

-- no bytes are no head
pub lacks_none : LacksRequest []
lacks_none h rest begins = let some = begins_some [] h rest begins in absurd (omega (arith, some))
