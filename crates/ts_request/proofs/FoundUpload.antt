-- What the parser's answer on the first bytes of a client says of an upload.
use Rattle.std.proofs.Common.{◌≡◌, ℕ, ◌≤◌, List, length, drop, Some, None, sym, ap, ◌∙◌, arith}
use Rattle.std.proofs.lemmas.List.{take_all}
use Rattle.httparse.specs.declared.spans.HeaderSpan.{HeaderSpan}
use Rattle.httparse.specs.declared.spans.RequestSpans.{RequestSpans}
use Rattle.httparse.specs.Grammar.{HasNoRequest, NeverHasRequest, RequestHead}
use Rattle.httparse.specs.Spans.{IsRequestAt, IsRequestWithin, RequestExceeds, RequestOverflows}
use Rattle.httparse.proofs.GrammarLemmas.{request_prefix_free}
use Rattle.ts_wire.specs.Limits.{field_limit, head_limit}
use Rattle.ts_wire.specs.declared.framing.Framing.{Framing}
use Rattle.ts_wire.proofs.FrontLemmas.{full_of_none}
use Rattle.ts_wire.proofs.HeadLemmas.{few_fields}
use Rattle.ts_request.specs.Upload.{HasUpload, LacksUpload, NeverHasUpload, upload_framing}

-- no head is there
pub none_now : (bytes : List ℕ) → HasNoRequest bytes → LacksUpload bytes
none_now bytes none h framing rest has = none h rest has.begins.reads

-- none comes to be
pub none_ever : (bytes : List ℕ) → NeverHasRequest bytes → NeverHasUpload bytes
none_ever bytes never more h framing rest has = never more h rest has.begins.reads

-- each has too many fields
pub too_many_ever : (bytes : List ℕ) (room : ℕ) → field_limit ≤ room → RequestOverflows room bytes
    → NeverHasUpload bytes
too_many_ever bytes room wide over more h framing rest has =
    absurd (omega (arith, over more h rest has.begins.reads, has.begins.few, wide))

-- none is there, in as many bytes as a head may have
pub too_long_ever : (bytes : List ℕ) → length bytes ≤ head_limit → head_limit ≤ length bytes
    → HasNoRequest bytes
    → NeverHasUpload bytes
too_long_ever bytes fits full none more h framing rest has =
    (full_of_none {Exceeds = RequestExceeds} bytes bytes (sym
    (take_all head_limit bytes fits)) full none).lacks
    more h rest has.begins

-- one is there, and its request has no upload
pub other_ever : (bytes : List ℕ) (hs : List HeaderSpan) (spans : RequestSpans) (h : RequestHead)
    → IsRequestAt bytes hs spans h → upload_framing h ≡ None → NeverHasUpload bytes
other_ever bytes hs spans h at none more k framing rest has =
    let same = (request_prefix_free bytes more h k (drop spans.len bytes) rest at.reads has.begins.reads).0 in
    let wrong : None ≡ Some framing = sym none ∙ ap upload_framing same ∙ has.framed in
    absurd (cc)

-- one is there, and it has
pub upload_there : (bytes : List ℕ) (hs : List HeaderSpan) (spans : RequestSpans) (h : RequestHead)
    (framing : Framing) → length bytes ≤ head_limit → length hs ≡ field_limit → IsRequestWithin bytes hs spans
    → IsRequestAt bytes hs spans h → upload_framing h ≡ Some framing
    → HasUpload bytes h framing (drop spans.len bytes)
upload_there bytes hs spans h framing fits room within at framed =
    let short = within.section.len_fits in
    let few = few_fields hs spans.headers bytes h.fields at.fields in
    record {
      begins = record {
        reads = at.reads;
        short = omega (arith, at.len, short, fits);
        few = omega (arith, few, room);
      };
      framed = framed;
    }
