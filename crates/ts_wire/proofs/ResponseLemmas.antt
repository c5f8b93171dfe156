-- What the parser's answer on the first bytes says of all of them: responses.
use Rattle.std.proofs.Common.{◌≡◌, ℕ, ◌<◌, List, length, take, sym, subst, ◌∙◌}
use Rattle.httparse.specs.declared.spans.HeaderSpan.{HeaderSpan}
use Rattle.httparse.specs.declared.spans.ResponseSpans.{ResponseSpans}
use Rattle.httparse.specs.Grammar.{ResponseHead, print_response}
use Rattle.httparse.specs.Spans.{IsResponseWithin, IsResponseAt}
use Rattle.ts_wire.specs.Limits.{head_limit, field_limit}
use Rattle.ts_wire.specs.declared.heads.ResponseHead as kept
use Rattle.ts_wire.specs.Heads.{KeepsResponse, IsResponseOf}
use Rattle.ts_wire.proofs.HeadLemmas.{ends_some, span_front, headers_front}
use Rattle.ts_wire.proofs.FrontLemmas.{found, own_rest, section_own}

-- a head has at least the end of its section
pub response_some : (h : ResponseHead) → 0 < length (print_response h)
unfolding print_response
response_some h = ends_some _ h.fields h.last

-- the head whose spans these are is the one that the bytes begin with
pub response_found : (bytes front : List ℕ) (hs : List HeaderSpan) (spans : ResponseSpans)
    (head : kept.ResponseHead)
    → front ≡ take head_limit bytes → length hs ≡ field_limit → IsResponseWithin front hs spans
    → (h : ResponseHead) → IsResponseAt front hs spans h → KeepsResponse h head
    → IsResponseOf bytes head spans.len
response_found bytes front hs spans head is room within h at keeps =
    found bytes front hs spans.len spans.headers head is room
    within.section h at.reads at.len (response_some h) at.fields keeps

-- the head's own bytes are as good as those with what follows
pub response_at_own : (front text : List ℕ) (hs : List HeaderSpan) (spans : ResponseSpans)
    → text ≡ take spans.len front
    → IsResponseWithin front hs spans → (h : ResponseHead) → IsResponseAt front hs spans h
    → IsResponseAt text hs spans h
response_at_own front text hs spans own within h at =
    let n = spans.len in
    subst (λ t. IsResponseAt t hs spans h) (sym own) (record {
      reads = (at.reads.0, own_rest (print_response h) front n at.len at.reads.1);
      len = at.len;
      version = at.version;
      code = at.code;
      reason = span_front n front spans.reason within.reason ∙ at.reason;
      fields = headers_front n front (take spans.headers hs) within.section.headers_fit ∙ at.fields;
    })

pub response_within_own : (front text : List ℕ) (hs : List HeaderSpan) (spans : ResponseSpans)
    → text ≡ take spans.len front → IsResponseWithin front hs spans → IsResponseWithin text hs spans
response_within_own front text hs spans own within = record {
  version = within.version;
  code = within.code;
  reason = within.reason;
  section = section_own front text hs spans.len spans.headers own within.section;
}
