-- What the parser's answer on the first bytes says of all of them: requests.
use Rattle.std.proofs.Common.{◌≡◌, ℕ, ◌<◌, List, length, take, sym, subst, ◌∙◌}
use Rattle.httparse.specs.declared.spans.HeaderSpan.{HeaderSpan}
use Rattle.httparse.specs.declared.spans.RequestSpans.{RequestSpans}
use Rattle.httparse.specs.Grammar.{RequestHead, print_request}
use Rattle.httparse.specs.Spans.{IsRequestWithin, IsRequestAt}
use Rattle.ts_wire.specs.Limits.{head_limit, field_limit}
use Rattle.ts_wire.specs.declared.heads.RequestHead as kept
use Rattle.ts_wire.specs.Heads.{KeepsRequest, IsRequestOf}
use Rattle.ts_wire.proofs.HeadLemmas.{ends_some, span_front, headers_front}
use Rattle.ts_wire.proofs.FrontLemmas.{found, own_rest, section_own}

-- a head has at least the end of its section
pub request_some : (h : RequestHead) → 0 < length (print_request h)
unfolding print_request
request_some h = ends_some _ h.fields h.last

-- the head whose spans these are is the one that the bytes begin with
pub request_found : (bytes front : List ℕ) (hs : List HeaderSpan) (spans : RequestSpans)
    (head : kept.RequestHead)
    → front ≡ take head_limit bytes → length hs ≡ field_limit → IsRequestWithin front hs spans
    → (h : RequestHead) → IsRequestAt front hs spans h → KeepsRequest h head
    → IsRequestOf bytes head spans.len
request_found bytes front hs spans head is room within h at keeps =
    found bytes front hs spans.len spans.headers head is room
    within.section h at.reads at.len (request_some h) at.fields keeps

-- the head's own bytes are as good as those with what follows
pub request_at_own : (front text : List ℕ) (hs : List HeaderSpan) (spans : RequestSpans)
    → text ≡ take spans.len front
    → IsRequestWithin front hs spans → (h : RequestHead) → IsRequestAt front hs spans h
    → IsRequestAt text hs spans h
request_at_own front text hs spans own within h at =
    let n = spans.len in
    subst (λ t. IsRequestAt t hs spans h) (sym own) (record {
      reads = (at.reads.0, own_rest (print_request h) front n at.len at.reads.1);
      len = at.len;
      method = span_front n front spans.method within.method ∙ at.method;
      path = span_front n front spans.path within.path ∙ at.path;
      version = at.version;
      fields = headers_front n front (take spans.headers hs) within.section.headers_fit ∙ at.fields;
    })

pub request_within_own : (front text : List ℕ) (hs : List HeaderSpan) (spans : RequestSpans)
    → text ≡ take spans.len front → IsRequestWithin front hs spans → IsRequestWithin text hs spans
request_within_own front text hs spans own within = record {
  method = within.method;
  path = within.path;
  version = within.version;
  section = section_own front text hs spans.len spans.headers own within.section;
}
