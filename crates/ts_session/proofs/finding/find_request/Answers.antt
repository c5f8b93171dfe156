-- What the parser's answer says of the next request.
use Rattle.std.proofs.Common.{ap, ◌∙◌, ◌&&◌, map}
use Rattle.std.specs.Prelude.{◌==◌, bytes_eq, codes, not}
use Rattle.ts_wire.specs.Forward.{is_option}
use Rattle.ts_wire.specs.Heads.{span_field}
use Rattle.ts_wire.proofs.HeadLemmas.{fields_kept}
use Rattle.ts_session.proofs.FoundHeads.{head_there, too_long_ever}
use Rattle.ts_session.proofs.finding.find_request.Goals as goal

pub returns-in-Ok-Complete : goal.returns-in-Ok-Complete
returns-in-Ok-Complete c =
    let text = c.args.bytes.now in
    let some = rw c.in-Ok-Complete.field-0-is at c.in-Ok-Complete.ensures.complete in
    let within = rw c.in-Ok-Complete.field-0-is at c.in-Ok-Complete.ensures.within in
    let closes =
    c.says_any_close.ensures
    ∙ ap (λ fs. is_option (map (span_field text) fs) (codes "close")) c.split_at.ensures.front
    ∙ ap (λ fs. is_option fs (codes "close")) (fields_kept text _ some.0.fields some.1.fields) in
    record {
      head = some.0;
      begins = head_there text _ _ some.0 c.requires c.parse_request.auto.headers within some.1;
      used_is = some.1.len;
      used_fits = within.section.len_fits;
      end_is = c.request_end.ensures some.0 some.1;
      persists_is = c.persists.ensures ∙ (λ i. (some.1.version i == 1) && not (closes i));
      asks_is = c.eq.ensures ∙ (λ i. bytes_eq ((c.of.ensures ∙ some.1.method) i) (c.as_slice.ensures i));
    }

pub returns-else-bytes-lt-MAX_HEAD : goal.returns-else-bytes-lt-MAX_HEAD
returns-else-bytes-lt-MAX_HEAD c =
    too_long_ever c.args.bytes.now c.requires c.if-bytes-lt-MAX_HEAD.false
    (rw c.in-Ok-Partial.field-0-is at c.in-Ok-Partial.ensures.partial)
