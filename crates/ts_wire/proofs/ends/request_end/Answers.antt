use Rattle.std.proofs.Common.{map, ap, ◌∙◌}
use Rattle.ts_wire.specs.Heads.{span_field}
use Rattle.ts_wire.specs.RequestEnds.{end_by, end_of_parts}
use Rattle.ts_wire.proofs.HeadLemmas.{fields_kept}
use Rattle.ts_wire.proofs.ends.request_end.Goals as goal

-- the spans cover the parts of the head, whose end is then what was computed
pub returns : goal.returns
returns c h at =
    let text = c.args.text.now in
    let fields = ap (map (span_field text)) c.split_at.ensures.front ∙ fields_kept text _ _ at.fields in
    let method = c.of.ensures ∙ at.method in
    let target = c.of-2.ensures ∙ at.path in
    c.end_by.ensures
    ∙ (λ i. end_by (c.is_addressed-addressed.ensures i) c.args.spans.now.version (c.codings_at.ensures i)
    (c.lengths_at.ensures i))
    ∙ (λ i. end_of_parts (method i) (target i) (at.version i) (fields i))
