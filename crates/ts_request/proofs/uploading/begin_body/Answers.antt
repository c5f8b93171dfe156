-- The head goes on with its line, and the body sets out.
use Rattle.std.proofs.Common.{◌≡◌, List, ap, arith, length, subst, sym, ◌∙◌}
use Rattle.ts_config.specs.declared.setup.Setup.{Setup}
use Rattle.ts_config.specs.declared.setup.TransformLine.{TransformLine}
use Rattle.ts_wire.specs.Printed.{with_framing}
use Rattle.ts_wire.specs.declared.frames.Mode.{Mode}
use Rattle.ts_request.specs.BodyWay.{mode_said}
use Rattle.ts_request.specs.Carrying.{request_lines}
use Rattle.ts_request.specs.Making.{IsFreshPassage}
use Rattle.ts_request.specs.Sent.{sent_framing}
use Rattle.ts_request.proofs.Beginning.{begins_body, line_long}
use Rattle.ts_request.proofs.uploading.begin_body.Goals as goal

pub returns-clause-ok : goal.returns-clause-ok
returns-clause-ok g c f pair uploading =
    let old = c.args.carrier.now in
    let lines : c.as_slice-lines.result.now ≡ request_lines old =
    c.as_slice-lines.ensures.value ∙ ap (λ (s : Setup). s.requests.items) c.deref.ensures in
    let said : c.sent_framing-said.result ≡ sent_framing c.args.framing (request_lines old) =
    c.sent_framing-said.ensures ∙ ap (sent_framing c.args.framing) lines in
    let out = c.begin_block.new.out in
    let text : out ≡ with_framing old.out (sent_framing c.args.framing (request_lines old)) =
    c.begin_block.ensures ∙ c.in_ok-out.ensures ∙ c.in_ok-head.ensures ∙ ap (with_framing old.out) said in
    let fresh = subst (λ (m : Mode). IsFreshPassage g.P.Transform (request_lines old) c.args.framing m
    c.in_ok-passage.passage) (c.mode_said.ensures ∙ ap mode_said said)
    (subst (λ (ls : List TransformLine). IsFreshPassage g.P.Transform ls c.args.framing c.mode_said.result
    c.in_ok-passage.passage) lines c.in_ok-passage.ensures) in
    let lens = line_long old.out out (sent_framing c.args.framing (request_lines old)) text in
    begins_body g.C.Link g.O.Link g.O.Upstream g.P.Transform f old c.requires.held pair c.args.framing
    uploading
    out text c.in_ok-passage.passage fresh c.len-len.result c.saturating_sub-line.result
    (sym c.len-len.ensures)
    (let bytes = ap length c.bytes.ensures in
    let begun = ap length (c.begin_block.ensures ∙ c.in_ok-out.ensures) in
    omega (arith, lens.1, c.saturating_sub-line.ensures, bytes, begun, c.len-len.ensures))
