use Rattle.std.proofs.Common.{ap, sym, ◌∙◌}
use Rattle.ts_wire.specs.RequestEnds.{upload_of}
use Rattle.ts_request.proofs.FoundUpload.{other_ever, too_long_ever, upload_there}
use Rattle.ts_request.proofs.finding.find_upload.Goals as goal

pub returns-in-Some : goal.returns-in-Some
returns-in-Some c =
    let some = rw c.in-Ok-Complete.field-0-is at c.in-Ok-Complete.ensures.complete in
    let within = rw c.in-Ok-Complete.field-0-is at c.in-Ok-Complete.ensures.within in
    let ends = ap upload_of (sym (c.request_end.ensures some.0 some.1)) in (
      some.0,
      upload_there c.args.bytes.now _ _ some.0 c.in-Some.framing c.requires c.parse_request.auto.headers
          within some.1
          (ends ∙ sym c.upload.ensures ∙ c.in-Some.is),
      some.1.len,
    )

pub returns-in-None : goal.returns-in-None
returns-in-None c =
    let some = rw c.in-Ok-Complete.field-0-is at c.in-Ok-Complete.ensures.complete in
    let ends = ap upload_of (sym (c.request_end.ensures some.0 some.1)) in
    other_ever c.args.bytes.now _ _ some.0 some.1 (ends ∙ sym c.upload.ensures ∙ c.in-None.is)

pub returns-else-bytes-lt-MAX_HEAD : goal.returns-else-bytes-lt-MAX_HEAD
returns-else-bytes-lt-MAX_HEAD c =
    too_long_ever c.args.bytes.now c.requires c.if-bytes-lt-MAX_HEAD.false
    (rw c.in-Ok-Partial.field-0-is at c.in-Ok-Partial.ensures.partial)
