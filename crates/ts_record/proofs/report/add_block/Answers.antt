-- Each part stands behind those before it.
use Rattle.std.proofs.Common.{◌++◌, ℕ, List, ap, ◌∙◌}
use Rattle.ts_record.specs.Report.{request_lines, upload_text, head_lines, body_text, tap_text}
use Rattle.ts_record.proofs.BlockParts.{block_parts}
use Rattle.ts_record.proofs.report.add_block.Goals as goal

pub returns-clause-text : goal.returns-clause-text
returns-clause-text c =
    let b = c.args.block.now in
    let before : List ℕ = c.args.out.now.items in
    block_parts c.print_tap.result before (request_lines c.args.number b.request) (upload_text b.upload)
    (head_lines b.end b.head) (body_text b.end b.content) (tap_text b.tap)
    c.print_request.new.out.items c.print_upload.new.out.items c.print_head.new.out.items
    c.print_body.new.out.items c.print_tap.new.out.items
    (c.in_ok-print_request.ensures.text
    ∙ ap (λ (x : List ℕ). before ++ request_lines c.args.number x) c.bytes.ensures)
    c.in_ok-print_upload.ensures.text
    (c.in_ok-print_head.ensures.text
    ∙ ap (λ (x : List ℕ). c.print_upload.new.out.items ++ head_lines b.end x) c.bytes-2.ensures)
    (c.in_ok-print_body.ensures.text
    ∙ ap (λ (x : List ℕ). c.print_head.new.out.items ++ body_text b.end x) c.bytes-3.ensures)
    c.print_tap.ensures.text
