use Rattle.std.proofs.Common.{◌++◌, ap, ◌∙◌, append_assoc}
use Rattle.std.specs.Prelude.{codes, decimal}
use Rattle.httparse.specs.Ascii.{crlf_bytes}
use Rattle.ts_wire.proofs.printed.add_length.Goals as goal

pub returns : goal.returns
returns c =
    let out = c.args.out.now.items in
    let name = codes "content-length: " in
    let digits = decimal c.args.n in
    c.in_ok-add-3.ensures
    ∙ ap (λ l. l ++ crlf_bytes) (c.in_ok-add-2.ensures
    ∙ ap (λ l. c.add.new.out.items ++ l) (c.as_bytes.ensures.value ∙ c.in_ok-digits.ensures.ok)
    ∙ ap (λ l. l ++ digits) c.in_ok-add.ensures)
    ∙ append_assoc (out ++ name) digits crlf_bytes ∙ append_assoc out name (digits ++ crlf_bytes)
