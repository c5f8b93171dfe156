use Rattle.std.proofs.Common.{◌≡◌, ◌++◌, OnOk, length, codes, ap, sym, subst, ◌∙◌, append_assoc}
use Rattle.ts_record.specs.Generator.{chunks_by, framed}
use Rattle.ts_record.proofs.generator.write_framed.Goals as goal

pub returns-in_ok-write-in-Chunks : goal.returns-in_ok-write-in-Chunks
returns-in_ok-write-in-Chunks c =
    let body = c.args.body.now in
    let chunks = chunks_by (length body) body in
    subst (λ f. OnOk c.write_chunks.result (c.write_chunks.new.out ≡ c.args.out.now ++ framed f body))
    (sym c.in-Chunks.is)
    (subst (λ t. OnOk c.write_chunks.result (c.write_chunks.new.out ≡ t))
    (ap (λ t. t ++ chunks) c.in_ok-write-in-Chunks.ensures.ok
    ∙ append_assoc c.args.out.now (codes "Transfer-Encoding: chunked\r\n\r\n") chunks)
    c.write_chunks.ensures)
