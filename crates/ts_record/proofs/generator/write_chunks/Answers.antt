use Rattle.std.proofs.Common.{rules, ◌++◌, length, ◌<◌}
use Rattle.ts_record.specs.Generator.{chunks_by}
use Rattle.ts_record.proofs.Generating.{chunk_more}
use Rattle.ts_record.proofs.generator.write_chunks.Goals as goal

pub chunks-preserved : goal.chunks-preserved
chunks-preserved c =
    let some : 0 < length c.chunks.rest.now = search rules in
    chunk_more c.chunks.out c.write_chunk.new.out c.chunks.rest.now c.split_at.result.0.now
    c.split_at.result.1.now (c.args.out.now ++ chunks_by (length c.args.body.now) c.args.body.now) some
    (search rules) (search rules) c.chunks.invariant c.in_ok-write_chunk.ensures
