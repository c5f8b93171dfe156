use Rattle.std.proofs.Common.{◌<◌, length, arith, rules}
use Rattle.tsx.proofs.Reading.{all_read}
use Rattle.tsx.proofs.file_shelf.read_most.Goals as goal

-- (a list in memory is shorter than the greatest limit)
pub returns-clause-whole : goal.returns-clause-whole
returns-clause-whole g c =
    let bytes = c.read_to_end.new.buf in
    let short : length bytes.items < c.saturating_add.result =
    omega (arith, bytes.ok, bytes.small, c.if-seen-most.false, c.saturating_add.ensures, c.len-seen.ensures)
    in
    all_read (g.F.Read.remaining c.args.file) c.saturating_add.result bytes (search rules) short
