use Rattle.std.proofs.Common.{◌+◌, ap}
use Rattle.ts_request.proofs.KeptLines.{line_more}
use Rattle.ts_request.proofs.lines.keep_lines.Goals as goal

-- one line more was looked at
pub lines-preserved : goal.lines-preserved
lines-preserved c =
    let kept = c.keep_line-kept in
    line_more c.args.used c.args.room.now c.lines.room c.lines.kept c.lines.at
    (c.lines.at + c.line_len.result)
    c.requires c.lines-test.true c.lines.invariant (ap (λ n. c.lines.at + n) c.line_len.ensures)
    kept.new.room kept.result kept.ensures.front kept.ensures.behind kept.ensures.short kept.auto.room
