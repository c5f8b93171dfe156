use Rattle.std.proofs.Common.{sym}
use Rattle.ts_wheel.proofs.Joined.{first_moment-joined, joined-from}
use Rattle.ts_wheel.proofs.rows.moment_of.Goals as goal

-- the first key is the moment of the first token
pub returns-clause-first : goal.returns-clause-first
returns-clause-first g c = let first = c.in_ok-due in sym
    (first_moment-joined c.args.rows.now.entries (first.due.now, first._row.now) first.ensures.first
    c.requires)

pub returns-clause-least : goal.returns-clause-least
returns-clause-least g c = joined-from c.in_ok-due.due.now c.args.rows.now.entries
    c.in_ok-due.ensures.all_from
