-- The plugin of each line that was passed has a group behind those that were there.
use Rattle.std.specs.Prelude.{take}
use Rattle.ts_exchange.specs.Rows.{StandBehind}
use Rattle.ts_exchange.proofs.row.add_plugins.Given as goal

abbrev pub invariant-lines : goal.invariant-lines
invariant-lines g l = StandBehind g.C.Link g.O.Link g.O.Upstream g.P.Transform (take l.line-index l.lines)
    l.fn.row.tags.items l.tags.items l.fn.row.groups.items l.groups.items
