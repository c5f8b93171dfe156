-- With the lines that are left the table is that of all lines.
use Rattle.std.proofs.Common.{◌≡◌, ◌+◌, ◌++◌, List, Bool, [], drop}
use Rattle.std.specs.Prelude.{not}
use Rattle.ts_config.specs.declared.fields.PluginLine.{PluginLine}
use Rattle.ts_config.specs.Setup.{is_session}
use Rattle.ts_plugin.specs.Lines.{hooks_where}
use Rattle.ts_plugin.proofs.lines.table_of.Given as goal

abbrev pub invariant-loop-line : goal.invariant-loop-line
invariant-loop-line l =
    (l.table.global ++ hooks_where (λ line. not (is_session line)) l.group (drop l.line-index l.lines)
    ≡ hooks_where (λ line. not (is_session line)) l.first l.lines)
    × (l.table.session ++ hooks_where is_session l.group (drop l.line-index l.lines)
    ≡ hooks_where is_session l.first l.lines)
    × (l.table.txn ≡ []) × (l.group ≡ l.first + l.line-index)
