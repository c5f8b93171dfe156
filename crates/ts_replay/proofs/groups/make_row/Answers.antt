-- The plugins of the setup's lines stand behind the transactions.
use Rattle.std.proofs.Common.{◌∙◌, ap}
use Rattle.std.specs.Arc.{arc_value}
use Rattle.ts_config.specs.declared.setup.Setup.{Setup}
use Rattle.ts_replay.proofs.Rows.{row_behind}
use Rattle.ts_replay.proofs.groups.make_row.Goals as goal

pub returns : goal.returns
returns c = row_behind (λ r. r.tags.items) (λ r. r.groups.items) (arc_value c.args.setup.now) c.args.txns.items
    c.as_slice.result.now c.in_ok-row.row.tags.items c.in_ok-row.row.groups.items c.add_plugins.result
    (c.as_slice.ensures.value ∙ ap (λ (s : Setup). s.plugins.items) c.deref.ensures) c.in_ok-row.ensures
    c.add_plugins.ensures
