-- A transaction that was just made is sound: its hook table is that of its setup's lines.
use Rattle.std.proofs.Common.{List, ap, refl, ◌∙◌}
use Rattle.ts_config.specs.declared.fields.PluginLine.{PluginLine}
use Rattle.ts_config.specs.declared.setup.Setup.{Setup}
use Rattle.ts_plugin.specs.Lines.{table_of}
use Rattle.ts_txn.proofs.Made.{sound}
use Rattle.ts_txn.proofs.txn.Txn.make.Goals as goal

pub returns-clause-sound : goal.returns-clause-sound
returns-clause-sound g c = λ next roles.
    let lines = c.as_slice.ensures.value ∙ ap (λ (s : Setup). s.plugins.items) c.deref.ensures in
    sound g.C.Link g.O.Link c.args.client c.args.origin _ c.in_ok-client.ensures
    c.in_ok-origin.ensures g.O.Upstream g.P.Transform next roles c.requires.client c.requires.origin
    c.requires.pair c.requires.acts c.requires.setup
    (c.in_ok-hooks.ensures ∙ ap (λ (ls : List PluginLine). table_of c.args.plugins_at ls) lines)
    refl refl refl refl c.new.ensures.items
