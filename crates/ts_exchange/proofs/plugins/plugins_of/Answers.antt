-- The plugins are those of one line more.
use Rattle.std.proofs.Common.{◌∷◌, ◌++◌, [], take, sym, ap, subst, ◌∙◌}
use Rattle.std.proofs.lemmas.List.{take_all, take_more}
use Rattle.std.proofs.lemmas.Slice.Zip.{all_zipped_more}
use Rattle.ts_exchange.specs.Plugins.{ArePluginsOf, IsPluginOfLine}
use Rattle.ts_exchange.proofs.plugins.plugins_of.Goals as goal

pub lines-preserved : goal.lines-preserved
lines-preserved c =
    let i = c.lines.line-index in
    let lines = c.args.lines.now in
    let line = c.line-item.result in
    let passed = take_more lines i line c.lines-test.true ∙ ap (λ l. take i lines ++ l ∷ [])
    (sym c.line-item.is) in
    subst (λ ls. ArePluginsOf ls c.push.new.self.items) (sym passed)
    (subst (λ ps. ArePluginsOf (take i lines ++ line ∷ []) ps) (sym c.in_ok-push.ensures.items)
    (all_zipped_more IsPluginOfLine (take i lines) c.lines.plugins.items line c.in_ok-plugin.plugin
    c.lines.invariant c.in_ok-plugin.ensures))

pub returns : goal.returns
returns c = subst (λ ls. ArePluginsOf ls c.lines.plugins.items)
    (take_all c.lines.line-index c.args.lines.now c.lines-test.false) c.lines.invariant
