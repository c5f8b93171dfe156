-- The lines of hook plugins in the order in which they act: their rules are those of the text.
use Rattle.std.proofs.Common.{◌≡◌, List, true, not, sym, ap, subst}
use Rattle.std.specs.List.{All, filter}
use Rattle.std.proofs.lemmas.List.Elements.{All-append, All-filter}
use Rattle.ts_config.specs.Rules.{HasPlainRule}
use Rattle.ts_config.specs.Setup.{ConfigLines, acting_plugins, in_order, is_session, lines_of}
use Rattle.ts_config.specs.declared.fields.PluginLine.{PluginLine}
use Rattle.ts_config.specs.declared.setup.Setup.{Setup}
use Rattle.ts_plugin.specs.Lines.{AreOrdered}
use Rattle.ts_plugin.proofs.InOrder.{acting_ordered}

acting_plain : (lines : List PluginLine) → All HasPlainRule lines
    → All HasPlainRule (acting_plugins true lines)
acting_plain lines plain =
    All-append HasPlainRule (filter (λ l. not (is_session l)) lines) (filter is_session lines)
    (All-filter (λ l. not (is_session l)) HasPlainRule lines plain)
    (All-filter is_session HasPlainRule lines plain)

same_plugins : (read setup : Setup) → lines_of setup ≡ in_order true (lines_of read)
    → setup.plugins.items ≡ acting_plugins true read.plugins.items
same_plugins read setup same = ap (λ (ls : ConfigLines). ls.plugins) same

pub plain_in_order : (read setup : Setup) → lines_of setup ≡ in_order true (lines_of read)
    → All HasPlainRule read.plugins.items → All HasPlainRule setup.plugins.items
plain_in_order read setup same plain =
    subst (All HasPlainRule) (sym (same_plugins read setup same)) (acting_plain read.plugins.items plain)

pub ordered_in_order : (read setup : Setup) → lines_of setup ≡ in_order true (lines_of read)
    → AreOrdered setup.plugins.items
ordered_in_order read setup same =
    subst AreOrdered (sym (same_plugins read setup same)) (acting_ordered true read.plugins.items)
