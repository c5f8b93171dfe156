-- The plugins of the lines of a setup, each with the tag of its slot.
use Rattle.std.specs.Prelude.{◌≡◌, List}
use Rattle.std.specs.List.{AllZip}
use Rattle.ts_config.specs.declared.fields.PluginLine.{PluginLine}
use Rattle.ts_plugin.specs.declared.plugin.Plugin.{Plugin}
use Rattle.ts_plugin.specs.declared.plugin.PluginTag.{PluginTag}
use Rattle.ts_exchange.specs.declared.plugins.Tagged.{Tagged}

-- it is the plugin of this line, and so says its tag
pub record IsPluginOfLine (line : PluginLine) (tagged : Tagged Plugin PluginTag) : Type 0 where
  pub world : tagged.world.line ≡ line
  pub tag_is : tagged.tag.line.value ≡ line

-- such plugins, one for each of these lines, in their order
abbrev pub ArePluginsOf : List PluginLine → List (Tagged Plugin PluginTag) → Type 0
ArePluginsOf lines plugins = AllZip IsPluginOfLine lines plugins
