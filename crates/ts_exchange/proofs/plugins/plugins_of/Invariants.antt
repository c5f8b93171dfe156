-- Each line that was passed has its plugin.
use Rattle.std.specs.Prelude.{take}
use Rattle.ts_exchange.specs.Plugins.{ArePluginsOf}
use Rattle.ts_exchange.proofs.plugins.plugins_of.Given as goal

abbrev pub invariant-lines : goal.invariant-lines
invariant-lines l = ArePluginsOf (take l.line-index l.lines) l.plugins.items
