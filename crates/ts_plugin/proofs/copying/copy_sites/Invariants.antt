-- The sites that were copied are the first of the list.
use Rattle.std.proofs.Common.{◌≡◌, ◌-◌, ◌++◌, drop, length}
use Rattle.ts_plugin.proofs.copying.copy_sites.Given as goal

abbrev pub invariant-loop-site : goal.invariant-loop-site
invariant-loop-site l = l.sites ≡ l.copied.items ++ drop (length l.copied.items) l.sites

abbrev pub decreases-loop-site : goal.decreases-loop-site
decreases-loop-site l = length l.sites - length l.copied.items
