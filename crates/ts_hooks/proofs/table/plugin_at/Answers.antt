use Rattle.std.proofs.Common.{sym, get_or, arith, ◌∙◌}
use Rattle.std.specs.Prelude.{Ok, Err}
use Rattle.ts_hooks.specs.declared.hook.Hook.TheVariants.{TxnStart}
use Rattle.ts_hooks.proofs.Passing.{first_left, none_left}
use Rattle.ts_hooks.proofs.table.plugin_at.Goals as goal

pub returns-then-left-eq0 : goal.returns-then-left-eq0
returns-then-left-eq0 c =
    c.loop-at.invariant (Ok (get_or c.args.plugins.now c.loop-at.at-index (TxnStart, 0)).1)
    (rw c.if-left-eq0.true (first_left c.args.hook c.args.plugins.now c.loop-at.at-index (TxnStart, 0)
    (omega arith) (sym c.is_same.ensures ∙ c.if-is_same.true)))

pub returns : goal.returns
returns c = c.loop-at.invariant (Err c.loop-at.left)
    (none_left c.args.hook c.args.plugins.now c.loop-at.at-index c.loop-at.left (omega arith))
