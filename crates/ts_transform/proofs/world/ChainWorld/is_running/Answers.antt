use Rattle.std.proofs.Common.{sym, ◌∙◌}
use Rattle.ts_transform.proofs.Taking.{all_ended}
use Rattle.ts_transform.proofs.world.ChainWorld.is_running.Goals as goal

pub returns-clause-finished : goal.returns-clause-finished
returns-clause-finished g c = λ runs roles sound none.
    let self = c.args.self.now in all_ended self.driven.chain self.driven.table.items self.driven.running
    roles sound (sym c.is_running.ensures ∙ runs) none
