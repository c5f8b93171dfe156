use Rattle.ts_transform.proofs.Taking.{aborted_sound}
use Rattle.ts_transform.proofs.Flowing.{flow_aborted, left_aborted}
use Rattle.ts_transform.proofs.world.ChainWorld.abort.Goals as goal

pub returns-clause-flow : goal.returns-clause-flow
returns-clause-flow g c = flow_aborted g.P.Transform.rest c.args.self.now.driven.chain c.abort.new.self
    c.abort.ensures

pub returns-clause-left : goal.returns-clause-left
returns-clause-left g c = left_aborted g.P.Transform.rest c.args.self.now.driven.chain c.abort.new.self
    c.abort.ensures

pub returns-clause-sound : goal.returns-clause-sound
returns-clause-sound g c = λ pending roles sound.
    let old = c.args.self.now in aborted_sound old.driven.chain c.abort.new.self old.driven.table.items
    old.driven.running pending roles c.abort.ensures sound
