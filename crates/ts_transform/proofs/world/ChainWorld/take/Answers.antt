use Rattle.ts_transform.proofs.Taking.{taken_sound}
use Rattle.ts_transform.proofs.world.ChainWorld.take.Goals as goal

pub returns-clause-sound : goal.returns-clause-sound
returns-clause-sound g c = λ pending roles sound awake.
    let old = c.args.self.now.driven in
    taken_sound old.chain c.take.new.self old.table.items old.running c.args.n pending roles
    c.take.ensures.takes c.take.ensures.given sound awake
