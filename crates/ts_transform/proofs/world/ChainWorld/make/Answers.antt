use Rattle.std.proofs.Common.{map, ◌∙◌}
use Rattle.ts_transform.specs.Flow.{fresh_stage}
use Rattle.ts_transform.proofs.Taking.{made_sound}
use Rattle.ts_transform.proofs.world.ChainWorld.make.Goals as goal

pub returns-clause-sound : goal.returns-clause-sound
returns-clause-sound g c = λ pending roles plain.
    let made = c.make.result in
    made_sound c.args.body (map (fresh_stage g.P.Transform.soon g.P.Transform.pause) c.args.parts.items)
    made.chain made.table.items made.running pending roles
    (c.make.ensures.chain ∙ c.in_ok-chain.ensures.made) c.make.ensures.fresh.1 plain
