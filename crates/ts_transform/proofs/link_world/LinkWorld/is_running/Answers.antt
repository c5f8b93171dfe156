use Rattle.std.proofs.Common.{sym, ◌∙◌}
use Rattle.ts_transform.proofs.Joined.{all_carried}
use Rattle.ts_transform.proofs.link_world.LinkWorld.is_running.Goals as goal

pub returns-clause-finished : goal.returns-clause-finished
returns-clause-finished g c = λ runs next roles carried.
    let self = c.args.self.now in
    let running = sym c.is_running.ensures ∙ runs in
    all_carried self.driven.chain self.driven.table.items self.writer self.reader roles
    (carried.joined running) (carried.ends running) carried.ordered
