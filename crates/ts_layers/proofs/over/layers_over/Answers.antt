-- The two ends that were made are new ones, which belong together.
use Rattle.std.specs.Arc.{arc_value}
use Rattle.ts_layers.proofs.Layering.{new_layers}
use Rattle.ts_layers.proofs.over.layers_over.Goals as goal

pub returns-clause-ends : goal.returns-clause-ends
returns-clause-ends g c =
    new_layers g.C.Link g.O.Link g.O.Upstream g.P.Transform (arc_value c.args.setup.now) c.args.keeps
    c.args.client c.args.origin c.in_ok-client.client c.in_ok-origin.origin c.in_ok-client.ensures
    c.in_ok-origin.ensures c.requires.ends c.requires.acts c.paired.ensures
