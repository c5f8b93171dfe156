-- The names are those of the events.
use Rattle.std.proofs.Common.{◌∙◌, ap}
use Rattle.mio.specs.Events.{items}
use Rattle.ts_net.specs.Polls.{tells}
use Rattle.ts_net.proofs.Polls.{any_named}
use Rattle.ts_net.proofs.poller.Poller.has_told.Goals as goal

pub returns : goal.returns
returns c =
    c.has_name.ensures ∙ any_named c.args.name (items c.self.inside.events)
    ∙ ap (tells c.args.name) c.self.view_is
