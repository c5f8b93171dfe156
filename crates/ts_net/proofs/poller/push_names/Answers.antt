-- The names are those of the events, one after the other.
use Rattle.std.proofs.Common.{rules}
use Rattle.std.proofs.lemmas.Iterator.{YieldsList-from_map, YieldsList-from_slice}
use Rattle.std.proofs.lemmas.Iterator.Adapters.{items_from_extend}
use Rattle.mio.specs.Events.{items}
use Rattle.ts_net.specs.Polls.{name_of, named_as}
use Rattle.ts_net.proofs.poller.push_names.Goals as goal

pub returns-clause-ok : goal.returns-clause-ok
returns-clause-ok c =
    let h = items_from_extend c.extend.result c.extend.ensures.ran
    (YieldsList-from_map _ (λ e. named_as c.args.next (name_of e))
    (YieldsList-from_slice (items c.args.events.now) (cc)) c.map.ensures.closure (λ x r q k. search rules)) in
    search rules
