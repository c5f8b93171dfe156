-- The names are those of the events.
use Rattle.std.proofs.Common.{◌++◌, ◌∙◌, ap, sym, map}
use Rattle.std.proofs.lemmas.Simd.{map-map}
use Rattle.mio.specs.Events.{items}
use Rattle.ts_net.specs.Polls.{name_of, named_as}
use Rattle.ts_net.proofs.poller.Poller.add_names.Goals as goal

pub returns-clause-ok : goal.returns-clause-ok
returns-clause-ok c =
    c.in_ok-push_names.ensures.ok
    ∙ ap (λ names. c.args.ready.now.items ++ names)
    (sym (map-map (named_as c.args.next) name_of (items c.self.inside.events))
    ∙ ap (map (named_as c.args.next)) c.self.view_is)
