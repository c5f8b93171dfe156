-- The tags of the server are those of its places and of the worlds beside them, and its desk is the first
-- one.
use Rattle.std.proofs.Common.{◌≡◌, ◌++◌, length, map, sym, ap, subst, ◌∙◌, arith}
use Rattle.ts_group.specs.declared.either.EitherTag.TheVariants.{Other}
use Rattle.ts_serve.specs.Acceptor.{HasPlacesOf}
use Rattle.ts_serve.specs.Servers.{server_tags}
use Rattle.ts_serve.proofs.Servers.{new_count, new_stamps, server_long, server_places}
use Rattle.ts_serve.proofs.Serves.{new_server}
use Rattle.ts_serve.proofs.server.open_server.Goals as goal

pub make-requires-clause-count : goal.make-requires-clause-count
make-requires-clause-count g c =
    let terms = c.terms-terms.result in
    let tags : c.in_ok-groups-2.tags.items ≡ server_tags terms c.args.others.items =
    c.in_ok-groups-2.ensures.tags ∙ ap (λ ts. ts ++ map (λ b. Other b.tag) c.args.others.items)
    (c.in_ok-groups.ensures.tags terms c.terms-terms.ensures.are) in
    let long = new_count g.W.Slotted.fits g.W.Tenant.keeps g.W.World.sound g.P.Slotted.fits g.P.World.sound
    g.P.World.only_asked g.P.World.is_first c.in_ok-groups-2.tags.items c.in_ok-groups-2.groups.items
    c.in_ok-groups-2.ensures.groups ∙ ap length tags ∙ server_long terms c.args.others.items in
    let few = c.requires.others.few in
    (omega (arith, long), omega (arith, long, few))

pub make-requires-clause-stamps : goal.make-requires-clause-stamps
make-requires-clause-stamps g c =
    new_stamps c.in_ok-groups-2.groups.items c.in_ok-groups-2.ensures.groups.new

pub returns-in-Ok-make-clause-opened : goal.returns-in-Ok-make-clause-opened
returns-in-Ok-make-clause-opened g c = λ terms are.
    let own = c.in-Ok-make.ensures.desk in
    let first = c.in_ok-queue.ensures.pass in
    new_server (server_tags terms c.args.others.items) c.in_ok-groups-2.tags.items _ c.in-Ok.slots
    c.in_ok-queue.queue c.in-Ok.seat c.in_ok-queue.pass c.in-Ok-make.desk
    (c.in-Ok.ensures.tags ∙ c.in_ok-groups-2.ensures.tags
    ∙ ap (λ ts. ts ++ map (λ b. Other b.tag) c.args.others.items) (c.in_ok-groups.ensures.tags terms are))
    c.in-Ok.ensures.seat c.in-Ok.ensures.view first.0 first.1 own.0 own.1 own.2

pub returns-in-Ok-make-clause-places : goal.returns-in-Ok-make-clause-places
returns-in-Ok-make-clause-places g c =
    let terms = c.terms-terms.result in
    let are = c.terms-terms.ensures.are in
    let tags = c.in-Ok.ensures.tags ∙ c.in_ok-groups-2.ensures.tags
    ∙ ap (λ ts. ts ++ map (λ b. Other b.tag) c.args.others.items) (c.in_ok-groups.ensures.tags terms are) in
    (terms, are, subst (λ ts. HasPlacesOf ts terms) (sym tags) (server_places terms c.args.others.items))
