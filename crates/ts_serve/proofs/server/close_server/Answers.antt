-- The groups of a server that is closed fit their tags, and go on to do so; and its places are cleared.
use Rattle.std.proofs.Common.{ℕ, ◌+◌, ◌<◌, length, map, sym, ap, subst, ◌∙◌}
use Rattle.std.proofs.lemmas.Result.{IfOk-weaker}
use Rattle.ts_lists.proofs.Fronts.{taken_table}
use Rattle.ts_lists.proofs.Pairs.{zip_from_found}
use Rattle.ts_slot.specs.Lists.{entries}
use Rattle.ts_slot.specs.Words.{tags_of, view}
use Rattle.ts_serve.specs.Closing.{FitBehindFrom}
use Rattle.ts_serve.specs.Knowledge.{KnowsAll}
use Rattle.ts_serve.specs.Leftover.{AreMadeAlike, ServerStaysFit}
use Rattle.ts_serve.specs.Opening.{FitServer}
use Rattle.ts_serve.proofs.Cleared.{closed_over}
use Rattle.ts_serve.proofs.Closing.{fit_again}
use Rattle.ts_serve.proofs.Servers.{FitsTag, fit_places}
use Rattle.ts_serve.proofs.server.close_server.Goals as goal

pub returns-clause-balance : goal.returns-clause-balance
returns-clause-balance g c = λ telling terms places misdials balance.
    let tags = tags_of c.args.server.slots in
    let fit = subst (FitServer g.W.Slotted.fits g.W.Tenant.keeps g.W.World.sound g.P.Slotted.fits
    g.P.World.sound g.P.World.only_asked g.P.World.is_first tags) (sym c.as_mut_slice.ensures.value)
    (zip_from_found (FitsTag g.W.Slotted.fits g.W.Tenant.keeps g.W.World.sound g.P.Slotted.fits
    g.P.World.sound g.P.World.only_asked g.P.World.is_first) tags c.in_ok-groups.groups.items
    c.in_ok-groups.ensures.count (λ k x at. (c.in_ok-groups.ensures.last k x at).fit)) in
    let done = c.finish_left-handled.ensures.fit tags fit in
    let long = c.finish_left-handled.ensures.count ∙ ap length c.as_mut_slice.ensures.value
    ∙ sym c.in_ok-groups.groups.ok.0 in
    c.clear_places-cleared.ensures.balance telling terms
    (fit_places g.W.Slotted.fits g.W.Tenant.keeps g.W.World.sound g.P.Slotted.fits g.P.World.sound
    g.P.World.only_asked g.P.World.is_first tags terms _ places
    (taken_table (FitServer g.W.Slotted.fits g.W.Tenant.keeps g.W.World.sound g.P.Slotted.fits g.P.World.sound
    g.P.World.only_asked g.P.World.is_first tags) c.in_ok-groups.groups.len c.finish_left-handled.new.groups
    c.in_ok-groups.groups.items long done))
    misdials balance

pub returns-clause-closed : goal.returns-clause-closed
returns-clause-closed g c =
    let as_many = c.finish_left-handled.ensures.count ∙ ap length c.as_mut_slice.ensures.value in
    IfOk-weaker c.found_whole.result _ _
    (λ found is. closed_over g.W.Handler.whose_of g.W.Handler.is_ended g.W.Handler.may_wait
    (tags_of c.args.server.slots) c.in_ok-groups.groups.len c.finish_left-handled.new.groups
    c.in_ok-groups.groups.items
    found.value.items c.args.row.now.items c.clear_places-cleared.new.row.items c.finish_left-handled.result
    c.clear_places-cleared.result (ap (λ s. s.value.items) is.0 ∙ ap (λ v. v.items) c.of-found.ensures)
    (as_many ∙ sym c.in_ok-groups.groups.ok.0) (as_many ∙ c.in_ok-groups.ensures.count) is.1
    c.finish_left-handled.ensures.idle is.2 c.clear_places-cleared.ensures.cleared) c.found_whole.ensures

-- what stands in the places at the close fits the terms of the clients with their notes behind them
pub returns-clause-sessions : goal.returns-clause-sessions
returns-clause-sessions g c = λ telling terms are misdials was.
    let tags = tags_of c.args.server.slots in
    let items = c.in_ok-groups.groups.items in
    let left = c.finish_left-handled.new.groups in
    let row = c.args.row.now.items in
    let net = g.N.Net.seen c.args.net.now in
    let seat = c.into_parts-seat.result.0 in
    let turns = λ (k : ℕ). entries k (view seat).turns + 1 in
    let fit = zip_from_found (FitsTag g.W.Slotted.fits g.W.Tenant.keeps g.W.World.sound g.P.Slotted.fits
    g.P.World.sound g.P.World.only_asked g.P.World.is_first) tags items
    c.in_ok-groups.ensures.count (λ k x at. (c.in_ok-groups.ensures.last k x at).fit) in
    let stays : ServerStaysFit g.W.Slotted.fits g.W.Tenant.keeps g.W.World.sound g.P.Slotted.fits
    g.P.World.sound g.P.World.only_asked g.P.World.is_first items left =
    λ ts fits. c.finish_left-handled.ensures.fit ts
    (subst (FitServer g.W.Slotted.fits g.W.Tenant.keeps g.W.World.sound g.P.Slotted.fits
    g.P.World.sound g.P.World.only_asked g.P.World.is_first ts) (sym c.as_mut_slice.ensures.value) fits) in
    let alike : AreMadeAlike items left = c.finish_left-handled.ensures.made
    ∙ ap (map (λ x. x.cx.log.base.made)) c.as_mut_slice.ensures.value in
    let knows = subst (λ s. KnowsAll g.W.Slotted.fits g.W.Tenant.keeps g.P.Slotted.fits g.W.Handler.behind
    terms
    (view s).known row net) (sym c.into_parts-seat.ensures.0) are.1 in
    let long = c.finish_left-handled.ensures.count ∙ ap length c.as_mut_slice.ensures.value
    ∙ sym c.in_ok-groups.groups.ok.0 in
    c.clear_places-cleared.ensures.sessions telling terms
    (taken_table (λ gs. FitBehindFrom g.W.Slotted.fits g.W.Tenant.keeps g.W.World.sound g.P.Slotted.fits
    g.P.World.sound g.P.World.only_asked g.P.World.is_first g.W.Handler.behind terms 0 gs row net)
    c.in_ok-groups.groups.len left items long
    (fit_again g.W.Slotted.fits g.W.Tenant.keeps g.W.World.sound g.P.Slotted.fits g.P.World.sound
    g.P.World.only_asked g.P.World.is_first g.W.Handler.behind terms tags (view seat).known turns row net
    items
    left (λ k below. are.0 k (subst (λ n. k < n) c.requires.places below)) knows
    (λ k x at. (c.in_ok-groups.ensures.last k x at).later) fit stays alike)) misdials was
