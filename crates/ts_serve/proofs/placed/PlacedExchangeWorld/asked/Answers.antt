-- It is what holds of the transaction in it, whose place stays.
use Rattle.std.proofs.Common.{subst}
use Rattle.ts_group.specs.Answers.{Falls, KeepsPromises, SetsNone}
use Rattle.ts_group.specs.Calls.{IsAsked}
use Rattle.ts_layers.specs.Links.{client_link, origin_link, origin_uploads}
use Rattle.ts_serve.specs.Places.{FitsAtPlace}
use Rattle.ts_txn.specs.Asking.{IsRightFor, MayAskGroup}
use Rattle.ts_txn.specs.LoweringCourse.{transaction_left}
use Rattle.ts_txn.specs.World.{IsSoundTxn}
use Rattle.ts_serve.proofs.AtPlaces.{FitsLayered, placed_none, placed_promises}
use Rattle.ts_serve.proofs.placed.PlacedExchangeWorld.asked.Goals as goal

pub returns-clause-falls : goal.returns-clause-falls
returns-clause-falls g c =
    let client = client_link g.C.Link in
    let origin = origin_link {P = g.row.P.Denot} g.O.Link in
    let both = origin_uploads g.C.Link g.O.Link g.O.Upstream g.P.Transform in
    subst (λ t. (asked : IsAsked (λ s roles. IsSoundTxn client origin both g.P.Transform t.value s.pending s.next roles)
    c.args.cx.now) → Falls (transaction_left client origin both g.P.Transform t.value.core t.value.course asked.before.pending)
    0 (transaction_left client origin both g.P.Transform c.ask_world.new.world.core
    c.ask_world.new.world.course c.ask_world.new.cx.log.state.pending)) c.self.view_is c.ask_world.ensures.falls

pub returns-clause-promises : goal.returns-clause-promises
returns-clause-promises g c =
    subst (λ t. KeepsPromises (FitsAtPlace (FitsLayered {P = g.row.P.Denot} g.C.Link g.O.Link)) (λ u. IsRightFor u.value) (λ u. MayAskGroup u.value) t
    (record { value = c.ask_world.new.world; place = c.self.inside.place })) c.self.view_is
    (placed_promises (FitsLayered {P = g.row.P.Denot} g.C.Link g.O.Link) c.self.inside.place IsRightFor MayAskGroup c.self.inside.exchange
    c.ask_world.new.world c.ask_world.ensures.promises)

pub returns-clause-none : goal.returns-clause-none
returns-clause-none g c =
    subst (λ t. SetsNone (FitsAtPlace (FitsLayered {P = g.row.P.Denot} g.C.Link g.O.Link)) t c.args.cx.now c.ask_world.new.cx) c.self.view_is
    (placed_none (FitsLayered {P = g.row.P.Denot} g.C.Link g.O.Link) c.self.inside.place c.self.inside.exchange c.args.cx.now c.ask_world.new.cx
    c.ask_world.ensures.none)
