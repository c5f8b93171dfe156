-- It is what holds of the transaction in it, whose place stays.
use Rattle.std.proofs.Common.{◌≡◌, ◌++◌, ℕ, List, subst}
use Rattle.ts_group.specs.Answers.{Falls, KeepsPromises, SetsAtMost}
use Rattle.ts_group.specs.Calls.{IsCalled}
use Rattle.ts_group.specs.declared.world.TheConstants.{MOST_SET}
use Rattle.ts_layers.specs.Links.{client_link, origin_link, origin_uploads}
use Rattle.ts_serve.specs.Places.{FitsAtPlace}
use Rattle.ts_txn.specs.Asking.{IsRightFor, MayAskGroup}
use Rattle.ts_txn.specs.Driven.{TakesEvent}
use Rattle.ts_txn.specs.LoweringCourse.{transaction_left}
use Rattle.ts_txn.specs.World.{IsSoundTxn}
use Rattle.ts_serve.proofs.AtPlaces.{FitsLayered, placed_few, placed_promises}
use Rattle.ts_serve.proofs.placed.PlacedExchangeWorld.handle.Goals as goal

pub returns-clause-falls : goal.returns-clause-falls
returns-clause-falls g c =
    let client = client_link g.C.Link in
    let origin = origin_link {P = g.row.P.Denot} g.O.Link in
    let both = origin_uploads g.C.Link g.O.Link g.O.Upstream g.P.Transform in
    subst (λ t. (called : IsCalled
    (λ s roles. IsSoundTxn client origin both g.P.Transform t.value s.pending s.next roles)
    c.args.cx.now c.args.role c.args.event)
    → Falls (transaction_left client origin both g.P.Transform t.value.core t.value.course called.before.pending) 1
    (transaction_left client origin both g.P.Transform c.handle_event.new.world.core
    c.handle_event.new.world.course c.handle_event.new.cx.log.state.pending)) c.self.view_is
    c.handle_event.ensures.falls

pub returns-clause-called : goal.returns-clause-called
returns-clause-called g c =
    subst (λ t. (asked : List ℕ) → c.handle_event.new.cx.calls ≡ c.args.cx.now.calls ++ asked
    → TakesEvent (client_link g.C.Link) (origin_link {P = g.row.P.Denot} g.O.Link)
    (origin_uploads g.C.Link g.O.Link g.O.Upstream g.P.Transform) t.value.core c.handle_event.new.world.core
    t.value.course c.handle_event.new.world.course) c.self.view_is c.handle_event.ensures.called

pub returns-clause-promises : goal.returns-clause-promises
returns-clause-promises g c =
    subst (λ t. KeepsPromises (FitsAtPlace (FitsLayered {P = g.row.P.Denot} g.C.Link g.O.Link)) (λ u. IsRightFor u.value) (λ u. MayAskGroup u.value) t
    (record { value = c.handle_event.new.world; place = c.self.inside.place })) c.self.view_is
    (placed_promises (FitsLayered {P = g.row.P.Denot} g.C.Link g.O.Link) c.self.inside.place IsRightFor MayAskGroup c.self.inside.exchange
    c.handle_event.new.world c.handle_event.ensures.promises)

pub returns-clause-few : goal.returns-clause-few
returns-clause-few g c =
    subst (λ t. SetsAtMost (FitsAtPlace (FitsLayered {P = g.row.P.Denot} g.C.Link g.O.Link)) t MOST_SET c.args.cx.now c.handle_event.new.cx) c.self.view_is
    (placed_few (FitsLayered {P = g.row.P.Denot} g.C.Link g.O.Link) c.self.inside.place c.self.inside.exchange MOST_SET c.args.cx.now c.handle_event.new.cx
    c.handle_event.ensures.few)
