-- It is what holds of the transaction in it, whose place stays.
use Rattle.std.proofs.Common.{subst}
use Rattle.ts_group.specs.Answers.{KeepsPromises, SetsAtMost}
use Rattle.ts_group.specs.declared.world.TheConstants.{MOST_SET}
use Rattle.ts_serve.specs.Places.{FitsAtPlace}
use Rattle.ts_txn.specs.Asking.{IsRightFor, MayAskGroup}
use Rattle.ts_serve.proofs.AtPlaces.{FitsLayered, placed_few, placed_promises}
use Rattle.ts_serve.proofs.placed.PlacedExchangeRouse.rouse.Goals as goal

pub returns-clause-promises : goal.returns-clause-promises
returns-clause-promises g c =
    subst (λ t. KeepsPromises (FitsAtPlace (FitsLayered {P = g.row.P.Denot} g.C.Link g.O.Link)) (λ u. IsRightFor u.value) (λ u. MayAskGroup u.value) t
    (record { value = c.rouse_world.new.world; place = c.self.inside.place })) c.self.view_is
    (placed_promises (FitsLayered {P = g.row.P.Denot} g.C.Link g.O.Link) c.self.inside.place IsRightFor MayAskGroup c.self.inside.exchange
    c.rouse_world.new.world c.rouse_world.ensures.promises)

pub returns-clause-few : goal.returns-clause-few
returns-clause-few g c =
    subst (λ t. SetsAtMost (FitsAtPlace (FitsLayered {P = g.row.P.Denot} g.C.Link g.O.Link)) t MOST_SET c.args.cx.now c.rouse_world.new.cx) c.self.view_is
    (placed_few (FitsLayered {P = g.row.P.Denot} g.C.Link g.O.Link) c.self.inside.place c.self.inside.exchange MOST_SET c.args.cx.now c.rouse_world.new.cx
    c.rouse_world.ensures.few)
