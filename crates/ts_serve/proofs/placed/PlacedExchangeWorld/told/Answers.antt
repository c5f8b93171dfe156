-- It is what holds of the transaction in it, whose place stays.
use Rattle.std.proofs.Common.{subst, sym}
use Rattle.ts_group.specs.Answers.{Hears, IsAnswered, KeepsPromises, SetsAtMost}
use Rattle.ts_group.specs.declared.world.TheConstants.{MOST_SET}
use Rattle.ts_layers.specs.Links.{client_link, origin_link, origin_uploads}
use Rattle.ts_serve.specs.Places.{FitsAtPlace}
use Rattle.ts_txn.specs.Asking.{AwaitsTxn, HearsTxn, IsRightFor, MayAskGroup}
use Rattle.ts_txn.specs.LoweringCourse.{transaction_left}
use Rattle.ts_serve.proofs.AtPlaces.{FitsLayered, placed_few, placed_promises}
use Rattle.ts_serve.proofs.placed.PlacedExchangeWorld.told.Goals as goal

pub tell_world-requires-clause-asking : goal.tell_world-requires-clause-asking
tell_world-requires-clause-asking g c =
    subst (λ t. IsAnswered
    (λ group question. AwaitsTxn (client_link g.C.Link) (origin_link {P = g.row.P.Denot} g.O.Link)
    (origin_uploads g.C.Link g.O.Link g.O.Upstream g.P.Transform) g.P.Transform t.value
    c.args.cx.now.log.state.pending c.args.cx.now.log.state.next c.args.cx.now.roles group question)
    (IsRightFor t.value) c.args.asked) (sym c.self.view_is) c.requires.asking

pub returns-clause-hears : goal.returns-clause-hears
returns-clause-hears g c =
    subst (λ t. Hears (λ old new. HearsTxn old.value new.value)
    (λ x s. transaction_left (client_link g.C.Link) (origin_link {P = g.row.P.Denot} g.O.Link)
    (origin_uploads g.C.Link g.O.Link g.O.Upstream g.P.Transform) g.P.Transform x.value.core x.value.course s.pending)
    t (record { value = c.tell_world.new.world; place = c.self.inside.place }) c.args.cx.now.log.state c.tell_world.new.cx.log.state c.args.asked)
    c.self.view_is
    (record { heard = c.tell_world.ensures.hears.heard; falls = c.tell_world.ensures.hears.falls })

pub returns-clause-promises : goal.returns-clause-promises
returns-clause-promises g c =
    subst (λ t. KeepsPromises (FitsAtPlace (FitsLayered {P = g.row.P.Denot} g.C.Link g.O.Link)) (λ u. IsRightFor u.value) (λ u. MayAskGroup u.value) t
    (record { value = c.tell_world.new.world; place = c.self.inside.place })) c.self.view_is
    (placed_promises (FitsLayered {P = g.row.P.Denot} g.C.Link g.O.Link) c.self.inside.place IsRightFor MayAskGroup c.self.inside.exchange
    c.tell_world.new.world c.tell_world.ensures.promises)

pub returns-clause-few : goal.returns-clause-few
returns-clause-few g c =
    subst (λ t. SetsAtMost (FitsAtPlace (FitsLayered {P = g.row.P.Denot} g.C.Link g.O.Link)) t MOST_SET c.args.cx.now c.tell_world.new.cx) c.self.view_is
    (placed_few (FitsLayered {P = g.row.P.Denot} g.C.Link g.O.Link) c.self.inside.place c.self.inside.exchange MOST_SET c.args.cx.now c.tell_world.new.cx
    c.tell_world.ensures.few)
