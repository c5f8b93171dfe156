-- The group of a transaction that was just made is sound, and its transaction tells its number.
use Rattle.std.proofs.lemmas.Result.{IfOk-at_ok}
use Rattle.ts_layers.specs.Links.{client_link, origin_link, origin_uploads}
use Rattle.ts_txn.proofs.Made.{sound_in_group}
use Rattle.ts_request_tests.proofs.Telling.{alone_tells}
use Rattle.ts_request_tests.proofs.layered.run_alone.Goals as goal

pub run-requires-clause-sound : goal.run-requires-clause-sound
run-requires-clause-sound g c =
    sound_in_group (client_link g.C.Link) (origin_link g.O.Link)
    (origin_uploads g.C.Link g.O.Link g.O.Upstream g.P.Transform) g.P.Transform
    c.expect-exchange.result.0 c.expect-group.result 0
    (IfOk-at_ok _ c.expect-exchange.ensures c.make_layered.ensures.sound)
    (IfOk-at_ok _ c.expect-group.ensures c.make.ensures.world)
    (IfOk-at_ok _ c.expect-group.ensures c.make.ensures.fresh)

pub run-requires-clause-tells : goal.run-requires-clause-tells
run-requires-clause-tells g c = alone_tells g.C.Link g.O.Link g.O.Upstream g.P.Transform c.requires.tells
