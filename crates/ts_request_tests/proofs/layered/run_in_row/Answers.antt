-- The group of a transaction that was just made for a row is sound, and its world tells its number.
use Rattle.std.proofs.lemmas.Result.{IfOk-at_ok}
use Rattle.ts_request_tests.proofs.Telling.{row_tells}
use Rattle.ts_request_tests.proofs.layered.run_in_row.Goals as goal

pub run-requires-clause-sound : goal.run-requires-clause-sound
run-requires-clause-sound g c = (IfOk-at_ok _ c.expect-group.ensures c.make_layered_group.ensures.fits).1

pub run-requires-clause-tells : goal.run-requires-clause-tells
run-requires-clause-tells g c = row_tells g.C.Link g.O.Link g.O.Upstream g.P.Transform c.requires.tells
