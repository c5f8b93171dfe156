-- A transaction that was started in the first turn of its group fits the tag that says so.
use Rattle.ts_mishap_tests.proofs.Begun.{fits_started}
use Rattle.ts_mishap_tests.proofs.exchange.begin_txn.Goals as goal

pub started-requires-clause-sound : goal.started-requires-clause-sound
started-requires-clause-sound g c = c.in_ok-fresh.ensures.fits.1

pub returns-clause-fits : goal.returns-clause-fits
returns-clause-fits g c =
    fits_started g.C.Link g.O.Link g.O.Upstream g.P.Transform c.in_ok-fresh.tag c.in_ok-fresh.fresh
    c.in_ok-group.group c.in_ok-fresh.ensures.fits c.in_ok-fresh.ensures.fresh c.in_ok-group.ensures
