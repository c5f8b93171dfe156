-- The group of a transaction that was just made fits its tag.
use Rattle.ts_exchange.proofs.Made.{fits_group}
use Rattle.ts_exchange.proofs.row.make_group.Goals as goal

pub returns-clause-fits : goal.returns-clause-fits
returns-clause-fits g c =
    fits_group g.C.Link g.O.Link g.O.Upstream g.P.Transform c.in_ok-exchange.tag c.in_ok-exchange.exchange
    c.in_ok-group.group c.in_ok-exchange.ensures.fits c.in_ok-exchange.ensures.sound
    c.in_ok-group.ensures.world c.in_ok-group.ensures.fresh
