-- A turn of the group at a place, or none.
use Rattle.ts_serve.proofs.leftover.handle_in_place.Goals as goal

pub handle_due-requires-clause-fits : goal.handle_due-requires-clause-fits
handle_due-requires-clause-fits g c =
    let was = c.requires.fits in (was.tags, was.asks, was.fit)
