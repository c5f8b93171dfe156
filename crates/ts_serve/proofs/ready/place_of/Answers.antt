-- Place after place, none is one for the client.
use Rattle.std.proofs.Common.{sym, ◌∙◌}
use Rattle.ts_serve.proofs.Settled.{none_more}
use Rattle.ts_serve.proofs.ready.place_of.Goals as goal

pub places-preserved : goal.places-preserved
places-preserved c =
    none_more c.args.number c.places.k c.args.row.now c.places.invariant
    (sym c.serves_client.ensures ∙ c.if-serves_client.false)
