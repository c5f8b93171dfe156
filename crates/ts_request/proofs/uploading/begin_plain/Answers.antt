-- The head goes on as it was written.
use Rattle.std.proofs.Common.{◌≡◌, subst, sym, true}
use Rattle.ts_link.specs.Link.{all_of}
use Rattle.ts_request.proofs.Beginning.{begins_plain}
use Rattle.ts_request.proofs.Finishing.{source_plain}
use Rattle.ts_request.proofs.uploading.begin_plain.Goals as goal

pub returns : goal.returns
returns g c =
    let front = c.args.front.now in
    begins_plain g.C.Link g.O.Link g.O.Upstream g.P.Transform front c.args.carrier.now c.requires.held
    c.requires.pair
    (λ told. source_plain g.C.Link.look front c.requires.passing (c.known.ensures.shows told) ((subst (λ l.
    g.C.Link.tells ≡ true
    → all_of (g.C.Link.look l) ≡ (g.C.Link.look l).source) c.client.ensures c.known-2.ensures) told))
    c.len-len.result (sym c.len-len.ensures)
