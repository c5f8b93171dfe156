-- What is left of a transaction with layers is what is left of it between them, with the layers taken off.
use Rattle.std.proofs.Common.{◌↔◌, ◌∙◌, IsTrue, Option, ap, is_some, subst}
use Rattle.ts_request.specs.Delivered.{upload_mode}
use Rattle.ts_txn.specs.Making.{ArePaired}
use Rattle.ts_layers.specs.Layers.{AreSettled, EndsDeliver, EndsPair, HasChosen, HasKept, IsTapped, is_handed}
use Rattle.ts_layers.specs.Links.{OriginEnd}
use Rattle.ts_layers.proofs.Leaving.{at_some, inside_handed, left_paired, stays_over}
use Rattle.ts_layers.proofs.layers.take_layered_apart.Goals as goal

pub returns-clause-left : goal.returns-clause-left
returns-clause-left g c = λ ends keeps started s between.
    let apart = c.take_apart-parts.ensures.apart in
    let parts = c.take_apart-parts.result in
    let off = c.plain_parts-parts in
    let exchanges = c.take_apart-parts.ensures.left between.layered started s between.between in
    let last = stays_over g.O.Link ends.setup keeps ends.origin between.layered.origin parts.origin
    between.over.origin exchanges.keeps.origin_still in
    let pairs = EndsPair g.C.Link g.O.Link g.O.Upstream g.P.Transform in
    record {
      exchanges = record {
        layered = between.layered;
        over = between.over;
        shown = parts;
        inside = off.ensures.inside;
        exchanges = exchanges;
        last = last.last;
        there = last.there;
        stays = last.stays;
        shows = off.ensures.shows;
        paired = subst (ArePaired pairs parts.client) last.there
            (left_paired pairs c.args.exchange.core.client.link parts.client c.args.exchange.core.origin
            parts.origin apart.client apart.origin between.between.sound.stands.pair);
        carried = at_some (EndsDeliver g.C.Link g.O.Link g.O.Upstream g.P.Transform parts.client)
            parts.origin last.last last.there off.ensures.carried;
        upload = c.upload_of-upload.ensures ∙ ap upload_mode last.there;
        kept = at_some (HasKept g.O.Link off.result.taken) parts.origin last.last last.there off.ensures.kept;
        chosen = at_some (HasChosen g.O.Link) parts.origin last.last last.there off.ensures.chosen;
        tapped = subst (λ most. IsTapped g.C.Link most off.result.parts.client off.result.sum)
            (exchanges.keeps.client_still.1 ∙ between.over.client.most) off.ensures.tapped;
        settled = subst (λ (o : Option (OriginEnd g.row.O.Denot g.row.P.Denot)).
            IsTrue c.is_settled-settled.result ↔ AreSettled parts.client o) last.there
            c.is_settled-settled.ensures;
      };
      apart = apart;
    }

pub returns-clause-number : goal.returns-clause-number
returns-clause-number g c = c.plain_parts-parts.ensures.inside.number ∙ c.take_apart-parts.ensures.apart.number

pub returns-clause-origin : goal.returns-clause-origin
returns-clause-origin g c =
    ap is_some c.plain_parts-parts.ensures.inside.origin
    ∙ inside_handed g.O.Link c.take_apart-parts.result.origin c.plain_parts-parts.ensures.chosen
    ∙ ap is_handed c.take_apart-parts.ensures.apart.origin

pub returns-clause-ended : goal.returns-clause-ended
returns-clause-ended g c = c.plain_parts-parts.ensures.inside.end_is ∙ c.take_apart-parts.ensures.apart.end_is
