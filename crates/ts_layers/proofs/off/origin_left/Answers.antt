-- What the layers of an origin's end left is told by each of them.
use Rattle.std.proofs.Common.{◌∙◌, ap}
use Rattle.ts_layers.specs.Links.{Carried}
use Rattle.ts_layers.proofs.Leaving.{has_chosen, has_kept}
use Rattle.ts_layers.proofs.off.origin_left.Goals as goal

pub returns-clause-chosen : goal.returns-clause-chosen
returns-clause-chosen g c =
    let kept = c.into_parts-chosen in
    let chosen = c.into_origin-2 in
    has_chosen g.O.Link kept.result.0 c.args.end
    (kept.ensures.inner ∙ ap (λ (k : Carried g.row.O.Denot). k.inner) c.into_origin.ensures)
    chosen.ensures.there chosen.ensures.answered chosen.ensures.unused chosen.ensures.kept

pub returns-clause-kept : goal.returns-clause-kept
returns-clause-kept g c =
    let kept = c.into_parts-chosen in
    has_kept g.O.Link kept.result.1 c.into_origin.result c.args.end c.into_origin.ensures kept.ensures.bytes
    kept.ensures.kept kept.ensures.none
