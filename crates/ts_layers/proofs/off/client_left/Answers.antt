-- The sum of the tap of a client's end is that of the client inside.
use Rattle.std.proofs.Common.{◌∙◌, ap, subst}
use Rattle.std.specs.Prelude.{IfSome}
use Rattle.ts_tap.specs.Optional.{client_of, most_of}
use Rattle.ts_tap.specs.Sums.{SumsBody}
use Rattle.ts_tap.specs.declared.watched.Watched.{Watched}
use Rattle.ts_layers.proofs.off.client_left.Goals as goal

pub returns-clause-tapped : goal.returns-clause-tapped
returns-clause-tapped g c =
    let same = c.into_client.ensures.client in
    let parts = c.into_parts in
    record {
      most_is = parts.ensures.most ∙ ap most_of same;
      sums = λ told.
          subst (λ (w : Watched g.row.C.Denot). IfSome parts.result.1
          (SumsBody (g.C.Link.look (client_of w)).taken)) same (parts.ensures.sums told);
    }
