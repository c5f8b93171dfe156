-- What is left of a transaction that has ended in its place, once its layers were taken off.
use Rattle.std.proofs.Common.{◌≡◌, ◌∙◌, ap, false, refl, subst, sym}
use Rattle.ts_exchange.specs.Left.{end_of}
use Rattle.ts_layers.specs.Layers.{IsLayeredBetween, LeavesExchange}
use Rattle.ts_serve.proofs.Ending.{left_named, some_end, stood_ended}
use Rattle.ts_serve.proofs.exchanges.PlacedExchangeHandler.retire.Goals as goal

pub returns-clause-done : goal.returns-clause-done
returns-clause-done g c = λ terms here.
    let keeps = here.fits.1 in
    let ended = stood_ended here.stood in
    let between : IsLayeredBetween g.C.Link g.O.Link g.O.Upstream g.P.Transform keeps.ends false false
    c.args.self.value c.args.journal.state = record {
      layered = keeps.tag_is.layered;
      over = keeps.tag_is.over;
      between = record {
        promise = keeps.promise;
        tag = here.fits.0.value;
        tag_is = keeps.tag_is.tag_is;
        fits = here.fits.2.value;
        roles = here.roles;
        sound = here.sound;
      };
    } in
    let left = c.take_layered_apart-parts.result in
    let same : c.self.inside.exchange ≡ c.args.self.value = ap (λ e. e.value) c.self.view_is in
    let leaves = subst (λ t. LeavesExchange g.C.Link g.O.Link g.O.Upstream g.P.Transform keeps.ends false
    false c.args.journal.state t left) same
    (c.take_layered_apart-parts.ensures.left keeps.ends false false c.args.journal.state
    (subst (λ t. IsLayeredBetween g.C.Link g.O.Link g.O.Upstream g.P.Transform keeps.ends false false t
    c.args.journal.state) (sym same) between)) in
    let ending = some_end (end_of c.args.self.value) ended.0 in
    record {
      ends = keeps.ends;
      ends_are = keeps.ends_are;
      named = left_named g.C.Link g.O.Link g.O.Upstream g.P.Transform keeps.ends false false
          c.args.journal.state left leaves.exchanges keeps.ends_are.named;
      txn = c.args.self.value;
      between = between;
      left = left;
      parts_are = refl;
      leaves = leaves;
      ending = ending.0;
      ended = c.take_layered_apart-parts.ensures.ended ∙ ap end_of same ∙ ending.1;
      final = ended.1;
    }
