-- A front over a client with the tap of the setup is the client's end.
use Rattle.std.proofs.Common.{◌≡◌, ◌∙◌}
use Rattle.std.proofs.lemmas.Result.{IfOk-weaker}
use Rattle.std.specs.Arc.{arc_value}
use Rattle.ts_request.specs.Front.{fresh_front}
use Rattle.ts_layers.specs.Layers.{IsClientOver}
use Rattle.ts_layers.proofs.Layering.{client_made}
use Rattle.ts_layers.proofs.over.client_over.Goals as goal

pub returns : goal.returns
returns g c =
    let w = c.in_ok-watched in
    let setup = arc_value c.args.setup.now in
    IfOk-weaker c.make-2.result (λ f. f ≡ fresh_front w.watched) (IsClientOver setup c.args.client)
    (λ f is. client_made setup c.args.client w.watched f w.ensures.client
    (w.ensures.most ∙ c.tap_of.ensures) is) c.make-2.ensures
