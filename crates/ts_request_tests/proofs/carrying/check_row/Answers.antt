-- The links are new, and the front and the carrier of which no call was made belong together.
use Rattle.std.proofs.Common.{refl}
use Rattle.std.specs.Arc.{arc_value}
use Rattle.std.proofs.lemmas.Result.{IfOk-at_ok}
use Rattle.ts_request_tests.proofs.carrying.check_row.Goals as goal

pub make-requires : goal.make-requires
make-requires g c told = c.giving-client.ensures.given

pub send_head-requires : goal.send_head-requires
send_head-requires g c =
    c.paired.ensures c.giving-client.result c.giving-origin.result (arc_value c.expect-shared.result)
    (IfOk-at_ok _ c.expect-front.ensures c.make.ensures) (IfOk-at_ok _ c.expect-carrier.ensures c.make-2.ensures) tt
    (λ l z. (refl, refl)) (λ told. (c.giving-origin.ensures.taken, refl))
