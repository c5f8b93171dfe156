-- The group of a transaction that was made between two ends with their layers has the tag that names it.
use Rattle.std.proofs.Common.{false, Some}
use Rattle.std.proofs.lemmas.Result.{IfOk-weaker}
use Rattle.std.specs.Arc.{arc_value}
use Rattle.ts_exchange.specs.Ends.{IsTagBetween, ends_of}
use Rattle.ts_layers.specs.Layers.{IsLayeredTag}
use Rattle.ts_layers.proofs.Layering.{over_ends, sure_layers}
use Rattle.ts_layers.proofs.row.make_layered_group.Goals as goal

pub make_group-requires-clause-sure : goal.make_group-requires-clause-sure
make_group-requires-clause-sure g c = λ told.
    let made = c.in_ok-client in
    sure_layers g.C.Link g.O.Link (arc_value c.args.setting.now.setup) c.args.keeps c.args.client
    c.args.origin made.field-0.client made.field-0.origin (c.requires.sure told) made.ensures.client
    made.ensures.origin

pub returns-clause-tag : goal.returns-clause-tag
returns-clause-tag g c =
    let made = c.in_ok-client in
    let setting = c.args.setting.now in
    let ends = ends_of setting c.args.number c.args.client c.args.origin in
    let layered = ends_of setting c.args.number made.field-0.client (Some made.field-0.origin) in
    let over = over_ends setting c.args.number c.args.keeps c.args.client c.args.origin made.field-0.client
    made.field-0.origin made.ensures.client made.ensures.origin in
    IfOk-weaker c.make_group.result (λ r. IsTagBetween layered c.args.promise false r.1)
    (λ r. IsLayeredTag ends c.args.keeps c.args.promise false r.1)
    (λ r is. record { layered = layered; over = over; tag_is = is }) c.make_group.ensures.tag
