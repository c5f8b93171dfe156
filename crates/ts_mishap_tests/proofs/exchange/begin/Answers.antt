-- The transaction, which was started, stands first in the row, and the plugins of its lines behind it.
use Rattle.std.proofs.Common.{rules, ◌≡◌, ◌∙◌, ap, subst}
use Rattle.std.specs.Arc.{arc_value}
use Rattle.ts_config.specs.declared.setup.Setup.{Setup}
use Rattle.ts_exchange.specs.Rows.{StandBehind}
use Rattle.ts_mishap_tests.proofs.Rows.{has_begun}
use Rattle.ts_mishap_tests.proofs.exchange.begin.Goals as goal

pub returns : goal.returns
returns g c =
    let alone = c.in_ok-alone.alone in
    let row = c.in_ok-row.row in
    let setup = arc_value c.args.setting.now.setup in
    let same : c.deref.result.now ≡ setup = search rules in
    let stand = subst (λ ls. StandBehind g.C.Link g.O.Link g.O.Upstream g.P.Transform ls alone.tags.items
    row.tags.items alone.groups.items row.groups.items) (c.as_slice.ensures.value
    ∙ ap (λ (s : Setup). s.plugins.items) same) c.in_ok-row.ensures in
    has_begun g.C.Link g.O.Link g.O.Upstream g.P.Transform setup c.in_ok-group.tag c.in_ok-group.group
    alone.tags.items row.tags.items alone.groups.items row.groups.items stand c.in_ok-alone.ensures.groups
    c.in_ok-group.ensures.tag c.in_ok-group.ensures.fits
