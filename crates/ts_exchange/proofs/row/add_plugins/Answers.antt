-- The row grows by the group of the plugin of one line, with its tag.
use Rattle.std.proofs.Common.{◌∷◌, ◌++◌, [], take, sym, ap, subst, ◌∙◌}
use Rattle.std.proofs.lemmas.List.{take_all, take_more}
use Rattle.ts_exchange.specs.Rows.{StandBehind}
use Rattle.ts_exchange.proofs.Rows.{none_behind, one_behind}
use Rattle.ts_exchange.proofs.row.add_plugins.Goals as goal

pub lines-init : goal.lines-init
lines-init g c = none_behind g.C.Link g.O.Link g.O.Upstream g.P.Transform c.args.row.tags.items
    c.args.row.groups.items

pub lines-preserved : goal.lines-preserved
lines-preserved g c =
    let i = c.lines.line-index in
    let lines = c.args.lines.now in
    let line = c.line-item.result in
    let made = c.in_ok-group.ensures in
    let row = c.args.row in
    let passed = take_more lines i line c.lines-test.true ∙ ap (λ l. take i lines ++ l ∷ [])
    (sym c.line-item.is) in
    subst (λ ls. StandBehind g.C.Link g.O.Link g.O.Upstream g.P.Transform ls row.tags.items
    c.push-in-lines.new.self.items row.groups.items c.push.new.self.items) (sym passed)
    (one_behind g.C.Link g.O.Link g.O.Upstream g.P.Transform (take i lines) line row.tags.items
    c.lines.tags.items c.push-in-lines.new.self.items row.groups.items c.lines.groups.items
    c.push.new.self.items c.in_ok-group.tag c.in_ok-group.group c.lines.invariant
    c.in_ok-push-2.ensures.items c.in_ok-push.ensures.items made.line made.fits made.fresh)

pub returns : goal.returns
returns g c = subst (λ ls. StandBehind g.C.Link g.O.Link g.O.Upstream g.P.Transform ls c.args.row.tags.items
    c.lines.tags.items c.args.row.groups.items c.lines.groups.items)
    (take_all c.lines.line-index c.args.lines.now c.lines-test.false) c.lines.invariant
