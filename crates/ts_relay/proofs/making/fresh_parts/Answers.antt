-- A line that acts has a part of its own, and another has none.
use Rattle.std.proofs.Common.{◌+◌, ◌∷◌, drop, ap, sym, subst, ◌∙◌}
use Rattle.std.proofs.lemmas.List.{drop_all, drop_more}
use Rattle.ts_block.specs.Acting.{acts_on}
use Rattle.ts_passing.proofs.Parting.{Continues, part_last, part_more, part_none}
use Rattle.ts_relay.proofs.making.fresh_parts.Goals.{then-acts_on+in_ok-fresh+in_ok-push, else-acts_on}
use Rattle.ts_relay.proofs.making.fresh_parts.Goals as goal

pub loop-line-preserved : goal.loop-line-preserved
loop-line-preserved g c =
    let i = c.loop-line.line-index in
    let acts = acts_on c.args.status c.args.fields.now in
    let left = drop i c.args.lines.now in
    let more = drop (i + 1) c.args.lines.now in
    let is = drop_more c.args.lines.now i c.line-item.result c.loop-line-test.true ∙ ap (λ l. l ∷ drop (i + 1)
    c.args.lines.now) (sym c.line-item.is) in
    elim c.if-acts_on.branch [
      | then-acts_on+in_ok-fresh+in_ok-push w ↦
          subst (λ ps. Continues g.P.Transform acts c.args.lines.now more ps)
          (sym (ap (λ v. v.items) w.parts-is ∙ w.in_ok-push.ensures.items))
          (part_more g.P.Transform acts c.args.lines.now left more c.line-item.result is
          c.loop-line.parts.items c.loop-line.invariant c.requires
          (sym c.acts_on.ensures ∙ w.if-acts_on.true) w.in_ok-fresh.field-0 w.in_ok-fresh.ensures.rest
          w.in_ok-fresh.ensures.pause w.in_ok-fresh.ensures.soon)
      | else-acts_on w ↦
          subst (λ ps. Continues g.P.Transform acts c.args.lines.now more ps)
          (sym (ap (λ v. v.items) w.parts-is))
          (part_none g.P.Transform acts c.args.lines.now left more c.line-item.result is
          c.loop-line.parts.items c.loop-line.invariant
          (sym c.acts_on.ensures ∙ w.if-acts_on.false))
    ]

pub returns : goal.returns
returns g c =
    part_last g.P.Transform (acts_on c.args.status c.args.fields.now) c.args.lines.now
    (drop c.loop-line.line-index c.args.lines.now) c.loop-line.parts.items
    (drop_all c.loop-line.line-index _ c.loop-line-test.false) c.loop-line.invariant
