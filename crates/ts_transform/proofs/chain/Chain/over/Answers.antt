use Rattle.std.proofs.Common.{[], ◌++◌, ◌∙◌, ap, map, subst, sym, true}
use Rattle.std.proofs.lemmas.List.{append-nil}
use Rattle.ts_transform.specs.Flow.{EndsInOrder, flow_from, fresh_stage}
use Rattle.ts_transform.proofs.Carrying.{order_fresh}
use Rattle.ts_transform.proofs.Flowing.{flow_from-fresh}
use Rattle.ts_transform.proofs.chain.Chain.over.Goals as goal

pub returns-clause-flow : goal.returns-clause-flow
returns-clause-flow g c =
    let rest = g.P.Transform.rest in
    let fresh = map (fresh_stage g.P.Transform.soon g.P.Transform.pause) c.args.parts.items in
    ap (λ ss. flow_from rest ss (c.in_ok-first.first ++ [])) c.in_ok-stages.ensures
    ∙ ap (λ first. flow_from rest fresh (first ++ [])) c.in_ok-first.ensures
    ∙ ap (flow_from rest fresh) (append-nil c.args.body)
    ∙ flow_from-fresh rest g.P.Transform.soon g.P.Transform.pause g.met.P.Transform.is_done c.args.parts.items
    c.args.body

pub returns-clause-ordered : goal.returns-clause-ordered
returns-clause-ordered g c = subst (EndsInOrder true) (sym c.in_ok-stages.ensures)
    (order_fresh g.P.Transform.soon g.P.Transform.pause true c.args.parts.items)
