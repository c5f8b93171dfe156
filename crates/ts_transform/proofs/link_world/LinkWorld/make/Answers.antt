use Rattle.std.proofs.Common.{◌≡◌, Option, None, Some, true, false, sym, ap, ◌∙◌}
use Rattle.ts_transform.specs.Flow.{flow}
use Rattle.ts_transform.specs.declared.loss.Loss.{Loss}
use Rattle.ts_transform.specs.declared.loss.Loss.TheVariants.{Spent}
use Rattle.ts_transform.proofs.Carrying.{made_fresh}
use Rattle.ts_transform.proofs.link_world.LinkWorld.make.Goals as goal

pub returns-clause-flow : goal.returns-clause-flow
returns-clause-flow g c = λ z. ap (λ x. flow g.P.Transform.rest x z) c.make-2.ensures.chain ∙
    c.in_ok-chain.ensures.flow.flow z

pub returns-clause-carried : goal.returns-clause-carried
returns-clause-carried g c = λ pending next roles.
    let fresh = made_fresh g.P.Transform.soon g.P.Transform.pause c.args.parts.items c.make-2.result.chain
    (c.make-2.ensures.chain ∙ c.in_ok-chain.ensures.made) in
    record {
      joined = λ runs. absurd (let wrong : false ≡ true = sym c.make-2.ensures.fresh.1 ∙ runs in cc);
      ends = λ runs. absurd (let wrong : false ≡ true = sym c.make-2.ensures.fresh.1 ∙ runs in cc);
      fresh = λ none. (c.make-2.ensures.fresh.1, c.make-2.ensures.fresh.0);
      ordered = fresh.1;
      bounded = fresh.0;
      told = λ spent. absurd (let wrong : ◌≡◌ {A = Option Loss} None (Some Spent) = sym
          c.make-2.ensures.fresh.2 ∙ spent in cc);
    }
