-- The hook of a response's head begins with the fields that are sent on, or there was no memory for them.
use Rattle.std.proofs.Common.{refl}
use Rattle.std.specs.Arc.{arc_value}
use Rattle.ts_phases.specs.declared.phase.Phase.TheVariants as P
use Rattle.ts_phases.proofs.Leading.{begins_ruled, lacks, response_begins}
use Rattle.ts_phases.proofs.Minding.{stood}
use Rattle.ts_phases.proofs.parts.Core.response_transform.Goals as goal

pub returns-in_default : goal.returns-in_default
returns-in_default g c =
    lacks g.C.Link g.O.Link g.O.Upstream c.args.self.now (P.ResponseTransform c.args.request c.args.head)
    c.requires.fact refl (stood _ _ _ refl)

pub rule_response-requires-clause-fact : goal.rule_response-requires-clause-fact
rule_response-requires-clause-fact g c = λ told also. (
  c.requires.fact told also,
  begins_ruled (arc_value c.args.self.now.setup) _ _ c.in-Ok.fields
      c.in-Ok.ensures,
)

pub returns : goal.returns
returns g c = response_begins g.C.Link g.O.Link g.O.Upstream _ _ c.args.request c.args.head c.in-Ok.fields
    c.rule_response.result c.in-Ok.ensures c.rule_response.ensures
