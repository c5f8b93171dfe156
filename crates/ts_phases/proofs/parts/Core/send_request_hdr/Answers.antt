-- The hook of a request's head begins with the fields that are sent on, or there was no memory for them.
use Rattle.std.proofs.Common.{refl}
use Rattle.std.specs.Arc.{arc_value}
use Rattle.ts_phases.specs.declared.phase.Phase.TheVariants as P
use Rattle.ts_phases.proofs.Leading.{begins_ruled, lacks, request_begins}
use Rattle.ts_phases.proofs.Minding.{stood}
use Rattle.ts_phases.proofs.parts.Core.send_request_hdr.Goals as goal

pub returns-in_default : goal.returns-in_default
returns-in_default g c =
    lacks g.C.Link g.O.Link g.O.Upstream c.args.self.now (P.SendRequestHdr c.args.request) c.requires.fact
    refl (stood _ _ _ refl)

pub rule_request-requires-clause-fact : goal.rule_request-requires-clause-fact
rule_request-requires-clause-fact g c = λ told also. (
  c.requires.fact told also,
  begins_ruled (arc_value c.args.self.now.setup) _ _ c.in-Ok.fields
      c.in-Ok.ensures,
)

pub returns : goal.returns
returns g c = request_begins g.C.Link g.O.Link g.O.Upstream _ _ c.args.request c.in-Ok.fields
    c.rule_request.result c.in-Ok.ensures c.rule_request.ensures
