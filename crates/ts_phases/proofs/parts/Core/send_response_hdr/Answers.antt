-- The hook of the head of an own answer begins with its one field, or there was no memory for that.
use Rattle.std.proofs.Common.{refl}
use Rattle.std.specs.Arc.{arc_value}
use Rattle.ts_phases.specs.declared.phase.Phase.TheVariants as P
use Rattle.ts_phases.proofs.Leading.{begins_ruled, lacks, own_begins}
use Rattle.ts_phases.proofs.Minding.{stood}
use Rattle.ts_phases.proofs.parts.Core.send_response_hdr.Goals as goal

pub returns-in_default : goal.returns-in_default
returns-in_default g c =
    lacks g.C.Link g.O.Link g.O.Upstream c.args.self.now (P.SendResponseHdr c.args.answer) c.requires.fact
    refl (stood _ _ _ refl)

pub rule_answer-requires-clause-fact : goal.rule_answer-requires-clause-fact
rule_answer-requires-clause-fact g c = λ told also. (
  c.requires.fact told also,
  begins_ruled (arc_value c.args.self.now.setup) _ _ c.in-Ok.fields
      c.in-Ok.ensures,
)

pub returns : goal.returns
returns g c = own_begins g.C.Link g.O.Link g.O.Upstream _ _ c.args.answer c.in-Ok.fields
    c.rule_answer.result c.in-Ok.ensures c.rule_answer.ensures
