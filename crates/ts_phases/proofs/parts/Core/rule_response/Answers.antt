-- A plugin at SEND_RESPONSE_HDR is asked about a response that is passed on, or its body begins, or there was
-- no memory for the question.
use Rattle.std.proofs.Common.{refl}
use Rattle.ts_hooks.specs.declared.hook.Hook.TheVariants as hook
use Rattle.ts_phases.specs.declared.phase.Phase.TheVariants as P
use Rattle.ts_phases.proofs.Leading.{all_asked, asks_response, begins_body, in_turn, lacks}
use Rattle.ts_phases.proofs.Minding.{stood}
use Rattle.ts_phases.proofs.parts.Core.rule_response.Goals as goal

pub returns-in_default : goal.returns-in_default
returns-in_default g c = begins_body g.C.Link g.O.Link g.O.Upstream c.args.self.now c.args.request c.args.head
    c.args.place c.args.fields (all_asked c.args.self.now c.requires.table hook.SendResponseHdr
    c.args.place c.in_default.ensures) c.requires.fact

pub returns-in_default-host_of : goal.returns-in_default-host_of
returns-in_default-host_of g c =
    lacks g.C.Link g.O.Link g.O.Upstream c.args.self.now
    (P.RuleResponse c.args.request c.args.head c.args.place c.args.fields) c.requires.fact refl
    (stood _ _ _ refl)

pub returns : goal.returns
returns g c = asks_response g.C.Link g.O.Link g.O.Upstream c.args.self.now c.args.place c.in-Some.group
    c.args.request c.args.head c.args.fields c.new.result c.in-Ok.host c.in-Ok.ensures
    (in_turn c.args.self.now c.requires.table hook.SendResponseHdr c.args.place c.in-Some.group
    c.in-Some.ensures) c.requires.fact
