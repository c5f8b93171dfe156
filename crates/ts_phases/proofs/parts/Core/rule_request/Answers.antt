-- A plugin at SEND_REQUEST_HDR is asked, or none is left, or there was no memory for its question.
use Rattle.std.proofs.Common.{refl}
use Rattle.ts_hooks.specs.declared.hook.Hook.TheVariants as hook
use Rattle.ts_phases.specs.declared.phase.Phase.TheVariants as P
use Rattle.ts_phases.proofs.Leading.{all_asked, asks_request, in_turn, lacks}
use Rattle.ts_phases.proofs.Minding.{stood}
use Rattle.ts_phases.proofs.parts.Core.rule_request.Goals as goal

pub queue_ruled-requires-clause-none : goal.queue_ruled-requires-clause-none
queue_ruled-requires-clause-none g c = all_asked c.args.self.now c.requires.table hook.SendRequestHdr
    c.args.place c.in_default.ensures

pub returns-in_default : goal.returns-in_default
returns-in_default g c = record {
  leads = c.queue_ruled.ensures.leads;
  fact = c.queue_ruled.ensures.fact;
  owes = c.queue_ruled.ensures.owes;
  falls = c.queue_ruled.ensures.falls;
}

pub returns-in_default-host_of : goal.returns-in_default-host_of
returns-in_default-host_of g c =
    lacks g.C.Link g.O.Link g.O.Upstream c.args.self.now
    (P.RuleRequest c.args.request c.args.place c.args.fields) c.requires.fact refl (stood _ _ _ refl)

pub returns : goal.returns
returns g c = asks_request g.C.Link g.O.Link g.O.Upstream c.args.self.now c.args.place c.in-Some.group
    c.args.request c.args.fields c.new.result c.in-Ok.host c.in-Ok.ensures
    (in_turn c.args.self.now c.requires.table hook.SendRequestHdr c.args.place c.in-Some.group
    c.in-Some.ensures) c.requires.fact
