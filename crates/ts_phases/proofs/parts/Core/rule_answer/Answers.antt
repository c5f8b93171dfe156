-- A plugin at SEND_RESPONSE_HDR is asked about an answer of the proxy's own, or none is left.
use Rattle.std.proofs.Common.{◌∙◌, rules}
use Rattle.ts_hooks.specs.declared.hook.Hook.TheVariants as hook
use Rattle.ts_phases.proofs.Leading.{all_asked, asks_own, in_turn}
use Rattle.ts_phases.proofs.parts.Core.rule_answer.Goals as goal

pub queue_answer-requires-clause-none : goal.queue_answer-requires-clause-none
queue_answer-requires-clause-none g c = all_asked c.args.self.now c.requires.table hook.SendResponseHdr
    c.args.place c.in_default.ensures

pub returns-in_default : goal.returns-in_default
returns-in_default g c = record {
  leads = c.queue_answer.ensures.leads;
  fact = c.queue_answer.ensures.fact;
  owes = c.queue_answer.ensures.owes;
  falls = c.queue_answer.ensures.falls;
}

pub returns : goal.returns
returns g c = asks_own g.C.Link g.O.Link g.O.Upstream c.args.self.now c.args.place c.in-Some.group
    c.args.answer c.args.fields c.new.result c.of_vec.result (c.of_vec.ensures ∙ search rules)
    (in_turn c.args.self.now c.requires.table hook.SendResponseHdr c.args.place c.in-Some.group
    c.in-Some.ensures) c.requires.fact
