-- A plugin at the lookup is asked, or none is left, or there was no memory for its question.
use Rattle.std.proofs.Common.{refl}
use Rattle.ts_hooks.specs.declared.hook.Hook.TheVariants as hook
use Rattle.ts_phases.specs.declared.phase.Phase.TheVariants as P
use Rattle.ts_phases.proofs.Leading.{all_asked, asks_dns, in_turn, lacks}
use Rattle.ts_phases.proofs.Minding.{stood}
use Rattle.ts_phases.proofs.parts.Core.os_dns.Goals as goal

pub dial-requires-clause-none : goal.dial-requires-clause-none
dial-requires-clause-none g c = all_asked c.args.self.now c.requires.table hook.OsDns c.args.place
    c.in_default.ensures

pub returns-in_default : goal.returns-in_default
returns-in_default g c = record {
  leads = c.dial.ensures.leads;
  fact = c.dial.ensures.fact;
  owes = c.dial.ensures.owes;
  falls = c.dial.ensures.falls;
}

pub returns-in_default-host_of : goal.returns-in_default-host_of
returns-in_default-host_of g c =
    lacks g.C.Link g.O.Link g.O.Upstream c.args.self.now (P.OsDns c.args.request c.args.place) c.requires.fact
    refl (stood _ _ _ refl)

pub returns : goal.returns
returns g c = asks_dns g.C.Link g.O.Link g.O.Upstream c.args.self.now c.args.place c.in-Some.group
    c.args.request c.in-Ok.host c.new.result c.in-Ok.ensures c.new.ensures
    (in_turn c.args.self.now c.requires.table hook.OsDns c.args.place c.in-Some.group c.in-Some.ensures)
    c.requires.fact
