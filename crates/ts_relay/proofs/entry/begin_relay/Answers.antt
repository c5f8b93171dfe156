-- The reader and the stages of a body are made, or what was made before memory lacked.
use Rattle.std.proofs.Common.{length, true, refl, sym, ap, subst, ◌∙◌}
use Rattle.ts_transform.specs.Flow.{EndsInOrder}
use Rattle.ts_transform.proofs.Setting.{only_same}
use Rattle.ts_relay.specs.Relaying.{IsOfRoleFrom}
use Rattle.ts_relay.specs.declared.relay.TheConstants.{FIRST}
use Rattle.ts_relay.proofs.BodyTimes.{begins_in_time, set_behind}
use Rattle.ts_relay.proofs.Entered.{begins_all, begins_none, begins_unstarted}
use Rattle.ts_relay.proofs.entry.begin_relay.Goals as goal

pub returns-in_default-clause-begins : goal.returns-in_default-clause-begins
returns-in_default-clause-begins g c =
    begins_none (length c.args.relay.now.driven.chain.stages) c.args.relay.now c.args.cx.now c.make_end.new.cx
    c.make_end.ensures.grows
    c.make_end.ensures.turn c.make_end.ensures.events c.make_end.ensures.keys c.requires.fresh

pub returns-in_default-start_chain : goal.returns-in_default-start_chain
returns-in_default-start_chain g c = record {
  gets = tt;
  body = (refl, refl);
  begins = begins_unstarted c.args.cx.now c.make_end.new.cx c.start_chain.new.cx c.in-Ok.reader
      c.make_end.ensures.grows c.make_end.ensures.turn c.make_end.ensures.events c.make_end.ensures.keys
      c.in-Ok.ensures.named.0 c.in-Ok.ensures.named.1
      c.start_chain.result (length c.args.relay.now.driven.chain.stages) _ refl (subst (λ k. EndsInOrder true
      k.stages) (sym c.start_chain.ensures.chain)
      c.requires.fresh.in_order) c.requires.fresh.goes_on
      c.start_chain.ensures.begins;
  due = λ runs. set_behind (IsOfRoleFrom FIRST c.start_chain.new.cx.roles) c.args.cx.now c.make_end.new.cx
      c.start_chain.new.cx c.make_end.ensures.events.pending c.start_chain.ensures.due;
}

pub returns-clause-begins : goal.returns-clause-begins
returns-clause-begins g c =
    begins_all c.args.cx.now c.make_end.new.cx c.start_chain.new.cx c.in-Ok.reader c.make_end.ensures.grows
    c.make_end.ensures.turn c.make_end.ensures.events c.make_end.ensures.keys
    c.in-Ok.ensures.named.0 c.in-Ok.ensures.named.1
    c.begin_input.result (length c.args.relay.now.driven.chain.stages) c.start_chain.new.driven
    c.begin_input.new.relay c.begin_input.new.cx c.known.ensures
    (ap (λ r. r.reader) c.begin_input.ensures.relay)
    (subst (λ k. EndsInOrder true k.stages) (sym c.start_chain.ensures.chain) c.requires.fresh.in_order)
    (ap (λ r. r.short) c.begin_input.ensures.relay ∙ c.requires.fresh.goes_on)
    c.in-Goes.ensures.begins c.begin_input.ensures.chain _ c.begin_input.ensures.gets

pub returns-in_default-clause-due : goal.returns-in_default-clause-due
returns-in_default-clause-due g c = λ runs. only_same (IsOfRoleFrom FIRST c.make_end.new.cx.roles)
    c.args.cx.now c.make_end.new.cx c.make_end.ensures.events.pending

pub returns-clause-due : goal.returns-clause-due
returns-clause-due g c =
    begins_in_time c.begin_input.result c.start_chain.new.driven c.begin_input.new.relay.driven c.args.cx.now
    c.make_end.new.cx c.start_chain.new.cx c.begin_input.new.cx c.make_end.ensures.events.pending
    c.start_chain.ensures.due c.in-Goes.ensures.begins.driven c.begin_input.ensures.chain
