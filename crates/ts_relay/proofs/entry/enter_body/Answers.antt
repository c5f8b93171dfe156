-- A body begins: where its first steps lead, and that they lower what is left to do.
use Rattle.std.proofs.Common.{◌∙◌}
use Rattle.ts_relay.proofs.Entered.{enters_lead}
use Rattle.ts_relay.proofs.LoweringEntry.{begins_lower}
use Rattle.ts_relay.proofs.entry.enter_body.Goals as goal

pub returns-clause-leads : goal.returns-clause-leads
returns-clause-leads g c = λ told also.
    enters_lead _ _ g.P.Transform _ c.args.relay.now.driven.chain c.begin_relay.new.relay.driven.chain
    c.args.relay.now.body c.begin_relay.new.relay.body c.begin_relay.new.relay.short c.begin_relay.result
    c.begin_relay.ensures.body.0 (c.begin_relay.ensures.body.1 ∙ c.requires.fresh.goes_on)
    c.begin_relay.ensures.gets (c.requires.fact told also)

pub returns-clause-lowers : goal.returns-clause-lowers
returns-clause-lowers g c =
    begins_lower _ g.P.Transform.rest _ c.begin_relay.result _ c.args.relay.now c.begin_relay.new.relay
    c.args.cx.now c.begin_relay.new.cx c.requires.fresh c.begin_relay.ensures.gets
    c.begin_relay.ensures.begins
