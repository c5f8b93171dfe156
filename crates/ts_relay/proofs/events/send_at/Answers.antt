-- An event of the first continuation: where it leads, which links it called, and that it pays for its events.
use Rattle.std.proofs.Common.{sym, ap, subst, ◌∙◌}
use Rattle.ts_phases.specs.View.{view_of}
use Rattle.ts_relay.specs.Duties.{SettlesAfter}
use Rattle.ts_relay.proofs.BodyEvents.{handles_quiet, handles_write, settled_as}
use Rattle.ts_relay.proofs.BodyLinks.{links_quiet, links_write}
use Rattle.ts_relay.proofs.LoweringPays.{quiet_pays, send_pays}
use Rattle.ts_phases.proofs.Owed.{all_kept}
use Rattle.ts_relay.proofs.events.send_at.Goals as goal

pub returns-clause-leads : goal.returns-clause-leads
returns-clause-leads g c = λ told also.
    settled_as _ _ g.P.Transform _ c.write_body-step.new.relay c.settle_after.new.relay
    c.write_body-step.result c.settle_after.result c.settle_after.ensures.settles.settled
    c.settle_after.ensures.relay (c.write_body-step.ensures.leads told also)

pub returns-then-not-works-clause-pays : goal.returns-then-not-works-clause-pays
returns-then-not-works-clause-pays g c = quiet_pays g.C.Link.tells g.O.Link.tells _ g.P.Transform.rest _
    c.args.main.now c.args.relay.now c.args.cx.now

pub returns-clause-pays : goal.returns-clause-pays
returns-clause-pays g c =
    send_pays g.C.Link.tells g.O.Link.tells _ g.P.Transform.rest c.write_body-step.result
    c.settle_after.result _ _ c.args.main.now c.unrouse.new.slot c.settle_after.new.main c.args.relay.now
    c.args.relay.now c.write_body-step.new.relay c.settle_after.new.relay c.args.cx.now
    c.write_body-step.new.cx c.settle_after.new.cx c.unrouse.ensures c.write_body-step.ensures.steps.chain
    c.write_body-step.ensures.lowers c.settle_after.ensures.settles c.settle_after.ensures.relay

pub returns-then-not-works-clause-handles : goal.returns-then-not-works-clause-handles
returns-then-not-works-clause-handles g c = record {
  keeps = all_kept g.C.Link g.O.Link g.O.Upstream _;
  body =
      handles_quiet 1 c.args.event _ c.args.main.now
      c.args.relay.now c.args.cx.now c.requires.turn (sym c.works.ensures ∙ c.if-not-works.true);
  links =
      links_quiet g.C.Link.tells g.O.Link.tells _ c.args.main.now
      c.args.relay.now c.args.cx.now;
}

pub returns-clause-handles : goal.returns-clause-handles
returns-clause-handles g c = record {
  keeps = c.write_body-step.ensures.steps.keeps;
  body =
      handles_write c.args.event c.write_body-step.result c.settle_after.result
      _ _
      c.args.main.now
      c.settle_after.new.main
      c.args.relay.now c.write_body-step.new.relay c.settle_after.new.relay c.args.cx.now
      c.write_body-step.new.cx c.settle_after.new.cx c.known.ensures c.write_body-step.ensures.steps.chain
      c.write_body-step.ensures.steps.relay (ap (λ x. x.driven) c.settle_after.ensures.relay)
      (subst (λ x. SettlesAfter c.write_body-step.result c.settle_after.result
      (view_of g.C.Link g.O.Link c.write_body-step.new.core) x c.settle_after.new.main
      c.write_body-step.new.relay
      c.settle_after.new.relay c.write_body-step.new.cx c.settle_after.new.cx) c.unrouse.ensures
      c.settle_after.ensures.settles)
      c.write_body-step.ensures.steps.links.origin;
  links =
      links_write g.C.Link.tells g.O.Link.tells (view_of g.C.Link g.O.Link c.args.core.now)
      (view_of g.C.Link g.O.Link c.write_body-step.new.core) c.write_body-step.result c.settle_after.result
      c.args.main.now c.unrouse.new.slot c.args.relay.now c.write_body-step.new.relay c.settle_after.new.relay
      c.args.cx.now c.write_body-step.new.cx c.settle_after.new.cx c.write_body-step.ensures.steps.links
      c.settle_after.ensures.settles.settled
      (ap (λ x. x.driven) c.settle_after.ensures.relay)
      (ap (λ x. x.short) c.settle_after.ensures.relay)
      c.write_body-step.ensures.steps.chain c.write_body-step.ensures.steps.relay c.unrouse.ensures
      c.settle_after.ensures.settles.adds c.settle_after.ensures.due;
}
