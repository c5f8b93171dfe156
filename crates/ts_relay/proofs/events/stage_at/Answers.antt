-- An event of a stage: where it leads, which links it called, and that it pays for its events.
use Rattle.std.proofs.Common.{refl, ap, subst}
use Rattle.ts_transform.proofs.Carrying.{pumped_order}
use Rattle.ts_phases.specs.View.{view_of}
use Rattle.ts_relay.proofs.BodyEvents.{handles_stage, settled_as, stage_leads}
use Rattle.ts_relay.proofs.BodyLinks.{links_stage}
use Rattle.ts_relay.specs.Duties.{SettlesAfter}
use Rattle.ts_relay.proofs.LoweringPays.{role_pays}
use Rattle.ts_phases.proofs.Owed.{all_kept}
use Rattle.ts_relay.proofs.events.stage_at.Goals as goal

pub returns-clause-leads : goal.returns-clause-leads
returns-clause-leads g c = λ told also.
    settled_as _ _ g.P.Transform _ (record c.args.relay.now { driven = c.handle.new.self })
    c.settle_after.new.relay c.step_after-step.result c.settle_after.result
    c.settle_after.ensures.settles.settled c.settle_after.ensures.relay (stage_leads _ _ g.P.Transform _
    c.args.relay.now.driven.chain c.handle.new.self.chain c.args.relay.now.body c.args.relay.now.short
    c.args.relay.now.driven.table.items c.handle.new.self.table.items c.args.cx.now c.handle.new.cx
    c.handle.result c.step_after-step.result c.step_after-step.ensures c.handle.ensures.gives
    (c.requires.fact told also))

pub returns-clause-pays : goal.returns-clause-pays
returns-clause-pays g c =
    role_pays g.C.Link.tells g.O.Link.tells _ g.P.Transform.rest g.P.Transform.pause c.args.role c.args.event
    c.handle.result c.settle_after.result _ c.args.main.now c.settle_after.new.main c.args.relay.now
    c.settle_after.new.relay c.handle.new.self c.args.cx.now c.handle.new.cx c.settle_after.new.cx
    c.handle.ensures.acts (λ none. (c.handle.ensures.other none).0) g.P.Transform.soon c.handle.ensures.gives
    c.handle.ensures.within c.handle.ensures.loses (subst (λ x. SettlesAfter x c.settle_after.result
    (view_of g.C.Link g.O.Link c.args.core.now) c.args.main.now c.settle_after.new.main
    (record c.args.relay.now { driven = c.handle.new.self }) c.settle_after.new.relay c.handle.new.cx
    c.settle_after.new.cx) c.step_after-step.ensures c.settle_after.ensures.settles)
    c.settle_after.ensures.relay

pub returns-clause-handles : goal.returns-clause-handles
returns-clause-handles g c = record {
  keeps = all_kept g.C.Link g.O.Link g.O.Upstream _;
  body =
      handles_stage c.args.role c.args.event c.handle.result c.step_after-step.result c.settle_after.result
      _ c.args.main.now c.settle_after.new.main
      c.args.relay.now (record c.args.relay.now { driven = c.handle.new.self }) c.settle_after.new.relay
      c.args.cx.now c.handle.new.cx c.settle_after.new.cx c.known.ensures c.step_after-step.ensures
      c.handle.ensures.within c.handle.ensures.loses c.handle.ensures.rest.others c.handle.ensures.driven
      c.requires.role.0 c.requires.role.1 refl
      c.handle.ensures.rest.seated (pumped_order g.P.Transform.rest c.args.relay.now.driven.chain
      c.handle.new.self.chain c.handle.ensures.gives.once) (ap (λ x. x.driven) c.settle_after.ensures.relay)
      c.settle_after.ensures.settles;
  links =
      links_stage g.C.Link.tells g.O.Link.tells g.P.Transform.rest g.P.Transform.pause c.args.role
      c.args.event c.handle.result _ c.step_after-step.result
      c.settle_after.result c.args.main.now c.args.relay.now
      (record c.args.relay.now { driven = c.handle.new.self }) c.settle_after.new.relay c.args.cx.now
      c.handle.new.cx c.settle_after.new.cx
      c.step_after-step.ensures c.settle_after.ensures.settles.settled (ap (λ x. x.driven)
      c.settle_after.ensures.relay) (ap (λ x. x.short) c.settle_after.ensures.relay)
      c.handle.ensures.gives.once c.handle.ensures.within.grows.moment
      c.handle.ensures.acts (λ none. (c.handle.ensures.other none).1) c.handle.ensures.rest.others refl
      c.settle_after.ensures.settles.adds c.settle_after.ensures.due;
}
