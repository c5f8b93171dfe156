use Rattle.std.proofs.Common.{inl, refl}
use Rattle.ts_transform.proofs.Joined.{falls_told, no_duty}
use Rattle.ts_transform.proofs.Losing.{carried_to}
use Rattle.ts_transform.proofs.link_world.LinkWorldWorld.handle.Goals as goal

pub returns-clause-sound : goal.returns-clause-sound
returns-clause-sound g c =
    let called = c.requires.called in (
      refl,
      c.step.ensures.carried called.before.pending called.before.next
          (carried_to c.args.self.now c.args.cx.now c.args.role c.args.event called),
    )

pub returns-clause-again : goal.returns-clause-again
returns-clause-again g c =
    let called = c.requires.called in
    c.step.ensures.again called.before.pending called.before.next
    (carried_to c.args.self.now c.args.cx.now c.args.role c.args.event called)

pub returns-clause-steps : goal.returns-clause-steps
returns-clause-steps g c =
    let called = c.requires.called in
    record {
      steps = c.step.ensures.steps;
      rests = λ stopped. (c.step.ensures.rests (inl stopped)).0;
      falls = falls_told c.args.self.now c.step.new.self c.args.cx.now c.step.new.cx
          (c.step.ensures.acts called.before.pending called.before.next
          (carried_to c.args.self.now c.args.cx.now c.args.role c.args.event called)).loses;
      stops = c.step.ensures.stops;
    }

pub returns-clause-rests : goal.returns-clause-rests
returns-clause-rests g c = λ idle. c.step.ensures.rests
    (no_duty c.args.role c.args.self.now c.requires.called.sound.ends idle)

pub returns-clause-acts : goal.returns-clause-acts
returns-clause-acts g c =
    let called = c.requires.called in
    c.step.ensures.acts called.before.pending called.before.next
    (carried_to c.args.self.now c.args.cx.now c.args.role c.args.event called)
