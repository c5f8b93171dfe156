use Rattle.std.proofs.Common.{◌+◌, ◌-◌, refl, subst}
use Rattle.std.specs.Prelude.{take, slice_range, vec_capacity}
use Rattle.ts_wire.specs.Place.{Place, place_of, GoesOn}
use Rattle.ts_wire.proofs.PlaceBody.{goes_on, gives_body}
use Rattle.ts_wire.proofs.body.BodyReader.feed.Goals as goal

pub returns-clause-goes_on : goal.returns-clause-goes_on
returns-clause-goes_on c =
    let step = c.next_step-step.result in
    let bytes = c.args.bytes.now in
    let now : Place = record {
      phase = step.phase;
      held = c.next_step-step.new.held.items;
      total = c.self.inside.total + (step.to - step.from);
      room = vec_capacity c.next_step-step.new.held;
    } in
    subst (λ p. GoesOn p now (take step.taken bytes) (slice_range bytes step.from step.to)) c.self.view_is
    (goes_on (place_of c.self.inside) now bytes step c.next_step-step.ensures.steps refl refl)

pub returns-clause-body : goal.returns-clause-body
returns-clause-body c =
    let step = c.next_step-step.result in
    let bytes = c.args.bytes.now in
    gives_body c.args.self.now _ (take step.taken bytes)
    (slice_range bytes step.from step.to) _ c.state_of.ensures (returns-clause-goes_on c)
