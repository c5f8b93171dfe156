use Rattle.std.proofs.Common.{◌≡◌, [], refl, rules, arith, subst}
use Rattle.ts_transform.specs.Carrying.{IsCarried}
use Rattle.ts_transform.proofs.Carrying.{has_written}
use Rattle.ts_transform.proofs.Joined.{all_carried}
use Rattle.ts_transform.proofs.Runs.{drive_cause_then, goes_on_later, not_aborted, stays_on, to_refl, to_trans}
use Rattle.ts_transform.proofs.link_drive.drive_links.Goals as goal

pub turns-init : goal.turns-init
turns-init g c =
    let world = c.args.group.now.world in
    record {
      idle = c.requires.idle;
      carried = c.requires.carried;
      carries = to_refl g.P.Transform.rest g.I.Link.tells g.K.Link.tells g.I.Link.look g.K.Link.look world
          world refl;
      made = omega arith;
      handled = omega arith;
      goes_on = stays_on c.args.group.now.cx.log;
    }

pub turns-preserved : goal.turns-preserved
turns-preserved g c = record {
  idle = c.take_turn.ensures.idle;
  carried = c.take_turn.ensures.carried;
  carries = to_trans g.P.Transform.rest g.I.Link.tells g.K.Link.tells g.I.Link.look g.K.Link.look
      c.args.group.now.world c.turns.group.world c.take_turn.new.group.world c.turns.invariant.carries
      c.take_turn.ensures.carries;
  made = omega (arith, c.turns.invariant.made, c.in_ok-take_turn.ensures.turn.made);
  handled = omega (arith, c.turns.invariant.handled, c.in_ok-take_turn.ensures.turn.handled);
  goes_on = goes_on_later c.args.group.now.cx.log c.turns.group.cx.log c.take_turn.new.group.cx.log
      c.turns.invariant.goes_on c.in_ok-take_turn.ensures.turn.goes_on;
}

-- A turn could not be made.
pub returns-in_err-take_turn-clause-carries : goal.returns-in_err-take_turn-clause-carries
returns-in_err-take_turn-clause-carries g c =
    to_trans g.P.Transform.rest g.I.Link.tells g.K.Link.tells g.I.Link.look g.K.Link.look
    c.args.group.now.world c.turns.group.world c.take_turn.new.group.world c.turns.invariant.carries
    c.take_turn.ensures.carries

-- Nothing is pending, so all was written.
pub returns-in_default-clause-done : goal.returns-in_default-clause-done
returns-in_default-clause-done g c = λ done.
    let was = c.args.group.now.world in
    let now = c.turns.group in
    let none : now.cx.log.state.pending ≡ [] = search rules in
    let carries = c.turns.invariant.carries in
    let carried : IsCarried now.world [] now.cx.log.state.next now.cx.roles = subst
    (λ ps. IsCarried now.world ps now.cx.log.state.next now.cx.roles) none c.turns.invariant.carried in (
      none,
      λ runs goes opened reads writes in_tells out_tells.
          let all = all_carried now.world.driven.chain now.world.driven.table.items now.world.writer
          now.world.reader now.cx.roles (carried.joined runs) (carried.ends runs) carried.ordered in
          has_written g.P.Transform.rest g.I.Link.tells g.K.Link.tells (g.I.Link.look was.input)
          (g.I.Link.look now.world.input) (g.K.Link.look was.output) (g.K.Link.look now.world.output)
          was.driven.chain now.world.driven.chain
          was.aborted now.world.aborted carries.on all.0 all.1
          (not_aborted g.P.Transform.rest g.I.Link.tells g.K.Link.tells g.I.Link.look g.K.Link.look was
          now.world carries runs goes reads writes) opened in_tells out_tells,
    )

pub returns-in-None-clause-done : goal.returns-in-None-clause-done
returns-in-None-clause-done g c = λ done.
    let was = c.args.group.now.world in
    let now = c.turns.group in
    let none : now.cx.log.state.pending ≡ [] = search rules in
    let carries = c.turns.invariant.carries in
    let carried : IsCarried now.world [] now.cx.log.state.next now.cx.roles = subst
    (λ ps. IsCarried now.world ps now.cx.log.state.next now.cx.roles) none c.turns.invariant.carried in (
      none,
      λ runs goes opened reads writes in_tells out_tells.
          let all = all_carried now.world.driven.chain now.world.driven.table.items now.world.writer
          now.world.reader now.cx.roles (carried.joined runs) (carried.ends runs) carried.ordered in
          has_written g.P.Transform.rest g.I.Link.tells g.K.Link.tells (g.I.Link.look was.input)
          (g.I.Link.look now.world.input) (g.K.Link.look was.output) (g.K.Link.look now.world.output)
          was.driven.chain now.world.driven.chain
          was.aborted now.world.aborted carries.on all.0 all.1
          (not_aborted g.P.Transform.rest g.I.Link.tells g.K.Link.tells g.I.Link.look g.K.Link.look was
          now.world carries runs goes reads writes) opened in_tells out_tells,
    )

pub returns-in_err-take_turn-clause-fault : goal.returns-in_err-take_turn-clause-fault
returns-in_err-take_turn-clause-fault g c =
    drive_cause_then c.from_residual.result _ c.args.group.now.cx c.turns.group.cx c.take_turn.new.group.cx
    c.from_residual.ensures.1 (omega (arith, c.turns.invariant.made)) c.turns.invariant.goes_on
    c.in_err-take_turn.ensures.fault
