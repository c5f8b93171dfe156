use Rattle.std.proofs.Common.{◌≡◌, ◌≤◌, ◌+◌, ◌*◌, length, refl, ap, subst, sym, arith, true, false, ◌∙◌}
use Rattle.ts_transform.specs.Stage.{done_by, IfRests}
use Rattle.ts_transform.specs.Flow.{AnswersAt, StepsAt}
use Rattle.ts_transform.specs.Acting.{step_weight}
use Rattle.ts_transform.proofs.Acting.{pumps, pumps_none, tells_rest}
use Rattle.ts_transform.proofs.Called.{called_kept}
use Rattle.ts_transform.proofs.Covering.{DoesWork, does-must, moved-some, worked, rested, driven_kept, IsResting}
use Rattle.ts_transform.proofs.Kept.{adds_err, adds_lacks, adds_more, adds_none, adds_then, adds_weaker, stages_kept, stages_trans}
use Rattle.ts_transform.proofs.MaySet.{may_rouse, may_set_none, may_tell}
use Rattle.ts_transform.proofs.Told.{moved_goes}
use Rattle.ts_lists.proofs.Results.{on_ok_any}
use Rattle.std.proofs.lemmas.Result.{on_ok_weaker}
use Rattle.ts_transform.proofs.handler.work.Goals as goal

-- A stage moved a piece, which pays for the events that follow it.
pub returns-in-Moved-clause-adds : goal.returns-in-Moved-clause-adds
returns-in-Moved-clause-adds g c = adds_more 3 4 c.rouse_round.result (omega arith) c.rouse_round.ensures.adds

pub returns-in-Moved-clause-works : goal.returns-in-Moved-clause-works
returns-in-Moved-clause-works g c = record {
  pumps =
      let old = c.args.chain.now in
      let did : done_by c.in-Ok.pumped ≡ c.in-Moved.field-0 = ap done_by c.in-Moved.is in
      let some : 1 ≤ c.in-Moved.field-0 = moved-some old.given old.first old.stages c.args.at
      c.in-Moved.field-0
      (subst (AnswersAt old.given old.first old.stages c.args.at) c.in-Moved.is c.in-Ok.ensures.answer) in
      let paid : length c.rouse_round.new.cx.log.state.pending ≤ length c.args.cx.now.log.state.pending +
      step_weight * done_by c.in-Ok.pumped = omega
      (arith, some, did, c.rouse_round.ensures.adds.few.pending) in
      pumps g.P.Transform.rest g.P.Transform.soon c.args.at old c.pump.new.self c.in-Ok.pumped c.args.cx.now
      c.rouse_round.new.cx
      c.in-Ok.ensures.answer c.in-Ok.ensures.steps c.in-Ok.ensures.flow c.in-Ok.ensures.kept.0
      c.in-Ok.ensures.kept.1
      c.in-Ok.ensures.falls paid;
  rests = λ none.
      let old = c.args.chain.now in
      absurd (none (does-must old.given old.first old.stages c.args.at c.in-Ok.pumped
      (subst DoesWork (sym c.in-Moved.is) tt) c.in-Ok.ensures.answer));
}

pub returns-in-Moved-clause-only : goal.returns-in-Moved-clause-only
returns-in-Moved-clause-only g c = λ event.
    may_rouse g.P.Transform.pause c.args.chain.now c.pump.new.self c.args.table.now c.args.at event
    c.args.cx.now c.rouse_round.new.cx c.rouse_round.ensures.only

pub returns-in-Moved-clause-driven : goal.returns-in-Moved-clause-driven
returns-in-Moved-clause-driven g c =
    on_ok_weaker c.rouse_round.result
    (λ round first. worked g.P.Transform.rest first c.args.cx.now c.rouse_round.new.cx c.args.chain.now
    c.pump.new.self c.args.table.now c.rouse_round.new.table c.args.at c.in-Ok.pumped
    c.in-Ok.ensures.steps c.in-Ok.ensures.kept.0 c.in-Ok.ensures.kept.1 c.rouse_round.ensures.stages.len
    (c.rouse_round.ensures.stages.of_stages first) c.rouse_round.ensures.stages.still round)
    c.rouse_round.ensures.round

-- It has not ended by it.
pub returns-in-Moved-clause-tells : goal.returns-in-Moved-clause-tells
returns-in-Moved-clause-tells g c =
    let old = c.args.chain.now in
    let new = c.pump.new.self in
    on_ok_weaker c.rouse_round.result
    (λ called. record {
      ended = λ goes ended. absurd (let wrong : false ≡ true = sym goes ∙ sym
          (moved_goes g.P.Transform.rest old.first old.stages c.args.at c.in-Moved.field-0 new.first
          new.stages
          (subst (λ r. StepsAt g.P.Transform.rest old.first old.stages c.args.at r new.first new.stages)
          c.in-Moved.is c.in-Ok.ensures.steps)) ∙ ended in cc);
      ready = λ did. called;
    })
    c.rouse_round.ensures.called

-- A stage ended, and those round it could not all be roused.
pub returns-in_err-rouse_round-in-Ended-clause-adds :
    goal.returns-in_err-rouse_round-in-Ended-clause-adds
returns-in_err-rouse_round-in-Ended-clause-adds g c =
    adds_err 3 4 c.from_residual.result _ c.from_residual.ensures.1 (omega arith)
    c.in_err-rouse_round-in-Ended.ensures.adds

pub returns-in_err-rouse_round-in-Ended-clause-works :
    goal.returns-in_err-rouse_round-in-Ended-clause-works
returns-in_err-rouse_round-in-Ended-clause-works g c = record {
  pumps =
      let did : done_by c.in-Ok.pumped ≡ 1 = ap done_by c.in-Ended.is in
      let round = c.rouse_round-in-Ended in
      let paid : length round.new.cx.log.state.pending ≤ length c.args.cx.now.log.state.pending + step_weight
      *
      done_by c.in-Ok.pumped = omega (arith, did, round.ensures.adds.few.pending) in
      pumps g.P.Transform.rest g.P.Transform.soon c.args.at c.args.chain.now c.pump.new.self c.in-Ok.pumped
      c.args.cx.now
      round.new.cx c.in-Ok.ensures.answer c.in-Ok.ensures.steps c.in-Ok.ensures.flow c.in-Ok.ensures.kept.0
      c.in-Ok.ensures.kept.1
      c.in-Ok.ensures.falls paid;
  rests = λ none.
      let old = c.args.chain.now in
      absurd (none (does-must old.given old.first old.stages c.args.at c.in-Ok.pumped
      (subst DoesWork (sym c.in-Ended.is) tt) c.in-Ok.ensures.answer));
}

pub returns-in_err-rouse_round-in-Ended-clause-only :
    goal.returns-in_err-rouse_round-in-Ended-clause-only
returns-in_err-rouse_round-in-Ended-clause-only g c = λ event.
    may_rouse g.P.Transform.pause c.args.chain.now c.pump.new.self c.args.table.now c.args.at event
    c.args.cx.now c.rouse_round-in-Ended.new.cx c.rouse_round-in-Ended.ensures.only

-- They could, and the stage before it is told.
pub returns-in_ok-rouse_round-in-Ended-clause-adds :
    goal.returns-in_ok-rouse_round-in-Ended-clause-adds
returns-in_ok-rouse_round-in-Ended-clause-adds g c =
    adds_then 3 1 4 c.rouse_round-in-Ended.result c.tell_before.result (omega arith)
    c.rouse_round-in-Ended.ensures.adds (adds_weaker 1 c.tell_before.result (λ all. all.live)
    c.tell_before.ensures.adds)

pub returns-in_ok-rouse_round-in-Ended-clause-stages :
    goal.returns-in_ok-rouse_round-in-Ended-clause-stages
returns-in_ok-rouse_round-in-Ended-clause-stages g c =
    stages_trans c.rouse_round-in-Ended.ensures.stages
    (stages_kept c.rouse_round-in-Ended.new.cx c.tell_before.new.cx c.tell_before.ensures.adds.keeps
    c.rouse_round-in-Ended.new.table c.tell_before.ensures.seated)

pub returns-in_ok-rouse_round-in-Ended-clause-works :
    goal.returns-in_ok-rouse_round-in-Ended-clause-works
returns-in_ok-rouse_round-in-Ended-clause-works g c = record {
  pumps =
      let did : done_by c.in-Ok.pumped ≡ 1 = ap done_by c.in-Ended.is in
      let paid : length c.tell_before.new.cx.log.state.pending ≤ length c.args.cx.now.log.state.pending +
      step_weight * done_by c.in-Ok.pumped =
      omega (
        arith,
        did,
        c.rouse_round-in-Ended.ensures.adds.few.pending,
        c.tell_before.ensures.adds.few.pending,
      ) in
      pumps g.P.Transform.rest g.P.Transform.soon c.args.at c.args.chain.now c.pump.new.self c.in-Ok.pumped
      c.args.cx.now
      c.tell_before.new.cx c.in-Ok.ensures.answer c.in-Ok.ensures.steps c.in-Ok.ensures.flow
      c.in-Ok.ensures.kept.0
      c.in-Ok.ensures.kept.1
      c.in-Ok.ensures.falls paid;
  rests = λ none.
      let old = c.args.chain.now in
      absurd (none (does-must old.given old.first old.stages c.args.at c.in-Ok.pumped
      (subst DoesWork (sym c.in-Ended.is) tt) c.in-Ok.ensures.answer));
}

pub returns-in_ok-rouse_round-in-Ended-clause-only :
    goal.returns-in_ok-rouse_round-in-Ended-clause-only
returns-in_ok-rouse_round-in-Ended-clause-only g c = λ event.
    let round = c.rouse_round-in-Ended in
    may_tell g.P.Transform.pause g.P.Transform.rest c.args.chain.now c.pump.new.self c.args.table.now
    round.new.table c.args.at event c.in-Ok.pumped c.args.cx.now round.new.cx c.tell_before.new.cx
    c.in-Ended.is c.in-Ok.ensures.answer c.in-Ok.ensures.steps round.ensures.adds.keeps round.ensures.stages
    round.ensures.only c.tell_before.ensures.adds.keeps c.tell_before.ensures.only

pub returns-in_ok-rouse_round-in-Ended-clause-driven :
    goal.returns-in_ok-rouse_round-in-Ended-clause-driven
returns-in_ok-rouse_round-in-Ended-clause-driven g c =
    let round = c.rouse_round-in-Ended in
    on_ok_any c.tell_before.result
    (λ first driven. driven_kept first round.new.cx c.tell_before.new.cx c.pump.new.self round.new.table
    c.tell_before.ensures.adds.keeps
    (worked g.P.Transform.rest first c.args.cx.now round.new.cx c.args.chain.now c.pump.new.self
    c.args.table.now round.new.table c.args.at c.in-Ok.pumped
    c.in-Ok.ensures.steps c.in-Ok.ensures.kept.0 c.in-Ok.ensures.kept.1 round.ensures.stages.len
    (round.ensures.stages.of_stages first)
    round.ensures.stages.still c.in_ok-rouse_round-in-Ended.ensures.round driven))

pub returns-in_ok-rouse_round-in-Ended-clause-tells :
    goal.returns-in_ok-rouse_round-in-Ended-clause-tells
returns-in_ok-rouse_round-in-Ended-clause-tells g c =
    let before = c.rouse_round-in-Ended.new.cx in
    let table = c.rouse_round-in-Ended.new.table in
    on_ok_weaker c.tell_before.result
    (λ told. record {
      ended = λ goes ended. told;
      ready = λ did j above pauses must. called_kept before c.tell_before.new.cx c.args.table.now
          c.args.table.now table table j refl refl c.tell_before.ensures.adds.keeps
          (c.in_ok-rouse_round-in-Ended.ensures.called j above pauses must);
    })
    c.tell_before.ensures.told

-- Memory lacked.
pub returns-in_default-clause-adds : goal.returns-in_default-clause-adds
returns-in_default-clause-adds g c = adds_lacks c.args.cx.now 4 c.requires.turn

pub returns-in_default-clause-works : goal.returns-in_default-clause-works
returns-in_default-clause-works g c = record {
  pumps = pumps_none g.P.Transform.rest g.P.Transform.soon c.args.at c.args.chain.now c.pump.new.self
      c.args.cx.now
      c.in_default.ensures.err.1;
  rests = λ none. absurd (none c.in_default.ensures.err.0);
}

-- A stage rested.
pub returns-in-Blocked-clause-adds : goal.returns-in-Blocked-clause-adds
returns-in-Blocked-clause-adds g c = adds_none c.args.cx.now 4 c.requires.turn

pub returns-in-Blocked-clause-works : goal.returns-in-Blocked-clause-works
returns-in-Blocked-clause-works g c = record {
  pumps =
      pumps_none g.P.Transform.rest g.P.Transform.soon c.args.at c.args.chain.now c.pump.new.self
      c.args.cx.now
      (subst (λ r. IfRests r (c.pump.new.self ≡ c.args.chain.now)) c.in-Blocked.is c.in-Ok.ensures.rests);
  rests = λ none. (
    refl,
    subst (λ r. IfRests r (c.pump.new.self ≡ c.args.chain.now)) c.in-Blocked.is
        c.in-Ok.ensures.rests,
    refl,
  );
}

pub returns-in-Blocked-clause-only : goal.returns-in-Blocked-clause-only
returns-in-Blocked-clause-only g c = λ event. may_set_none g.P.Transform.pause c.args.chain.now
    c.pump.new.self c.args.table.now c.args.at event c.args.cx.now

pub returns-in-Blocked-clause-driven : goal.returns-in-Blocked-clause-driven
returns-in-Blocked-clause-driven g c = λ first.
    rested first c.args.chain.now c.pump.new.self c.args.table.now c.args.at c.in-Ok.pumped
    c.args.cx.now.log.state.pending c.args.cx.now.roles
    (subst IsResting (sym c.in-Blocked.is) tt) c.in-Ok.ensures.answer
    (subst (λ r. IfRests r (c.pump.new.self ≡ c.args.chain.now)) c.in-Blocked.is c.in-Ok.ensures.rests)

pub returns-in-Blocked-clause-tells : goal.returns-in-Blocked-clause-tells
returns-in-Blocked-clause-tells g c =
    tells_rest g.P.Transform.pause c.args.at c.args.chain.now c.pump.new.self c.args.table.now
    c.args.table.now c.args.cx.now.log.state.pending
    (subst (λ r. IfRests r (c.pump.new.self ≡ c.args.chain.now)) c.in-Blocked.is c.in-Ok.ensures.rests)

pub returns-in-Idle-clause-adds : goal.returns-in-Idle-clause-adds
returns-in-Idle-clause-adds g c = adds_none c.args.cx.now 4 c.requires.turn

pub returns-in-Idle-clause-works : goal.returns-in-Idle-clause-works
returns-in-Idle-clause-works g c = record {
  pumps =
      pumps_none g.P.Transform.rest g.P.Transform.soon c.args.at c.args.chain.now c.pump.new.self
      c.args.cx.now
      (subst (λ r. IfRests r (c.pump.new.self ≡ c.args.chain.now)) c.in-Idle.is c.in-Ok.ensures.rests);
  rests = λ none. (
    refl,
    subst (λ r. IfRests r (c.pump.new.self ≡ c.args.chain.now)) c.in-Idle.is c.in-Ok.ensures.rests,
    refl,
  );
}

pub returns-in-Idle-clause-only : goal.returns-in-Idle-clause-only
returns-in-Idle-clause-only g c = λ event. may_set_none g.P.Transform.pause c.args.chain.now c.pump.new.self
    c.args.table.now c.args.at event c.args.cx.now

pub returns-in-Idle-clause-driven : goal.returns-in-Idle-clause-driven
returns-in-Idle-clause-driven g c = λ first.
    rested first c.args.chain.now c.pump.new.self c.args.table.now c.args.at c.in-Ok.pumped
    c.args.cx.now.log.state.pending c.args.cx.now.roles
    (subst IsResting (sym c.in-Idle.is) tt) c.in-Ok.ensures.answer
    (subst (λ r. IfRests r (c.pump.new.self ≡ c.args.chain.now)) c.in-Idle.is c.in-Ok.ensures.rests)

pub returns-in-Idle-clause-tells : goal.returns-in-Idle-clause-tells
returns-in-Idle-clause-tells g c =
    tells_rest g.P.Transform.pause c.args.at c.args.chain.now c.pump.new.self c.args.table.now
    c.args.table.now c.args.cx.now.log.state.pending
    (subst (λ r. IfRests r (c.pump.new.self ≡ c.args.chain.now)) c.in-Idle.is c.in-Ok.ensures.rests)
