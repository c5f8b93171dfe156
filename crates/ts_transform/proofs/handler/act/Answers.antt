use Rattle.std.proofs.Common.{inl, refl, arith, sym, ap, subst, ◌∙◌}
use Rattle.ts_transform.specs.Acting.{Covers}
use Rattle.ts_transform.specs.Driving.{AreLive, works_at}
use Rattle.ts_transform.proofs.Acting.{acts_gone, acts_passes, acts_rests, acts_works, err_closed, gives_calls, gives_closed, gives_none, gives_pumps}
use Rattle.ts_transform.proofs.Closing.{closed_driven, others_kept, others_then}
use Rattle.ts_transform.proofs.Covering.{driven_but, driven_quiet, driven_kept}
use Rattle.ts_transform.proofs.Living.{all_live, live_passed, live_worked, may_pump_goes}
use Rattle.ts_transform.proofs.Kept.{acts_adds, acts_lessens, acts_none, acts_then, err_weaker, kept_all}
use Rattle.ts_transform.proofs.PassedErrors.{passed_driven}
use Rattle.ts_transform.proofs.Seating.{seated_then}
use Rattle.ts_lists.proofs.Results.{on_ok_any}
use Rattle.std.proofs.lemmas.Result.{on_ok_weaker}
use Rattle.ts_transform.proofs.handler.act.Goals as goal

-- A stage finds itself ended: it tells the one before it, and its continuation is destroyed.
pub returns-then-has_ended-clause-within : goal.returns-then-has_ended-clause-within
returns-then-has_ended-clause-within g c =
    acts_then 1 0 4 (omega arith)
    (acts_adds 1 1 c.tell_ended-told.result c.args.cx.now c.tell_ended-told.new.cx (omega arith)
    c.tell_ended-told.ensures.adds)
    (acts_lessens 0 c.tell_ended-told.new.cx c.destroy_at.new.cx c.destroy_at.ensures.lessens)

pub returns-then-has_ended-clause-acts : goal.returns-then-has_ended-clause-acts
returns-then-has_ended-clause-acts g c =
    let told = c.tell_ended-told in
    acts_gone g.P.Transform.rest g.P.Transform.pause c.args.at c.args.event c.args.chain.now c.args.table.now
    c.destroy_at.new.table told.result c.args.cx.now told.new.cx c.destroy_at.new.cx
    (sym c.has_ended.ensures ∙ c.if-has_ended.true) told.ensures.adds.keeps told.ensures.only
    told.ensures.told told.ensures.quiet c.destroy_at.ensures.closed c.destroy_at.ensures.table.0
    c.destroy_at.ensures.lessens

pub returns-then-has_ended-clause-gives : goal.returns-then-has_ended-clause-gives
returns-then-has_ended-clause-gives g c =
    gives_closed g.P.Transform.rest g.P.Transform.soon c.args.chain.now c.args.table.now
    c.destroy_at.new.table c.args.at c.args.cx.now c.tell_ended-told.new.cx c.destroy_at.new.cx
    c.tell_ended-told.ensures.adds.few (λ nobody. (c.tell_ended-told.ensures.quiet nobody).1)
    c.destroy_at.ensures.pays

pub returns-then-has_ended-clause-driven : goal.returns-then-has_ended-clause-driven
returns-then-has_ended-clause-driven g c =
    let told = c.tell_ended-told in
    on_ok_any told.result
    (λ first driven.
    closed_driven first c.args.cx.now c.destroy_at.new.cx c.args.chain.now c.args.table.now
    c.destroy_at.new.table c.args.at (sym c.has_ended.ensures ∙ c.if-has_ended.true)
    c.destroy_at.ensures.table.0
    (λ stages. c.destroy_at.ensures.of_stages first (kept_all c.args.cx.now told.new.cx
    told.ensures.adds.keeps first c.args.table.now stages))
    (driven_but (works_at c.args.event) first c.args.at c.args.chain.now c.args.table.now
    c.args.cx.now.log.state.pending c.args.cx.now.roles driven))

pub returns-then-has_ended-clause-others : goal.returns-then-has_ended-clause-others
returns-then-has_ended-clause-others g c = λ first.
    let told = c.tell_ended-told in
    others_then first c.args.table.now c.args.cx.now told.new.cx c.destroy_at.new.cx told.ensures.adds.keeps
    (c.destroy_at.ensures.others first)

-- A stage works.
pub returns-then-works-clause-within : goal.returns-then-works-clause-within
returns-then-works-clause-within g c = acts_adds 4 4 c.work.result c.args.cx.now c.work.new.cx (omega arith)
    c.work.ensures.adds

pub returns-then-works-clause-acts : goal.returns-then-works-clause-acts
returns-then-works-clause-acts g c =
    acts_works g.P.Transform.rest g.P.Transform.soon g.P.Transform.pause c.args.at c.args.event
    c.args.chain.now c.work.new.chain
    c.args.table.now c.work.new.table c.work.result c.args.cx.now c.work.new.cx
    (sym c.works.ensures ∙ c.if-works.true) (sym c.has_ended.ensures ∙ c.if-has_ended.false)
    c.work.ensures.works.pumps (c.work.ensures.only c.args.event) c.work.ensures.tells c.work.ensures.stages
    c.work.ensures.works.rests

pub returns-then-works-clause-gives : goal.returns-then-works-clause-gives
returns-then-works-clause-gives g c =
    gives_pumps g.P.Transform.rest g.P.Transform.soon c.args.at c.args.chain.now c.work.new.chain
    c.args.table.now
    c.work.new.table c.args.cx.now c.work.new.cx c.work.ensures.works.pumps c.work.ensures.stages

pub returns-then-works-clause-driven : goal.returns-then-works-clause-driven
returns-then-works-clause-driven g c =
    on_ok_weaker c.work.result
    (λ driven. subst (λ b. Covers b c.args.at c.args.chain.now c.work.new.chain c.args.table.now
    c.work.new.table c.args.cx.now c.work.new.cx) (sym c.if-works.true ∙ c.works.ensures) driven)
    c.work.ensures.driven

pub returns-then-works-clause-others : goal.returns-then-works-clause-others
returns-then-works-clause-others g c = λ first. others_kept first c.args.table.now c.args.cx.now c.work.new.cx
    c.work.ensures.adds.keeps

-- A stage gets an error.
pub returns-in-Error-clause-within : goal.returns-in-Error-clause-within
returns-in-Error-clause-within g c = acts_adds 1 4 c.pass_error.result c.args.cx.now c.pass_error.new.cx
    (omega arith) c.pass_error.ensures.adds

pub returns-in-Error-clause-acts : goal.returns-in-Error-clause-acts
returns-in-Error-clause-acts g c =
    acts_passes g.P.Transform.rest g.P.Transform.pause c.args.at c.args.event c.args.chain.now
    c.args.table.now c.pass_error.new.table c.pass_error.result c.args.cx.now c.pass_error.new.cx
    c.in-Error.is (sym c.has_ended.ensures ∙ c.if-has_ended.false) c.pass_error.ensures.table.0
    c.pass_error.ensures.told c.pass_error.ensures.only c.pass_error.ensures.quiet

pub returns-in-Error-clause-gives : goal.returns-in-Error-clause-gives
returns-in-Error-clause-gives g c =
    gives_calls g.P.Transform.rest g.P.Transform.soon c.args.chain.now c.args.table.now c.pass_error.new.table
    c.args.cx.now
    c.pass_error.new.cx c.pass_error.ensures.pays

pub returns-in-Error-clause-driven : goal.returns-in-Error-clause-driven
returns-in-Error-clause-driven g c =
    let old = c.args.cx.now in
    let new = c.pass_error.new.cx in
    on_ok_any c.pass_error.result
    (λ first driven. passed_driven first c.args.chain.now c.args.table.now c.pass_error.new.table c.args.at
    new.log.state.pending new.roles c.pass_error.ensures.table.0
    (driven_kept first old new c.args.chain.now c.args.table.now c.pass_error.ensures.adds.keeps
    (driven_quiet (works_at c.args.event) first c.args.at c.args.chain.now c.args.table.now
    old.log.state.pending old.roles (ap works_at c.in-Error.is) driven)))

pub returns-in-Error-clause-others : goal.returns-in-Error-clause-others
returns-in-Error-clause-others g c = λ first. others_kept first c.args.table.now c.args.cx.now
    c.pass_error.new.cx c.pass_error.ensures.adds.keeps

-- A stage has nothing to do.
pub returns-in_default-clause-within : goal.returns-in_default-clause-within
returns-in_default-clause-within g c = acts_none 4 c.args.cx.now c.requires.turn

pub returns-in_default-clause-acts : goal.returns-in_default-clause-acts
returns-in_default-clause-acts g c =
    acts_rests g.P.Transform.rest g.P.Transform.pause c.args.at c.args.event c.args.chain.now c.args.table.now
    c.args.cx.now c.in_default.not-Error (sym c.has_ended.ensures ∙ c.if-has_ended.false)

pub returns-in_default-clause-gives : goal.returns-in_default-clause-gives
returns-in_default-clause-gives g c = gives_none g.P.Transform.rest g.P.Transform.soon c.args.chain.now
    c.args.table.now c.args.cx.now

pub returns-in_default-clause-driven : goal.returns-in_default-clause-driven
returns-in_default-clause-driven g c = λ first driven.
    driven_quiet (works_at c.args.event) first c.args.at c.args.chain.now c.args.table.now
    c.args.cx.now.log.state.pending c.args.cx.now.roles (sym c.works.ensures ∙ c.if-works.false) driven

-- Whoever was live is so, or the chain is as it was; and of a dead continuation it tells only where one was
-- found dead.
pub returns-then-has_ended-clause-live : goal.returns-then-has_ended-clause-live
returns-then-has_ended-clause-live g c =
    let told = c.tell_ended-told in
    record {
      live = inl refl;
      seated = seated_then c.args.table.now c.args.table.now c.destroy_at.new.table c.args.cx.now told.new.cx
          c.destroy_at.new.cx told.ensures.seated c.destroy_at.ensures.table.1;
      cause = err_closed told.result c.args.chain.now c.args.table.now c.args.cx.now told.new.cx
          c.destroy_at.new.cx told.ensures.adds.keeps c.destroy_at.ensures.lessens told.ensures.adds.cause;
    }

pub returns-then-works-clause-live : goal.returns-then-works-clause-live
returns-then-works-clause-live g c =
    let worked = c.work in
    let keys = worked.ensures.adds.keeps.live in
    let same = worked.ensures.stages.same in
    record {
      seated = worked.ensures.stages.seated;
      live = live_worked g.P.Transform.rest c.args.at c.args.chain.now worked.new.chain c.args.table.now
          worked.new.table c.args.cx.now worked.new.cx worked.ensures.works.pumps.own
          worked.ensures.adds.keeps
          same;
      cause = err_weaker worked.result worked.new.cx
          (all_live c.args.chain.now worked.new.chain c.args.table.now worked.new.table c.args.cx.now
          worked.new.cx keys same (may_pump_goes g.P.Transform.rest c.args.at c.args.chain.now
          worked.new.chain worked.ensures.works.pumps.own))
          worked.ensures.adds.cause;
    }

pub returns-in-Error-clause-live : goal.returns-in-Error-clause-live
returns-in-Error-clause-live g c =
    let passed = c.pass_error in
    record {
      live = inl refl;
      seated = passed.ensures.table.1;
      cause = err_weaker passed.result passed.new.cx
          (λ all. subst (λ l. AreLive l passed.new.table) (sym passed.ensures.adds.keeps.live)
          (live_passed c.args.cx.now.log.state.live c.args.table.now passed.new.table c.args.at
          passed.ensures.table.0 all.live))
          passed.ensures.adds.cause;
    }

pub returns-in_default-clause-live : goal.returns-in_default-clause-live
returns-in_default-clause-live g c = record { live = inl refl; seated = λ others seated. seated; cause = tt }
