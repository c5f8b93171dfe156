use Rattle.std.proofs.Common.{◌≡◌, ◌<◌, ℕ, List, [], Option, ap, length, sym, subst, ◌∙◌}
use Rattle.std.specs.Prelude.{⊤}
use Rattle.ts_journal.specs.State.{IsLive}
use Rattle.ts_group.specs.Context.{Context}
use Rattle.ts_group.specs.Changes.{SameEvents, KeepsKeys}
use Rattle.ts_transform.specs.declared.continuation.StageContinuation.{StageContinuation}
use Rattle.ts_transform.specs.Flow.{ChainState}
use Rattle.ts_transform.specs.Cover.{AreAllLive, IsDriven}
use Rattle.ts_transform.specs.Loss.{IsCauseOf}
use Rattle.ts_transform.specs.Driving.{AreOfStages, BeginsBeside, EachIsLive, Keeps, all_unroused}
use Rattle.ts_transform.specs.Seats.{KeepsSeated}
use Rattle.ts_transform.proofs.Kept.{kept_if}
use Rattle.ts_transform.proofs.Living.{all_live, cause_alive, made_live}
use Rattle.ts_transform.proofs.MaySet.{begin_only}
use Rattle.ts_transform.proofs.Seating.{seated_as, seated_then}
use Rattle.ts_transform.proofs.Starting.{begun, made_if}
use Rattle.ts_lists.proofs.Fronts.{taken_table}
use Rattle.ts_transform.proofs.start.begin.Goals as goal

pub returns-in-Ok-clause-only : goal.returns-in-Ok-clause-only
returns-in-Ok-clause-only g c =
    let made = c.make_all.new.cx in
    begin_only g.P.Transform.pause c.args.first c.args.chain.now c.deref_mut.result.now c.args.cx.now made
    c.rouse_below.new.cx c.make_all.ensures.events.pending c.make_all.ensures.grows.moment
    c.rouse_below.ensures.adds.keeps (subst (AreOfStages made.log.state.pending made.roles c.args.first)
    (sym c.deref_mut.ensures.value) c.in_default.ensures.ok.1) c.rouse_below.ensures.only

pub returns-in-Err-rouse_below-clause-only : goal.returns-in-Err-rouse_below-clause-only
returns-in-Err-rouse_below-clause-only g c =
    let made = c.make_all.new.cx in
    begin_only g.P.Transform.pause c.args.first c.args.chain.now c.deref_mut.result.now c.args.cx.now made
    c.rouse_below.new.cx c.make_all.ensures.events.pending c.make_all.ensures.grows.moment
    c.rouse_below.ensures.adds.keeps (subst (AreOfStages made.log.state.pending made.roles c.args.first)
    (sym c.deref_mut.ensures.value) c.in_default.ensures.ok.1) c.rouse_below.ensures.only

pub returns-in-Ok-clause-driven : goal.returns-in-Ok-clause-driven
returns-in-Ok-clause-driven g c =
    let made = c.make_all.new.cx in
    let table = c.make_all.new.table in
    let roused = c.rouse_below in
    taken_table (λ us. IsDriven c.args.first c.args.chain.now us roused.new.cx.log.state.pending
    roused.new.cx.roles) table.len roused.new.table table.items
    (roused.ensures.stages.len ∙ ap length c.deref_mut.ensures.value ∙ sym table.ok.0)
    (begun c.args.first roused.new.cx c.args.chain.now roused.new.table
    (roused.ensures.stages.len ∙ ap length c.deref_mut.ensures.value ∙ c.in_default.ensures.ok.0 ∙
    c.stages.ensures)
    (roused.ensures.stages.of_stages c.args.first
    (subst (AreOfStages made.log.state.pending made.roles c.args.first) (sym c.deref_mut.ensures.value)
    c.in_default.ensures.ok.1))
    (λ j below. c.in-Ok.ensures.ready j (subst (λ n. j < n) (sym c.stages-2.ensures) below)))

-- Each continuation that was made is live, so no fault is that of a dead one.
made_alive : {P : Type 0} (c : ChainState P) (ts us vs : List (Option StageContinuation)) (made now : Context)
    (n : ℕ) → ts ≡ us → length us ≡ n → n ≡ length c.stages → EachIsLive made.log.state.live us
    → now.log.state.live ≡ made.log.state.live → all_unroused vs ≡ all_unroused ts → AreAllLive c vs now
made_alive c ts us vs made now n same len stages each keys unchanged =
    all_live c c ts vs made now keys unchanged (λ j going. going)
    (made_live c ts made (ap length same ∙ len ∙ stages)
    (subst (EachIsLive made.log.state.live) (sym same) each))

pub returns-in-Ok-clause-live : goal.returns-in-Ok-clause-live
returns-in-Ok-clause-live g c =
    let table = c.make_all.new.table in
    let roused = c.rouse_below in
    taken_table (λ us. AreAllLive c.args.chain.now us roused.new.cx) table.len roused.new.table table.items
    (roused.ensures.stages.len ∙ ap length c.deref_mut.ensures.value ∙ sym table.ok.0)
    (made_alive c.args.chain.now c.deref_mut.result.now table.items roused.new.table c.make_all.new.cx
    roused.new.cx _ c.deref_mut.ensures.value c.in_default.ensures.ok.0 c.stages.ensures
    c.in_default.ensures.ok.2
    roused.ensures.adds.keeps.live roused.ensures.stages.same)

pub returns-in-Err-clause-cause : goal.returns-in-Err-clause-cause
returns-in-Err-clause-cause g c = subst (λ l. IsCauseOf ⊤ l c.make_all.new.cx) (sym c.of_make.ensures)
    c.in-Err.ensures.cause

pub returns-in-Err-rouse_below-clause-cause : goal.returns-in-Err-rouse_below-clause-cause
returns-in-Err-rouse_below-clause-cause g c =
    let roused = c.rouse_below in
    let now = roused.new.cx in
    subst (λ l. IsCauseOf ⊤ l now) (sym c.of_set.ensures)
    (cause_alive (AreAllLive c.args.chain.now roused.new.table now) c.in-Err-rouse_below.fault now
    (made_alive c.args.chain.now c.deref_mut.result.now c.make_all.new.table.items roused.new.table
    c.make_all.new.cx now _ c.deref_mut.ensures.value c.in_default.ensures.ok.0 c.stages.ensures
    c.in_default.ensures.ok.2
    roused.ensures.adds.keeps.live roused.ensures.stages.same) c.in-Err-rouse_below.ensures.adds.cause)

-- Whoever was made before keeps what it had, and whatever was set is of a stage that was roused.
begins_then : (us vs : List (Option StageContinuation)) (a m b : Context) → SameEvents a.log.state m.log.state
    → KeepsKeys a.log.state m.log.state a.roles m.roles → Keeps m b → KeepsSeated us vs m b
    → BeginsBeside vs a b
begins_then us vs a m b events keys keeps seated = record {
  made = record {
    of_stage = λ role t h. kept_if m b keeps role t (made_if a m events keys role t h);
    live = λ key was. subst (λ l. IsLive l key) (sym keeps.live) (keys.live key was);
  };
  seated = seated_then [] us vs a m b (seated_as [] us a m events.pending (λ key has. absurd has)) seated;
}

pub returns-in-Ok-clause-rest : goal.returns-in-Ok-clause-rest
returns-in-Ok-clause-rest g c =
    let table = c.make_all.new.table in
    let roused = c.rouse_below in
    taken_table (λ us. BeginsBeside us c.args.cx.now roused.new.cx) table.len roused.new.table table.items
    (roused.ensures.stages.len ∙ ap length c.deref_mut.ensures.value ∙ sym table.ok.0)
    (begins_then c.deref_mut.result.now roused.new.table c.args.cx.now c.make_all.new.cx roused.new.cx
    c.make_all.ensures.events c.make_all.ensures.keys roused.ensures.adds.keeps
    roused.ensures.stages.seated)

pub returns-in-Err-rouse_below-clause-rest : goal.returns-in-Err-rouse_below-clause-rest
returns-in-Err-rouse_below-clause-rest g c =
    let table = c.make_all.new.table in
    let roused = c.rouse_below in
    taken_table (λ us. BeginsBeside us c.args.cx.now roused.new.cx) table.len roused.new.table table.items
    (roused.ensures.stages.len ∙ ap length c.deref_mut.ensures.value ∙ sym table.ok.0)
    (begins_then c.deref_mut.result.now roused.new.table c.args.cx.now c.make_all.new.cx roused.new.cx
    c.make_all.ensures.events c.make_all.ensures.keys roused.ensures.adds.keeps
    roused.ensures.stages.seated)

pub returns-in-Err-clause-rest : goal.returns-in-Err-clause-rest
returns-in-Err-clause-rest g c =
    let made = c.make_all in
    record {
      made = record {
        of_stage = λ role t h. made_if c.args.cx.now made.new.cx made.ensures.events made.ensures.keys role t
            h;
        live = made.ensures.keys.live;
      };
      seated = seated_as [] made.new.table.items c.args.cx.now made.new.cx made.ensures.events.pending
          (λ key has. absurd has);
    }
