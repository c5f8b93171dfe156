use Rattle.std.proofs.Common.{Err, Some, ◌≡◌, ap, sym, subst, length, arith, ◌∙◌}
use Rattle.ts_transform.specs.Cover.{IsDriven}
use Rattle.ts_transform.specs.Driving.{IsRoused, KeepsStages, all_unroused}
use Rattle.ts_transform.specs.Flow.{MustWork}
use Rattle.ts_transform.proofs.Driving.{drained}
use Rattle.ts_transform.proofs.Kept.{adds_none, adds_ok, adds_weaker, stages_same}
use Rattle.ts_transform.proofs.Living.{all_live}
use Rattle.std.proofs.Common.{ℕ, List, Option, ◌++◌, refl, take, drop}
use Rattle.ts_group.specs.Context.{Context}
use Rattle.ts_transform.specs.declared.continuation.StageContinuation.{StageContinuation}
use Rattle.ts_transform.specs.declared.driven.DrivenChain.{DrivenChain}
use Rattle.ts_transform.specs.Driven.{SameSeats}
use Rattle.ts_transform.specs.Seats.{KeepsSeated}
use Rattle.ts_lists.proofs.Fronts.{taken_table}
use Rattle.ts_transform.proofs.driven.DrivenChain.rouse_last.Goals as goal

pub returns-in_default-clause-driven : goal.returns-in_default-clause-driven
returns-in_default-clause-driven g c = λ first n chain takes given was runs.
    let self = c.args.self.now in
    let none : length self.chain.stages ≡ 0 = omega (arith, c.stages.ensures, c.in_default.ensures) in
    drained first n chain self.chain self.table.items self.table.items c.args.cx.now c.args.cx.now takes given
    (stages_same c.args.cx.now self.table.items)
    (λ j last. absurd (omega (arith, last, none))) (was runs)

pub returns-in_default-clause-adds : goal.returns-in_default-clause-adds
returns-in_default-clause-adds g c = adds_none c.args.cx.now 1 c.requires.turn

pub returns-in-Ok-clause-driven : goal.returns-in-Ok-clause-driven
returns-in-Ok-clause-driven g c = λ first n chain takes given was runs.
    let self = c.args.self.now in
    let now = c.rouse_if_ready.new.cx in
    taken_table (λ us. IsDriven first self.chain us now.log.state.pending now.roles) self.table.len
    c.rouse_if_ready.new.table self.table.items
    (c.rouse_if_ready.ensures.stages.len ∙ ap length c.deref_mut.ensures.value ∙ sym self.table.ok.0)
    (drained first n chain self.chain self.table.items c.rouse_if_ready.new.table c.args.cx.now now takes
    given
    (subst (λ ts. KeepsStages c.args.cx.now now ts c.rouse_if_ready.new.table) c.deref_mut.ensures.value
    c.rouse_if_ready.ensures.stages)
    (λ j last must. let same : c.in-Some.last ≡ j = omega (arith, last, c.stages.ensures, c.in-Some.ensures)
    in
    subst (IsRoused c.rouse_if_ready.new.table) same
    (c.in-Ok.ensures.ready (subst (MustWork self.chain) (sym same) must))) (was runs))

pub returns-in-Ok-clause-adds : goal.returns-in-Ok-clause-adds
returns-in-Ok-clause-adds g c = adds_ok 1 tt tt c.in-Ok.ensures.adds

pub returns-in-Err-clause-adds : goal.returns-in-Err-clause-adds
returns-in-Err-clause-adds g c =
    let self = c.args.self.now in
    let roused = c.rouse_if_ready in
    adds_weaker 1 (Err c.in-Err.fault)
    (all_live self.chain self.chain self.table.items roused.new.table c.args.cx.now roused.new.cx
    roused.ensures.adds.keeps.live (roused.ensures.stages.same ∙ ap all_unroused
    c.deref_mut.ensures.value) (λ j going. going))
    c.in-Err.ensures.adds

pub returns-in-Err-clause-loses : goal.returns-in-Err-clause-loses
returns-in-Err-clause-loses g c =
    let adds = returns-in-Err-clause-adds g c in (
      ap (λ d. d.running) c.lose.ensures,
      ap (λ d. d.lost) c.lose.ensures ∙ ap Some c.of_set.ensures,
      adds.cause,
    )

-- Whatever is set is of one of its continuations.
same_seats : {P : Type 0} (d : DrivenChain P) (us vs : List (Option StageContinuation)) (n : ℕ)
    (a b : Context) → vs ≡ d.table.items → length us ≡ n → KeepsStages a b vs us
    → (all_unroused (take n (us ++ drop (length us) d.table.items)) ≡ all_unroused d.table.items) ×
    KeepsSeated d.table.items (take n (us ++ drop (length us) d.table.items)) a b
same_seats d us vs n a b value len h =
    taken_table (λ xs. (all_unroused xs ≡ all_unroused d.table.items) × KeepsSeated d.table.items xs a b) n us
    d.table.items len
    (h.same ∙ ap all_unroused value, subst (λ ts. KeepsSeated ts us a b) value h.seated)

pub returns-in-Ok-clause-same : goal.returns-in-Ok-clause-same
returns-in-Ok-clause-same g c =
    let self = c.args.self.now in
    let roused = c.rouse_if_ready in
    let seats = same_seats self roused.new.table c.deref_mut.result.now self.table.len c.args.cx.now
    roused.new.cx c.deref_mut.ensures.value
    (roused.ensures.stages.len ∙ ap length c.deref_mut.ensures.value ∙ sym self.table.ok.0)
    roused.ensures.stages in
    record { same = seats.0; seated = seats.1 }

pub returns-in-Err-clause-same : goal.returns-in-Err-clause-same
returns-in-Err-clause-same g c =
    let self = c.args.self.now in
    let roused = c.rouse_if_ready in
    let seats = same_seats self roused.new.table c.deref_mut.result.now self.table.len c.args.cx.now
    roused.new.cx c.deref_mut.ensures.value
    (roused.ensures.stages.len ∙ ap length c.deref_mut.ensures.value ∙ sym self.table.ok.0)
    roused.ensures.stages in
    subst (λ d. SameSeats self d c.args.cx.now roused.new.cx) (sym c.lose.ensures)
    (record { same = seats.0; seated = seats.1 })

pub returns-in_default-clause-same : goal.returns-in_default-clause-same
returns-in_default-clause-same g c = record { same = refl; seated = λ others seated. seated }
