-- The end of a body was framed, or there was no memory for it; or the body stops short; or the chain goes on.
use Rattle.std.proofs.Common.{[], refl, sym, subst, ◌∙◌}
use Rattle.std.proofs.lemmas.Bool.{false≢true}
use Rattle.ts_hooks.specs.declared.txn_end.TxnEnd.TheVariants as E
use Rattle.ts_transform.specs.Flow.{IsFinished, Rests}
use Rattle.std.specs.Arc.{arc_value}
use Rattle.ts_phases.specs.View.{OriginRefuses, view_of}
use Rattle.ts_relay.specs.Finishing.{IsFinishing}
use Rattle.ts_relay.proofs.BodyLinks.{calm_short, writer_queued, writer_rests}
use Rattle.ts_passing.proofs.Early.{rests_soon}
use Rattle.ts_relay.proofs.LoweringRelay.{lowers_whole, must_weaker, queues_lacks}
use Rattle.ts_relay.proofs.Queueing.{few_end, few_nothing}
use Rattle.ts_relay.proofs.Relaying.{ends_short, ends_whole, frames_lacks}
use Rattle.ts_relay.proofs.StepsOwed.{writer_still}
use Rattle.ts_phases.proofs.Owed.{all_kept}
use Rattle.ts_relay.proofs.client_end.end_some.Goals as goal

-- ---- where it leads

pub returns-in_default-clause-leads : goal.returns-in_default-clause-leads
returns-in_default-clause-leads g c = λ told also.
    frames_lacks _ _ g.P.Transform c.args.relay.now.short _ _ c.args.relay.now.driven.chain
    c.args.relay.now.body
    c.in_default.ensures.err (c.requires.fact told also)

pub returns-then-is_finished-clause-leads : goal.returns-then-is_finished-clause-leads
returns-then-is_finished-clause-leads g c = λ told also.
    ends_whole _ _ g.P.Transform c.args.relay.now.short _ _ c.args.relay.now.driven.chain
    c.args.relay.now.body
    c.in-Ok.ensures.ok (subst (λ k. IsFinished k) c.chain.ensures
    (c.is_finished.ensures.finished.0 c.if-is_finished.true)) (c.requires.fact told also)

pub returns-then-rests-clause-leads : goal.returns-then-rests-clause-leads
returns-then-rests-clause-leads g c = λ told also.
    let fact = c.requires.fact told also in
    subst (λ end. IsFinishing (arc_value c.args.core.now.setup) (OriginRefuses g.C.Link g.O.Upstream
    c.args.core.now) (view_of g.C.Link g.O.Link c.args.core.now) end) (sym c.short_end.ensures)
    (ends_short _ _ g.P.Transform c.args.relay.now.short _ c.args.relay.now.driven.chain c.args.relay.now.body
    c.in-Some.short c.in-Some.is (λ going. rests_soon g.P.Transform.soon g.met.P.Transform.is_silent
    c.args.relay.now.driven.chain fact.sends.sends.settled (subst (λ k. Rests k) c.chain-2.ensures
    (c.rests.ensures.0 c.if-rests.true)) (λ all. absurd (false≢true (sym c.if-is_finished.false
    ∙ c.is_finished.ensures.finished.1 (subst (λ k. IsFinished k) (sym c.chain.ensures) all)))) going) fact)

-- ---- what it lowers

pub returns-in_default-clause-lowers : goal.returns-in_default-clause-lowers
returns-in_default-clause-lowers g c = λ now. queues_lacks _ _ _ _ _ _ _ _ now c.in_default.ensures.err

pub returns-then-is_finished-clause-lowers : goal.returns-then-is_finished-clause-lowers
returns-then-is_finished-clause-lowers g c = λ now. lowers_whole _ _ _ _ _ _ _ _ now E.Whole
    c.in-Ok.ensures.ok

-- what waits was written
pub returns-then-not-is_empty-clause-lowers : goal.returns-then-not-is_empty-clause-lowers
returns-then-not-is_empty-clause-lowers g c = λ now.
    must_weaker _ _ _ _ _ g.P.Transform.rest _ _ _ _ _ now now (λ must. tt) (c.write_some.ensures.lowers now)

-- ---- what it leaves

pub returns-in_default-clause-steps : goal.returns-in_default-clause-steps
returns-in_default-clause-steps g c = λ now turn.
    writer_still g.C.Link g.O.Link g.O.Upstream _ _ _ _ now turn c.end_body.ensures.keeps (writer_queued _ _ _
    _ _ _ _ [] [] (record { client = refl; origin = refl; late = refl })
    (few_nothing _ _ c.in_default.ensures.err) refl c.in_default.ensures.err)

pub returns-then-is_finished-clause-steps : goal.returns-then-is_finished-clause-steps
returns-then-is_finished-clause-steps g c = λ now turn.
    writer_still g.C.Link g.O.Link g.O.Upstream _ _ _ _ now turn c.end_body.ensures.keeps (writer_queued _ _ _
    _ _ _ _ _ [] (record { client = refl; origin = refl; late = refl })
    (few_end _ _ c.requires.room c.in-Ok.ensures.ok) refl c.in-Ok.ensures.ok)

pub returns-in_default-short-clause-steps : goal.returns-in_default-short-clause-steps
returns-in_default-short-clause-steps g c = λ now turn.
    writer_still g.C.Link g.O.Link g.O.Upstream _ _ _ _ now turn (all_kept g.C.Link g.O.Link g.O.Upstream _)
    (writer_rests _ _ _ _ _ _ _ (record { client = refl; origin = refl; late = refl }) refl refl)

pub returns-then-rests-clause-steps : goal.returns-then-rests-clause-steps
returns-then-rests-clause-steps g c = λ now turn.
    writer_still g.C.Link g.O.Link g.O.Upstream _ _ _ _ now turn (all_kept g.C.Link g.O.Link g.O.Upstream _)
    (writer_rests _ _ _ _ _ _ _ (calm_short c.in-Some.short c.short_end.result c.short_end.ensures) refl refl)

pub returns-else-rests-clause-steps : goal.returns-else-rests-clause-steps
returns-else-rests-clause-steps g c = λ now turn.
    writer_still g.C.Link g.O.Link g.O.Upstream _ _ _ _ now turn (all_kept g.C.Link g.O.Link g.O.Upstream _)
    (writer_rests _ _ _ _ _ _ _ (record { client = refl; origin = refl; late = refl }) refl refl)
