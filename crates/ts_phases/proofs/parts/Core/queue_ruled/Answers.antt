-- The head of a request is queued for the origin, or there was no memory for it.
use Rattle.std.proofs.Common.{◌∙◌, refl}
use Rattle.ts_phases.specs.declared.phase.Phase.TheVariants as P
use Rattle.std.specs.Arc.{arc_value}
use Rattle.ts_hooks.specs.declared.txn_end.TxnEnd.TheVariants as E
use Rattle.ts_phases.specs.View.{upload_of, view_of}
use Rattle.ts_phases.proofs.Asks.{lacks_memory}
use Rattle.ts_phases.proofs.Going.{allowed_any, allowed_still, queued}
use Rattle.ts_phases.proofs.Leading.{request_is}
use Rattle.ts_phases.proofs.LoweringAnswers.{queues_request, stands_end}
use Rattle.ts_phases.proofs.LoweringStands.{still_end}
use Rattle.ts_phases.proofs.Minding.{stood}
use Rattle.ts_phases.proofs.Owed.{request_queued, stands, unmoved}
use Rattle.ts_phases.proofs.parts.Core.queue_ruled.Goals as goal

-- ---- what it owes

pub returns-in_default-clause-owes : goal.returns-in_default-clause-owes
returns-in_default-clause-owes g c =
    stands g.C.Link g.O.Link g.O.Upstream c.args.self.now
    (P.RuleRequest c.args.request c.args.place c.args.fields) refl
    (stood _ _ _ refl) tt (λ has. tt)

pub returns-in-Ok-queue_request-clause-owes : goal.returns-in-Ok-queue_request-clause-owes
returns-in-Ok-queue_request-clause-owes g c =
    request_queued c.in-Ok-queue_request.ensures.keeps c.args.request c.args.place c.args.fields _
    c.in-Ok-queue_request.ensures.ok (refl, c.requires.none) tt

pub returns-in-Err-clause-owes : goal.returns-in-Err-clause-owes
returns-in-Err-clause-owes g c =
    unmoved c.in-Err.ensures.keeps
    (P.RuleRequest c.args.request c.args.place c.args.fields) c.in-Err.ensures.err refl
    (stood _ _ _ c.in-Err.ensures.err) tt (λ has. tt)

-- ---- where it leads

pub returns-in_default-clause-fact : goal.returns-in_default-clause-fact
returns-in_default-clause-fact g c = λ told also.
    lacks_memory _ _ _ (allowed_any _ _ _ c.args.request (c.requires.fact told also).0)

pub returns-in-Ok-queue_request-clause-fact : goal.returns-in-Ok-queue_request-clause-fact
returns-in-Ok-queue_request-clause-fact g c = λ told also.
    let rest = c.requires.fact told also in
    queued _ _ _ c.args.request _ rest.0 (c.bytes.ensures
    ∙ request_is (arc_value c.args.self.now.setup) c.args.request c.args.place c.args.fields _ c.in-Ok.ensures
    rest.1 c.requires.none)
    c.in-Ok-queue_request.ensures.ok

pub returns-in-Err-clause-fact : goal.returns-in-Err-clause-fact
returns-in-Err-clause-fact g c = λ told also.
    lacks_memory _ _ _
    (allowed_still _ _ _ _ c.args.request (c.requires.fact told also).0 c.in-Err.ensures.err)

-- ---- less is left to do

pub returns-in-Ok-queue_request-clause-falls : goal.returns-in-Ok-queue_request-clause-falls
returns-in-Ok-queue_request-clause-falls g c =
    queues_request _ _ (arc_value c.args.self.now.setup) _ _ _ _
    c.in-Ok-queue_request.ensures.rises c.args.request c.args.place c.args.fields _
    c.in-Ok-queue_request.ensures.ok
    (λ told also. c.bytes.ensures ∙ request_is (arc_value c.args.self.now.setup) c.args.request c.args.place
    c.args.fields _ c.in-Ok.ensures (c.requires.fact told also).1 c.requires.none)

pub returns-in_default-clause-falls : goal.returns-in_default-clause-falls
returns-in_default-clause-falls g c =
    still_end _ _ (arc_value c.args.self.now.setup) (view_of g.C.Link g.O.Link c.args.self.now)
    (upload_of g.O.Upstream c.args.self.now)
    (P.RuleRequest c.args.request c.args.place c.args.fields) E.NoMemory

pub returns-in-Err-clause-falls : goal.returns-in-Err-clause-falls
returns-in-Err-clause-falls g c =
    stands_end _ _ (arc_value c.args.self.now.setup) _ _ _ _
    c.in-Err.ensures.rises
    (P.RuleRequest c.args.request c.args.place c.args.fields) E.NoMemory c.in-Err.ensures.err
