-- An answer of the proxy's own is queued, or there was no memory for it.
use Rattle.std.proofs.Common.{◌∙◌, refl}
use Rattle.ts_phases.specs.declared.phase.Phase.TheVariants as P
use Rattle.std.specs.Arc.{arc_value}
use Rattle.ts_hooks.specs.declared.txn_end.TxnEnd.TheVariants as E
use Rattle.ts_phases.specs.View.{upload_of, view_of}
use Rattle.ts_phases.proofs.Asks.{lacks_memory}
use Rattle.ts_phases.proofs.Leading.{answer_is}
use Rattle.ts_phases.proofs.LoweringAnswers.{queues_own, stands_end}
use Rattle.ts_phases.proofs.LoweringStands.{still_end}
use Rattle.ts_phases.proofs.Minding.{stood}
use Rattle.ts_phases.proofs.Owed.{own_queued, stands, unmoved}
use Rattle.ts_phases.proofs.Owns.{not_queued, queues, ready_any}
use Rattle.ts_phases.proofs.parts.Core.queue_answer.Goals as goal

-- ---- what it owes

pub returns-in_default-clause-owes : goal.returns-in_default-clause-owes
returns-in_default-clause-owes g c =
    stands g.C.Link g.O.Link g.O.Upstream c.args.self.now
    (P.RuleAnswer c.args.answer c.args.place c.args.fields) refl
    (stood _ _ _ refl) tt (λ has. tt)

pub returns-in-Ok-queue_own-clause-owes : goal.returns-in-Ok-queue_own-clause-owes
returns-in-Ok-queue_own-clause-owes g c =
    own_queued c.in-Ok-queue_own.ensures.keeps c.args.answer c.args.place c.args.fields _ _
    c.in-Ok-queue_own.ensures.ok (refl, c.requires.none) tt

pub returns-clause-owes : goal.returns-clause-owes
returns-clause-owes g c =
    unmoved c.in-Err.ensures.keeps
    (P.RuleAnswer c.args.answer c.args.place c.args.fields) c.in-Err.ensures.err refl
    (stood _ _ _ c.in-Err.ensures.err) tt (λ has. tt)

-- ---- where it leads

pub returns-in_default-clause-fact : goal.returns-in_default-clause-fact
returns-in_default-clause-fact g c = λ told also.
    lacks_memory _ _ _ (ready_any _ _ _ c.args.answer (c.requires.fact told also).0)

pub returns-in-Ok-queue_own-clause-fact : goal.returns-in-Ok-queue_own-clause-fact
returns-in-Ok-queue_own-clause-fact g c = λ told also.
    let rest = c.requires.fact told also in
    queues _ _ _ _ c.args.answer _ _ rest.0 c.in-Ok-queue_own.ensures.ok
    (c.bytes.ensures ∙ answer_is (arc_value c.args.self.now.setup) c.args.answer.status c.args.place
    c.args.fields _ c.in-Ok.ensures rest.1 c.requires.none)
    c.sent.ensures

pub returns-clause-fact : goal.returns-clause-fact
returns-clause-fact g c = λ told also.
    lacks_memory _ _ _ (not_queued _ _ _ _ c.args.answer (c.requires.fact told also).0 c.in-Err.ensures.err)

-- ---- less is left to do

pub returns-in_default-clause-falls : goal.returns-in_default-clause-falls
returns-in_default-clause-falls g c =
    still_end _ _ (arc_value c.args.self.now.setup) (view_of g.C.Link g.O.Link c.args.self.now)
    (upload_of g.O.Upstream c.args.self.now)
    (P.RuleAnswer c.args.answer c.args.place c.args.fields) E.NoMemory

pub returns-in-Ok-queue_own-clause-falls : goal.returns-in-Ok-queue_own-clause-falls
returns-in-Ok-queue_own-clause-falls g c =
    queues_own _ _ (arc_value c.args.self.now.setup) _ _ _ _
    c.in-Ok-queue_own.ensures.rises c.args.answer c.args.place c.args.fields _ _ c.in-Ok-queue_own.ensures.ok
    (λ told also. c.bytes.ensures ∙ answer_is (arc_value c.args.self.now.setup) c.args.answer.status
    c.args.place c.args.fields _ c.in-Ok.ensures (c.requires.fact told also).1 c.requires.none)
    c.sent.ensures

pub returns-clause-falls : goal.returns-clause-falls
returns-clause-falls g c =
    stands_end _ _ (arc_value c.args.self.now.setup) _ _ _ _
    c.in-Err.ensures.rises
    (P.RuleAnswer c.args.answer c.args.place c.args.fields) E.NoMemory c.in-Err.ensures.err
