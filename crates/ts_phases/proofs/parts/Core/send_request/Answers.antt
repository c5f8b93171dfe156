-- Each answer of a write of the request's head: where it leads, what it owes, and that less is left to do.
use Rattle.std.proofs.Common.{refl}
use Rattle.ts_vconn.specs.declared.moves.Pushed.TheVariants as V
use Rattle.std.specs.Arc.{arc_value}
use Rattle.ts_hooks.specs.declared.txn_end.TxnEnd.TheVariants as E
use Rattle.ts_phases.proofs.Asks.{lacks_memory}
use Rattle.ts_phases.proofs.Going.{sends_any, write_fault, writes_on, written}
use Rattle.ts_phases.proofs.LoweringAnswers.{writes_all, writes_end, writes_own, writes_some, writes_wait}
use Rattle.ts_phases.proofs.Owed.{bad_gateway, sent, sent_late, sent_lost}
use Rattle.ts_phases.proofs.parts.Core.send_request.Goals as goal

-- ---- what it owes

pub returns-in-Some-clause-owes : goal.returns-in-Some-clause-owes
returns-in-Some-clause-owes g c =
    sent c.in-Some.ensures.keeps c.args.request (V.Some _) c.in-Some.ensures.writes refl refl refl tt tt

pub returns-in-Nothing-clause-owes : goal.returns-in-Nothing-clause-owes
returns-in-Nothing-clause-owes g c =
    sent c.in-Nothing.ensures.keeps c.args.request V.Nothing c.in-Nothing.ensures.writes refl refl refl tt tt

pub returns-in-Again-clause-owes : goal.returns-in-Again-clause-owes
returns-in-Again-clause-owes g c =
    sent_late c.in-Again.ensures.keeps c.args.request c.in-Again.ensures.writes refl refl tt

pub returns-in-Failed-clause-owes : goal.returns-in-Failed-clause-owes
returns-in-Failed-clause-owes g c =
    sent_lost c.in-Failed.ensures.keeps c.args.request c.in-Failed.ensures.writes
    (bad_gateway c.answer_to-answer.ensures) (bad_gateway c.answer_to-answer.ensures) tt

pub returns-in-NoMemory-clause-owes : goal.returns-in-NoMemory-clause-owes
returns-in-NoMemory-clause-owes g c =
    sent c.in-NoMemory.ensures.keeps c.args.request V.NoMemory c.in-NoMemory.ensures.writes refl refl refl tt
    tt

-- ---- where it leads

pub returns-in-Some-clause-fact : goal.returns-in-Some-clause-fact
returns-in-Some-clause-fact g c = λ told also.
    writes_on _ _ _ _ (V.Some _) c.args.request also (c.requires.fact told also) c.in-Some.ensures.writes

pub returns-in-Nothing-clause-fact : goal.returns-in-Nothing-clause-fact
returns-in-Nothing-clause-fact g c = λ told also.
    written _ _ _ _ c.args.request also (c.requires.fact told also) c.in-Nothing.ensures.writes

pub returns-in-Again-clause-fact : goal.returns-in-Again-clause-fact
returns-in-Again-clause-fact g c = λ told also.
    writes_on _ _ _ _ V.Again c.args.request also (c.requires.fact told also) c.in-Again.ensures.writes

pub returns-in-Failed-clause-fact : goal.returns-in-Failed-clause-fact
returns-in-Failed-clause-fact g c = λ told also.
    write_fault _ _ _ _ _ c.args.request _ also (c.requires.fact told also) c.in-Failed.ensures.writes
    c.answer_to-answer.ensures

pub returns-in-NoMemory-clause-fact : goal.returns-in-NoMemory-clause-fact
returns-in-NoMemory-clause-fact g c = λ told also.
    lacks_memory _ _ _ (sends_any _ _ _ c.args.request
    (writes_on _ _ _ _ V.NoMemory c.args.request also (c.requires.fact told also)
    c.in-NoMemory.ensures.writes))

-- ---- less is left to do

pub returns-in-Some-clause-falls : goal.returns-in-Some-clause-falls
returns-in-Some-clause-falls g c =
    writes_some _ _ (arc_value c.args.self.now.setup) _ _ _ _
    c.in-Some.ensures.rises c.args.request _ c.in-Some.ensures.writes

pub returns-in-Nothing-clause-falls : goal.returns-in-Nothing-clause-falls
returns-in-Nothing-clause-falls g c =
    writes_all _ _ (arc_value c.args.self.now.setup) _ _ _ _
    c.in-Nothing.ensures.rises c.args.request _ c.in-Nothing.ensures.writes

pub returns-in-Again-clause-falls : goal.returns-in-Again-clause-falls
returns-in-Again-clause-falls g c =
    writes_wait _ _ (arc_value c.args.self.now.setup) _ _ _ _
    c.in-Again.ensures.rises c.args.request c.in-Again.ensures.writes

pub returns-in-Failed-clause-falls : goal.returns-in-Failed-clause-falls
returns-in-Failed-clause-falls g c =
    writes_own _ _ (arc_value c.args.self.now.setup) _ _ _ _
    c.in-Failed.ensures.rises c.args.request _ c.answer_to-answer.result c.in-Failed.ensures.writes

pub returns-in-NoMemory-clause-falls : goal.returns-in-NoMemory-clause-falls
returns-in-NoMemory-clause-falls g c =
    writes_end _ _ (arc_value c.args.self.now.setup) _ _ _ _
    c.in-NoMemory.ensures.rises c.args.request _ E.NoMemory c.in-NoMemory.ensures.writes
