-- Each answer of the search for the response's head: where it leads, what it owes, and that less is left to
-- do.
use Rattle.std.proofs.Common.{refl}
use Rattle.ts_vconn.specs.declared.moves.Pulled.TheVariants as L
use Rattle.ts_phases.specs.declared.head_reader.Found.TheVariants as F
use Rattle.std.specs.Arc.{arc_value}
use Rattle.ts_hooks.specs.declared.txn_end.TxnEnd.TheVariants as E
use Rattle.ts_phases.specs.View.{view_of}
use Rattle.ts_phases.proofs.Asks.{lacks_memory}
use Rattle.ts_phases.proofs.LoweringAnswers.{hears_dropped, hears_end, hears_final, hears_own, hears_some}
use Rattle.ts_phases.proofs.LoweringAnswers.{hears_wait}
use Rattle.ts_phases.proofs.Causes.{whole_cause}
use Rattle.ts_phases.proofs.Owed.{bad_gateway, ends_whole, heard, heard_late, heard_lost, lost_response}
use Rattle.ts_phases.proofs.Owed.{no_response, response_read}
use Rattle.ts_phases.proofs.Responding.{awaits_any, awaits_on, awaits_still, ended_early, failed_early}
use Rattle.ts_phases.proofs.Responding.{interim, no_head, refused_head, relays}
use Rattle.ts_phases.proofs.parts.Core.read_response.Goals as goal

-- ---- what it owes

pub returns-then-is_interim-clause-owes : goal.returns-then-is_interim-clause-owes
returns-then-is_interim-clause-owes g c =
    heard c.in-Head.ensures.keeps c.args.request (F.Head c.in-Head.head)
    c.in-Head.ensures.seeks refl refl refl tt tt

pub returns-then-is_good-clause-owes : goal.returns-then-is_good-clause-owes
returns-then-is_good-clause-owes g c =
    heard c.in-Head.ensures.keeps c.args.request (F.Head c.in-Head.head)
    c.in-Head.ensures.seeks refl refl refl tt tt

pub returns-else-is_good-clause-owes : goal.returns-else-is_good-clause-owes
returns-else-is_good-clause-owes g c =
    heard c.in-Head.ensures.keeps c.args.request (F.Head c.in-Head.head)
    c.in-Head.ensures.seeks refl refl (no_response c.answer_to-bad.ensures) tt
    (whole_cause (view_of g.C.Link g.O.Link c.seek_response.new.self)
    c.answer_to-bad.result.end (ends_whole c.answer_to-bad.ensures))

pub returns-in-Never-clause-owes : goal.returns-in-Never-clause-owes
returns-in-Never-clause-owes g c =
    heard c.in-Never.ensures.keeps c.args.request F.Never
    c.in-Never.ensures.seeks refl refl (no_response c.answer_to-bad.ensures) tt
    (whole_cause (view_of g.C.Link g.O.Link c.seek_response.new.self)
    c.answer_to-bad.result.end (ends_whole c.answer_to-bad.ensures))

pub returns-in-Read-End-clause-owes : goal.returns-in-Read-End-clause-owes
returns-in-Read-End-clause-owes g c =
    heard c.in-Read-End.ensures.keeps c.args.request (F.Read L.End)
    (response_read c.in-Read-End.field-0-is c.in-Read-End.ensures.seeks) refl refl
    (no_response c.answer_to-bad.ensures) tt (whole_cause (view_of g.C.Link g.O.Link c.seek_response.new.self)
    c.answer_to-bad.result.end (ends_whole c.answer_to-bad.ensures))

pub returns-in-Read-Some-clause-owes : goal.returns-in-Read-Some-clause-owes
returns-in-Read-Some-clause-owes g c =
    heard c.in-Read-Some.ensures.keeps c.args.request (F.Read (L.Some _))
    (response_read c.in-Read-Some.field-0-is c.in-Read-Some.ensures.seeks) refl refl refl tt tt

pub returns-in-NoMemory-clause-owes : goal.returns-in-NoMemory-clause-owes
returns-in-NoMemory-clause-owes g c =
    heard c.in-NoMemory.ensures.keeps c.args.request F.NoMemory
    c.in-NoMemory.ensures.seeks refl refl refl tt tt

pub returns-in-Read-Again-clause-owes : goal.returns-in-Read-Again-clause-owes
returns-in-Read-Again-clause-owes g c =
    heard_late c.in-Read-Again.ensures.keeps c.args.request (response_read c.in-Read-Again.field-0-is
    c.in-Read-Again.ensures.seeks) refl refl tt

pub returns-in-Read-Failed-clause-owes : goal.returns-in-Read-Failed-clause-owes
returns-in-Read-Failed-clause-owes g c =
    heard_lost c.in-Read-Failed.ensures.keeps c.args.request
    (response_read c.in-Read-Failed.field-0-is c.in-Read-Failed.ensures.seeks)
    (bad_gateway c.answer_to-fault.ensures)
    (lost_response c.answer_to-fault.result (bad_gateway c.answer_to-fault.ensures)) tt

-- ---- where it leads

pub returns-then-is_interim-clause-fact : goal.returns-then-is_interim-clause-fact
returns-then-is_interim-clause-fact g c = λ told also.
    interim _ _ _ _ _ c.args.request also (c.requires.fact told also) c.in-Head.head _ c.in-Head.ensures.seeks
    c.if-is_interim.ensures refl

pub returns-then-is_good-clause-fact : goal.returns-then-is_good-clause-fact
returns-then-is_good-clause-fact g c = λ told also.
    relays _ _ _ _ _ c.args.request also (c.requires.fact told also) c.in-Head.head _ c.in-Head.ensures.seeks
    c.if-is_interim.ensures refl (c.is_good.ensures.good c.if-is_good.true)

pub returns-else-is_good-clause-fact : goal.returns-else-is_good-clause-fact
returns-else-is_good-clause-fact g c = λ told also.
    refused_head _ _ _ _ _ c.args.request also (c.requires.fact told also) c.in-Head.head _ _
    c.in-Head.ensures.seeks c.if-is_interim.ensures refl (c.is_good.ensures.status c.if-is_good.false)
    c.answer_to-bad.ensures

pub returns-in-Never-clause-fact : goal.returns-in-Never-clause-fact
returns-in-Never-clause-fact g c = λ told also.
    no_head _ _ _ _ _ c.args.request also (c.requires.fact told also) _ c.in-Never.ensures.seeks
    c.answer_to-bad.ensures

pub returns-in-Read-Some-clause-fact : goal.returns-in-Read-Some-clause-fact
returns-in-Read-Some-clause-fact g c = λ told also.
    awaits_on _ _ _ _ _ c.args.request also (c.requires.fact told also) _ c.in-Read-Some.ensures.seeks

pub returns-in-Read-End-clause-fact : goal.returns-in-Read-End-clause-fact
returns-in-Read-End-clause-fact g c = λ told also.
    ended_early _ _ _ _ _ c.args.request also (c.requires.fact told also) _
    (response_read c.in-Read-End.field-0-is c.in-Read-End.ensures.seeks) c.answer_to-bad.ensures

pub returns-in-Read-Again-clause-fact : goal.returns-in-Read-Again-clause-fact
returns-in-Read-Again-clause-fact g c = λ told also.
    awaits_on _ _ _ _ _ c.args.request also (c.requires.fact told also) _ c.in-Read-Again.ensures.seeks

pub returns-in-Read-Failed-clause-fact : goal.returns-in-Read-Failed-clause-fact
returns-in-Read-Failed-clause-fact g c = λ told also.
    failed_early _ _ _ _ _ c.args.request also (c.requires.fact told also) _
    (response_read c.in-Read-Failed.field-0-is c.in-Read-Failed.ensures.seeks) c.answer_to-fault.ensures

pub returns-in-NoMemory-clause-fact : goal.returns-in-NoMemory-clause-fact
returns-in-NoMemory-clause-fact g c = λ told also.
    lacks_memory _ _ _ (awaits_any _ _ _ c.args.request
    (awaits_still _ _ _ _ _ c.args.request also (c.requires.fact told also) c.in-NoMemory.ensures.seeks))

-- ---- less is left to do

pub returns-then-is_interim-clause-falls : goal.returns-then-is_interim-clause-falls
returns-then-is_interim-clause-falls g c =
    hears_dropped _ _ (arc_value c.args.self.now.setup) _ _ _ _
    c.in-Head.ensures.rises c.args.request c.in-Head.head c.in-Head.ensures.seeks

pub returns-then-is_good-clause-falls : goal.returns-then-is_good-clause-falls
returns-then-is_good-clause-falls g c =
    hears_final _ _ (arc_value c.args.self.now.setup) _ _ _ _
    c.in-Head.ensures.rises c.args.request c.in-Head.head c.in-Head.ensures.seeks

pub returns-else-is_good-clause-falls : goal.returns-else-is_good-clause-falls
returns-else-is_good-clause-falls g c =
    hears_own _ _ (arc_value c.args.self.now.setup) _ _ _ _
    c.in-Head.ensures.rises c.args.request _ c.answer_to-bad.result c.in-Head.ensures.seeks

pub returns-in-Never-clause-falls : goal.returns-in-Never-clause-falls
returns-in-Never-clause-falls g c =
    hears_own _ _ (arc_value c.args.self.now.setup) _ _ _ _
    c.in-Never.ensures.rises c.args.request _ c.answer_to-bad.result c.in-Never.ensures.seeks

pub returns-in-Read-Some-clause-falls : goal.returns-in-Read-Some-clause-falls
returns-in-Read-Some-clause-falls g c =
    hears_some _ _ (arc_value c.args.self.now.setup) _ _ _ _
    c.in-Read-Some.ensures.rises c.args.request _
    (response_read c.in-Read-Some.field-0-is c.in-Read-Some.ensures.seeks)

pub returns-in-Read-End-clause-falls : goal.returns-in-Read-End-clause-falls
returns-in-Read-End-clause-falls g c =
    hears_own _ _ (arc_value c.args.self.now.setup) _ _ _ _
    c.in-Read-End.ensures.rises c.args.request _ c.answer_to-bad.result c.in-Read-End.ensures.seeks

pub returns-in-Read-Again-clause-falls : goal.returns-in-Read-Again-clause-falls
returns-in-Read-Again-clause-falls g c =
    hears_wait _ _ (arc_value c.args.self.now.setup) _ _ _ _
    c.in-Read-Again.ensures.rises c.args.request
    (response_read c.in-Read-Again.field-0-is c.in-Read-Again.ensures.seeks)

pub returns-in-Read-Failed-clause-falls : goal.returns-in-Read-Failed-clause-falls
returns-in-Read-Failed-clause-falls g c =
    hears_own _ _ (arc_value c.args.self.now.setup) _ _ _ _
    c.in-Read-Failed.ensures.rises c.args.request _ c.answer_to-fault.result
    c.in-Read-Failed.ensures.seeks

pub returns-in-NoMemory-clause-falls : goal.returns-in-NoMemory-clause-falls
returns-in-NoMemory-clause-falls g c =
    hears_end _ _ (arc_value c.args.self.now.setup) _ _ _ _
    c.in-NoMemory.ensures.rises c.args.request _ E.NoMemory c.in-NoMemory.ensures.seeks
