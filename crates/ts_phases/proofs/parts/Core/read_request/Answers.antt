-- Each answer of the search for the request's head: where it leads, what it owes, and that less is left to
-- do.
use Rattle.std.proofs.Common.{◌∙◌, false, ap, inl, inr, refl, rules, subst, sym}
use Rattle.ts_vconn.specs.declared.moves.Pulled.TheVariants as L
use Rattle.ts_wire.specs.Check.{check}
use Rattle.ts_wire.specs.declared.heads.RequestHead.{RequestHead}
use Rattle.ts_phases.specs.Checking.{IsCheckedAs}
use Rattle.ts_phases.specs.Moving.{SeeksRequest}
use Rattle.ts_phases.specs.View.{view_of}
use Rattle.ts_phases.specs.declared.client_request.Checked.TheVariants as C
use Rattle.ts_phases.specs.declared.head_reader.Found.TheVariants as F
use Rattle.std.specs.Arc.{arc_value}
use Rattle.ts_hooks.specs.declared.txn_end.TxnEnd.TheVariants as E
use Rattle.ts_block.specs.declared.own_answer.OwnStatus.TheVariants as O
use Rattle.ts_phases.specs.declared.phase.OwnAnswer.{OwnAnswer}
use Rattle.ts_phases.proofs.Asks.{asking_any, heard_any, ended_within, failed, gave_nothing, goes_on}
use Rattle.ts_phases.proofs.Asks.{lacks_memory}
use Rattle.ts_phases.proofs.Asks.{never, passed, refused, stands}
use Rattle.ts_phases.proofs.LoweringAnswers.{asks_close, asks_end, asks_own, asks_passes, asks_some}
use Rattle.ts_phases.proofs.LoweringAnswers.{asks_wait}
use Rattle.ts_phases.proofs.Owed.{asked, asked_late, asked_lost, ends_whole, request_read}
use Rattle.ts_phases.proofs.Causes.{whole_cause}
use Rattle.ts_phases.proofs.parts.Core.read_request.Goals as goal

-- the answer where no head can come
abbrev no_head : OwnAnswer
no_head = record { status = O.BadRequest; to_head = false; end = E.Whole }

-- ---- what it owes

pub returns-in-Ok-Pass-clause-owes : goal.returns-in-Ok-Pass-clause-owes
returns-in-Ok-Pass-clause-owes g c =
    asked c.in-Head.ensures.keeps (F.Head c.in-Head.head) c.in-Head.ensures.seeks refl refl tt tt tt

pub returns-in-Ok-Refused-clause-owes : goal.returns-in-Ok-Refused-clause-owes
returns-in-Ok-Refused-clause-owes g c =
    let is : IsCheckedAs c.in-Head.head (C.Refused c.in-Ok-Refused.answer) =
    subst (λ r. IsCheckedAs c.in-Head.head r) c.in-Ok-Refused.field-0-is c.in-Ok-Refused.ensures in
    asked c.in-Head.ensures.keeps (F.Head c.in-Head.head) c.in-Head.ensures.seeks refl refl
    (ends_whole is.2) tt (whole_cause (view_of g.C.Link g.O.Link c.seek_request.new.self)
    c.in-Ok-Refused.answer.end (ends_whole is.2))

pub returns-in-Err-clause-owes : goal.returns-in-Err-clause-owes
returns-in-Err-clause-owes g c =
    asked c.in-Head.ensures.keeps (F.Head c.in-Head.head) c.in-Head.ensures.seeks refl refl refl tt
    tt

pub returns-in-Never-clause-owes : goal.returns-in-Never-clause-owes
returns-in-Never-clause-owes g c =
    asked c.in-Never.ensures.keeps F.Never c.in-Never.ensures.seeks refl refl refl tt tt

pub returns-in-Read-Some-clause-owes : goal.returns-in-Read-Some-clause-owes
returns-in-Read-Some-clause-owes g c =
    asked c.in-Read-Some.ensures.keeps (F.Read (L.Some _))
    (request_read c.in-Read-Some.field-0-is c.in-Read-Some.ensures.seeks) refl refl tt tt tt

pub returns-then-is_empty-clause-owes : goal.returns-then-is_empty-clause-owes
returns-then-is_empty-clause-owes g c =
    asked c.in-Read-End.ensures.keeps (F.Read L.End)
    (request_read c.in-Read-End.field-0-is c.in-Read-End.ensures.seeks) refl refl (inl refl) tt tt

pub returns-else-is_empty-clause-owes : goal.returns-else-is_empty-clause-owes
returns-else-is_empty-clause-owes g c =
    asked c.in-Read-End.ensures.keeps (F.Read L.End)
    (request_read c.in-Read-End.field-0-is c.in-Read-End.ensures.seeks) refl refl refl tt tt

pub returns-in-Read-Again-clause-owes : goal.returns-in-Read-Again-clause-owes
returns-in-Read-Again-clause-owes g c =
    asked_late c.in-Read-Again.ensures.keeps
    (request_read c.in-Read-Again.field-0-is c.in-Read-Again.ensures.seeks) refl tt tt

pub returns-in-Read-Failed-clause-owes : goal.returns-in-Read-Failed-clause-owes
returns-in-Read-Failed-clause-owes g c =
    asked_lost c.in-Read-Failed.ensures.keeps
    (request_read c.in-Read-Failed.field-0-is c.in-Read-Failed.ensures.seeks) refl (inr refl) tt

pub returns-in-NoMemory-clause-owes : goal.returns-in-NoMemory-clause-owes
returns-in-NoMemory-clause-owes g c =
    asked c.in-NoMemory.ensures.keeps F.NoMemory c.in-NoMemory.ensures.seeks refl refl refl tt tt

-- ---- where it leads

pub returns-in-Ok-Refused-clause-fact : goal.returns-in-Ok-Refused-clause-fact
returns-in-Ok-Refused-clause-fact g c = λ told also.
    refused _ _ _ _ _ c.in-Head.head c.in-Ok-Refused.answer (c.requires.fact told also)
    c.in-Head.ensures.seeks
    (subst (λ r. IsCheckedAs c.in-Head.head r) c.in-Ok-Refused.field-0-is c.in-Ok-Refused.ensures)

pub returns-in-Ok-Pass-clause-fact : goal.returns-in-Ok-Pass-clause-fact
returns-in-Ok-Pass-clause-fact g c = λ told also.
    passed _ _ _ c.in-Head.head c.in-Ok-Pass.request (c.requires.fact told also) c.in-Head.ensures.seeks
    (subst (λ r. IsCheckedAs c.in-Head.head r) c.in-Ok-Pass.field-0-is c.in-Ok-Pass.ensures)

pub returns-in-Err-clause-fact : goal.returns-in-Err-clause-fact
returns-in-Err-clause-fact g c = λ told also.
    lacks_memory _ _ _
    (heard_any _ _ _ _ _ c.in-Head.head (c.requires.fact told also) c.in-Head.ensures.seeks)

pub returns-in-Read-Some-clause-fact : goal.returns-in-Read-Some-clause-fact
returns-in-Read-Some-clause-fact g c = λ told also.
    goes_on _ _ _ _ told (c.requires.fact told also) c.in-Read-Some.ensures.seeks

pub returns-in-Read-Again-clause-fact : goal.returns-in-Read-Again-clause-fact
returns-in-Read-Again-clause-fact g c = λ told also.
    goes_on _ _ _ _ told (c.requires.fact told also) c.in-Read-Again.ensures.seeks

pub returns-in-Read-Failed-clause-fact : goal.returns-in-Read-Failed-clause-fact
returns-in-Read-Failed-clause-fact g c = λ told also.
    failed _ _ _ _ _ told (c.requires.fact told also)
    (request_read c.in-Read-Failed.field-0-is c.in-Read-Failed.ensures.seeks)

pub returns-in-NoMemory-clause-fact : goal.returns-in-NoMemory-clause-fact
returns-in-NoMemory-clause-fact g c = λ told also.
    lacks_memory _ _ _ (asking_any _ _ _
    (stands _ _ _ (c.requires.fact told also) c.in-NoMemory.ensures.seeks))

pub returns-in-Never-clause-fact : goal.returns-in-Never-clause-fact
returns-in-Never-clause-fact g c = λ told also.
    never _ _ _ _ _ (c.requires.fact told also) c.in-Never.ensures.seeks

pub returns-then-is_empty-clause-fact : goal.returns-then-is_empty-clause-fact
returns-then-is_empty-clause-fact g c = λ told also.
    gave_nothing _ _ _ _ _ told (c.requires.fact told also)
    (request_read c.in-Read-End.field-0-is c.in-Read-End.ensures.seeks) (search rules)

pub returns-else-is_empty-clause-fact : goal.returns-else-is_empty-clause-fact
returns-else-is_empty-clause-fact g c = λ told also.
    ended_within _ _ _ _ _ told (c.requires.fact told also)
    (request_read c.in-Read-End.field-0-is c.in-Read-End.ensures.seeks) (search rules)

-- ---- less is left to do

pub returns-in-Ok-Pass-clause-falls : goal.returns-in-Ok-Pass-clause-falls
returns-in-Ok-Pass-clause-falls g c =
    let checked = subst (λ r. IsCheckedAs c.in-Head.head r) c.in-Ok-Pass.field-0-is c.in-Ok-Pass.ensures in
    asks_passes _ _ (arc_value c.args.self.now.setup) _ _ _ _
    c.in-Head.ensures.rises c.in-Ok-Pass.request (ap check checked.0 ∙ checked.1)
    (subst (λ (h : RequestHead). SeeksRequest g.C.Link.tells (view_of g.C.Link g.O.Link c.args.self.now)
    (view_of g.C.Link g.O.Link c.seek_request.new.self) (F.Head h)) (sym checked.0)
    c.in-Head.ensures.seeks)

pub returns-in-Ok-Refused-clause-falls : goal.returns-in-Ok-Refused-clause-falls
returns-in-Ok-Refused-clause-falls g c =
    asks_own _ _ (arc_value c.args.self.now.setup) _ _ _ _
    c.in-Head.ensures.rises (F.Head c.in-Head.head) c.in-Ok-Refused.answer c.in-Head.ensures.seeks

pub returns-in-Err-clause-falls : goal.returns-in-Err-clause-falls
returns-in-Err-clause-falls g c =
    asks_end _ _ (arc_value c.args.self.now.setup) _ _ _ _
    c.in-Head.ensures.rises (F.Head c.in-Head.head) E.NoMemory c.in-Head.ensures.seeks

pub returns-in-Never-clause-falls : goal.returns-in-Never-clause-falls
returns-in-Never-clause-falls g c =
    asks_own _ _ (arc_value c.args.self.now.setup) _ _ _ _
    c.in-Never.ensures.rises F.Never no_head c.in-Never.ensures.seeks

pub returns-in-Read-Some-clause-falls : goal.returns-in-Read-Some-clause-falls
returns-in-Read-Some-clause-falls g c =
    asks_some _ _ (arc_value c.args.self.now.setup) _ _ _ _
    c.in-Read-Some.ensures.rises _
    (request_read c.in-Read-Some.field-0-is c.in-Read-Some.ensures.seeks)

pub returns-then-is_empty-clause-falls : goal.returns-then-is_empty-clause-falls
returns-then-is_empty-clause-falls g c =
    asks_close _ _ (arc_value c.args.self.now.setup) _ _ _ _
    c.in-Read-End.ensures.rises _ E.Whole c.in-Read-End.ensures.seeks

pub returns-else-is_empty-clause-falls : goal.returns-else-is_empty-clause-falls
returns-else-is_empty-clause-falls g c =
    asks_own _ _ (arc_value c.args.self.now.setup) _ _ _ _
    c.in-Read-End.ensures.rises _ no_head c.in-Read-End.ensures.seeks

pub returns-in-Read-Again-clause-falls : goal.returns-in-Read-Again-clause-falls
returns-in-Read-Again-clause-falls g c =
    asks_wait _ _ (arc_value c.args.self.now.setup) _ _ _ _
    c.in-Read-Again.ensures.rises
    (request_read c.in-Read-Again.field-0-is c.in-Read-Again.ensures.seeks)

pub returns-in-Read-Failed-clause-falls : goal.returns-in-Read-Failed-clause-falls
returns-in-Read-Failed-clause-falls g c =
    asks_close _ _ (arc_value c.args.self.now.setup) _ _ _ _
    c.in-Read-Failed.ensures.rises _ E.ClientFault c.in-Read-Failed.ensures.seeks

pub returns-in-NoMemory-clause-falls : goal.returns-in-NoMemory-clause-falls
returns-in-NoMemory-clause-falls g c =
    asks_end _ _ (arc_value c.args.self.now.setup) _ _ _ _
    c.in-NoMemory.ensures.rises F.NoMemory E.NoMemory c.in-NoMemory.ensures.seeks
