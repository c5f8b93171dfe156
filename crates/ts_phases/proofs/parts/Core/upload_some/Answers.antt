-- Each answer of a move of the upload: where it leads, what it owes, and that less is left to do.
use Rattle.std.proofs.Common.{refl}
use Rattle.ts_upstream.specs.declared.upstream.Uploaded.TheVariants as U
use Rattle.std.specs.Arc.{arc_value}
use Rattle.ts_hooks.specs.declared.txn_end.TxnEnd.TheVariants as E
use Rattle.ts_phases.specs.declared.phase.Next.TheVariants as N
use Rattle.ts_phases.specs.declared.phase.Phase.TheVariants as P
use Rattle.ts_phases.proofs.LoweringLeads.{uploads_by}
use Rattle.ts_phases.proofs.Owed.{bad_gateway, refusal, uploads}
use Rattle.ts_phases.proofs.Uploading.{upload_client_fault, upload_lacks, upload_origin_fault, upload_refused}
use Rattle.ts_phases.proofs.Uploading.{uploaded, uploads_on}
use Rattle.ts_phases.proofs.Waiting.{upload_waits}
use Rattle.ts_phases.proofs.parts.Core.upload_some.Goals as goal

-- ---- what it owes

pub returns-in-Done-clause-owes : goal.returns-in-Done-clause-owes
returns-in-Done-clause-owes g c =
    uploads c.in-Done.ensures.keeps c.args.request U.Done c.in-Done.ensures.once c.in-Done.ensures.moves c.in-Done.ensures.lowers
    refl refl tt

pub returns-in-More-clause-owes : goal.returns-in-More-clause-owes
returns-in-More-clause-owes g c =
    uploads c.in-More.ensures.keeps c.args.request U.More c.in-More.ensures.once c.in-More.ensures.moves c.in-More.ensures.lowers
    refl refl tt

pub returns-in-Again-clause-owes : goal.returns-in-Again-clause-owes
returns-in-Again-clause-owes g c =
    uploads c.in-Again.ensures.keeps c.args.request U.Again c.in-Again.ensures.once c.in-Again.ensures.moves c.in-Again.ensures.lowers
    refl refl (upload_waits _ _ _ _ _ c.in-Again.ensures.moves)

pub returns-in-ClientFailed-clause-owes : goal.returns-in-ClientFailed-clause-owes
returns-in-ClientFailed-clause-owes g c =
    uploads c.in-ClientFailed.ensures.keeps c.args.request U.ClientFailed c.in-ClientFailed.ensures.once c.in-ClientFailed.ensures.moves
    c.in-ClientFailed.ensures.lowers
    refl refl tt

pub returns-in-OriginFailed-clause-owes : goal.returns-in-OriginFailed-clause-owes
returns-in-OriginFailed-clause-owes g c =
    uploads c.in-OriginFailed.ensures.keeps c.args.request U.OriginFailed c.in-OriginFailed.ensures.once c.in-OriginFailed.ensures.moves
    c.in-OriginFailed.ensures.lowers
    (bad_gateway c.answer_to-answer.ensures) tt tt

pub returns-in-Refused-clause-owes : goal.returns-in-Refused-clause-owes
returns-in-Refused-clause-owes g c =
    uploads c.in-Refused.ensures.keeps c.args.request U.Refused c.in-Refused.ensures.once c.in-Refused.ensures.moves
    c.in-Refused.ensures.lowers
    (refusal c.answer_to-answer-in-Refused.ensures) tt tt

pub returns-in-NoMemory-clause-owes : goal.returns-in-NoMemory-clause-owes
returns-in-NoMemory-clause-owes g c =
    uploads c.in-NoMemory.ensures.keeps c.args.request U.NoMemory c.in-NoMemory.ensures.once c.in-NoMemory.ensures.moves
    c.in-NoMemory.ensures.lowers
    refl refl tt

-- ---- where it leads

pub returns-in-Done-clause-fact : goal.returns-in-Done-clause-fact
returns-in-Done-clause-fact g c = λ told also.
    uploaded _ _ _ _ _ _ c.args.request told also (c.requires.fact told also)
    c.in-Done.ensures.moves

pub returns-in-More-clause-fact : goal.returns-in-More-clause-fact
returns-in-More-clause-fact g c = λ told also.
    uploads_on _ _ _ _ _ _ c.args.request told also (c.requires.fact told also)
    U.More c.in-More.ensures.moves

pub returns-in-Again-clause-fact : goal.returns-in-Again-clause-fact
returns-in-Again-clause-fact g c = λ told also.
    uploads_on _ _ _ _ _ _ c.args.request told also (c.requires.fact told also)
    U.Again c.in-Again.ensures.moves

pub returns-in-ClientFailed-clause-fact : goal.returns-in-ClientFailed-clause-fact
returns-in-ClientFailed-clause-fact g c = λ told also.
    upload_client_fault _ _ _ _ _ _ c.args.request told also (c.requires.fact told also)
    c.in-ClientFailed.ensures.moves

pub returns-in-OriginFailed-clause-fact : goal.returns-in-OriginFailed-clause-fact
returns-in-OriginFailed-clause-fact g c = λ told also.
    upload_origin_fault _ _ _ _ _ _ c.args.request told also (c.requires.fact told also)
    c.answer_to-answer.result c.in-OriginFailed.ensures.moves c.answer_to-answer.ensures

pub returns-in-Refused-clause-fact : goal.returns-in-Refused-clause-fact
returns-in-Refused-clause-fact g c = λ told also.
    upload_refused _ _ _ _ _ _ c.args.request told also (c.requires.fact told also)
    c.answer_to-answer-in-Refused.result c.in-Refused.ensures.moves c.answer_to-answer-in-Refused.ensures

pub returns-in-NoMemory-clause-fact : goal.returns-in-NoMemory-clause-fact
returns-in-NoMemory-clause-fact g c = λ told also.
    upload_lacks _ _ _ _ _ _ c.args.request told also (c.requires.fact told also)
    c.in-NoMemory.ensures.moves

-- ---- less is left to do

pub returns-in-Done-clause-falls : goal.returns-in-Done-clause-falls
returns-in-Done-clause-falls g c =
    uploads_by (arc_value c.args.self.now.setup) _ _ _ _ _ c.args.request
    (record { phase = P.ReadResponse c.args.request; next = N.Go })
    _ _ U.Done c.in-Done.ensures.moves c.in-Done.ensures.lowers refl

pub returns-in-More-clause-falls : goal.returns-in-More-clause-falls
returns-in-More-clause-falls g c =
    uploads_by (arc_value c.args.self.now.setup) _ _ _ _ _ c.args.request
    (record { phase = P.Upload c.args.request; next = N.Go })
    _ _ U.More c.in-More.ensures.moves c.in-More.ensures.lowers refl

pub returns-in-Again-clause-falls : goal.returns-in-Again-clause-falls
returns-in-Again-clause-falls g c =
    uploads_by (arc_value c.args.self.now.setup) _ _ _ _ _ c.args.request
    (record { phase = P.Upload c.args.request; next = N.Wait })
    _ _ U.Again c.in-Again.ensures.moves c.in-Again.ensures.lowers refl

pub returns-in-ClientFailed-clause-falls : goal.returns-in-ClientFailed-clause-falls
returns-in-ClientFailed-clause-falls g c =
    uploads_by (arc_value c.args.self.now.setup) _ _ _ _ _ c.args.request
    (record { phase = P.TxnClose E.ClientFault; next = N.Go })
    _ _ U.ClientFailed c.in-ClientFailed.ensures.moves c.in-ClientFailed.ensures.lowers refl

pub returns-in-OriginFailed-clause-falls : goal.returns-in-OriginFailed-clause-falls
returns-in-OriginFailed-clause-falls g c =
    uploads_by (arc_value c.args.self.now.setup) _ _ _ _ _ c.args.request
    (record { phase = P.SendResponseHdr c.answer_to-answer.result; next = N.Go })
    _ _ U.OriginFailed c.in-OriginFailed.ensures.moves c.in-OriginFailed.ensures.lowers
    (bad_gateway c.answer_to-answer.ensures)

pub returns-in-Refused-clause-falls : goal.returns-in-Refused-clause-falls
returns-in-Refused-clause-falls g c =
    uploads_by (arc_value c.args.self.now.setup) _ _ _ _ _ c.args.request
    (record { phase = P.SendResponseHdr c.answer_to-answer-in-Refused.result; next = N.Go })
    _ _ U.Refused c.in-Refused.ensures.moves c.in-Refused.ensures.lowers
    (refusal c.answer_to-answer-in-Refused.ensures)

pub returns-in-NoMemory-clause-falls : goal.returns-in-NoMemory-clause-falls
returns-in-NoMemory-clause-falls g c =
    uploads_by (arc_value c.args.self.now.setup) _ _ _ _ _ c.args.request
    (record { phase = P.Ended E.NoMemory; next = N.Done })
    _ _ U.NoMemory c.in-NoMemory.ensures.moves c.in-NoMemory.ensures.lowers refl
