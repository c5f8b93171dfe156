-- Each answer of a write of the proxy's own answer: where it leads, what it owes, and that less is left to
-- do.
use Rattle.std.proofs.Common.{inl, inr, refl}
use Rattle.ts_vconn.specs.declared.moves.Pushed.TheVariants as V
use Rattle.std.specs.Arc.{arc_value}
use Rattle.ts_hooks.specs.declared.txn_end.TxnEnd.TheVariants as E
use Rattle.ts_phases.proofs.LoweringAnswers.{sends_close, sends_end, sends_some, sends_wait}
use Rattle.ts_phases.proofs.Owed.{answered, answered_late, answered_lost}
use Rattle.ts_phases.proofs.Owns.{client_left, own_lost, sends_on, sent_whole}
use Rattle.ts_phases.proofs.parts.Core.send.Goals as goal

-- ---- what it owes

pub returns-in-Some-clause-owes : goal.returns-in-Some-clause-owes
returns-in-Some-clause-owes g c =
    answered c.in-Some.ensures.keeps c.args.answer (V.Some _) c.in-Some.ensures.writes refl refl refl tt
    (λ has. has)

pub returns-in-Nothing-clause-owes : goal.returns-in-Nothing-clause-owes
returns-in-Nothing-clause-owes g c =
    answered c.in-Nothing.ensures.keeps c.args.answer V.Nothing c.in-Nothing.ensures.writes refl refl
    (inl refl) tt (λ has. has)

pub returns-in-Again-clause-owes : goal.returns-in-Again-clause-owes
returns-in-Again-clause-owes g c =
    answered_late c.in-Again.ensures.keeps c.args.answer c.in-Again.ensures.writes refl refl (λ has. has)

pub returns-in-Failed-clause-owes : goal.returns-in-Failed-clause-owes
returns-in-Failed-clause-owes g c =
    answered_lost c.in-Failed.ensures.keeps c.args.answer c.in-Failed.ensures.writes refl (inr refl) tt

pub returns-in-NoMemory-clause-owes : goal.returns-in-NoMemory-clause-owes
returns-in-NoMemory-clause-owes g c =
    answered c.in-NoMemory.ensures.keeps c.args.answer V.NoMemory c.in-NoMemory.ensures.writes refl refl refl
    tt (λ has. tt)

-- ---- where it leads

pub returns-in-Some-clause-fact : goal.returns-in-Some-clause-fact
returns-in-Some-clause-fact g c = λ told also.
    sends_on _ _ _ _ _ _ c.args.answer told (c.requires.fact told also) c.in-Some.ensures.writes

pub returns-in-Nothing-clause-fact : goal.returns-in-Nothing-clause-fact
returns-in-Nothing-clause-fact g c = λ told also.
    sent_whole _ _ _ _ _ c.args.answer told (c.requires.fact told also) c.in-Nothing.ensures.writes

pub returns-in-Again-clause-fact : goal.returns-in-Again-clause-fact
returns-in-Again-clause-fact g c = λ told also.
    sends_on _ _ _ _ _ _ c.args.answer told (c.requires.fact told also) c.in-Again.ensures.writes

pub returns-in-Failed-clause-fact : goal.returns-in-Failed-clause-fact
returns-in-Failed-clause-fact g c = λ told also.
    client_left _ _ _ _ _ c.args.answer told (c.requires.fact told also) c.in-Failed.ensures.writes

pub returns-in-NoMemory-clause-fact : goal.returns-in-NoMemory-clause-fact
returns-in-NoMemory-clause-fact g c = λ told also.
    own_lost _ _ _ _ _ c.args.answer told (c.requires.fact told also) c.in-NoMemory.ensures.writes

-- ---- less is left to do

pub returns-in-Some-clause-falls : goal.returns-in-Some-clause-falls
returns-in-Some-clause-falls g c =
    sends_some _ _ (arc_value c.args.self.now.setup) _ _ _ _
    c.in-Some.ensures.rises c.args.answer _ c.in-Some.ensures.writes

pub returns-in-Nothing-clause-falls : goal.returns-in-Nothing-clause-falls
returns-in-Nothing-clause-falls g c =
    sends_close _ _ (arc_value c.args.self.now.setup) _ _ _ _
    c.in-Nothing.ensures.rises c.args.answer _ c.args.answer.end c.in-Nothing.ensures.writes

pub returns-in-Again-clause-falls : goal.returns-in-Again-clause-falls
returns-in-Again-clause-falls g c =
    sends_wait _ _ (arc_value c.args.self.now.setup) _ _ _ _
    c.in-Again.ensures.rises c.args.answer c.in-Again.ensures.writes

pub returns-in-Failed-clause-falls : goal.returns-in-Failed-clause-falls
returns-in-Failed-clause-falls g c =
    sends_close _ _ (arc_value c.args.self.now.setup) _ _ _ _
    c.in-Failed.ensures.rises c.args.answer _ E.ClientFault c.in-Failed.ensures.writes

pub returns-in-NoMemory-clause-falls : goal.returns-in-NoMemory-clause-falls
returns-in-NoMemory-clause-falls g c =
    sends_end _ _ (arc_value c.args.self.now.setup) _ _ _ _
    c.in-NoMemory.ensures.rises c.args.answer _ E.NoMemory c.in-NoMemory.ensures.writes
