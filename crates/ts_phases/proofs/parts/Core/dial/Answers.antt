-- The request has no origin to go to, or goes on to it.
use Rattle.std.proofs.Common.{ap, refl, rules}
use Rattle.std.specs.Arc.{arc_value}
use Rattle.ts_phases.specs.declared.phase.OwnAnswer.{OwnAnswer}
use Rattle.ts_phases.specs.declared.phase.Phase.TheVariants as P
use Rattle.ts_phases.specs.View.{upload_of, view_of}
use Rattle.ts_phases.proofs.Going.{allowed, not_dialed}
use Rattle.ts_phases.proofs.LoweringStands.{allowed_lowers, own_lowers}
use Rattle.ts_phases.proofs.Minding.{stood}
use Rattle.ts_phases.proofs.Owed.{stands}
use Rattle.ts_phases.proofs.Causes.{whole_cause}
use Rattle.ts_phases.proofs.parts.Core.dial.Goals as goal

-- ---- what it owes

pub returns-then-is_none-clause-owes : goal.returns-then-is_none-clause-owes
returns-then-is_none-clause-owes g c =
    stands g.C.Link g.O.Link g.O.Upstream c.args.self.now (P.OsDns c.args.request c.args.place) (
      ap (λ (a : OwnAnswer). a.status) c.answer_to-answer.ensures,
      ap (λ (a : OwnAnswer). a.end) c.answer_to-answer.ensures,
      c.requires.none,
    )
    (stood _ _ _ refl) tt
    (λ has. whole_cause (view_of g.C.Link g.O.Link c.args.self.now) c.answer_to-answer.result.end
    (ap (λ (a : OwnAnswer). a.end) c.answer_to-answer.ensures))

pub returns-clause-owes : goal.returns-clause-owes
returns-clause-owes g c =
    stands g.C.Link g.O.Link g.O.Upstream c.args.self.now (P.OsDns c.args.request c.args.place)
    (refl, c.requires.none) (stood _ _ _ refl) tt (λ has. tt)

-- ---- where it leads

pub returns-then-is_none-clause-fact : goal.returns-then-is_none-clause-fact
returns-then-is_none-clause-fact g c = λ told also.
    not_dialed _ _ _ c.args.request c.args.place c.answer_to-answer.result
    (c.requires.fact told also) c.requires.none (search rules) c.answer_to-answer.ensures

pub returns-clause-fact : goal.returns-clause-fact
returns-clause-fact g c = λ told also.
    allowed _ _ c.args.request c.args.place (c.requires.fact told also) c.requires.none (search rules)

-- ---- less is left to do

pub returns-then-is_none-clause-falls : goal.returns-then-is_none-clause-falls
returns-then-is_none-clause-falls g c =
    own_lowers _ _ (arc_value c.args.self.now.setup) (view_of g.C.Link g.O.Link c.args.self.now)
    (upload_of g.O.Upstream c.args.self.now) c.args.request c.args.place c.answer_to-answer.result

pub returns-clause-falls : goal.returns-clause-falls
returns-clause-falls g c =
    allowed_lowers _ _ (arc_value c.args.self.now.setup) (view_of g.C.Link g.O.Link c.args.self.now)
    (upload_of g.O.Upstream c.args.self.now) c.args.request c.args.place
