-- The client was settled, or its number was added.
use Rattle.std.proofs.Common.{List, ℕ, inl, inr, sym, subst}
use Rattle.ts_slot.specs.Lists.{IsIn}
use Rattle.ts_serve.specs.Ready.{StandsIn}
use Rattle.ts_serve.proofs.Settled.{in_front, in_last}
use Rattle.ts_serve.proofs.ready.rouse_or_keep.Goals as goal

pub returns-then-branch-clause-stays : goal.returns-then-branch-clause-stays
returns-then-branch-clause-stays g c = λ x is. is

pub returns-then-branch-clause-left : goal.returns-then-branch-clause-left
returns-then-branch-clause-left g c = inr (c.in_ok-rouse_client.ensures.settled c.if-branch.true)

pub returns-clause-stays : goal.returns-clause-stays
returns-clause-stays g c =
    subst (λ (xs : List ℕ). StandsIn c.args.missed.now.items xs) (sym c.in_ok-push.ensures.items)
    (λ x is. in_front x c.args.missed.now.items _ is)

pub returns-clause-left : goal.returns-clause-left
returns-clause-left g c =
    inl (subst (λ (xs : List ℕ). IsIn c.args.number xs) (sym c.in_ok-push.ensures.items)
    (in_last c.args.number c.args.missed.now.items))
