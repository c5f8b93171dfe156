-- The first continuation of a transaction: whose events its calls set, and when these are due.
use Rattle.std.proofs.Common.{◌≡◌, ℕ, Option, Some, None, refl, subst}
use Rattle.ts_journal.specs.declared.entry.Pending.{Pending}
use Rattle.ts_journal.specs.State.{pending_at}
use Rattle.ts_group.specs.Changes.{IsLess}
use Rattle.ts_group.specs.Context.{Context}
use Rattle.ts_transform.specs.Driving.{IsDueAfter, IsWorkOfIf, Lessens, SetsOnly}
use Rattle.ts_transform.proofs.Setting.{only_none, only_weaker}
use Rattle.ts_transform.specs.declared.continuation.StageContinuation.{StageContinuation}
use Rattle.ts_txn.specs.CourseCover.{IsOfMain}

-- ---- the continuation is roused

-- what rouses it is an event of it
pub of_main : (t : Option StageContinuation) (after : ℕ) (a b : Context)
    → SetsOnly (IsWorkOfIf t after a.moment) a b → SetsOnly (IsOfMain t) a b
of_main None after a b only =
    only_weaker (IsWorkOfIf None after a.moment) (IsOfMain None) a b (λ p none. none) only
of_main (Some t) after a b only =
    only_weaker (IsWorkOfIf (Some t) after a.moment) (IsOfMain (Some t)) a b (λ p work. work.of_key) only

-- and it is due so many milliseconds later
pub due_set : (t : Option StageContinuation) (after : ℕ) (a b : Context)
    → SetsOnly (IsWorkOfIf t after a.moment) a b → SetsOnly (IsDueAfter after a.moment) a b
due_set None after a b only =
    only_weaker (IsWorkOfIf None after a.moment) (IsDueAfter after a.moment) a b (λ p none. absurd none) only
due_set (Some t) after a b only =
    only_weaker (IsWorkOfIf (Some t) after a.moment) (IsDueAfter after a.moment) a b (λ p work. work.due) only

-- nothing was set
pub due_rests : (a : Context) (after : ℕ) → SetsOnly (IsDueAfter after a.moment) a a
due_rests a after = only_none (IsDueAfter after a.moment) a

-- so it is where something was destroyed then
pub due_less : (a b c : Context) (after : ℕ) → SetsOnly (IsDueAfter after a.moment) a b
    → IsLess b.log.state c.log.state → SetsOnly (IsDueAfter after a.moment) a c
due_less a b c after only less = λ n p none there. only n p none (less.from n p there)

-- and where something was destroyed before
pub due_cleared : (a b c : Context) (after : ℕ) → Lessens a b → SetsOnly (IsDueAfter after b.moment) b c
    → SetsOnly (IsDueAfter after a.moment) a c
due_cleared a b c after less only n p none there = by_middle (pending_at n b.log.state.pending) refl
  where
    by_middle : (o : Option Pending) → pending_at n b.log.state.pending ≡ o → IsDueAfter after a.moment p
    by_middle None is = subst (λ m. IsDueAfter after m p) less.grows.moment (only n p is there)
    by_middle (Some q) is = absurd (less.none n q none is)
