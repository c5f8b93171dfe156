-- Whose events are pending.
use Rattle.std.specs.Prelude.{◌≡◌, ℕ, ◌⊎◌, ◌++◌, List, [], ◌∷◌, Option, Some, None}
use Rattle.ts_journal.specs.declared.entry.ContKey.{ContKey}
use Rattle.ts_journal.specs.declared.entry.Pending.{Pending}
use Rattle.ts_journal.specs.State.{pending_at}
use Rattle.ts_group.specs.Context.{Context}
use Rattle.ts_transform.specs.declared.continuation.StageContinuation.{StageContinuation}

-- one of the continuations has this key
abbrev pub HasKey : List (Option StageContinuation) → ContKey → Type 0
HasKey [] key = ⊥
HasKey (None ∷ ts) key = HasKey ts key
HasKey (Some t ∷ ts) key = (t.key ≡ key) ⊎ HasKey ts key

-- each pending event is of one of the continuations
abbrev pub AllSeated : List Pending → List (Option StageContinuation) → Type 0
AllSeated pending ts = (n : ℕ) (p : Pending) → pending_at n pending ≡ Some p → HasKey ts p.key

-- it stays so with others beside them: whatever was set is of one of these
abbrev pub KeepsSeated : List (Option StageContinuation) → List (Option StageContinuation) → Context → Context
    → Type 0
KeepsSeated ts us a b = (others : List (Option StageContinuation))
    → AllSeated a.log.state.pending (others ++ ts) → AllSeated b.log.state.pending (others ++ us)
