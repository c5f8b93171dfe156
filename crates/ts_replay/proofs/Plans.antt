-- The numbers of a replay's plan: its turns are few.
use Rattle.std.proofs.Common.{◌≡◌, ℕ, zero, suc, ◌+◌, ◌*◌, ◌<◌, ◌≤◌, Bool, true, false, sym, subst}
use Rattle.std.proofs.Common.{◌∙◌, arith}
use Rattle.std.specs.Prelude.{◌==◌, max}
use Rattle.std.proofs.lemmas.Bool.{eqb-true}
use Rattle.std.proofs.lemmas.Nat.{mul-le}
use Rattle.ts_group.specs.declared.slot.TheConstants.{MOST_IN_TURN}
use Rattle.ts_journal.specs.declared.entry.TheConstants.{GREATEST}
use Rattle.ts_record.specs.declared.recording.TheConstants.{MOST_TXNS}
use Rattle.ts_replay.specs.declared.running.TheConstants.{BUDGET}
use Rattle.ts_thread.specs.declared.TheConstants.{MOST_ALONE, MOST_THREADS}
use Rattle.ts_thread.specs.Threads.{turns_of}

-- what is not empty has one at least
pub some_of : (b : Bool) (len count : ℕ) → b ≡ (len == 0) → b ≡ false → len ≡ count → 0 < count
some_of b len zero is empty same = let none : b ≡ (0 == 0) = subst (λ k. b ≡ (k == 0)) same is in absurd (cc)
some_of b len (suc count) is empty same = omega arith

-- and what is empty has none
pub none_of : (b : Bool) (len count : ℕ) → b ≡ (len == 0) → b ≡ true → len ≡ count → count ≡ 0
none_of b len count is empty same = sym same ∙ eqb-true len 0 (sym is ∙ empty)

-- threads within their limit give no more turns than one thread alone does
pub turns_few : (starts threads : ℕ) → starts ≤ MOST_TXNS → threads ≤ MOST_THREADS
    → turns_of starts threads BUDGET ≤ MOST_ALONE
turns_few starts threads few most =
    let times : threads * (2 * BUDGET) ≤ MOST_THREADS * (2 * BUDGET) = mul-le threads (2 * BUDGET)
    MOST_THREADS (2 * BUDGET) most (omega arith) in
    omega (arith, times, few)

-- a group at rest that has had no more has event numbers left
pub numbers_left : (turns : ℕ) → turns ≤ MOST_ALONE → MOST_IN_TURN * max turns MOST_ALONE + 1 < GREATEST
numbers_left turns few = omega (arith, few)
