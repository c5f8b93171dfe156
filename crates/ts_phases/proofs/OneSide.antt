-- What a call on one side of a transaction leaves of the facts on it.
use Rattle.std.proofs.Common.{◌≡◌, ◌≢◌, ℕ, ◌+◌, ◌≤◌, List, [], ◌∷◌, Bool, true, false, Result, Ok, Err}
use Rattle.std.proofs.Common.{length, length-append, arith, refl, sym, ap, subst, ◌∙◌}
use Rattle.std.specs.Prelude.{IfOk}
use Rattle.ts_link.specs.Counts.{Counted, Rose}
use Rattle.ts_link.specs.Link.{Look, MayReplace}
use Rattle.ts_link.specs.declared.octets.NoMemory.{NoMemory}
use Rattle.ts_vconn.specs.declared.moves.Pulled.{Pulled}
use Rattle.ts_vconn.specs.declared.moves.Pushed.{Pushed}
use Rattle.ts_vconn.specs.Moves.{PullsOn}
use Rattle.ts_vconn.specs.MoveAnswers.{pull_failed, push_failed}
use Rattle.ts_vconn.proofs.Bounds.{came_few}
use Rattle.ts_phases.specs.View.{HasCount, HasFailed, LinkSide}
use Rattle.ts_phases.specs.Moving.{SideReads, SideWrites}
use Rattle.ts_phases.specs.Facts.{Quiet}
use Rattle.ts_phases.specs.declared.parts.Sent.{Sent}

grown : (b : Bool) (base old new : ℕ) → Counted b old new → base ≤ old → base ≤ new
grown true base old new rose kept = omega (arith, rose, kept)
grown false base old new same kept = omega (arith, same, kept)

pub failed : (base old new : ℕ) → Rose old new → base ≤ old → Rose base new
failed base old new rose kept = omega (arith, rose, kept)

-- the count does not fall, and rises at a fault
pub read_count : (t : Bool) (s r : LinkSide) (p : Pulled) → SideReads t s r p → HasCount s → HasCount r
read_count t s r p reads kept =
    subst (λ (n : ℕ). n ≤ r.look.faults) (sym reads.base) (grown (pull_failed p) s.base s.look.faults
    r.look.faults reads.pulls.pulls.calls.faults kept)

pub write_count : (t : Bool) (s r : LinkSide) (p : Pushed) → SideWrites t s r p → HasCount s → HasCount r
write_count t s r p writes kept =
    subst (λ (n : ℕ). n ≤ r.look.faults) (sym writes.base) (grown (push_failed p) s.base s.look.faults
    r.look.faults writes.pushes.calls.faults kept)

pub read_failed : (t : Bool) (s r : LinkSide) (p : Pulled) → pull_failed p ≡ true → SideReads t s r p
    → HasCount s → HasFailed r
read_failed t s r p is reads kept =
    let rose : Rose s.look.faults r.look.faults = subst (λ (b : Bool). Counted b s.look.faults r.look.faults)
    is reads.pulls.pulls.calls.faults in
    subst (λ (n : ℕ). Rose n r.look.faults) (sym reads.base)
    (failed s.base s.look.faults r.look.faults rose kept)

pub write_failed : (t : Bool) (s r : LinkSide) (p : Pushed) → push_failed p ≡ true → SideWrites t s r p
    → HasCount s → HasFailed r
write_failed t s r p is writes kept =
    let rose : Rose s.look.faults r.look.faults = subst (λ (b : Bool). Counted b s.look.faults r.look.faults)
    is writes.pushes.calls.faults in
    subst (λ (n : ℕ). Rose n r.look.faults) (sym writes.base)
    (failed s.base s.look.faults r.look.faults rose kept)

-- no more waits than one read brings behind what waited
pub few_pulled : (t : Bool) (c d : Look) (before after : List ℕ) (most : ℕ) (r : Result Pulled NoMemory)
    → IfOk r (λ p. PullsOn t c d before after p most)
    → IfOk r (λ p. length after ≤ length before + most)
few_pulled t c d before after most (Ok p) on =
    let few : length on.more ≤ most = came_few p most on.more on.pulls.came in
    let len : length after ≡ length before + length on.more =
    ap length on.grows ∙ length-append before on.more in
    omega (arith, few, len)
few_pulled t c d before after most (Err e) on = tt

-- what may still be given stays, once something was
pub stays : (given before after : List ℕ) → given ≢ [] → MayReplace given before after → after ≡ before
stays [] before after some replaced = absurd (some refl)
stays (b ∷ bs) before after some replaced = replaced

pub quiet_as : (c d : LinkSide) (s : Sent) → d.look.taken ≡ c.look.taken → d.outbox ≡ c.outbox → Quiet c s
    → Quiet d s
quiet_as c d s taken waits q = record {
  no_taken = taken ∙ q.no_taken;
  no_waits = waits ∙ q.no_waits;
  no_head = q.no_head;
  plain = q.plain;
  no_cuts = q.no_cuts;
}
