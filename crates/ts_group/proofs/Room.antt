-- How many entries would close, destroy and give back all.
use Rattle.std.proofs.Common.{◌≡◌, ℕ, ◌+◌, ◌≤◌, Bool, true, false, [], ◌∷◌, ◌++◌, Some, length, ap, arith}
use Rattle.std.specs.Prelude.{if◌then◌else◌}
use Rattle.std.proofs.lemmas.List.{length_push}
use Rattle.ts_journal.specs.declared.entry.ContKey.{ContKey}
use Rattle.ts_journal.specs.declared.entry.Pending.{Pending}
use Rattle.ts_journal.specs.State.{State, pending_at, without, generation_at, without_index}
use Rattle.ts_journal.proofs.Events.{length_without}
use Rattle.ts_journal.proofs.Keys.{length_without_index}
use Rattle.ts_journal.specs.Log.{Log}
use Rattle.ts_group.specs.declared.turns.TheConstants.{MOST_NEEDED_AT_END}
use Rattle.ts_group.specs.Context.{needed, HasEnded}

abbrev turn_of : Bool → ℕ
turn_of b = if b then 1 else 0

pub needed_held : (s : State) → s.held ≡ true → needed s ≡ length s.pending + length s.live + 1
needed_held s h = ap (λ (b : Bool). length s.pending + length s.live + (if b then 1 else 0)) h

pub needed_idle : (s : State) → s.held ≡ false → needed s + 1 ≡ length s.pending + length s.live + 1
needed_idle s h = let e : needed s ≡ length s.pending + length s.live + 0 = ap
    (λ (b : Bool). length s.pending + length s.live + (if b then 1 else 0)) h in omega arith

pub needed_most : (s : State) → needed s ≤ length s.pending + length s.live + 1
needed_most s = most s.held
  where
    most : (b : Bool) → length s.pending + length s.live + (if b then 1 else 0) ≤ length s.pending + length
        s.live + 1
    most true = omega arith
    most false = omega arith

pub needed_closed : (s t : State) (n : ℕ) (p : Pending) → pending_at n s.pending ≡ Some p → s.held ≡ true
    → t.pending ≡ without n s.pending → t.live ≡ s.live → t.held ≡ true → needed t + 1 ≡ needed s
needed_closed s t n p there h e l g =
    let a = needed_held s h in
    let b = needed_held t g in
    let c = length_without n s.pending p there in
    let d : length t.pending ≡ length (without n s.pending) = ap length e in
    let f : length t.live ≡ length s.live = ap length l in
    omega arith

pub needed_set : (s t : State) (p : Pending) → s.held ≡ true → t.pending ≡ s.pending ++ p ∷ []
    → t.live ≡ s.live → t.held ≡ true → needed t ≡ needed s + 1
needed_set s t p h e l g =
    let a = needed_held s h in
    let b = needed_held t g in
    let c = length_push s.pending p in
    let d : length t.pending ≡ length (s.pending ++ p ∷ []) = ap length e in
    let f : length t.live ≡ length s.live = ap length l in
    omega arith

pub needed_made : (s t : State) (k : ContKey) → s.held ≡ true → t.pending ≡ s.pending
    → t.live ≡ s.live ++ k ∷ [] → t.held ≡ true → needed t ≡ needed s + 1
needed_made s t k h e l g =
    let a = needed_held s h in
    let b = needed_held t g in
    let c = length_push s.live k in
    let d : length t.pending ≡ length s.pending = ap length e in
    let f : length t.live ≡ length (s.live ++ k ∷ []) = ap length l in
    omega arith

pub needed_destroyed : (s t : State) (i g : ℕ) → generation_at i s.live ≡ Some g → s.held ≡ true
    → t.pending ≡ s.pending → t.live ≡ without_index i s.live → t.held ≡ true → needed t + 1 ≡ needed s
needed_destroyed s t i g there h e l held =
    let a = needed_held s h in
    let b = needed_held t held in
    let c = length_without_index i s.live g there in
    let d : length t.pending ≡ length s.pending = ap length e in
    let f : length t.live ≡ length (without_index i s.live) = ap length l in
    omega arith

pub needed_same : (s t : State) → t.pending ≡ s.pending → t.live ≡ s.live → t.held ≡ s.held
    → needed t ≡ needed s
needed_same s t e l h =
    let d : length t.pending ≡ length s.pending = ap length e in
    let f : length t.live ≡ length s.live = ap length l in
    let k : turn_of t.held ≡ turn_of s.held = ap turn_of h in
    omega arith

-- a turn is taken, and given back
pub needed_took : (s t : State) → s.held ≡ false → t.pending ≡ s.pending → t.live ≡ s.live → t.held ≡ true
    → needed t ≡ needed s + 1
needed_took s t h e l g =
    let a = needed_idle s h in
    let b = needed_held t g in
    let d : length t.pending ≡ length s.pending = ap length e in
    let f : length t.live ≡ length s.live = ap length l in
    omega arith

pub needed_gave : (s t : State) → s.held ≡ true → t.pending ≡ s.pending → t.live ≡ s.live → t.held ≡ false
    → needed t + 1 ≡ needed s
needed_gave s t h e l g =
    let a = needed_held s h in
    let b = needed_idle t g in
    let d : length t.pending ≡ length s.pending = ap length e in
    let f : length t.live ≡ length s.live = ap length l in
    omega arith

-- a group that has ended needs as many as destroy its own key and give a turn back
pub needed_ended : (log : Log) → HasEnded log → needed log.state ≤ MOST_NEEDED_AT_END
needed_ended log ended =
    let most = needed_most log.state in
    let none : length log.state.pending ≡ 0 = ap length ended.pending in
    let one = ended.left in
    omega arith
