-- What holds of the worlds that ask nobody, and what they tell. What each has to do is its tag's number in
-- all; as long as it is whole, an event is pending until all of that is done.
use Rattle.std.specs.Prelude.{◌≡◌, ℕ, ◌+◌, ◌*◌, ◌≤◌, Bool, true, Option, Some, None, IfSome, IsSome, length, unwrap_or, if◌then◌else◌}
use Rattle.std.proofs.Common.{refl, sym, subst, arith}
use Rattle.ts_journal.specs.State.{State, IsLive}
use Rattle.ts_group.specs.Context.{AllPlain}
use Rattle.ts_toys.specs.declared.burst.Burst.{Burst}
use Rattle.ts_toys.specs.declared.burst.TheConstants.{CALLS}
use Rattle.ts_toys.specs.declared.heir.Heir.{Heir}
use Rattle.ts_toys.specs.declared.peer.TheConstants.{MOST_TODO}
use Rattle.ts_toys.specs.declared.steps.Countdown.{Countdown}
use Rattle.ts_toys.specs.declared.steps.Stepper.{Stepper}
use Rattle.ts_toys.specs.declared.toy.TheConstants.{MOST_WORK}

-- the steps that were done and those that are left are so many
abbrev pub StepperFits : {P : Type 0} → (P → ℕ) → ℕ → Stepper P → Type 0
StepperFits steps t w = w.done + steps w.part ≡ t

-- no event is periodic, and a world that is whole has an event while steps are left
pub record StepperSound {P : Type 0} (steps : P → ℕ) (w : Stepper P) (s : State) : Type 0 where
  pub plain : AllPlain s.pending
  pub few : length s.pending ≤ s.next
  pub most : w.done + steps w.part ≤ MOST_TODO
  pub ends : w.whole ≡ true → length s.pending ≡ 0 → steps w.part ≡ 0

-- the bursts that were done and those that are left are so many
abbrev pub BurstFits : ℕ → Burst → Type 0
BurstFits t w = w.done + w.bursts ≡ t

-- No event is periodic. A world that is whole has an event while bursts are left, and handled each event that
-- it set, but for those that are pending.
pub record BurstSound (w : Burst) (s : State) : Type 0 where
  pub plain : AllPlain s.pending
  pub few : w.handled + length s.pending ≤ s.next
  pub most : w.done + w.bursts ≤ MOST_TODO
  pub new : w.target ≡ None → (w.handled ≡ 0) × (w.done ≡ 0) × (length s.pending ≡ 0)
  pub count : w.whole ≡ true → w.handled + length s.pending ≡ CALLS * w.done + 1
  pub ends : w.whole ≡ true → length s.pending ≡ 0 → w.bursts ≡ 0

-- what a burst has left to do
abbrev pub burst_left : Burst → State → Option ℕ
burst_left w s = Some ((CALLS + 1) * w.bursts + length s.pending)

-- the heirs that came and those that are to come are so many, and no event is periodic
abbrev pub HeirFits : ℕ → Heir → Type 0
HeirFits t w = (w.plain ≡ true) × (w.done + w.heirs ≡ t)

-- the continuation is live, and a world that is whole has an event while heirs are to come
pub record HeirSound (w : Heir) (s : State) : Type 0 where
  pub live : IfSome w.key (λ key. IsLive s.live key)
  pub plain : w.plain ≡ true → AllPlain s.pending
  pub few : w.plain ≡ true → length s.pending ≤ s.next
  pub most : w.done + w.heirs ≤ MOST_TODO
  pub ends : w.whole ≡ true → length s.pending ≡ 0 → w.heirs ≡ 0

-- what is left until the last heir is gone, where it is told
abbrev pub heir_left_if : Bool → Heir → State → Option ℕ
heir_left_if plain w s = if plain then Some (2 * w.heirs + length s.pending) else None

-- a world of plain events tells it
abbrev pub heir_left : Heir → State → Option ℕ
heir_left w s = heir_left_if w.plain w s

-- a countdown that is whole has done its steps
abbrev pub StepperCounted : ℕ → Stepper Countdown → Type 0
StepperCounted todo w = w.whole ≡ true → (w.done ≡ todo) × (w.part.left ≡ 0)

-- a burst that is whole has called its target so often, and each call was handled, as the first event was
abbrev pub BurstCounted : ℕ → Burst → Type 0
BurstCounted todo w = w.whole ≡ true → (w.done ≡ todo) × (w.handled ≡ CALLS * todo + 1)

-- so many heirs came, where the world is whole
abbrev pub HeirCounted : ℕ → Heir → Type 0
HeirCounted todo w = w.whole ≡ true → w.done ≡ todo

-- The laws of these words, which the trait of toy worlds asks for.

pub stepper_little : (w : Stepper Countdown) (s : State) → StepperSound (λ p. p.left) w s
    → IsSome (Some (2 * w.part.left + length s.pending)) ×
    (2 * w.part.left + length s.pending ≤ MOST_WORK + s.next)
stepper_little w s sound = let few = sound.few in let most = sound.most in (refl, omega arith)

pub stepper_end : (todo t : ℕ) (w : Stepper Countdown) (s : State) → t ≡ todo → StepperFits (λ p. p.left) t w
    → StepperSound (λ p. p.left) w s → length s.pending ≡ 0 → StepperCounted todo w
stepper_end todo t w s is fits sound none = λ whole. let zero = sound.ends whole none in (omega arith, zero)

pub burst_little : (w : Burst) (s : State) → BurstSound w s
    → IsSome (burst_left w s) × (unwrap_or (burst_left w s) 0 ≤ MOST_WORK + s.next)
burst_little w s sound = let few = sound.few in let most = sound.most in (refl, omega arith)

pub burst_ends : (todo t : ℕ) (w : Burst) (s : State) → t ≡ todo → BurstFits t w → BurstSound w s
    → length s.pending ≡ 0 → BurstCounted todo w
burst_ends todo t w s is fits sound none = λ whole.
    let zero = sound.ends whole none in
    let count = sound.count whole in
    let done : w.done ≡ todo = omega arith in (
      done,
      subst (λ n. w.handled ≡ CALLS * n + 1) done
          (omega arith),
    )

pub heir_little : (t : ℕ) (w : Heir) (s : State) → HeirFits t w → HeirSound w s
    → IsSome (heir_left w s) × (unwrap_or (heir_left w s) 0 ≤ MOST_WORK + s.next)
heir_little t w s fits sound =
    let few = sound.few fits.0 in
    let most = sound.most in
    let bound : 2 * w.heirs + length s.pending ≤ MOST_WORK + s.next = omega arith in
    subst (λ b. IsSome (heir_left_if b w s) × (unwrap_or (heir_left_if b w s) 0 ≤ MOST_WORK + s.next))
    (sym fits.0)
    (refl, bound)

pub heir_ends : (todo t : ℕ) (w : Heir) (s : State) → t ≡ todo → HeirFits t w → HeirSound w s
    → length s.pending ≡ 0 → HeirCounted todo w
heir_ends todo t w s is fits sound none = λ whole. let zero = sound.ends whole none in let all = fits.1 in
    omega arith
