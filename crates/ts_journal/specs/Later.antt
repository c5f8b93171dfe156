-- What a state that comes later never takes back.
use Rattle.std.specs.Prelude.{◌≡◌, ℕ, ◌<◌, ◌≤◌, ◌⊎◌, List, None, unwrap_or}
use Rattle.ts_journal.specs.declared.entry.ContKey.{ContKey}
use Rattle.ts_journal.specs.declared.entry.Entry.{Entry}
use Rattle.ts_journal.specs.State.{State, pending_at, generation_at, IsLive}
use Rattle.ts_journal.specs.Machine.{IsLawful, IsValid, replay}

-- how often an index was given away
abbrev pub given_at : ℕ → State → ℕ
given_at i s = unwrap_or (generation_at i s.newest) 0

-- The new state does not go back behind the old one: turns, numbers and counts are no less, what was closed
-- stays so, and a key that was given away and is not live is never live again.
pub record IsLater (old new : State) : Type 0 where
  pub turns : old.turns ≤ new.turns
  pub next : old.next ≤ new.next
  pub set : old.set_count ≤ new.set_count
  pub handled : old.handled_count ≤ new.handled_count
  pub cancelled : old.cancelled_count ≤ new.cancelled_count
  pub dropped : old.dropped_count ≤ new.dropped_count
  pub given : (i : ℕ) → given_at i old ≤ given_at i new
  pub closed : (n : ℕ) → n < old.next → pending_at n old.pending ≡ None → pending_at n new.pending ≡ None
  pub dead : (key : ContKey) → key.generation ≤ given_at key.index old → (IsLive old.live key → ⊥)
      → IsLive new.live key → ⊥

-- Eighth: no journal goes back.
abbrev pub NeverBack : Type 0
NeverBack = (base : State) (es : List Entry) → IsValid base → IsLawful base es → IsLater base (replay base es)

-- The relation compares any two states: each follows itself, and what follows one that follows a third
-- follows that.
pub record IsOrder : Type 0 where
  pub itself : (s : State) → IsLater s s
  pub on : (s t u : State) → IsLater s t → IsLater t u → IsLater s u

-- What stands of a group: the number of turns with which it was made, and its state. The new follows the old
-- where it is of a group that was made later, or of the same one, whose state does not go back.
abbrev pub Follows : ℕ × State → ℕ × State → Type 0
Follows new old = (old.0 < new.0) ⊎ ((new.0 ≡ old.0) × IsLater old.1 new.1)
