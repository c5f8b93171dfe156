-- An event that is brought forward: it was due later than the moment, and one that is due at once takes its
-- place.
use Rattle.std.specs.Prelude.{◌≡◌, ◌≢◌, ℕ, ◌+◌, ◌≤◌, ◌==◌, ◌&&◌, Bool, true, false, nat_lt, List, [], ◌∷◌, Option, Some, None, length, if◌then◌else◌, Result, Ok, Err, OnErr}
use Rattle.ts_journal.specs.declared.entry.TheConstants.{GREATEST}
use Rattle.ts_journal.specs.declared.entry.ContKey.{ContKey}
use Rattle.ts_journal.specs.declared.entry.Event.{Event}
use Rattle.ts_journal.specs.declared.entry.Event.TheVariants.{Immediate, Timeout}
use Rattle.ts_journal.specs.declared.entry.Pending.{Pending}
use Rattle.ts_journal.specs.declared.entry.Entry.TheVariants.{Set, Cancelled}
use Rattle.ts_journal.specs.State.{State, pending_at, same_key}
use Rattle.ts_journal.specs.Log.{Log, Extends, IsSameLog}
use Rattle.ts_group.specs.declared.action.SetFault.{SetFault}
use Rattle.ts_group.specs.declared.action.SetFault.TheVariants.{Dead, Spent}
use Rattle.ts_group.specs.Changes.{first_event}
use Rattle.ts_group.specs.Context.{AllPlain}

-- the event is a `Timeout`
abbrev pub is_timeout : Event → Bool
is_timeout Timeout = true
is_timeout _ = false

-- it is a `Timeout` of the key and no periodic one, and is due later than the moment
abbrev pub is_late : ContKey → ℕ → Pending → Bool
is_late key moment p =
    same_key p.key key && is_timeout p.event && (p.period == 0) && nat_lt moment p.due

-- the first such one
abbrev pub late_in : ContKey → ℕ → List Pending → Option Pending
late_in key moment [] = None
late_in key moment (p ∷ ps) = if is_late key moment p then Some p else late_in key moment ps

-- An event was brought forward: in its place one of its key is pending that is due at the moment. All others
-- stay.
pub record HasHastened (old new : State) (late : Pending) (moment : ℕ) : Type 0 where
  pub was : pending_at late.number old.pending ≡ Some late
  pub gone : pending_at late.number new.pending ≡ None
  pub there : pending_at old.next new.pending ≡ Some (first_event old.next late.key Immediate moment 0)
  pub others : (n : ℕ) → n ≢ late.number → n ≢ old.next
      → pending_at n new.pending ≡ pending_at n old.pending
  pub next : new.next ≡ old.next + 1
  pub count : length new.pending ≡ length old.pending
  pub plain : AllPlain old.pending → AllPlain new.pending

-- The first late event of a key is brought forward: one that is due at the moment is set, and then that one
-- cancelled. Where none is late, or none could be set, all is as it was.
pub record Hastens (old new : Log) (key : ContKey) (moment : ℕ) (result : Result Bool SetFault)
    : Type 0 where
  pub hastened : result ≡ Ok true → (p : Pending) × (late_in key moment old.state.pending ≡ Some p)
      × Extends old new (Set old.state.next key Immediate moment old.state.next 0 ∷ Cancelled p.number ∷ [])
      × HasHastened old.state new.state p moment
  pub none : result ≡ Ok false → (late_in key moment old.state.pending ≡ None) × IsSameLog old new
  pub live : result ≢ Err Dead
  pub spent : result ≡ Err Spent → GREATEST ≤ old.state.next
  pub err : OnErr result (IsSameLog old new)
  -- what a handler needs to know of the state
  pub turn : new.state.held ≡ true
  pub keys : new.state.live ≡ old.state.live
