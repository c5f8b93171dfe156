-- A tap: a client's link, and a watcher that is offered the body data which the client took.
use Rattle.std.specs.Prelude.{◌≡◌, ℕ, ◌+◌, ◌<◌, ◌≤◌, ◌⊎◌, List, ◌++◌, length, min, vec_capacity, vec_len}
use Rattle.std.specs.Prelude.{true, false, nat_lt}
use Rattle.ts_link.specs.Counts.{Rose}
use Rattle.ts_link.specs.declared.link.Put.{Put}
use Rattle.ts_link.specs.declared.link.Put.TheVariants as P
use Rattle.ts_tap.specs.declared.watch.TheConstants.{MOST_UNREAD}
use Rattle.ts_tap.specs.declared.watch.Watch.{Watch}
use Rattle.ts_tap.specs.Sending.{Sent, HasSeen}
use Rattle.ts_tap.specs.SentBody.{IsSentBody}
use Rattle.ts_tap.specs.Watching.{Watching, IsShown, CountsLeft, new_watching}

-- what a contract sees of a tap
pub record Tap (C W : Type 0) : Type 0 where
  pub client : C
  pub watch : Watching W

-- a tap that nothing went through
abbrev pub new_tap : {C W : Type 0} → C → W → Tap C W
new_tap client watcher = record { client = client; watch = new_watching watcher }

-- what is seen of a watcher with what it left
abbrev pub watching_of : {W : Type 0} → Watch W → Watching W
watching_of w = record { watcher = w.watcher; waits = w.waits.items; lost = w.lost }

-- there is room for so many bytes more that wait, or for as many as may wait, unless some were lost
abbrev pub HasRoom : {W : Type 0} → ℕ → Watch W → Type 0
HasRoom more w = w.lost ≡ false → min (vec_len w.waits + more) MOST_UNREAD ≤ vec_capacity w.waits

-- of these bytes, which a client took, the body data was shown to the watcher
pub record IsTapping {W : Type 0} (Took : W → List ℕ → Type 0) (taken : List ℕ) (s : Sent) (w : Watching W) :
    Type 0 where
  pub body : List ℕ
  pub seen : HasSeen taken body s
  pub shown : IsShown Took body w

-- whatever a client took before, it took these bytes behind them, and their body data was shown too
abbrev pub TapsOn : {W : Type 0} → (W → List ℕ → Type 0) → Sent → Watching W → List ℕ → Sent → Watching W
    → Type 0
TapsOn Took s w bytes t x = (taken : List ℕ) → IsTapping Took taken s w → IsTapping Took (taken ++ bytes) t x

-- after a write that did not lack memory bytes wait, and a tap is lost, only where the count rose in it
abbrev pub CountsPut : {W : Type 0} → (W → ℕ) → Put → Watching W → Watching W → Type 0
CountsPut lefts P.NoMemory old new = new ≡ old
CountsPut lefts _ old new = CountsLeft lefts old new

-- A TAP at its end, where what waited was offered once more: of the body data of what the client took the
-- watcher took a front, and left what follows. The tap is lost exactly where that is more than may wait. Else
-- something is left only where that last offer was not taken whole either, and the watcher's count tells so.
pub record HasTapped {W : Type 0} (Took : W → List ℕ → Type 0) (lefts : W → ℕ) (taken : List ℕ)
    (old : Watching W) (watcher : W) : Type 0 where
  pub body : List ℕ
  pub is_body : IsSentBody taken body
  pub took : List ℕ
  pub is : Took watcher took
  pub left : List ℕ
  pub whole : body ≡ took ++ left
  pub limit : old.lost ≡ nat_lt MOST_UNREAD (length left)
  pub offered : 0 < length left → (old.lost ≡ true) ⊎ Rose (lefts old.watcher) (lefts watcher)
  pub counted : 0 < length left → 0 < lefts watcher
