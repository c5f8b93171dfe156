-- Who watches bytes that are offered to it, and what it leaves of them.
use Rattle.std.specs.Prelude.{◌≡◌, ℕ, ◌<◌, ◌≤◌, ◌⊎◌, List, [], ◌++◌, length, take, Bool, true, false}
use Rattle.std.specs.Prelude.{if◌then◌else◌, nat_lt}
use Rattle.ts_link.specs.Counts.{Rose}
use Rattle.ts_tap.specs.declared.watch.TheConstants.{MOST_UNREAD}

-- Of bytes that it is offered a watcher takes the first n. Where these are not all, its count of such offers
-- rises, and it never falls.
pub record Offers {W : Type 0} (Took : W → List ℕ → Type 0) (lefts : W → ℕ) (old new : W) (n : ℕ)
    (bytes : List ℕ) : Type 0 where
  pub within : n ≤ length bytes
  pub takes : (taken : List ℕ) → Took old taken → Took new (taken ++ take n bytes)
  pub stays : lefts old ≤ lefts new
  pub rises : n < length bytes → Rose (lefts old) (lefts new)

-- a watcher, the bytes that it left and that are offered to it again, and whether some were lost
pub record Watching (W : Type 0) : Type 0 where
  pub watcher : W
  pub waits : List ℕ
  pub lost : Bool

-- a watcher that was offered nothing
abbrev pub new_watching : {W : Type 0} → W → Watching W
new_watching watcher = record { watcher = watcher; waits = []; lost = false }

-- Of these bytes the watcher took a front and left what follows. That waits for it, unless it is more than
-- may wait: then it is lost.
pub record IsShown {W : Type 0} (Took : W → List ℕ → Type 0) (bytes : List ℕ) (w : Watching W) : Type 0 where
  pub took : List ℕ
  pub is : Took w.watcher took
  pub left : List ℕ
  pub whole : bytes ≡ took ++ left
  pub lost : w.lost ≡ nat_lt MOST_UNREAD (length left)
  pub waits : w.waits ≡ (if w.lost then [] else left)

-- whoever was shown some bytes was shown these behind them
abbrev pub ShowsOn : {W : Type 0} → (W → List ℕ → Type 0) → Watching W → List ℕ → Watching W → Type 0
ShowsOn Took old bytes new = (before : List ℕ) → IsShown Took before old → IsShown Took (before ++ bytes) new

-- these bytes were left too: they wait behind those that do, unless these are too many, and lost
pub record KeepsLeft {W : Type 0} (old : Watching W) (left : List ℕ) (new : Watching W) : Type 0 where
  pub watcher : new.watcher ≡ old.watcher
  pub lost : new.lost ≡ nat_lt MOST_UNREAD (length (old.waits ++ left))
  pub waits : new.waits ≡ (if new.lost then [] else old.waits ++ left)

-- something waits for the watcher, or was lost
abbrev pub LeavesSome : {W : Type 0} → Watching W → Type 0
LeavesSome w = (0 < length w.waits) ⊎ (w.lost ≡ true)

-- bytes wait only where offers were not taken whole, and so it is with bytes that are lost
abbrev pub IsCounted : {W : Type 0} → (W → ℕ) → Watching W → Type 0
IsCounted lefts w = LeavesSome w → 0 < lefts w.watcher

-- the count did not fall; it rose where bytes wait now, and where some were lost that were not
pub record CountsLeft {W : Type 0} (lefts : W → ℕ) (old new : Watching W) : Type 0 where
  pub stays : lefts old.watcher ≤ lefts new.watcher
  pub waits : 0 < length new.waits → Rose (lefts old.watcher) (lefts new.watcher)
  pub lost : new.lost ≡ true → (old.lost ≡ true) ⊎ Rose (lefts old.watcher) (lefts new.watcher)

-- the same, but that bytes which waited before are not offered again
pub record CountsMore {W : Type 0} (lefts : W → ℕ) (old new : Watching W) : Type 0 where
  pub stays : lefts old.watcher ≤ lefts new.watcher
  pub waits : 0 < length new.waits → (0 < length old.waits) ⊎ Rose (lefts old.watcher) (lefts new.watcher)
  pub lost : new.lost ≡ true → LeavesSome old ⊎ Rose (lefts old.watcher) (lefts new.watcher)
