-- What calls leave of what a seat knows.
use Rattle.std.specs.Prelude.{◌≡◌, ℕ, ◌+◌, ◌<◌, ◌≤◌, List, ◌∷◌, length}
use Rattle.ts_slot.specs.declared.view.SeatView.{SeatView}
use Rattle.ts_slot.specs.Limits.{last_turn}
use Rattle.ts_slot.specs.Lists.{IsIn, rest}

-- what stood in the list stands in it
pub record More {A : Type 0} (old new : List A) : Type 0 where
  pub stays : (e : A) → IsIn e old → IsIn e new

-- What stood after a turn of the group k is known, where it was not the last turn that a group can have.
abbrev pub KnowsTurn : {T : Type 0} → ℕ → ℕ → T → List (ℕ × ℕ × T) → Type 0
KnowsTurn k turn trace known = turn < last_turn → IsIn (k, turn, trace) known

module _ {G T : Type 0} where
  -- A seat has its share, its names and the groups that it held, got at most so many turns more, and forgot
  -- nothing.
  pub record KeepsSeat (old new : SeatView G T) (most : ℕ) : Type 0 where
    pub share : new.share ≡ old.share
    pub names : new.names ≡ old.names
    pub held : new.held ≡ old.held
    pub turns : length new.turns ≤ length old.turns + most
    pub misses : length old.misses ≤ length new.misses
    pub known : More old.known new.known

  -- the same, but for the group that the seat won last, which it left
  pub record LeavesWon (old new : SeatView G T) (most : ℕ) : Type 0 where
    pub share : new.share ≡ old.share
    pub names : new.names ≡ old.names
    pub held : new.held ≡ rest old.held
    pub turns : length new.turns ≤ length old.turns + most
    pub misses : length old.misses ≤ length new.misses
    pub known : More old.known new.known

  -- a seat left the group that it won last, and counts what it counted
  pub record Leaves (old new : SeatView G T) : Type 0 where
    pub share : new.share ≡ old.share
    pub names : new.names ≡ old.names
    pub held : new.held ≡ rest old.held
    pub turns : new.turns ≡ old.turns
    pub misses : new.misses ≡ old.misses
    pub known : More old.known new.known

  -- a seat counts the turns and the misses that it counted
  pub record CountsSame (old new : SeatView G T) : Type 0 where
    pub turns : new.turns ≡ old.turns
    pub misses : new.misses ≡ old.misses

  -- a seat counts one turn more, of the group k
  pub record CountsTurn (k : ℕ) (old new : SeatView G T) : Type 0 where
    pub turn : ℕ
    pub turns : new.turns ≡ (k, turn) ∷ old.turns
    pub misses : new.misses ≡ old.misses

  -- a seat counts one miss more, of the group k, whose word it saw
  pub record CountsMiss (k seen : ℕ) (old new : SeatView G T) : Type 0 where
    pub turns : new.turns ≡ old.turns
    pub misses : new.misses ≡ (k, seen) ∷ old.misses
