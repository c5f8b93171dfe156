-- How a handler that has ended is taken out of its place, and why one was not.
use Rattle.std.specs.Prelude.{◌≡◌, ◌⊎◌, ℕ, ◌<◌, All, List, Bool, true, false, get_or, length}
use mathlib.Core.Option.{some}
use lib.ListN.{get_elem?}
use Rattle.ts_journal.specs.State.{State}
use Rattle.ts_journal.specs.declared.slotted.Slotted.{Ghosts}
use Rattle.ts_group.specs.declared.action.Named.{Named}
use Rattle.ts_group.specs.declared.either.Either.{Either}
use Rattle.ts_group.specs.declared.either.Either.TheVariants.{One, Other}
use Rattle.ts_group.specs.declared.group.Group.{Group}
use Rattle.ts_group.specs.Standing.{StandsAfter}
use Rattle.ts_journal.specs.Machine.{HasLived}
use Rattle.ts_slot.specs.Views.{IsAfter}
use Rattle.ts_slot.specs.declared.seat.Turn.{Turn}
use Rattle.ts_slot.specs.declared.view.SeatView.{SeatView}
use Rattle.ts_slot.specs.Lists.{Each}
use Rattle.ts_thread.specs.Entering.{Finds, FindsHeld, KeepsOnceLeft}
use Rattle.ts_thread.specs.Seats.{KnowsTurn}
use Rattle.ts_serve.specs.Leftover.{IsIdleOrWaits, waits_in}
use Rattle.ts_serve.specs.Stepping.{ComesTo}
use Rattle.ts_serve.specs.Tenants.{HoldsEnded, HoldsRunning}
use Rattle.ts_serve.specs.declared.acceptor.TheConstants.{PLACES}
use Rattle.ts_serve.specs.declared.connection.Connection.{Connection}
use Rattle.ts_serve.specs.declared.connection.Connection.TheVariants.{Accepted, Free}
use Rattle.ts_serve.specs.declared.place.Place.{Place}
use Rattle.ts_serve.specs.declared.place.Place.TheVariants.{Empty, Tenant}
use Rattle.ts_serve.specs.declared.whose.Whose.{Whose}

module _ {W P Q R T U : Type 0} (Sound : W → State → List Named → Type 0) (whose_of : W → Whose)
    (is_ended : W → Bool) where
  -- in the group, which was made with so many turns, lives this handler, which has ended
  abbrev pub HasEndedAt : Whose → ℕ → Group (Either (Place W) P) Q R T U → Type 0
  HasEndedAt whose made g =
      HoldsEnded Sound whose_of is_ended whose g.world × (g.cx.log.base.made ≡ made)

  -- The seat won the group k last, as it was found, and this handler has ended there. What was found has
  -- lived, and goes on from what the seat knew of that group.
  pub record EntersEnded (Fits : T → Either (Place W) P → Type 0)
      {d : Ghosts (Group (Either (Place W) P) Q R T U) T (Group (Either (Place W) P) Q R T U)} (tags : List T)
      (whose : Whose) (made k : ℕ) (old new : SeatView T (Group (Either (Place W) P) Q R T U))
      (turn : Turn (Group (Either (Place W) P) Q R T U) T (Group (Either (Place W) P) Q R T U) d)
      : Type 0 where
    pub group : turn.group ≡ k
    pub finds : Finds tags new turn
    pub ended : HasEndedAt whose made turn.boxed.value
    pub keeps : KeepsOnceLeft old new
    pub again : IsAfter (StandsAfter Fits) k turn.number turn.boxed.value old.known
    pub lived : HasLived turn.boxed.value.cx.log.base.made turn.boxed.value.cx.log.state

-- memory lacked in whoever lives in a place; in an empty place nobody lives, nor beside the places
abbrev pub lacks_in : {W P : Type 0} → (W → Bool) → Either (Place W) P → Bool
lacks_in is_lacking (One Empty) = false
lacks_in is_lacking (One (Tenant w)) = is_lacking w
lacks_in is_lacking (Other p) = false

-- Memory lacked in whoever lives in the group k, as a seat found it in a turn after all that it knew of it,
-- and left it.
pub record FindsLacking {W P Q R T U G : Type 0} (is_lacking : W → Bool) (k : ℕ)
    (old new : SeatView G (Group (Either (Place W) P) Q R T U)) : Type 0 where
  pub turn : ℕ
  pub later : Each (λ e. e.0 ≡ k → e.1 < turn) old.known
  pub found : Group (Either (Place W) P) Q R T U
  pub lacks : lacks_in is_lacking found.world ≡ true
  pub knows : KnowsTurn k turn found new.known

module _ {W P Q R T U : Type 0} (Sound : W → State → List Named → Type 0) (whose_of : W → Whose)
    (is_ended is_lacking : W → Bool) where
  -- This handler has not ended in the group k that was found in this turn, and memory did not lack in whoever
  -- lives there. The seat knows the group to be left as it was.
  pub record StaysIn (whose : Whose) (made k turn : ℕ) (found : Group (Either (Place W) P) Q R T U)
      (known : List (ℕ × ℕ × Group (Either (Place W) P) Q R T U)) : Type 0 where
    pub lives_on : HasEndedAt Sound whose_of is_ended whose made found → ⊥
    pub lacks_not : lacks_in is_lacking found.world ≡ false
    pub knows : KnowsTurn k turn found known

  -- in a turn after all that the seat knew of the group k this handler had not ended there, nor lacked memory
  pub record LivesOn {G : Type 0} (whose : Whose) (made k : ℕ)
      (old new : SeatView G (Group (Either (Place W) P) Q R T U)) : Type 0 where
    pub turn : ℕ
    pub later : Each (λ e. e.0 ≡ k → e.1 < turn) old.known
    pub found : Group (Either (Place W) P) Q R T U
    pub stays : StaysIn whose made k turn found new.known

  -- why nobody was taken out of the group k: another seat held it, or the handler had not ended and did not
  -- lack memory
  abbrev pub IsLeftThere : {G : Type 0} → Whose → ℕ → ℕ → SeatView G (Group (Either (Place W) P) Q R T U)
      → SeatView G (Group (Either (Place W) P) Q R T U) → Type 0
  IsLeftThere whose made k old new = FindsHeld k old new ⊎ LivesOn whose made k old new

  -- whoever is in the row for the place k as started goes out of the row or moves on, or is left there for a
  -- cause
  abbrev pub IsLookedAt : {G : Type 0} → ℕ → List Connection → List Connection
      → SeatView G (Group (Either (Place W) P) Q R T U)
      → SeatView G (Group (Either (Place W) P) Q R T U) → Type 0
  IsLookedAt k row row' old new =
      (whose : Whose) (made : ℕ) → get_or row k Free ≡ Accepted whose true made
      → ComesTo whose_of k whose row row' new.known ⊎ IsLeftThere whose made k old new

-- In a place lives this handler, which may wait for its client without end.
pub record HoldsWaiting {W P : Type 0} (whose_of : W → Whose) (may_wait : W → Bool) (whose : Whose)
    (world : Either (Place W) P) : Type 0 where
  pub handler : W
  pub lives : world ≡ One (Tenant handler)
  pub waits : may_wait handler ≡ true
  pub whose_is : whose_of handler ≡ whose

-- the same in the group, which was made with so many turns
abbrev pub HasWaitedAt : {W P Q R T U : Type 0} → (W → Whose) → (W → Bool) → Whose → ℕ
    → Group (Either (Place W) P) Q R T U → Type 0
HasWaitedAt whose_of may_wait whose made g =
    HoldsWaiting whose_of may_wait whose g.world × (g.cx.log.base.made ≡ made)

-- This handler may be handed over as it stands: it has ended, or may wait for its client without end.
abbrev pub MayHandOver : {W P : Type 0} → (W → State → List Named → Type 0) → (W → Whose) → (W → Bool)
    → (W → Bool) → Whose → Either (Place W) P → Type 0
MayHandOver Sound whose_of is_ended may_wait whose world =
    HoldsEnded Sound whose_of is_ended whose world ⊎ HoldsWaiting whose_of may_wait whose world

-- the same in the group, which was made with so many turns
abbrev pub MayHandOverAt : {W P Q R T U : Type 0} → (W → State → List Named → Type 0) → (W → Whose)
    → (W → Bool) → (W → Bool) → Whose → ℕ → Group (Either (Place W) P) Q R T U → Type 0
MayHandOverAt Sound whose_of is_ended may_wait whose made g =
    HasEndedAt Sound whose_of is_ended whose made g ⊎ HasWaitedAt whose_of may_wait whose made g

module _ {W P Q R T U : Type 0} (whose_of : W → Whose) (is_ended may_wait : W → Bool) where
  -- its handler lives in this group, has not ended, and may not wait for its client without end
  abbrev pub StillRuns : Whose → Group (Either (Place W) P) Q R T U → Type 0
  StillRuns whose g = HoldsRunning whose_of is_ended whose g.world × (waits_in may_wait g.world ≡ false)

  -- whoever is in the row for the place k goes out of the row, or its handler runs still in this group
  abbrev pub IsCleared : ℕ → Group (Either (Place W) P) Q R T U → List Connection → List Connection → Type 0
  IsCleared k g row row' =
      (whose : Whose) (started : Bool) (made : ℕ) → get_or row k Free ≡ Accepted whose started made
      → (get_or row' k Free ≡ Free) ⊎ StillRuns whose g

  -- the same of each place and its group, which stand in their order
  abbrev pub AreCleared : List (Group (Either (Place W) P) Q R T U) → List Connection → List Connection
      → Type 0
  AreCleared groups row row' =
      (k : ℕ) (g : Group (Either (Place W) P) Q R T U) → k < PLACES → get_elem? groups k ≡ some g
      → IsCleared k g row row'

  -- A server of these tags was closed: once nothing was pending, but where handlers may wait for their
  -- clients, these were its groups, one for each tag, and its places are cleared.
  pub record IsClosedOver {G : Type 0} (tags : List G) (groups : List (Group (Either (Place W) P) Q R T U))
      (row row' : List Connection) : Type 0 where
    pub count : length groups ≡ length tags
    pub idle : All (IsIdleOrWaits may_wait) groups
    pub cleared : AreCleared groups row row'
