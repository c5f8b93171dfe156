-- What a turn makes of a group, from when a seat found it until it leaves it.
use Rattle.std.specs.Prelude.{◌≡◌, ℕ, ◌+◌, ◌*◌, ◌≤◌, ◌⊎◌, List, [], ◌∷◌, ◌++◌, Bool, true, false, if◌then◌else◌, Option, Result}
use Rattle.std.specs.Bool.{OnTrue}
use mathlib.Core.Option.{some}
use lib.ListN.{get_elem?}
use Rattle.std.specs.List.{Contains}
use Rattle.ts_link.specs.declared.octets.NoMemory.{NoMemory}
use Rattle.ts_journal.specs.State.{State}
use Rattle.ts_journal.specs.Later.{IsLater}
use Rattle.ts_group.specs.declared.action.Named.{Named}
use Rattle.ts_group.specs.declared.group.Group.{Group}
use Rattle.ts_group.specs.declared.slot.TheConstants.{MOST_IN_TURN}
use Rattle.ts_group.specs.declared.world.TheConstants.{MOST_SET}
use Rattle.ts_group.specs.declared.world.Asked.{Asked}
use Rattle.ts_group.specs.Answers.{Holds, KeepsTags, SetsAtMost}
use Rattle.ts_group.specs.Changes.{StaysInTurn, SameEvents}
use Rattle.ts_group.specs.Slot.{marks_in}
use Rattle.ts_slot.specs.declared.view.SeatView.{SeatView}
use Rattle.ts_thread.specs.declared.did.Did.{Did}
use Rattle.ts_thread.specs.Heard.{RunsHandlers}
use Rattle.ts_thread.specs.Tags.{GroupFits}

-- few events were set for the turns, as it must be where a group stands free
abbrev pub HasFew : Bool → State → Type 0
HasFew only_asked s =
    (s.next ≤ (if only_asked then s.turns + 1 else MOST_IN_TURN * s.turns + 1))
    × OnTrue only_asked (s.pending ≡ [])

module _ {W Q R T U : Type 0} where
  -- A seat has a turn of a group, which it found as the one and which is the other now.
  pub record HasTurn (Fits : T → W → Type 0) (found now : Group W Q R T U) (turn seat : ℕ) : Type 0 where
    pub held : now.cx.log.state.held ≡ true
    pub number : now.cx.log.state.turns ≡ turn
    pub marks : marks_in now.cx.log ≡ marks_in found.cx.log ++ (turn, seat) ∷ []
    pub later : IsLater found.cx.log.state now.cx.log.state
    pub made : now.cx.log.base.made ≡ found.cx.log.base.made
    pub news_from : now.cx.news_from ≡ found.cx.news_from
    pub tags : KeepsTags Fits found.world now.world

  -- A group that a seat found and leaves: it holds no turn, and records none but this one of the seat beside
  -- those that it recorded.
  pub record IsGivenBack (Fits : T → W → Type 0) (found left : Group W Q R T U) (turn seat : ℕ) : Type 0 where
    pub free : left.cx.log.state.held ≡ false
    pub stamp : (left.cx.log.state.turns ≡ found.cx.log.state.turns) ⊎ (left.cx.log.state.turns ≡ turn)
    pub marks : (mark : ℕ × ℕ) → Contains (marks_in left.cx.log) mark
        → Contains (marks_in found.cx.log) mark ⊎ (mark ≡ (turn, seat))
    pub later : IsLater found.cx.log.state left.cx.log.state
    pub made : left.cx.log.base.made ≡ found.cx.log.base.made
    pub rose : found.cx.news_from ≤ left.cx.news_from
    pub tags : KeepsTags Fits found.world left.world

  -- a group goes on in the turn that it has
  pub record GoesInTurn (Fits : T → W → Type 0) (old new : Group W Q R T U) : Type 0 where
    pub turn : StaysInTurn old.cx.log.state new.cx.log.state
    pub marks : marks_in new.cx.log ≡ marks_in old.cx.log
    pub later : IsLater old.cx.log.state new.cx.log.state
    pub made : new.cx.log.base.made ≡ old.cx.log.base.made
    pub news_from : new.cx.news_from ≡ old.cx.news_from
    pub tags : KeepsTags Fits old.world new.world

  -- few events are set where the world fits a tag, and none where none was pending
  pub record SetsFewInTurn (Fits : T → W → Type 0) (old new : Group W Q R T U) : Type 0 where
    pub few : SetsAtMost Fits old.world MOST_IN_TURN old.cx new.cx
    pub nothing : old.cx.log.state.pending ≡ [] → SameEvents old.cx.log.state new.cx.log.state

  -- the group is as it was, but for a turn that was taken or not
  pub record BeginsSame (old new : Group W Q R T U) : Type 0 where
    pub world : new.world ≡ old.world
    pub pending : new.cx.log.state.pending ≡ old.cx.log.state.pending
    pub next : new.cx.log.state.next ≡ old.cx.log.state.next
    pub handled : new.cx.log.state.handled_count ≡ old.cx.log.state.handled_count
    pub roles : new.cx.roles ≡ old.cx.roles

  -- the turn was given back, and all else is as it was
  pub record GivesBack (old new : Group W Q R T U) : Type 0 where
    pub free : new.cx.log.state.held ≡ false
    pub number : new.cx.log.state.turns ≡ old.cx.log.state.turns
    pub marks : (mark : ℕ × ℕ) → Contains (marks_in new.cx.log) mark → Contains (marks_in old.cx.log) mark
    pub later : IsLater old.cx.log.state new.cx.log.state
    pub made : new.cx.log.base.made ≡ old.cx.log.base.made
    pub news_from : new.cx.news_from ≡ old.cx.news_from
    pub same : BeginsSame old new

  -- The group was left as it was, but for its news and for its turn, which was given back.
  pub record LeftAs (now left : Group W Q R T U) : Type 0 where
    pub world : left.world ≡ now.world
    pub pending : left.cx.log.state.pending ≡ now.cx.log.state.pending
    pub handled : left.cx.log.state.handled_count ≡ now.cx.log.state.handled_count
    pub later : IsLater now.cx.log.state left.cx.log.state
    pub made : left.cx.log.base.made ≡ now.cx.log.base.made

  -- The world set its first events in the turn, which are few where it fits a tag.
  pub record StartsInTurn (Fits : T → W → Type 0) (Sound : W → State → List Named → Type 0)
      (Begun : W → W → Type 0)
      (old new : Group W Q R T U) : Type 0 where
    pub goes : GoesInTurn Fits old new
    pub sound : Holds Sound new
    pub begun : Begun old.world new.world
    pub few : SetsAtMost Fits old.world MOST_SET old.cx new.cx

  -- what a handler's work leaves of its group, and which handlers that were
  pub record IsWorked {G S : Type 0} (Sound : W → State → List Named → Type 0)
      (Fits : T → W → Type 0) (Asking : W → State → List Named → ℕ → ℕ → Q → Type 0)
      (Answers : W → Q → R → Type 0) (Called : W → W → List ℕ → Type 0) (Heard : W → W → Asked Q R → Type 0)
      (Left : W → State → Option ℕ) (tags : List T)
      (number moment : ℕ) (old new : Group W Q R T U) (before after : SeatView G S)
      (result : Result Did NoMemory) : Type 0 where
    pub goes : GoesInTurn Fits old new
    pub sound : Holds Sound new
    pub few : SetsFewInTurn Fits old new
    pub ran : RunsHandlers Fits Asking Answers Called Heard Left tags number moment
        old new before after result

  -- the group has a turn, its world is sound, and fits the tag of the group k
  abbrev pub CanWork : (T → W → Type 0) → (W → State → List Named → Type 0) → List T → ℕ → Group W Q R T U
      → Type 0
  CanWork Fits Sound tags k g =
      (g.cx.log.state.held ≡ true) × Holds Sound g × (t : T) × (get_elem? tags k ≡ some t) × Fits t g.world

  -- the group fits the tag of the group k
  abbrev pub FitsHere : (T → W → Type 0) → (W → State → List Named → Type 0) → (T → Bool) → (T → Bool)
      → List T → ℕ → Group W Q R T U → Type 0
  FitsHere Fits Sound only_asked is_first tags k g =
      (t : T) × (get_elem? tags k ≡ some t) × GroupFits Fits Sound only_asked is_first t g

  -- the group fits the tag of the group k once its turn is given back
  abbrev pub WillFit : (T → W → Type 0) → (W → State → List Named → Type 0) → (T → Bool) → (T → Bool)
      → List T → ℕ → Group W Q R T U → Type 0
  WillFit Fits Sound only_asked is_first tags k g =
      (t : T) × (get_elem? tags k ≡ some t) × Fits t g.world × Holds Sound g
      × HasFew (only_asked t) g.cx.log.state
      × OnTrue (is_first t) (g.cx.log.base.made ≡ 0)
