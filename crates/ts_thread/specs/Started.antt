-- What is known of the groups that were started, from their first turns to the end.
use Rattle.std.specs.Prelude.{⊤, ◌≡◌, ℕ, ◌-◌, ◌<◌, ◌≤◌, List, Bool, Some, false}
use Rattle.std.specs.Bool.{OnTrue}
use mathlib.Core.Option.{some}
use lib.ListN.{get_elem?}
use Rattle.ts_journal.specs.declared.entry.Pending.{Pending}
use Rattle.ts_journal.specs.State.{State, pending_at}
use Rattle.ts_journal.specs.Later.{IsLater}
use Rattle.ts_group.specs.declared.action.Named.{Named}
use Rattle.ts_group.specs.declared.group.Group.{Group}
use Rattle.ts_group.specs.Answers.{Holds}
use Rattle.ts_group.specs.Due.{NoNews}
use Rattle.ts_group.specs.Standing.{FollowsGroup, StandsAfter}
use Rattle.ts_queue.specs.declared.queue.QueuePass.{QueuePass}
use Rattle.ts_queue.specs.Passes.{pass_view}
use Rattle.ts_slot.specs.Lists.{IsIn}
use Rattle.ts_thread.specs.News.{HasTicket}
use Rattle.ts_thread.specs.Seats.{KnowsTurn}

-- the group k has a tag whose worlds are not only asked
abbrev pub MayStart : {T : Type 0} → (T → Bool) → List T → ℕ → Type 0
MayStart {T} only_asked tags k = (t : T) × (get_elem? tags k ≡ some t) × (only_asked t ≡ false)

-- each of the first so many groups has such a tag
abbrev pub CanStart : {T : Type 0} → (T → Bool) → List T → ℕ → Type 0
CanStart only_asked tags starts = (k : ℕ) → k < starts → MayStart only_asked tags k

-- the group k was made with so many turns, which its tag allows
abbrev pub IsFirst : {T : Type 0} → (T → Bool) → List T → ℕ → ℕ → Type 0
IsFirst {T} is_first tags k turns = (t : T) × (get_elem? tags k ≡ some t) × OnTrue (is_first t) (turns ≡ 0)

-- the event of the group k has a token that a pass put
abbrev pub HasPut : QueuePass → ℕ → Pending → Type 0
HasPut pass k p = HasTicket (record { group = k; number = p.number }) (pass_view pass).put

module _ {W Q R T U : Type 0} where
  -- A seat started the group k in a turn, after which nothing is news in it, and knows what stood then. Each
  -- event that the turn made pending has its token.
  pub record Starts (Fits : T → W → Type 0) (First : ℕ → ℕ → Type 0) (Begun : W → W → Type 0)
      (Sound : W → State → List Named → Type 0) (HasToken : ℕ → Pending → Type 0)
      (k turn : ℕ) (found started left : Group W Q R T U)
      (known : List (ℕ × ℕ × Group W Q R T U)) : Type 0 where
    pub first : First k started.cx.log.base.made
    pub stood : IsIn (k, turn - 1, found) known
    pub turned : found.cx.log.state.turns < started.cx.log.state.turns
    pub goes : FollowsGroup Fits started found
    pub begun : Begun found.world started.world
    pub sound : Holds Sound started
    pub world : left.world ≡ started.world
    pub made : left.cx.log.base.made ≡ started.cx.log.base.made
    pub later : IsLater started.cx.log.state left.cx.log.state
    pub told : NoNews left.cx.news_from left.cx.log.state
    pub tokens : (n : ℕ) (p : Pending) → pending_at n left.cx.log.state.pending ≡ Some p
        → found.cx.news_from ≤ n → HasToken k p
    pub knows : KnowsTurn k turn left known

  -- The group k follows one that was started in a turn, from one that the slot had after the group that was
  -- given.
  pub record WasStarted (Fits : T → W → Type 0) (First : ℕ → ℕ → Type 0) (Begun : W → W → Type 0)
      (Sound : W → State → List Named → Type 0)
      (k : ℕ) (given now : Group W Q R T U) : Type 0 where
    pub found : Group W Q R T U
    pub stood : StandsAfter Fits found given
    pub started : Group W Q R T U
    pub turned : found.cx.log.state.turns < started.cx.log.state.turns
    pub goes : FollowsGroup Fits started found
    pub first : First k started.cx.log.base.made
    pub begun : Begun found.world started.world
    pub sound : Holds Sound started
    pub follows : FollowsGroup Fits now started

  -- each of the first so many groups follows one that was started, which was given at its place
  abbrev pub WereStarted : (T → W → Type 0) → (ℕ → ℕ → Type 0) → (W → W → Type 0)
      → (W → State → List Named → Type 0) → ℕ → List (Group W Q R T U) → List (Group W Q R T U) → Type 0
  WereStarted Fits First Begun Sound starts given groups =
      (k : ℕ) (h g : Group W Q R T U) → k < starts → get_elem? given k ≡ some h → get_elem? groups k ≡ some g
      → WasStarted Fits First Begun Sound k h g

-- A seat started the group k in a turn that it had.
pub record Started {W T : Type 0} (Q R U : Type 0) (Fits : T → W → Type 0) (First : ℕ → ℕ → Type 0)
    (Begun : W → W → Type 0) (Sound : W → State → List Named → Type 0) (HasToken : ℕ → Pending → Type 0)
    (known : List (ℕ × ℕ × Group W Q R T U)) (k : ℕ) : Type 0 where
  pub turn : ℕ
  pub found : Group W Q R T U
  pub started : Group W Q R T U
  pub left : Group W Q R T U
  pub starts : Starts Fits First Begun Sound HasToken k turn found started left known

-- A seat roused the group k in a turn that it had: its world brought events forward. Nothing is news in it
-- then, and each event that the turn made pending has its token.
abbrev pub Roused : {W T : Type 0} (Q R U : Type 0) → (T → W → Type 0) → (ℕ → ℕ → Type 0)
    → (W → State → List Named → Type 0) → (ℕ → Pending → Type 0)
    → List (ℕ × ℕ × Group W Q R T U) → ℕ → Type 0
Roused {W} Q R U Fits First Sound HasToken known k =
    Started Q R U Fits First (λ (old new : W). ⊤) Sound HasToken known k

-- a seat started each of the first so many groups
abbrev pub AllStarted : {W T : Type 0} (Q R U : Type 0) → (T → W → Type 0) → (ℕ → ℕ → Type 0)
    → (W → W → Type 0) → (W → State → List Named → Type 0) → (ℕ → Pending → Type 0)
    → List (ℕ × ℕ × Group W Q R T U) → ℕ → Type 0
AllStarted Q R U Fits First Begun Sound HasToken known starts =
    (k : ℕ) → k < starts → Started Q R U Fits First Begun Sound HasToken known k
