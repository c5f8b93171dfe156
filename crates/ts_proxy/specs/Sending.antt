-- How far a text got into a sink, and a body through a chain.
use Rattle.std.specs.Prelude.{◌≡◌, ℕ, ◌+◌, ◌*◌, ◌<◌, ◌≤◌, ◌++◌, List, [], ◌∷◌, length, Bool, true, false, Some, ⊤, nat_lt, if◌then◌else◌}
use Rattle.ts_link.specs.Counts.{Counted}
use Rattle.ts_link.specs.Seen.{SinkSeen}
use Rattle.ts_journal.specs.State.{State, pending_at}
use Rattle.ts_journal.specs.Log.{Log}
use Rattle.ts_journal.specs.declared.entry.Pending.{Pending}
use Rattle.ts_group.specs.Context.{AllPlain}
use Rattle.ts_group.specs.declared.action.Named.{Named}
use Rattle.ts_group.specs.declared.group.Group.{Group}
use Rattle.ts_transform.specs.declared.world.ChainWorld.{ChainWorld}
use Rattle.ts_transform.specs.Flow.{client_wait, flow, left_to_do}
use Rattle.ts_transform.specs.Driving.{upstream_calls}
use Rattle.ts_transform.specs.Acting.{step_weight}
use Rattle.ts_transform.specs.Cover.{IsAwake}
use Rattle.ts_transform.specs.World.{IsSound, IsSoundGroup}
use Rattle.ts_proxy.specs.declared.writing.SendEnd.{SendEnd}
use Rattle.ts_proxy.specs.declared.writing.SendEnd.TheVariants.{Done, Failed, NoMemory}
use Rattle.ts_proxy.specs.Journals.{IsOfDriver}
use Rattle.ts_proxy.specs.Took.{TookAll, TookBut, TookFront}

-- the sink failed
abbrev pub is_failed : SendEnd → Bool
is_failed Failed = true
is_failed _ = false

-- memory lacked
abbrev pub is_no_memory : SendEnd → Bool
is_no_memory NoMemory = true
is_no_memory _ = false

-- what holds where all was done
abbrev pub OnDone : SendEnd → Type 0 → Type 0
OnDone Done P = P
OnDone _ P = ⊤

-- all of the text was taken, or a front of it
abbrev pub WroteAll : SendEnd → SinkSeen → SinkSeen → List ℕ → Type 0
WroteAll Done old new text = TookAll old new text
WroteAll _ old new text = TookFront old new text

-- what a sink says of a text that was written into it: it took all of it or a front, and a failure was one of
-- its own
pub record IsSent (end : SendEnd) (tells : Bool) (old new : SinkSeen) (text : List ℕ) : Type 0 where
  pub told : tells ≡ true → WroteAll end old new text
  pub faults : Counted (is_failed end) old.faults new.faults

-- of lines that waited some may have been taken, and the others wait; or the end came, and a front of them
-- was taken
abbrev pub WroteSome : SendEnd → SinkSeen → SinkSeen → List ℕ → List ℕ → Type 0
WroteSome Done old new lines waiting = TookBut old new lines waiting
WroteSome _ old new lines waiting = TookFront old new lines

-- what was taken grew, and that with what is still to come is what was to come
pub record Passes (old new : SinkSeen) (coming coming' : List ℕ) : Type 0 where
  pub took : List ℕ
  pub grew : new.taken ≡ old.taken ++ took
  pub front : coming ≡ took ++ coming'

-- what a world of a chain still gives
abbrev pub to_come : {P : Type 0} → (P → List ℕ → List ℕ) → ChainWorld P → List ℕ
to_come rest w = flow rest w.driven.chain []

-- what waits for the client of a world of a chain
abbrev pub for_client : {P : Type 0} → ChainWorld P → List ℕ
for_client w = client_wait w.driven.chain

-- what a world of a chain has left to do, but for its pending events
abbrev pub left_of : {P : Type 0} → (P → List ℕ → List ℕ) → ChainWorld P → ℕ
left_of rest w = step_weight * (left_to_do rest w.driven.chain [] + upstream_calls w.driven.table.items)

-- what is left to do in the group of a world of a chain
abbrev pub left_in : {P Q R T U : Type 0} → (P → List ℕ → List ℕ) → Group (ChainWorld P) Q R T U → ℕ
left_in rest g = left_of rest g.world + length g.cx.log.state.pending

-- less is left to do in the group of a world of a chain, where what waits for the client counts as one event
abbrev pub HasLessLeft : {P Q R T U : Type 0} → (P → List ℕ → List ℕ) → Group (ChainWorld P) Q R T U
    → Group (ChainWorld P) Q R T U → Type 0
HasLessLeft rest old new =
    left_in rest new < left_in rest old + (if nat_lt 0 (length (for_client new.world)) then 1 else 0)

-- while a world of a chain runs, its last stage is roused where it is full, so that it goes on once its
-- client has taken bytes
abbrev pub IsWoken : {P : Type 0} → ChainWorld P → Type 0
IsWoken w = w.driven.running ≡ true → IsAwake w.driven.chain w.driven.table.items

-- a world of a chain is sound in any group that has no periodic event, as before it was started
abbrev pub IsSoundAlone : {P : Type 0} → ChainWorld P → Type 0
IsSoundAlone w = (pending : List Pending) → (roles : List Named) → AllPlain pending → IsSound w pending roles

-- a world that is sound stays so, if its last stage was woken where that was needed, and needs no waking then
pub record StaysSound {P : Type 0} (v w : ChainWorld P) : Type 0 where
  pub sound : (pending : List Pending) (roles : List Named) → IsWoken v → IsSound v pending roles
      → IsSound w pending roles
  pub awake : IsWoken v → IsWoken w

-- the world of a group is sound, and stays so while its client takes bytes
pub record IsReadyForClient {P Q R T U : Type 0} (g : Group (ChainWorld P) Q R T U) : Type 0 where
  pub sound : IsSoundGroup g
  pub awake : IsWoken g.world

-- between two turns: none is held, the world is sound, and nothing waits for its client
pub record IsBetweenTurns {P Q R T U : Type 0} (g : Group (ChainWorld P) Q R T U) : Type 0 where
  pub idle : g.cx.log.state.held ≡ false
  pub sound : IsSoundGroup g
  pub dry : for_client g.world ≡ []

-- the event of a number is pending, and due at a moment
pub record IsDue (s : State) (number moment : ℕ) : Type 0 where
  pub event : Pending
  pub there : pending_at number s.pending ≡ Some event
  pub due : event.due ≤ moment

-- where all was done the journal of its driver was added, and else none
abbrev pub AddsJournal : SendEnd → List Log → List Log → Type 0
AddsJournal Done old new = (j : Log) × (new ≡ old ++ j ∷ []) × IsOfDriver j
AddsJournal _ old new = new ≡ old
