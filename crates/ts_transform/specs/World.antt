-- What holds of a chain with its body, as a world of a group.
use Rattle.std.specs.Prelude.{◌≡◌, ℕ, ◌+◌, ◌*◌, ◌<◌, ◌≤◌, List, [], length, Bool, true, Option, Some}
use Rattle.ts_journal.specs.declared.entry.Pending.{Pending}
use Rattle.ts_group.specs.declared.action.Named.{Named}
use Rattle.ts_group.specs.declared.action.SetFault.{SetFault}
use Rattle.ts_group.specs.declared.group.Group.{Group}
use Rattle.ts_group.specs.declared.world.TheConstants.{MOST_SET}
use Rattle.ts_group.specs.Context.{AllPlain, Context, IsSame}
use Rattle.ts_group.specs.Entries.{Grows}
use Rattle.ts_transform.specs.Stage.{MOST_WAITING}
use Rattle.ts_transform.specs.Flow.{ChainState, PumpsOnce, client_wait, flow, last_ended, left_to_do, pause_at}
use Rattle.ts_transform.specs.Driving.{HasLiveIf, IsCause, IsRoused, IsWorkOf, SetsOnly, all_unroused, upstream_calls, last_of}
use Rattle.ts_transform.specs.Cover.{IsDriven}
use Rattle.ts_transform.specs.Acting.{step_weight}
use Rattle.ts_transform.specs.declared.continuation.StageContinuation.{StageContinuation}
use Rattle.ts_transform.specs.declared.world.ChainWorld.{ChainWorld}
use Rattle.ts_transform.specs.declared.world.TheConstants.{FIRST}

-- What holds of a world of one chain: its body was given whole, no event is periodic, and once it runs, while
-- nothing was lost, each stage that must work has an event.
pub record IsCovered {P : Type 0} (c : ChainState P) (ts : List (Option StageContinuation)) (running : Bool)
    (pending : List Pending) (roles : List Named) : Type 0 where
  pub given : c.given ≡ true
  pub plain : AllPlain pending
  pub driven : running ≡ true → IsDriven FIRST c ts pending roles

-- what holds of such a world with these pending events and roles
abbrev pub IsSound : {P : Type 0} → ChainWorld P → List Pending → List Named → Type 0
IsSound w pending roles = IsCovered w.driven.chain w.driven.table.items w.driven.running pending roles

-- what holds of its group
abbrev pub IsSoundGroup : {P Q R T U : Type 0} → Group (ChainWorld P) Q R T U → Type 0
IsSoundGroup g = IsSound g.world g.cx.log.state.pending g.cx.roles

-- What the tag of such a world tells: what its chain still gives, and that its start sets few enough events,
-- since it has no more stages.
pub record FitsBody {P : Type 0} (rest : P → List ℕ → List ℕ) (body : List ℕ) (w : ChainWorld P) : Type
    0 where
  pub flow : flow rest w.driven.chain [] ≡ body
  pub few : length w.driven.chain.stages ≤ MOST_SET

-- The body goes on through the chain: at most one of its stages worked, what still comes out stays, and what
-- is left to do pays for each event that is set.
pub record GoesOnWith {P : Type 0} (rest : P → List ℕ → List ℕ) (v w : ChainWorld P)
    (a b : Context) : Type 0 where
  pub once : PumpsOnce rest v.driven.chain w.driven.chain
  pub len : length w.driven.chain.stages ≡ length v.driven.chain.stages
  pub flow : flow rest w.driven.chain [] ≡ flow rest v.driven.chain []
  pub pays : step_weight * (left_to_do rest w.driven.chain [] + upstream_calls w.driven.table.items) + length
      b.log.state.pending
      ≤ step_weight * (left_to_do rest v.driven.chain [] + upstream_calls v.driven.table.items) + length
      a.log.state.pending

-- A wake leaves the chain and the turn; of the continuations only who is roused may change.
pub record WakeKeeps {P : Type 0} (v w : ChainWorld P) (a b : Context) : Type 0 where
  pub grows : Grows a b
  pub turn : b.log.state.held ≡ true
  pub turns : b.log.state.turns ≡ a.log.state.turns
  pub chain : w.driven.chain ≡ v.driven.chain
  pub same : all_unroused w.driven.table.items ≡ all_unroused v.driven.table.items
  pub errors : upstream_calls w.driven.table.items ≡ upstream_calls v.driven.table.items

-- At most one event is set: one of the last stage, at which that works, due after its pause; and none where
-- fewer than so many bytes wait for the client, or the last stage has ended or was roused.
pub record Wakes {P : Type 0} (pause : P → ℕ) (c : ChainState P) (ts : List (Option StageContinuation))
    (a b : Context) : Type 0 where
  pub few : length b.log.state.pending ≤ length a.log.state.pending + 1
  pub full : length b.log.state.pending ≤ length a.log.state.pending + length (client_wait c)
  pub idle : length (client_wait c) < MOST_WAITING → IsSame a b
  pub ended : last_ended true c.stages ≡ true → IsSame a b
  pub roused : (j : ℕ) → j + 1 ≡ length ts → IsRoused ts j → IsSame a b
  pub only : (at : ℕ) → at + 1 ≡ length c.stages → (t : StageContinuation) → last_of ts ≡ Some t
      → SetsOnly (IsWorkOf t.key (pause_at pause c.stages at) a.moment) a b

-- Where it refuses no event was set: the last stage has no live continuation, or there is another cause.
abbrev pub IsWakeCause : SetFault → List (Option StageContinuation) → Context → Context → Type 0
IsWakeCause fault ts a b = IsSame a b × IsCause (HasLiveIf a.log.state.live (last_of ts)) fault b
