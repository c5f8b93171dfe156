-- What holds of a driven chain, and how it is lost.
use Rattle.std.specs.Prelude.{◌≡◌, ℕ, ◌+◌, ◌≤◌, ◌⊎◌, List, length, true, false, Option, Some, None, Result, Ok, Err, ⊤}
use Rattle.ts_journal.specs.declared.entry.ContKey.{ContKey}
use Rattle.ts_journal.specs.declared.entry.Event.{Event}
use Rattle.ts_journal.specs.declared.entry.Pending.{Pending}
use Rattle.ts_group.specs.declared.action.Named.{Named}
use Rattle.ts_group.specs.declared.action.SetFault.{SetFault}
use Rattle.ts_group.specs.declared.action.SetFault.TheVariants as F
use Rattle.ts_group.specs.Context.{Context}
use Rattle.ts_transform.specs.Stage.{MOST_WAITING}
use Rattle.ts_transform.specs.Flow.{ChainState, IsGiven, client_wait, last_ended}
use Rattle.ts_transform.specs.Driving.{HasEventIf, IsCause, IsHandled, IsRoused, Keeps, KeepsOthers, all_unroused, unroused_at}
use Rattle.ts_transform.specs.Cover.{AreAllLive, IsDriven}
use Rattle.ts_transform.specs.Acting.{ActsAt, IsStage, KeepsLive}
use Rattle.ts_transform.specs.Seats.{KeepsSeated}
use Rattle.ts_transform.specs.declared.driven.DrivenChain.{DrivenChain}
use Rattle.ts_transform.specs.declared.loss.Loss.{Loss}
use Rattle.ts_transform.specs.declared.world.TheConstants.{FIRST}
use Rattle.ts_transform.specs.Loss.{IsCauseOf, loss_of}

-- while no event of it was lost, it is driven
abbrev pub IsDrivenWhile : {P : Type 0} → ℕ → DrivenChain P → List Pending → List Named → Type 0
IsDrivenWhile first d pending roles = d.running ≡ true → IsDriven first d.chain d.table.items pending roles

-- it stays so, whatever role is the first
abbrev pub StaysDriven : {P : Type 0} → DrivenChain P → DrivenChain P → Context → Context → Type 0
StaysDriven d e a b = (first : ℕ) → IsDrivenWhile first d a.log.state.pending a.roles
    → IsDrivenWhile first e b.log.state.pending b.roles

-- it stays so where an event of a role is handled
abbrev pub HandlesDriven : {P : Type 0} → ℕ → ℕ → Event → DrivenChain P → DrivenChain P → Context → Context
    → Type 0
HandlesDriven first role event d e a b = (before : List Pending)
    → IsHandled before a.log.state.pending a.roles role event
    → IsDrivenWhile first d before a.roles → IsDrivenWhile first e b.log.state.pending b.roles

-- what the handler of one of its stages does
abbrev pub Acts : {P : Type 0} → (P → List ℕ → List ℕ) → (P → ℕ) → ℕ → Event → DrivenChain P → DrivenChain P
    → Context → Context → Type 0
Acts rest pause at event d e a b = ActsAt rest pause at event d.chain e.chain d.table.items
    (unroused_at event d.table.items at) e.table.items d.running e.running a b

-- the role is that of none of its stages
abbrev pub IsOfNoStage : {P : Type 0} → ℕ → ℕ → DrivenChain P → Type 0
IsOfNoStage first role d = (at : ℕ) → role ≡ first + at → IsStage d.chain d.table.items at → ⊥

-- the continuations of its stages are live
abbrev pub HasAllLive : {P : Type 0} → DrivenChain P → Context → Type 0
HasAllLive d now = AreAllLive d.chain d.table.items now

-- it is lost exactly where an event could not be set, and tells why: of a dead continuation only where one
-- was found dead
abbrev pub Loses : {P T : Type 0} → Result T SetFault → DrivenChain P → DrivenChain P → Context → Context
    → Type 0
Loses (Ok x) d e a b = (e.running ≡ d.running) × (e.lost ≡ d.lost)
Loses (Err fault) d e a b = (e.running ≡ false) × (e.lost ≡ Some (loss_of fault)) × IsCause (HasAllLive d a)
    fault b

-- it goes on as it did, or is lost for a cause, where continuations ought to be live
abbrev pub MayLose : {P : Type 0} → Type 0 → DrivenChain P → DrivenChain P → Context → Type 0
MayLose Live d e now =
    ((e.running ≡ d.running) × (e.lost ≡ d.lost))
    ⊎ ((fault : SetFault) × (e.running ≡ false) × (e.lost ≡ Some (loss_of fault)) × IsCause Live fault now)

-- it runs from now on, and its continuations are live; or it is lost for a cause, but for no dead
-- continuation, since each was just made
abbrev pub HasBegun : {P : Type 0} → DrivenChain P → Context → Type 0
HasBegun d now =
    ((d.running ≡ true) × (d.lost ≡ None) × HasAllLive d now)
    ⊎ ((loss : Loss) × (d.running ≡ false) × (d.lost ≡ Some loss) × IsCauseOf ⊤ loss now)

-- What a handler leaves of those who were not called: continuations of other roles keep their events, whoever
-- was live stays so while the chain goes on, and whatever is set is of a stage's continuation.
pub record KeepsRest {P : Type 0} (first : ℕ) (d e : DrivenChain P) (a b : Context) : Type 0 where
  pub others : KeepsOthers first d.table.items a b
  pub live : KeepsLive d.chain e.chain d.table.items e.table.items a b
  pub seated : KeepsSeated d.table.items e.table.items a b

-- it is driven, where another chain was in its place before
abbrev pub DrivenAgain : {P : Type 0} → ℕ → ChainState P → DrivenChain P → DrivenChain P → Context → Context
    → Type 0
DrivenAgain first c d e a b = (d.running ≡ true → IsDriven first c d.table.items a.log.state.pending a.roles)
    → IsDrivenWhile first e b.log.state.pending b.roles

-- bytes came to the chain, or memory lacked for them
abbrev pub Gives : {P T : Type 0} → Result T SetFault → (P → List ℕ → List ℕ) → List ℕ → ChainState P
    → ChainState P → Type 0
Gives (Ok x) rest bytes c d = IsGiven rest bytes c d
Gives (Err fault) rest bytes c d = IsGiven rest bytes c d ⊎ ((fault ≡ F.NoMemory) × (d ≡ c))

-- of the continuations and of what was lost nothing changed
pub record SameCourse {P : Type 0} (d e : DrivenChain P) : Type 0 where
  pub table : e.table.items ≡ d.table.items
  pub running : e.running ≡ d.running
  pub lost : e.lost ≡ d.lost

-- The chain is as it was; and where it had not begun, it runs from then on, or tells why it was lost.
pub record HasBegunFrom {P : Type 0} (d e : DrivenChain P) : Type 0 where
  pub chain : e.chain ≡ d.chain
  pub begun : length d.table.items ≡ 0 → (e.running ≡ true) ⊎ ((loss : Loss) × (e.lost ≡ Some loss))

-- The same continuations are there, but for who of them is roused, and whatever was set is of one of them.
pub record SameSeats {P : Type 0} (d e : DrivenChain P) (a b : Context) : Type 0 where
  pub same : all_unroused e.table.items ≡ all_unroused d.table.items
  pub seated : KeepsSeated d.table.items e.table.items a b

-- the last stage may be woken: it has not ended, so many bytes wait after it, and it was not roused
pub record MayWake {P : Type 0} (d : DrivenChain P) : Type 0 where
  pub goes : last_ended true d.chain.stages ≡ false
  pub full : MOST_WAITING ≤ length (client_wait d.chain)
  pub rests : (j : ℕ) → j + 1 ≡ length d.table.items → IsRoused d.table.items j → ⊥

-- its last stage was marked as roused, for which an event of this key has then to be set, if there is a key
abbrev pub IsMarkedFor : {P : Type 0} → Option ContKey → DrivenChain P → DrivenChain P → Type 0
IsMarkedFor key d e = (a b : Context) → Keeps a b → HasEventIf b.log.state.pending key
    → IsDriven FIRST d.chain d.table.items a.log.state.pending a.roles
    → IsDriven FIRST e.chain e.table.items b.log.state.pending b.roles

-- it goes on as it did where a stage was marked, and else it is lost
abbrev pub MarkLoses : {P T : Type 0} → Result T SetFault → DrivenChain P → DrivenChain P → Type 0
MarkLoses (Ok x) d e = (e.running ≡ d.running) × (e.lost ≡ d.lost)
MarkLoses (Err fault) d e = (e.running ≡ false) × (e.lost ≡ Some (loss_of fault))
