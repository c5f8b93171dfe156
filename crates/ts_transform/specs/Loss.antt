-- Why a driven chain is lost.
use Rattle.std.specs.Prelude.{ℕ, ◌<◌, ◌≤◌, ⊤}
use Rattle.ts_journal.specs.declared.entry.TheConstants.{GREATEST, MOST_KEYS}
use Rattle.ts_group.specs.declared.action.SetFault.{SetFault}
use Rattle.ts_group.specs.declared.action.SetFault.TheVariants as F
use Rattle.ts_group.specs.declared.action.MakeFault.{MakeFault}
use Rattle.ts_group.specs.declared.action.MakeFault.TheVariants as M
use Rattle.ts_group.specs.Context.{Context, CanUse}
use Rattle.ts_transform.specs.declared.loss.Loss.{Loss}
use Rattle.ts_transform.specs.declared.loss.Loss.TheVariants as L

-- the loss that follows where an event could not be set, and where a continuation could not be made
abbrev pub loss_of : SetFault → Loss
loss_of F.NoMemory = L.NoMemory
loss_of F.Dead = L.Dead
loss_of F.Spent = L.Spent

abbrev pub making_loss : MakeFault → Loss
making_loss M.NoMemory = L.NoMemory
making_loss M.TableFull = L.TableFull

-- Why it was lost: the continuations are not live that ought to be; or, in the context that was left, no
-- index can be used, or the event numbers are used up. Want of memory has no cause here.
abbrev pub IsCauseOf : Type 0 → Loss → Context → Type 0
IsCauseOf Live L.NoMemory now = ⊤
IsCauseOf Live L.TableFull now = (i : ℕ) → i < MOST_KEYS → CanUse now.log.state i → ⊥
IsCauseOf Live L.Dead now = Live → ⊥
IsCauseOf Live L.Spent now = GREATEST ≤ now.log.state.next
