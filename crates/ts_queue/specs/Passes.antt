-- What clauses say of a queue and of its passes.
use Rattle.std.specs.Prelude.{◌≡◌, ℕ, List, [], ◌∷◌, All}
use Rattle.crossbeam_queue.specs.SegTies.{IsSegPassOf}
use Rattle.ts_queue.specs.declared.TheConstants.{WHOLE_SHARE}
use Rattle.ts_queue.specs.declared.queue.EventQueue.{EventQueue}
use Rattle.ts_queue.specs.declared.queue.QueuePass.{QueuePass}
use Rattle.ts_queue.specs.declared.ticket.Ticket.{Ticket}
use Rattle.ts_queue.specs.declared.view.PassView.{PassView}
use Rattle.ts_queue.specs.Tickets.{IsInOrder, IsOnce, Exactly}
use Rattle.ts_queue.specs.Views.{taking}
use Rattle.ts_queue.specs.Rule.{Moment}

abbrev pub IsPassOf : EventQueue → QueuePass → Type 0
IsPassOf queue pass = IsSegPassOf queue.line pass.seat

-- what the pass knows
abbrev pub pass_view : QueuePass → PassView
pass_view pass = pass.seat.me.view.client

-- how many takes of the pass found the queue empty
abbrev pub empties_of : QueuePass → ℕ
empties_of pass = pass.empties

-- A pass took the ticket, which stood at the front of the queue at one moment. It never took it before, and
-- each
-- ticket of that putter that it took before has a lesser serial.
pub record TakesTicket (old : PassView) (t : Ticket) (new : PassView) : Type 0 where
  pub adds : new ≡ taking t old
  pub rises : All (λ u. IsInOrder u t) old.taken
  pub once : IsOnce new.taken
  pub front : (rest : List Ticket) × Moment old (t ∷ rest)

-- A pass found the queue empty. What tells something of what was put is `whole`: a pass that has the whole
-- share has taken exactly that. `empty` says that there is a moment of a lawful queue without tickets that
-- agrees with what the pass knows, and for a pass without the whole share there always is one.
pub record FindsEmpty (known : PassView) : Type 0 where
  pub empty : Moment known []
  pub whole : known.share ≡ WHOLE_SHARE → Exactly known.put known.taken

-- At each moment that agrees with what the pass knows, the queue holds exactly what the pass put, each ticket
-- once.
abbrev pub HoldsAllPut : PassView → Type 0
HoldsAllPut known = (items : List Ticket) → Moment known items → Exactly known.put items

-- what a look at the queue tells: of its view, and of the tickets in the queue
abbrev pub Looks : PassView → List Ticket → Type 0
Looks known items = items ≡ [] → FindsEmpty known
