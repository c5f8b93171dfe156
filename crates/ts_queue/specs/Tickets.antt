-- Tickets, each with the number of the pass that put it and a serial among the puts of that pass.
use Rattle.std.specs.Prelude.{◌≡◌, ℕ, ◌==◌, ◌&&◌, ◌<◌, ◌≤◌, Bool, List, count_by}
use Rattle.ts_queue.specs.declared.ticket.Token.{Token}
use Rattle.ts_queue.specs.declared.ticket.Ticket.{Ticket}

-- the ticket has this putter and serial
abbrev pub is_numbered : ℕ → ℕ → Ticket → Bool
is_numbered putter serial t = (t.putter == putter) && (t.serial == serial)

abbrev pub is_same_token : Token → Token → Bool
is_same_token t u = (u.group == t.group) && (u.number == t.number)

-- the two are one ticket
abbrev pub is_same_ticket : Ticket → Ticket → Bool
is_same_ticket t u = is_numbered t.putter t.serial u && is_same_token t.token u.token

-- if one pass put both tickets, the second has the greater serial
abbrev pub IsInOrder : Ticket → Ticket → Type 0
IsInOrder t u = u.putter ≡ t.putter → t.serial < u.serial

-- no serial of a putter stands twice in the list
abbrev pub IsOnce : List Ticket → Type 0
IsOnce tickets = (putter serial : ℕ) → count_by (is_numbered putter serial) tickets ≤ 1

-- each ticket was taken, or stands in a queue, as often as it was put, which is once or never
abbrev pub Exactly : List Ticket → List Ticket → Type 0
Exactly put found =
    (t : Ticket) → (count_by (is_same_ticket t) found ≡ count_by (is_same_ticket t) put) ×
    (count_by (is_same_ticket t) put ≤ 1)
