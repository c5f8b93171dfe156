-- How the news of a group is told: each new event that is pending gets a token.
use Rattle.std.specs.Prelude.{◌≡◌, ℕ, ◌+◌, ◌≤◌, ◌⊎◌, ◌==◌, ◌&&◌, Bool, true, List, Some, is_some, nat_le, nat_lt, count_by, if◌then◌else◌}
use Rattle.ts_journal.specs.declared.slotted.Slotted.{Ghosts}
use Rattle.ts_journal.specs.declared.entry.Pending.{Pending}
use Rattle.ts_journal.specs.declared.entry.TheConstants.{GREATEST}
use Rattle.ts_journal.specs.State.{pending_at}
use Rattle.ts_group.specs.declared.group.Group.{Group}
use Rattle.ts_group.specs.Context.{IsSame}
use Rattle.ts_group.specs.Due.{NoNews}
use Rattle.ts_queue.specs.declared.ticket.Token.{Token}
use Rattle.ts_queue.specs.declared.ticket.Ticket.{Ticket}
use Rattle.ts_queue.specs.Tickets.{is_same_token}
use Rattle.ts_queue.specs.Passes.{pass_view, empties_of}
use Rattle.ts_slot.specs.Lists.{IsIn}
use Rattle.ts_thread.specs.declared.desk.Desk.{Desk}
use Rattle.ts_thread.specs.Tokens.{Stays}

-- how many tokens of a wheel are this one
abbrev pub in_wheel : Token → List (ℕ × Token) → ℕ
in_wheel t wheel = count_by (λ e. is_same_token t e.1) wheel

-- how many of these tickets have this token
abbrev pub in_tickets : Token → List Ticket → ℕ
in_tickets t tickets = count_by (λ u. is_same_token t u.token) tickets

-- a ticket with this token is among them
abbrev pub HasTicket : Token → List Ticket → Type 0
HasTicket t tickets = (u : Ticket) × IsIn u tickets × (u.token ≡ t)

-- the token is of the group k, and of a pending event with a number from one up to another
abbrev pub is_between : ℕ → ℕ → ℕ → List Pending → Token → Bool
is_between k from to ps t =
    (t.group == k) && (nat_le from t.number && (nat_lt t.number to && is_some (pending_at t.number ps)))

module _ {W Q R T U : Type 0} where
  -- the group is as it was, but for the number from which on pending events are news, which did not fall
  pub record OnlyNews (old new : Group W Q R T U) : Type 0 where
    pub cx : IsSame (record old.cx { news_from = new.cx.news_from }) new.cx
    pub world : new.world ≡ old.world
    pub rose : old.cx.news_from ≤ new.cx.news_from

  -- the token is of a piece of news of the one group that the other has told, which is the group k
  abbrev pub is_news : ℕ → Group W Q R T U → Group W Q R T U → Token → Bool
  is_news k old new t = is_between k old.cx.news_from new.cx.news_from new.cx.log.state.pending t

module _ {X G T : Type 0} {d : Ghosts X G T} where
  -- how often the token stands in the wheel or was put
  abbrev pub places_of : Token → Desk X G T d → ℕ
  places_of t desk = in_wheel t desk.wheel + in_tickets t (pass_view desk.pass).put

  -- An event of which a turn told has its token in the wheel, under its due moment, where it stays with its
  -- thread; else it is due, the turn is shared, and its token was put.
  abbrev pub HasPlace : Bool → ℕ → ℕ → Pending → Desk X G T d → Type 0
  HasPlace shared moment k p desk =
      (Stays shared p.due moment desk × IsIn (p.due, record { group = k; number = p.number }) desk.wheel)
      ⊎ ((p.due ≤ moment) × (shared ≡ true)
      × HasTicket (record { group = k; number = p.number }) (pass_view desk.pass).put)

  -- the same where the turn is shared, as a word of a desk at a moment
  abbrev pub HasPlaceAt : ℕ → Desk X G T d → ℕ → Pending → Type 0
  HasPlaceAt moment desk k p = HasPlace true moment k p desk

  -- What stood in the wheel stands there, what was put was put, nothing was taken from the queue, and a pass
  -- that had no serial left has none.
  pub record KeepsPlaces (old new : Desk X G T d) : Type 0 where
    pub wheel : (e : ℕ × Token) → IsIn e old.wheel → IsIn e new.wheel
    pub put : (t : Token) → HasTicket t (pass_view old.pass).put → HasTicket t (pass_view new.pass).put
    pub taken : (pass_view new.pass).taken ≡ (pass_view old.pass).taken
    pub spent : (pass_view old.pass).serial ≡ GREATEST → (pass_view new.pass).serial ≡ GREATEST

  -- The news of the group k was told by a turn that is shared or not: each piece of it has a token where such a
  -- turn places it, one and no more, and no other token was made; and there is no news any more.
  pub record HasTold {W Q R T' U : Type 0} (shared : Bool) (k moment : ℕ) (group told : Group W Q R T' U)
      (old new : Desk X G T d) : Type 0 where
    pub none : NoNews told.cx.news_from told.cx.log.state
    pub each : (n : ℕ) (p : Pending) → pending_at n told.cx.log.state.pending ≡ Some p
        → group.cx.news_from ≤ n
        → HasPlace shared moment k p new
    pub once : (t : Token) → places_of t new ≡ places_of t old + (if is_news k group told t then 1 else 0)
    pub keeps : KeepsPlaces old new
    pub empties : empties_of new.pass ≡ empties_of old.pass
