-- What a pass of the queue knows, and what the calls make of it.
use Rattle.std.specs.Prelude.{ℕ, ◌+◌, ◌-◌, ◌==◌, ◌&&◌, nat_lt, nat_le, [], ◌∷◌, ◌++◌, count_by, if◌then◌else◌}
use Rattle.ts_queue.specs.declared.TheConstants.{WHOLE_SHARE}
use Rattle.ts_queue.specs.declared.ticket.Token.{Token}
use Rattle.ts_queue.specs.declared.ticket.Ticket.{Ticket}
use Rattle.ts_queue.specs.declared.view.PassView.{PassView}

-- the first pass of a queue has the whole share, the number 0, and all other numbers free
abbrev pub first_view : PassView
first_view = record {
  share = WHOLE_SHARE;
  number = 0;
  serial = 0;
  names = 0 ∷ [];
  free_from = 1;
  free_to = WHOLE_SHARE;
  put = [];
  taken = [];
}

-- what is left of a pass that was joined to another
abbrev pub spent : PassView
spent = record {
  share = 0;
  number = 0;
  serial = 0;
  names = [];
  free_from = 0;
  free_to = 0;
  put = [];
  taken = [];
}

-- the ticket that a pass puts next, for the token
abbrev pub next_ticket : PassView → Token → Ticket
next_ticket v token = record { putter = v.number; serial = v.serial + 1; token = token }

abbrev pub putting : Ticket → PassView → PassView
putting t v = record v { serial = t.serial; put = t ∷ v.put }

-- a pass put a token, in its next ticket
abbrev pub putting_next : Token → PassView → PassView
putting_next token v = putting (next_ticket v token) v

abbrev pub taking : Ticket → PassView → PassView
taking t v = record v { taken = t ∷ v.taken }

-- what a pass keeps of which another was split off
abbrev pub kept_part : PassView → PassView
kept_part v = record v { share = v.share - 1; free_from = v.free_from + 1 }

-- the pass that was split off: it has one part of the share, and what was the least free number
abbrev pub split_part : PassView → PassView
split_part v = record {
  share = 1;
  number = v.free_from;
  serial = 0;
  names = v.free_from ∷ [];
  free_from = 0;
  free_to = 0;
  put = [];
  taken = [];
}

-- a pass to which another was joined: it has the shares of both, and what either put and took; its number,
-- its
-- serial and its free numbers stay
abbrev pub with_joined : PassView → PassView → PassView
with_joined v w = record v {
  share = v.share + w.share;
  names = w.names ++ v.names;
  put = w.put ++ v.put;
  taken = w.taken ++ v.taken;
}

-- how often a pass has a number: as its name, as the name of one that was joined to it, or as a free number
abbrev pub owned : ℕ → PassView → ℕ
owned x v = count_by (λ n. n == x) v.names + (if nat_le v.free_from x && nat_lt x v.free_to then 1 else 0)
