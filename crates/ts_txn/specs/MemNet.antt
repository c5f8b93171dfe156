-- What contracts see of a net in memory, and exactly what its calls do.
use Rattle.std.specs.Prelude.{◌≡◌, ℕ, ◌++◌, List, [], ◌∷◌, length, Option, Some, None}
use Rattle.ts_link.specs.Counts.{one_more_if}
use Rattle.ts_link.specs.MemLink.{LinkState}
use Rattle.ts_link.specs.Numbered.{Numbered, after_call, mishap_at, no_calls}
use Rattle.ts_link.specs.declared.numbered.Mishap.{Mishap}
use Rattle.ts_link.specs.declared.numbered.Mishap.TheVariants.{Nothing, Fails, Waits}
use Rattle.ts_txn.specs.Net.{NetSeen, Raised, raised_by_accept, raised_by_dial}
use Rattle.ts_txn.specs.PairStock.{Stock, after_next, after_origin, next_client, next_origin}
use Rattle.ts_txn.specs.declared.net.Accepted.{Accepted}
use Rattle.ts_txn.specs.declared.net.Accepted.TheVariants as A
use Rattle.ts_txn.specs.declared.net.Began.{Began}
use Rattle.ts_txn.specs.declared.net.Began.TheVariants as B
use Rattle.ts_txn.specs.declared.net.Dialed.{Dialed}
use Rattle.ts_txn.specs.declared.net.Dialed.TheVariants as D
use Rattle.ts_txn.specs.declared.net.NetCounts.{NetCounts}
use Rattle.ts_txn.specs.declared.retired.Noted.{Noted}
use Rattle.ts_txn.specs.declared.retired.Retired.{Retired}

-- what it has to give, its accept calls by number, what it was handed and noted, and the counts of its answers
pub record NetState : Type 0 where
  pub stock : Stock
  pub accepts : Numbered
  pub retired : List (Retired LinkState LinkState)
  pub noted : List (Noted LinkState)
  pub counts : NetCounts

-- what is seen of it as a net
abbrev pub seen_of : NetState → NetSeen LinkState LinkState
seen_of s = record {
  given = s.stock.given;
  handed = length s.retired;
  retired = s.retired;
  notes = length s.noted;
  noted = s.noted;
  counts = s.counts;
}

-- a net that nothing was done with
abbrev pub fresh_net : Stock → List ℕ → List ℕ → NetState
fresh_net stock again failing = record {
  stock = stock;
  accepts = no_calls failing again;
  retired = [];
  noted = [];
  counts = record { faults = 0; misdials = 0; waits = 0; ends = 0 };
}

-- the counts after an answer that raises these
abbrev pub raise : Raised → NetCounts → NetCounts
raise raised c = record {
  faults = one_more_if raised.faults c.faults;
  misdials = one_more_if raised.misdials c.misdials;
  waits = one_more_if raised.waits c.waits;
  ends = one_more_if raised.ends c.ends;
}

-- the next client is accepted, if there is one
abbrev pub accepted : Option LinkState → Accepted LinkState
accepted None = A.Closed
accepted (Some client) = A.Client client

abbrev pub accept_by : Mishap → Stock → Accepted LinkState
accept_by Nothing s = accepted (next_client s)
accept_by Fails s = A.Failed
accept_by Waits s = A.Again

-- what an accept answers: by its number, and else the next client
abbrev pub accept_answer : NetState → Accepted LinkState
accept_answer s = accept_by (mishap_at s.accepts) s.stock

abbrev pub stock_by : Mishap → Stock → Stock
stock_by Nothing s = after_next s
stock_by Fails s = s
stock_by Waits s = s

-- the net after an accept that was answered so
abbrev pub after_accept : NetState → Accepted LinkState → NetState
after_accept s answer = record s {
  stock = stock_by (mishap_at s.accepts) s.stock;
  accepts = after_call s.accepts;
  counts = raise (raised_by_accept answer) s.counts;
}

-- the origin is dialed, if there is one
abbrev pub dialed : Option LinkState → Dialed LinkState
dialed None = D.Failed
dialed (Some origin) = D.Origin origin

-- what a dial answers
abbrev pub dial_answer : NetState → Dialed LinkState
dial_answer s = dialed (next_origin s.stock)

-- the net after a dial that was answered so
abbrev pub after_dial : NetState → Dialed LinkState → NetState
after_dial s answer = record s {
  stock = after_origin s.stock;
  counts = raise (raised_by_dial answer) s.counts;
}

-- the net after this was handed to it
abbrev pub after_retire : NetState → Retired LinkState LinkState → NetState
after_retire s retired = record s { retired = s.retired ++ retired ∷ [] }

-- the net after this was noted by it
abbrev pub after_note : NetState → Noted LinkState → NetState
after_note s noted = record s { noted = s.noted ++ noted ∷ [] }

-- it begins at any two addresses, and stays as it is
abbrev pub BeginsInMemory : List ℕ → List ℕ → Began → NetState → NetState → Type 0
BeginsInMemory listen origin answer old new = (answer ≡ B.Ready) × (new ≡ old)
