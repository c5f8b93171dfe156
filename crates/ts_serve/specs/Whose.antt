-- Whose handlers come one after the other.
use Rattle.std.specs.Prelude.{ℕ, ◌+◌, Bool, is_some}
use Rattle.ts_txn.specs.declared.retired.Noted.{Noted}
use Rattle.ts_serve.specs.declared.whose.Whose.{Whose}

-- the first one of the client of this number, with an origin or without one
abbrev pub first_of : ℕ → Bool → Whose
first_of number has_origin = record { number = number; place = 1; has_origin = has_origin }

-- that of the transaction of which this is left
abbrev pub noted_of : {O : Type 0} → Noted O → Whose
noted_of noted = record { number = noted.number; place = noted.place; has_origin = is_some noted.origin }

-- the one after it, with an origin or without one
abbrev pub next_of : {O : Type 0} → Noted O → Bool → Whose
next_of noted has_origin =
    record { number = noted.number; place = noted.place + 1; has_origin = has_origin }
