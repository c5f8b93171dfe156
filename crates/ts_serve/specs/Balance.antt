-- The balance of the acceptor: of each client that the net gave there is one connection in the row of places,
-- or what is left of it was handed over, once.
use Rattle.std.specs.Prelude.{◌≡◌, ℕ, ◌+◌, ◌≤◌, ◌⊎◌, cond, List, All, length, Bool, true, false, get_or}
use Rattle.std.specs.Prelude.{is_some, set}
use Rattle.std.specs.List.{sum_by}
use Rattle.ts_link.specs.Counts.{greatest}
use Rattle.ts_slot.specs.Lists.{same}
use Rattle.ts_slot.specs.Views.{within}
use Rattle.ts_txn.specs.Net.{NetSeen}
use Rattle.ts_txn.specs.declared.retired.Retired.{Retired}
use Rattle.ts_serve.specs.declared.connection.Connection.{Connection}
use Rattle.ts_serve.specs.declared.connection.Connection.TheVariants.{Free, Accepted}
use Rattle.ts_serve.specs.declared.arrival.Arrival.{Arrival}
use Rattle.ts_serve.specs.declared.arrival.Arrival.TheVariants as arrival
use Rattle.ts_serve.specs.Whose.{first_of}

-- 1 where the client of this number is in the row, and else 0
abbrev pub has_number : ℕ → Connection → ℕ
has_number x Free = 0
has_number x (Accepted whose started made) = same whose.number x

-- 1 where a client is in the row
abbrev pub is_taken : Connection → ℕ
is_taken Free = 0
is_taken (Accepted whose started made) = 1

-- 1 where a client is in the row for which no origin was reached
abbrev pub lacks_origin : Connection → ℕ
lacks_origin Free = 0
lacks_origin (Accepted whose started made) = cond whose.has_origin 0 1

-- The connection of a place is what it was, but that its handler may have been started or not.
abbrev pub IsSameClient : Connection → Connection → Type 0
IsSameClient Free new = new ≡ Free
IsSameClient (Accepted whose started made) new = (started' : Bool) × (new ≡ Accepted whose started' made)

-- The same clients are in the row, each in its place; which of their handlers were started may differ.
pub record IsSameRow (old new : List Connection) : Type 0 where
  pub places : length new ≡ length old
  pub clients : (k : ℕ) → IsSameClient (get_or old k Free) (get_or new k Free)
  pub numbers : (x : ℕ) → sum_by (has_number x) new ≡ sum_by (has_number x) old
  pub taken : sum_by is_taken new ≡ sum_by is_taken old
  pub origins : sum_by lacks_origin new ≡ sum_by lacks_origin old

module _ {C O : Type 0} where
  -- the same of what is left of a client
  abbrev pub had_number : ℕ → Retired C O → ℕ
  had_number x r = same r.parts.number x

  abbrev pub lacked_origin : Retired C O → ℕ
  lacked_origin r = cond (is_some r.parts.origin) 0 1

  -- 1 where it is the number of a client that the net gave, which counts them from 1
  abbrev pub is_given : NetSeen C O → ℕ → ℕ
  is_given net x = within 1 (net.given + 1) x

  -- What the net was handed and the row, where the net told: of all that was handed over holds what holds of
  -- one that is done; each number is handed over or in the row once at most, and only that of a client that
  -- was given; and as many as have no origin, so often did the net miss a dial since it had missed so many,
  -- unless that count is at its end.
  pub record IsBalanced (Done : Retired C O → Type 0) (misdials : ℕ) (row : List Connection)
      (net : NetSeen C O) :
      Type 0 where
    pub each : All Done net.retired
    pub once : (x : ℕ) → sum_by (had_number x) net.retired + sum_by (has_number x) row ≤ is_given net x
    pub dialed : (misdials + sum_by lacked_origin net.retired + sum_by lacks_origin row ≤ net.counts.misdials)
        ⊎ (greatest ≤ net.counts.misdials)

  -- Where the net tells, the balance stays right, of places of any terms that are these.
  abbrev pub KeepsBalance : {A : Type 0} → Bool → (A → Retired C O → Type 0) → (A → Type 0) → List Connection
      → NetSeen C O → List Connection → NetSeen C O → Type 0
  KeepsBalance {A} tells Done Are row before again after =
      tells ≡ true → (terms : A) → Are terms → (misdials : ℕ) → IsBalanced (Done terms) misdials row before
      → IsBalanced (Done terms) misdials again after

  -- no client is lost: each that was given is in the row, or was handed over
  abbrev pub HasAll : List Connection → NetSeen C O → Type 0
  HasAll row net = net.handed + sum_by is_taken row ≡ net.given

  -- no more clients are in the row, or were handed over, than were given
  abbrev pub HasNoMore : List Connection → NetSeen C O → Type 0
  HasNoMore row net = net.handed + sum_by is_taken row ≤ net.given

  -- the row once who came to the place k is in the row, whose handler's group is made with so many turns
  abbrev pub row_after : ℕ → ℕ → ℕ → Arrival C O → List Connection → List Connection
  row_after k number made (arrival.Came client origin) row =
      set row k (Accepted (first_of number (is_some origin)) false made)
  row_after k number made _ row = row
