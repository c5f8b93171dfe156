-- The pairs of links that a net in memory has to give, and what is taken of them.
use Rattle.std.specs.Prelude.{◌≡◌, ℕ, ◌+◌, ◌≤◌, List, [], ◌∷◌, length, drop, Option, Some, None, true}
use Rattle.std.specs.List.{All}
use Rattle.ts_link.specs.Counts.{greatest}
use Rattle.ts_link.specs.MemLink.{LinkState, look_of}
use Rattle.ts_txn.specs.Making.{IsNewLink, IsNewLinkIf}
use Rattle.ts_txn.specs.Net.{IsNextClient}

-- a client, and the origin that is dialed for it, if it is reached
abbrev pub Pair : Type 0
Pair = LinkState × Option LinkState

-- neither was used
pub record IsNewPair (p : Pair) : Type 0 where
  pub client : IsNewLink (look_of p.0)
  pub origin : IsNewLinkIf look_of p.1

-- The pairs that are still to be given, in order; the origin of the last client, until it is taken; what the
-- dials give that find no such origin; and how many clients were given.
pub record Stock : Type 0 where
  pub ahead : List Pair
  pub origin : Option LinkState
  pub later : List (Option LinkState)
  pub given : ℕ

-- no link in it was used, and the number of each client is a u64
pub record IsSoundStock (ahead : List Pair) (origin : Option LinkState) (later : List (Option LinkState))
    (given : ℕ) : Type 0 where
  pub new_ahead : All IsNewPair ahead
  pub new_origin : IsNewLinkIf look_of origin
  pub new_later : All (IsNewLinkIf look_of) later
  pub numbers : given + length ahead ≤ greatest

-- a stock of which nothing was given
abbrev pub full_stock : List Pair → Stock
full_stock pairs = record { ahead = pairs; origin = None; later = []; given = 0 }

-- a stock of one client, whose dials give these origins
abbrev pub one_client : LinkState → List (Option LinkState) → Stock
one_client client origins = record { ahead = (client, None) ∷ []; origin = None; later = origins; given = 0 }

-- a client before all pairs, if there is one
abbrev pub with_first : Option LinkState → List Pair → List Pair
with_first None pairs = pairs
with_first (Some client) pairs = (client, None) ∷ pairs

-- the front of some pairs was taken, if there is one
abbrev pub TakesFront : Option Pair → List Pair → List Pair → Type 0
TakesFront None before after = (before ≡ []) × (after ≡ [])
TakesFront (Some p) before after = before ≡ p ∷ after

-- the client in front, named by its number
abbrev pub front_client : ℕ → List Pair → Option LinkState
front_client given [] = None
front_client given (p ∷ ps) = Some (record p.0 { name = given + 1 })

-- the client that is given next
abbrev pub next_client : Stock → Option LinkState
next_client s = front_client s.given s.ahead

-- a stock that has these pairs ahead, once the client in front was given
abbrev pub without_front : Stock → List Pair → Stock
without_front s [] = s
without_front s (p ∷ ps) = record s { ahead = ps; origin = p.1; given = s.given + 1 }

-- the stock once the next client was given
abbrev pub after_next : Stock → Stock
after_next s = without_front s s.ahead

-- what the next dial gives, if it gives one
abbrev pub origin_in : Option LinkState → List (Option LinkState) → Option LinkState
origin_in (Some o) later = Some o
origin_in None [] = None
origin_in None (o ∷ os) = o

-- what is left to the dials after it
abbrev pub later_in : Option LinkState → List (Option LinkState) → List (Option LinkState)
later_in (Some o) later = later
later_in None later = drop 1 later

abbrev pub next_origin : Stock → Option LinkState
next_origin s = origin_in s.origin s.later

abbrev pub after_origin : Stock → Stock
after_origin s = record s { origin = None; later = later_in s.origin s.later }

-- how many clients were given before and after the next one
abbrev pub GivesNext : Option LinkState → ℕ → ℕ → Type 0
GivesNext None before given = given ≡ before
GivesNext (Some client) before given = IsNextClient true (look_of client) before given
