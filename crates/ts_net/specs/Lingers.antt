-- How clients linger whose connections are closed in stages: a server first shuts the write side alone, and
-- then reads on until the client closes too, since bytes that it has not read when it closes make the system
-- drop what the client has not yet got (RFC 9112, section 9.6).
use Rattle.std.specs.Prelude.{◌≡◌, ◌≢◌, ℕ, ◌+◌, ◌-◌, List, [], ◌∷◌, ◌++◌, length, drop, filter, nat_le}
use Rattle.std.specs.Prelude.{slice_index_or, slice_set, Bool, true, false, not, if◌then◌else◌, Result}
use Rattle.std.specs.List.{remove}
use Rattle.std.specs.declared.io.Error.{Error}
use Rattle.ts_link.specs.declared.link.Got.{Got}
use Rattle.ts_link.specs.declared.link.Got.TheVariants as G
use Rattle.ts_net.specs.Heard.{got_of}
use Rattle.ts_link.specs.Moments.{moment_after}
use Rattle.ts_net.specs.declared.half_closed.HalfClosed.{HalfClosed}
use Rattle.ts_net.specs.declared.half_closed.TheConstants.{LINGER}
use Rattle.ts_net.specs.declared.lingering.TheConstants.{MOST_LINGERING}

-- more may come from a peer after this answer to a read
abbrev pub may_send : Got → Bool
may_send (G.Bytes n) = true
may_send G.Again = true
may_send _ = false

-- a connection was read once, and the answer is whether more may come; its time stays
pub record PassesOver {S : Type 0} (reads : S → S → Result ℕ Error → List ℕ → Type 0)
    (old new : HalfClosed S) (answer : Bool) : Type 0 where
  pub until : new.until ≡ old.until
  pub heard : Result ℕ Error
  pub room : List ℕ
  pub read : reads old.stream new.stream heard room
  pub says : answer ≡ may_send (got_of heard)

-- who lingers, in the order in which they came, and at which place of them the next turn is
pub record Lingers (S : Type 0) : Type 0 where
  pub waiting : List (HalfClosed S)
  pub turn : ℕ

-- those whose time is not over at a moment
abbrev pub in_time : {S : Type 0} → ℕ → List (HalfClosed S) → List (HalfClosed S)
in_time moment waiting = filter (λ h. not (nat_le h.until moment)) waiting

-- where as many linger as may at once, the one that came first makes room for another
abbrev pub with_room : {S : Type 0} → List (HalfClosed S) → List (HalfClosed S)
with_room waiting = if nat_le MOST_LINGERING (length waiting) then drop 1 waiting else waiting

-- where one made room the others move up by a place, and the turn with them
abbrev pub turn_with_room : {S : Type 0} → List (HalfClosed S) → ℕ → ℕ
turn_with_room waiting turn = if nat_le MOST_LINGERING (length waiting) then turn - 1 else turn

-- one more lingers, whose write side was shut at this moment
pub record KeepsOne {S : Type 0} (shuts : S → S → Type 0) (stream : S) (moment : ℕ) (old new : Lingers S) :
    Type 0 where
  pub last : HalfClosed S
  pub waiting : new.waiting ≡ with_room old.waiting ++ last ∷ []
  pub shut : shuts stream last.stream
  pub until : last.until ≡ moment_after moment LINGER
  pub turn : new.turn ≡ turn_with_room old.waiting old.turn

-- the place whose turn it is, of so many: behind the last comes the first
abbrev pub turn_place : ℕ → ℕ → ℕ
turn_place turn count = if nat_le count turn then 0 else turn

-- The connection at a place of a list was read. If more may come it stays, as the read left it, and the next
-- one has its turn; else it is closed.
pub record PassesOne {S : Type 0} (reads : S → S → Result ℕ Error → List ℕ → Type 0) (place : ℕ)
    (old : List (HalfClosed S)) (new : Lingers S) : Type 0 where
  pub read : HalfClosed S
  pub left : HalfClosed S
  pub more : Bool
  pub at : read ≡ slice_index_or old place read
  pub passes : PassesOver reads read left more
  pub waiting : new.waiting ≡ (if more then slice_set old place left else remove old place)
  pub turn : new.turn ≡ (if more then place + 1 else place)

-- of some connections, the one whose turn it was was read; of none, none
pub record PassesInTurn {S : Type 0} (reads : S → S → Result ℕ Error → List ℕ → Type 0) (turn : ℕ)
    (old : List (HalfClosed S)) (new : Lingers S) : Type 0 where
  pub none : old ≡ [] → new.waiting ≡ []
  pub one : old ≢ [] → PassesOne reads (turn_place turn (length old)) old new

-- By a clock that never goes back, those whose time is over came first. The others move up by so many places,
-- and the turn with them.
abbrev pub turn_in_time : {S : Type 0} → ℕ → List (HalfClosed S) → ℕ → ℕ
turn_in_time moment waiting turn = turn - (length waiting - length (in_time moment waiting))

-- those whose time was over at a moment are closed, and one of the others was read, in turn
abbrev pub LooksAt : {S : Type 0} → (S → S → Result ℕ Error → List ℕ → Type 0) → ℕ → Lingers S → Lingers S
    → Type 0
LooksAt reads moment old new =
    PassesInTurn reads (turn_in_time moment old.waiting old.turn) (in_time moment old.waiting) new
