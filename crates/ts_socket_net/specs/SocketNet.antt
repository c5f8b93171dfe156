-- What contracts see of a net over sockets, and what each of its calls does.
use Rattle.std.specs.Prelude.{◌≡◌, ℕ, ◌+◌, ◌<◌, List, [], ⊤, Bool, false, Option, Some, None, Result}
use Rattle.std.specs.declared.io.Error.{Error}
use Rattle.std.specs.declared.net.socket_addr.SocketAddr.{SocketAddr}
use Rattle.ts_link.specs.Counts.{greatest}
use Rattle.ts_link.specs.declared.link.Link as link
use Rattle.ts_net.specs.Links.{look_of}
use Rattle.ts_net.specs.declared.dialer.Dialing.{Dialing}
use Rattle.ts_net.specs.declared.dialer.Dialing.TheVariants as dialing
use Rattle.ts_net.specs.declared.listener.Arrival.{Arrival}
use Rattle.ts_net.specs.declared.listener.Arrival.TheVariants as arrival
use Rattle.ts_net.specs.declared.stream_link.StreamLink.{StreamLink}
use Rattle.ts_socket_net.specs.Asking.{KeepsClient}
use Rattle.ts_socket_net.specs.Opening.{CannotBegin, IsOpened}
use Rattle.ts_socket_net.specs.Watching.{AsksWhereDue, DialsWatched, WaitsOnce}
use Rattle.ts_socket_net.specs.declared.opening.Opened.{Opened}
use Rattle.ts_socket_net.specs.declared.socket_net.StreamNet.{StreamNet}
use Rattle.ts_txn.specs.Net.{IsNextClient, NetSeen}
use Rattle.ts_txn.specs.declared.net.Accepted.{Accepted}
use Rattle.ts_txn.specs.declared.net.Accepted.TheVariants as accepted
use Rattle.ts_txn.specs.declared.net.Began.{Began}
use Rattle.ts_txn.specs.declared.net.Began.TheVariants as began
use Rattle.ts_txn.specs.declared.net.Dialed.{Dialed}
use Rattle.ts_txn.specs.declared.net.Dialed.TheVariants as dialed
use Rattle.ts_txn.specs.declared.net.NetCounts.{NetCounts}
use Rattle.ts_txn.specs.declared.retired.Noted.{Noted}
use Rattle.ts_txn.specs.declared.retired.Retired.{Retired}
use Rattle.ts_upstream.specs.Uploads.{MovesNothing}
use Rattle.ts_upstream.specs.declared.upstream.Upstream as upstream

-- what a link over a stream shows as a link, and as the link to an origin
abbrev pub stream_link : {T : Type 0} → link.Ghosts (StreamLink T)
stream_link = record {
  tells = false;
  look = look_of;
  goes = λ before after. ⊤;
  still = λ before after. ⊤;
}

abbrev pub stream_origin : {T U : Type 0} → upstream.Ghosts (StreamLink U) (StreamLink T)
stream_origin = record {
  paired = λ c o. ⊤;
  refuses = λ o list. ⊥;
  upload_left = λ c o. Some 0;
  one_upload = MovesNothing;
}

-- no answer of a net was counted yet
abbrev pub no_counts : NetCounts
no_counts = record { faults = 0; misdials = 0; waits = 0; ends = 0 }

-- what a net answers where this came to who listens
abbrev pub accepted_of : {T : Type 0} → Arrival T → Accepted (StreamLink T)
accepted_of (arrival.Client link) = accepted.Client link
accepted_of arrival.Again = accepted.Again
accepted_of arrival.Closed = accepted.Closed
accepted_of arrival.Failed = accepted.Failed

-- what a net answers to a dial of which this came
abbrev pub dialed_of : {U : Type 0} → Dialing U → Dialed (StreamLink U)
dialed_of (dialing.Origin link) = dialed.Origin link
dialed_of dialing.Failed = dialed.Failed

-- a client that is given has its number as name
abbrev pub Gives : {T : Type 0} → Accepted (StreamLink T) → ℕ → ℕ → Type 0
Gives (accepted.Client c) before given = IsNextClient false (look_of c) before given
Gives _ before given = given ≡ before

module _ {S A K H T U : Type 0} where
  -- how many clients came of a net that may have begun
  abbrev pub given_of : Option (Opened S A K H T U) → ℕ
  given_of None = 0
  given_of (Some o) = o.listener.given

  -- it tells how many clients came, how many transactions it was handed and noted, and its counts
  abbrev pub seen_of : {C : Type 0} → StreamNet S C A K H T U → NetSeen (StreamLink T) (StreamLink U)
  seen_of n = record {
    given = given_of n.opened;
    handed = n.handed;
    retired = [];
    notes = n.notes;
    noted = [];
    counts = n.counts;
  }

  -- A net that begins listens and dials where the two texts say, and had not begun before; nor had one that
  -- lacks memory for it. One fails to begin where it had begun, or where none can. With any other answer than
  -- the first it stays as it was.
  abbrev pub Begins : (SocketAddr → Result A Error → Type 0) → (SocketAddr → K → Type 0)
      → (ℕ → Bool → A → A → Type 0) → List ℕ → List ℕ → Began → Option (Opened S A K H T U)
      → Option (Opened S A K H T U) → Type 0
  Begins listens connects watches listen origin began.Ready None (Some o) =
      IsOpened listens connects watches listen origin o
  Begins listens connects watches listen origin began.Ready _ _ = ⊥
  Begins listens connects watches listen origin began.NoMemory old new = (old ≡ None) × (new ≡ None)
  Begins listens connects watches listen origin began.Failed None new =
      (new ≡ None) × CannotBegin listens connects watches listen origin
  Begins listens connects watches listen origin began.Failed (Some o) new = new ≡ Some o

  -- the same of a whole net
  abbrev pub BeginsOnce : {C : Type 0} → (SocketAddr → Result A Error → Type 0) → (SocketAddr → K → Type 0)
      → (ℕ → Bool → A → A → Type 0) → List ℕ → List ℕ → Began → StreamNet S C A K H T U
      → StreamNet S C A K H T U → Type 0
  BeginsOnce listens connects watches listen origin answer old new =
      Begins listens connects watches listen origin answer old.opened new.opened

  -- at some moment one client was accepted, if one may have been there and was
  pub record AcceptsNow (accepts : A → A → Result T Error → Type 0)
      (reads : T → T → Result ℕ Error → List ℕ → Type 0) (watches : ℕ → Bool → T → T → Type 0)
      (spares : Result H Error → Type 0) (old new : Opened S A K H T U) (answer : Accepted (StreamLink T)) :
      Type 0 where
    pub moment : ℕ
    pub arrival : Arrival T
    pub does : AsksWhereDue accepts reads watches spares moment old new arrival
    pub answers : answer ≡ accepted_of arrival

  -- before a net has begun no client comes
  abbrev pub Accepts : (A → A → Result T Error → Type 0) → (T → T → Result ℕ Error → List ℕ → Type 0)
      → (ℕ → Bool → T → T → Type 0) → (Result H Error → Type 0) → Accepted (StreamLink T)
      → Option (Opened S A K H T U) → Option (Opened S A K H T U) → Type 0
  Accepts accepts reads watches spares answer None new = (answer ≡ accepted.Closed) × (new ≡ None)
  Accepts accepts reads watches spares answer (Some o) None = ⊥
  Accepts accepts reads watches spares answer (Some o) (Some p) =
      AcceptsNow accepts reads watches spares o p answer

  -- the origin was dialed once
  pub record DialsNow (connects : K → K → Result U Error → Type 0) (watches : ℕ → Bool → U → U → Type 0)
      (old new : Opened S A K H T U) (answer : Dialed (StreamLink U)) : Type 0 where
    pub dialing : Dialing U
    pub does : DialsWatched connects watches old new dialing
    pub answers : answer ≡ dialed_of dialing

  -- before a net has begun no origin is dialed
  abbrev pub Dials : (K → K → Result U Error → Type 0) → (ℕ → Bool → U → U → Type 0) → Dialed (StreamLink U)
      → Option (Opened S A K H T U) → Option (Opened S A K H T U) → Type 0
  Dials connects watches answer None new = (answer ≡ dialed.Failed) × (new ≡ None)
  Dials connects watches answer (Some o) None = ⊥
  Dials connects watches answer (Some o) (Some p) = DialsNow connects watches o p answer

  -- before a net has begun nothing is watched
  abbrev pub Waits : Option (Opened S A K H T U) → Option (Opened S A K H T U) → Type 0
  Waits None new = new ≡ None
  Waits (Some o) None = ⊥
  Waits (Some o) (Some p) = WaitsOnce o p

  -- from some moment on a client lingers
  abbrev pub LingersNow : (T → T → Type 0) → StreamLink T → Opened S A K H T U → Opened S A K H T U → Type 0
  LingersNow shuts client old new = (moment : ℕ) × KeepsClient shuts client moment old new

  -- before a net has begun nobody lingers
  abbrev pub Keeps : (T → T → Type 0) → StreamLink T → Option (Opened S A K H T U)
      → Option (Opened S A K H T U) → Type 0
  Keeps shuts client None new = new ≡ None
  Keeps shuts client (Some o) None = ⊥
  Keeps shuts client (Some o) (Some p) = LingersNow shuts client o p

  -- what is left of one transaction more is counted, and its client lingers
  pub record TakesOne {C : Type 0} (shuts : T → T → Type 0) (retired : Retired (StreamLink T) (StreamLink U))
      (old new : StreamNet S C A K H T U) : Type 0 where
    pub some_left : old.handed < greatest
    pub lingers : Keeps shuts retired.parts.client old.opened new.opened

  -- the client of this number is dialed for next, if the net has begun
  abbrev pub dialing_for : ℕ → Option (Opened S A K H T U) → Option (Opened S A K H T U)
  dialing_for number None = None
  dialing_for number (Some o) = Some (record o { dials_for = number })

  -- one note more is counted, and its client is dialed for next
  abbrev pub once_noted : {C : Type 0} → Noted (StreamLink U) → StreamNet S C A K H T U
      → StreamNet S C A K H T U
  once_noted noted net = record net { notes = net.notes + 1; opened = dialing_for noted.number net.opened }

  -- no transaction more can be counted, and the net stays as it was
  pub record TakesNone {C : Type 0} (old new : StreamNet S C A K H T U) : Type 0 where
    pub none_left : old.handed ≡ greatest
    pub same : new ≡ old
