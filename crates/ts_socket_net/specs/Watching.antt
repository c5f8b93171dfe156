-- When a net that has begun asks for a client, and what it is told of the sockets that it watches (Linux,
-- epoll(7)).
use Rattle.std.specs.Prelude.{◌≡◌, ℕ, List, Bool, true, false, Result}
use Rattle.std.specs.declared.io.Error.{Error}
use Rattle.ts_net.specs.Backlogs.{asks, once_empty, once_waited}
use Rattle.ts_net.specs.Links.{IsWatchedLink}
use Rattle.ts_net.specs.Polls.{tells}
use Rattle.ts_net.specs.declared.backlog.Backlog.{Backlog}
use Rattle.ts_net.specs.declared.dialer.Dialing.{Dialing}
use Rattle.ts_net.specs.declared.dialer.Dialing.TheVariants as dialing
use Rattle.ts_net.specs.declared.listener.Arrival.{Arrival}
use Rattle.ts_net.specs.declared.listener.Arrival.TheVariants as arrival
use Rattle.ts_net.specs.declared.poller.TheConstants.{LISTENER}
use Rattle.ts_net.specs.declared.stream_link.StreamLink.{StreamLink}
use Rattle.ts_socket_net.specs.Asking.{AcceptsOne, DialsOnce}
use Rattle.ts_socket_net.specs.declared.opening.Opened.{Opened}

-- a link is watched under a name, whatever the system's answer
abbrev pub Watches : {T : Type 0} → (ℕ → Bool → T → T → Type 0) → ℕ → StreamLink T → StreamLink T → Type 0
Watches watches name old new = (answer : Bool) × IsWatchedLink watches name answer old new

-- whoever came is watched under its number
abbrev pub IsWatchedArrival : {T : Type 0} → (ℕ → Bool → T → T → Type 0) → Arrival T → Arrival T → Type 0
IsWatchedArrival watches (arrival.Client link) (arrival.Client shown) = Watches watches link.name link shown
IsWatchedArrival watches came answer = answer ≡ came

-- the origin that was reached is watched under the number of its client
abbrev pub IsWatchedDial : {U : Type 0} → (ℕ → Bool → U → U → Type 0) → ℕ → Dialing U → Dialing U → Type 0
IsWatchedDial watches client (dialing.Origin link) (dialing.Origin shown) = Watches watches client link shown
IsWatchedDial watches client came answer = answer ≡ came

-- what is known of the clients that wait, once this came of asking for one at a moment
abbrev pub backlog_after : {T : Type 0} → ℕ → Arrival T → Backlog → Backlog
backlog_after moment arrival.Again backlog = once_empty moment backlog
backlog_after moment _ backlog = backlog

-- the number of the client that is dialed for next, once this came of asking for one: that of whoever came
abbrev pub dials_for_after : {T : Type 0} → Arrival T → ℕ → ℕ
dials_for_after (arrival.Client link) before = link.name
dials_for_after _ before = before

module _ {S A K H T U : Type 0} where
  -- a client was asked for at a moment; if one came it is watched, and dialed for next, and if none did that
  -- is kept
  pub record AsksNow (accepts : A → A → Result T Error → Type 0)
      (reads : T → T → Result ℕ Error → List ℕ → Type 0) (watches : ℕ → Bool → T → T → Type 0)
      (spares : Result H Error → Type 0) (moment : ℕ) (old new : Opened S A K H T U) (answer : Arrival T) :
      Type 0 where
    pub came : Arrival T
    pub does : AcceptsOne accepts reads spares moment old new came
    pub watched : IsWatchedArrival watches came answer
    pub backlog : new.backlog ≡ backlog_after moment came old.backlog
    pub dials_for : new.dials_for ≡ dials_for_after came old.dials_for

  -- A client is asked for at a moment where one may be there; where none may be, that is the answer, and
  -- nothing changes.
  pub record AsksWhereDue (accepts : A → A → Result T Error → Type 0)
      (reads : T → T → Result ℕ Error → List ℕ → Type 0) (watches : ℕ → Bool → T → T → Type 0)
      (spares : Result H Error → Type 0) (moment : ℕ) (old new : Opened S A K H T U) (answer : Arrival T) :
      Type 0 where
    pub due : asks moment old.backlog ≡ true → AsksNow accepts reads watches spares moment old new answer
    pub other : asks moment old.backlog ≡ false → (answer ≡ arrival.Again) × (new ≡ old)

  -- the origin was dialed once, and if it was reached is watched under the number of the client for which it
  -- was to be dialed
  pub record DialsWatched (connects : K → K → Result U Error → Type 0) (watches : ℕ → Bool → U → U → Type 0)
      (old new : Opened S A K H T U) (answer : Dialing U) : Type 0 where
    pub came : Dialing U
    pub does : DialsOnce connects old new came
    pub watched : IsWatchedDial watches old.dials_for came answer

  -- a wait was told of names, and whether who listens is among them changes what is known of the clients that
  -- wait; nothing else changes
  pub record WaitsOnce (old new : Opened S A K H T U) : Type 0 where
    pub backlog : new.backlog ≡ once_waited (tells LISTENER new.poller) old.backlog
    pub same : new ≡ record old { poller = new.poller; backlog = new.backlog }
