-- What a net that has begun asks its sockets: clients, connections to the origin, and a descriptor for the
-- next of these.
use Rattle.std.specs.Prelude.{◌≡◌, ◌⊎◌, ℕ, ◌+◌, List, Option, Some, None, Result, Ok, Err}
use Rattle.std.specs.declared.io.Error.{Error}
use Rattle.ts_net.specs.Arrivals.{IsArrival, after_arrival}
use Rattle.ts_net.specs.Dials.{HearsDial}
use Rattle.ts_net.specs.Lingers.{KeepsOne, LooksAt}
use Rattle.ts_net.specs.declared.dialer.Dialing.{Dialing}
use Rattle.ts_net.specs.declared.listener.Arrival.{Arrival}
use Rattle.ts_net.specs.declared.listener.Arrival.TheVariants as arrival
use Rattle.ts_net.specs.declared.listener.Listener.{Listener}
use Rattle.ts_net.specs.declared.stream_link.StreamLink.{StreamLink}
use Rattle.ts_socket_net.specs.declared.opening.Opened.{Opened}

-- a descriptor is held: the one that was, or one that was opened now
abbrev pub HoldsSpare : {H : Type 0} → (Result H Error → Type 0) → Option H → Option H → Type 0
HoldsSpare spares (Some held) new = new ≡ Some held
HoldsSpare spares None (Some opened) = spares (Ok opened)
HoldsSpare spares None None = ⊥

-- none was held, and none could be opened
pub record LacksSpare {H : Type 0} (spares : Result H Error → Type 0) (old new : Option H) : Type 0 where
  pub none : old ≡ None
  pub still : new ≡ None
  pub error : Error
  pub refused : spares (Err error)

-- how many clients were given, once this came of asking for the next one
abbrev pub given_with : {T : Type 0} → Arrival T → ℕ → ℕ
given_with (arrival.Client link) given = given + 1
given_with _ given = given

-- the next client was asked for once, and counted if one came
pub record AsksOnce {A T : Type 0} (accepts : A → A → Result T Error → Type 0) (old new : Listener A)
    (answer : Arrival T) : Type 0 where
  pub comes : IsArrival accepts old new.acceptor answer
  pub counted : new ≡ after_arrival answer new.acceptor old

-- nobody was asked for, which is told as if nobody were there
pub record AsksNobody {A T : Type 0} (old new : Listener A) (answer : Arrival T) : Type 0 where
  pub again : answer ≡ arrival.Again
  pub same : new ≡ old

module _ {S A K H T U : Type 0} where
  -- Those who linger are looked at once. Then the next client is asked for, where a descriptor is held for
  -- its origin, and nobody is where none can be had.
  pub record AcceptsOne (accepts : A → A → Result T Error → Type 0)
      (reads : T → T → Result ℕ Error → List ℕ → Type 0) (spares : Result H Error → Type 0) (moment : ℕ)
      (old new : Opened S A K H T U) (answer : Arrival T) : Type 0 where
    pub looks : LooksAt reads moment old.lingering new.lingering
    pub asks : (HoldsSpare spares old.spare new.spare × AsksOnce accepts old.listener new.listener answer)
        ⊎ (LacksSpare spares old.spare new.spare × AsksNobody old.listener new.listener answer)
    pub connector : new.connector ≡ old.connector
    pub poller : new.poller ≡ old.poller

  -- the descriptor that was held is given up for a connection to the origin, which is dialed once; nothing
  -- else changes
  pub record DialsOnce (connects : K → K → Result U Error → Type 0) (old new : Opened S A K H T U)
      (answer : Dialing U) : Type 0 where
    pub hears : HearsDial connects old.connector new.connector answer
    pub same : new ≡ record old { connector = new.connector; spare = None }

  -- a client's write side is shut at this moment, and it lingers
  pub record KeepsClient (shuts : T → T → Type 0) (client : StreamLink T) (moment : ℕ)
      (old new : Opened S A K H T U) : Type 0 where
    pub keeps : KeepsOne shuts client.stream moment old.lingering new.lingering
    pub same : new ≡ record old { lingering = new.lingering }
