-- What an accept answers, and what it leaves of who listens (Linux, accept(2)).
use Rattle.std.specs.Prelude.{⊤, ◌≡◌, ℕ, Bool, suc, ◌+◌, ◌<◌, if◌then◌else◌, Result, Ok, Err}
use Rattle.std.specs.IoError.{raw_os_error}
use Rattle.std.specs.declared.io.Error.{Error}
use Rattle.std.specs.declared.net.socket_addr.SocketAddr.{SocketAddr}
use Rattle.ts_link.specs.Counts.{greatest}
use Rattle.ts_net.specs.Heard.{is_final}
use Rattle.ts_net.specs.Links.{fresh_link}
use Rattle.ts_net.specs.declared.listener.Arrival.{Arrival}
use Rattle.ts_net.specs.declared.listener.Arrival.TheVariants as V
use Rattle.ts_net.specs.declared.listener.Listener.{Listener}
use Rattle.ts_net.specs.declared.listener.SystemAcceptor.{SystemAcceptor}
use Rattle.ts_net.specs.declared.poller.TheConstants.{LISTENER}

-- a listener that has accepted nobody
abbrev pub fresh_listener : {A : Type 0} → A → Listener A
fresh_listener acceptor = record { acceptor = acceptor; given = 0 }

-- a listener at this address of the system that has accepted nobody
pub record ListensAt (address : SocketAddr) (l : Listener SystemAcceptor) : Type 0 where
  pub fresh : l ≡ fresh_listener l.acceptor
  pub at : l.acceptor.address ≡ address

-- the system was asked to watch who listens, with this answer, and as many clients were given as before
pub record IsWatchedListener {A : Type 0} (watches : ℕ → Bool → A → A → Type 0) (answer : Bool)
    (old new : Listener A) : Type 0 where
  pub watched : watches LISTENER answer old.acceptor new.acceptor
  pub same : new ≡ record old { acceptor = new.acceptor }

-- What the system's answer to an accept comes to, where the next client has this number: an error is a fault
-- where no later accept can succeed, and else another client may come.
abbrev pub arrival_of : {S : Type 0} → ℕ → Result S Error → Arrival S
arrival_of number (Ok stream) = V.Client (fresh_link stream number)
arrival_of number (Err e) = if is_final (raw_os_error e) then V.Failed else V.Again

-- a client has as name the number of clients that were given with it
abbrev pub IsNamed : {S : Type 0} → Arrival S → ℕ → Type 0
IsNamed (V.Client link) given = link.name ≡ given
IsNamed _ given = ⊤

-- the system was asked once, and the answer is what its own comes to
abbrev pub HearsArrival : {A S : Type 0} → (A → A → Result S Error → Type 0) → Listener A → A → Arrival S
    → Type 0
HearsArrival {S = S} accepts old acceptor answer =
    (heard : Result S Error) × accepts old.acceptor acceptor heard
    × (answer ≡ arrival_of (suc old.given) heard)

-- where clients can still be counted the system was asked, and else there are no more of them
pub record IsArrival {A S : Type 0} (accepts : A → A → Result S Error → Type 0) (old : Listener A)
    (acceptor : A) (answer : Arrival S) : Type 0 where
  pub asks : old.given < greatest → HearsArrival accepts old acceptor answer
  pub closes : old.given ≡ greatest → (answer ≡ V.Closed) × (acceptor ≡ old.acceptor)

-- the listener after an answer, which left what it accepts from so
abbrev pub after_arrival : {A S : Type 0} → Arrival S → A → Listener A → Listener A
after_arrival (V.Client link) acceptor l = record l { acceptor = acceptor; given = l.given + 1 }
after_arrival _ acceptor l = record l { acceptor = acceptor }
