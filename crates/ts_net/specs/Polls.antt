-- What the system tells of sockets that it watches (Linux, epoll(7)): of each that became ready the name
-- under which it is watched.
use Rattle.std.specs.Prelude.{◌≡◌, ◌⊎◌, ℕ, ◌==◌, List, ◌++◌, Bool, if◌then◌else◌}
use Rattle.std.specs.List.{list_any}
use Rattle.mio.specs.Event.{event_token}
use Rattle.mio.specs.declared.event.event.Event.{Event}
use Rattle.ts_net.specs.declared.poller.TheConstants.{LISTENER}

-- the name under which a socket is watched that the system told of
abbrev pub name_of : Event → ℕ
name_of e = (event_token e).0

-- this name is one of them
abbrev pub tells : ℕ → List ℕ → Bool
tells name names = list_any (λ n. n == name) names

-- who listens has the name of the client that comes next
abbrev pub named_as : ℕ → ℕ → ℕ
named_as next name = if name == LISTENER then next else name

-- some names stand behind those that were there
pub record AddsSome (old new : List ℕ) : Type 0 where
  pub more : List ℕ
  pub behind : new ≡ old ++ more

-- a socket that was shown to the system is as it was, or as the system keeps it
abbrev pub IsKept : {S : Type 0} → (S → S → Type 0) → S → S → Type 0
IsKept keeps old new = (new ≡ old) ⊎ keeps old new
