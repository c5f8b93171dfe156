-- How many clients were given, where this came of asking for one.
use Rattle.std.proofs.Common.{◌≡◌, refl}
use Rattle.ts_net.specs.Arrivals.{after_arrival}
use Rattle.ts_net.specs.declared.listener.Arrival.{Arrival}
use Rattle.ts_net.specs.declared.listener.Arrival.TheVariants as arrival
use Rattle.ts_net.specs.declared.listener.Listener.{Listener}
use Rattle.ts_socket_net.specs.Asking.{given_with}

-- a client is counted, and nobody else
pub given_after : {A T : Type 0} (answer : Arrival T) (acceptor : A) (old : Listener A)
    → (after_arrival answer acceptor old).given ≡ given_with answer old.given
given_after (arrival.Client link) acceptor old = refl
given_after arrival.Again acceptor old = refl
given_after arrival.Closed acceptor old = refl
given_after arrival.Failed acceptor old = refl
