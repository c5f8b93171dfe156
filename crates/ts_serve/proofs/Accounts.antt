-- What the steps of the first thread leave of the acceptor and of the net.
use Rattle.std.specs.Prelude.{Err, IsErrAnd, Ok, OnOk, Result}
use Rattle.std.proofs.Common.{◌≡◌, ℕ, ◌+◌, ◌<◌, ◌≤◌, Bool, List, refl, sym, ◌∙◌, subst, Option, get_or}
use Rattle.std.proofs.Common.{arith}
use Rattle.ts_link.specs.Counts.{Counted}
use Rattle.ts_link.specs.declared.link.Link as link
use Rattle.ts_upstream.specs.declared.upstream.Upstream as upstream
use Rattle.ts_txn.specs.Net.{NetSeen}
use Rattle.ts_txn.specs.declared.net.NetCounts.{NetCounts}
use Rattle.ts_txn.specs.declared.retired.Retired.{Retired}
use Rattle.ts_serve.specs.declared.connection.Connection.{Connection}
use Rattle.ts_serve.specs.declared.acceptor.Acceptor.{Acceptor}
use Rattle.ts_serve.specs.declared.acceptor.Listening.{Listening}
use Rattle.ts_serve.specs.declared.acceptor.Listening.TheVariants as listening
use Rattle.ts_serve.specs.declared.arrival.Arrival.TheVariants as arrival
use Rattle.ts_serve.specs.Arrivals.{Receives}
use Rattle.ts_serve.specs.Balance.{IsSameRow}
use Rattle.ts_journal.specs.declared.slotted.Slotted.{Ghosts}
use Rattle.ts_slot.specs.Words.{view}
use Rattle.ts_thread.specs.Desks.{KeepsDesk}
use Rattle.ts_serve.specs.Acceptor.{GoesOn, HasShutCause, IsAcceptorOf, IsAccount, KeepsAcceptor}
use Rattle.ts_serve.specs.Acceptor.{KeepsAccount}
use Rattle.ts_serve.specs.Arrivals.{IsNotAccepting}
use Rattle.ts_serve.specs.Knowledge.{DoneAndSpent, KnownGroups, ServerDesk}
use Rattle.ts_serve.specs.declared.connection.Connection.TheVariants.{Free}
use Rattle.ts_serve.specs.declared.place.Place.{Place}
use Rattle.ts_group.specs.declared.either.Either.{Either}
use Rattle.ts_group.specs.declared.either.EitherTag.{EitherTag}
use Rattle.ts_group.specs.declared.group.Group.{Group}
use Rattle.ts_thread.specs.Seats.{More}
use Rattle.ts_txn.specs.declared.retired.Noted.{Noted}
use Rattle.ts_serve.specs.Acceptor.{KeepsDeskSome, KeepsSome}
use Rattle.ts_serve.specs.declared.acceptor.TheConstants.{PLACES}
use Rattle.ts_serve.specs.Acceptor.{saw_end, saw_fault}
use Rattle.ts_serve.proofs.Balance.{client_on, client_stays}
use Rattle.ts_serve.proofs.Books.{books_row}
use Rattle.ts_serve.proofs.Follows.{serves_more}
use Rattle.ts_serve.proofs.Knowledge.{server_goes}
use Rattle.ts_serve.proofs.Desks.{desk_stays, desk_some, desk_on, desk_seat}

-- a cause stays one
cause_on : (l : Listening) (first old new : NetCounts) → new.ends ≡ old.ends → new.faults ≡ old.faults
    → HasShutCause l first old → HasShutCause l first new
cause_on l first old new ends faults cause = record {
  ends = subst (Counted (saw_end l) first.ends) (sym ends) cause.ends;
  faults = subst (Counted (saw_fault l) first.faults) (sym faults) cause.faults;
}

module _ {C O : Type 0} where
  -- the account of an acceptor that goes on accepting, of a net that counted neither an end nor a fault
  account_on : (first : NetCounts) (old new : Acceptor) (before after : NetSeen C O)
      → new.listening ≡ old.listening → new.came ≤ new.most → after.counts.ends ≡ before.counts.ends
      → after.counts.faults ≡ before.counts.faults
      → IsAccount first old before → IsAccount first new after
  account_on first old new before after same few ends faults was = record {
    few = few;
    cause = subst (λ (l : Listening). HasShutCause l first after.counts) (sym same)
        (cause_on old.listening first before.counts after.counts ends faults was.cause);
  }

  -- that of a net that says now why it gives nobody more
  account_shut : (l : Listening) (first : NetCounts) (old new : Acceptor) (before after : NetSeen C O)
      → old.listening ≡ listening.Open → new.listening ≡ l → new.came ≡ old.came → new.most ≡ old.most
      → HasShutCause l before.counts after.counts → IsAccount first old before → IsAccount first new after
  account_shut l first old new before after was_open shut came most cause was =
      let still : HasShutCause listening.Open first before.counts =
      subst (λ (l : Listening). HasShutCause l first before.counts) was_open was.cause in
      record {
        few = let few = was.few in omega arith;
        cause = subst (λ (l : Listening). HasShutCause l first after.counts) (sym shut) (record {
          ends = subst (λ n. Counted (saw_end l) n after.counts.ends) still.ends cause.ends;
          faults = subst (λ n. Counted (saw_fault l) n after.counts.faults) still.faults cause.faults;
        });
      }

  -- a net that was not asked for a client
  pub account_still : (first : NetCounts) (old new : Acceptor) (before after : NetSeen C O)
      → new.listening ≡ old.listening → new.came ≡ old.came → new.most ≡ old.most → IsNotAccepting before after
      → IsAccount first old before → IsAccount first new after
  account_still first old new before after same came most still was =
      account_on first old new before after same (let few = was.few in omega arith) still.ends still.faults was

  module _ {clients : link.Ghosts C} {origins : link.Ghosts O} {both : upstream.Ghosts O C} {number : ℕ} where
    -- a client came
    pub account_came : (first : NetCounts) (client : C) (origin : Option O) (old new : Acceptor)
        (before after : NetSeen C O) → new.listening ≡ old.listening → new.came ≡ old.came + 1
        → new.most ≡ old.most → old.came < old.most
        → Receives clients origins both number (arrival.Came client origin) before after
        → IsAccount first old before → IsAccount first new after
    account_came first client origin old new before after same came most low receives was =
        account_on first old new before after same (omega arith) receives.ends receives.faults was

    -- nobody came
    pub account_nobody : (first : NetCounts) (old new : Acceptor)
        (before after : NetSeen C O) → new.listening ≡ old.listening → new.came ≡ old.came
        → new.most ≡ old.most → Receives clients origins both number arrival.Nobody before after
        → IsAccount first old before → IsAccount first new after
    account_nobody first old new before after same came most receives was =
        account_on first old new before after same (let few = was.few in omega arith) receives.ends
        receives.faults was

    -- the net was closed
    pub account_closed : (first : NetCounts) (old new : Acceptor)
        (before after : NetSeen C O) → old.listening ≡ listening.Open → new.listening ≡ listening.Closed
        → new.came ≡ old.came → new.most ≡ old.most
        → Receives clients origins both number arrival.Closed before after
        → IsAccount first old before → IsAccount first new after
    account_closed first old new before after was_open shut came most receives =
        account_shut listening.Closed first old new before after was_open shut came most
        (record { ends = receives.ends; faults = receives.faults })

    -- the net failed
    pub account_failed : (first : NetCounts) (old new : Acceptor)
        (before after : NetSeen C O) → old.listening ≡ listening.Open → new.listening ≡ listening.Failed
        → new.came ≡ old.came → new.most ≡ old.most
        → Receives clients origins both number arrival.Failed before after
        → IsAccount first old before → IsAccount first new after
    account_failed first old new before after was_open shut came most receives =
        account_shut listening.Failed first old new before after was_open shut came most
        (record { ends = receives.ends; faults = receives.faults })

module _ {C O : Type 0} where
  pub keeps_account : (acceptor : Acceptor) (net : NetSeen C O) → KeepsAccount acceptor acceptor net net
  keeps_account acceptor net = record { most = refl; account = λ first was. was }

  -- only the row changed, and the net was not asked for a client
  pub account_moves : (old new : Acceptor) (before after : NetSeen C O) → new.listening ≡ old.listening
      → new.came ≡ old.came → new.most ≡ old.most → IsNotAccepting before after
      → KeepsAccount old new before after
  account_moves old new before after listening came most still = record {
    most = most;
    account = λ first. account_still first old new before after listening came most still;
  }

module _ {W T A P V C O : Type 0} {Fits : T → W → Type 0} {Keeps : A → T → Type 0} {Other : V → P → Type 0}
    {behind : A → List (Noted O) → A} {Done Spent : A → Retired C O → Type 0} {Note : A → Noted O → Type 0}
    {tells : Bool} {Q R U : Type 0} {Are : A → Type 0} where
  -- the seat knows more, and nothing else changed
  pub acceptor_more : (known more : KnownGroups W A P V Q R U) (acceptor : Acceptor) (net : NetSeen C O)
      → More known more
      → KeepsAcceptor Fits Keeps Other behind Done Spent Note tells Are known more acceptor acceptor net net
  acceptor_more known more acceptor net all = record {
    account = keeps_account acceptor net;
    serving = λ telling terms are misdials. serves_more Fits Keeps Other behind Done Spent Note terms misdials known
        more acceptor.row.items net all;
  }

  pub acceptor_stays : (known : KnownGroups W A P V Q R U) (acceptor : Acceptor) (net : NetSeen C O)
      → KeepsAcceptor Fits Keeps Other behind Done Spent Note tells Are known known acceptor acceptor net net
  acceptor_stays known acceptor net = acceptor_more known known acceptor net (record { stays = λ e there. there })

  pub acceptor_on : (known known1 known2 : KnownGroups W A P V Q R U) (a b c : Acceptor) (l m n : NetSeen C O)
      → KeepsAcceptor Fits Keeps Other behind Done Spent Note tells Are known known1 a b l m
      → KeepsAcceptor Fits Keeps Other behind Done Spent Note tells Are known1 known2 b c m n
      → KeepsAcceptor Fits Keeps Other behind Done Spent Note tells Are known known2 a c l n
  acceptor_on known known1 known2 a b c l m n one two = record {
    account = record {
      most = two.account.most ∙ one.account.most;
      account = λ first was. two.account.account first (one.account.account first was);
    };
    serving = λ telling terms are misdials was. two.serving telling terms are misdials
        (one.serving telling terms are misdials was);
  }

  -- only what is in the row of starts changed
  pub acceptor_row : (known more : KnownGroups W A P V Q R U) (old new : Acceptor) (net : NetSeen C O)
      → More known more → new.listening ≡ old.listening → new.came ≡ old.came
      → new.most ≡ old.most → IsSameRow old.row.items new.row.items
      → KeepsAcceptor Fits Keeps Other behind Done Spent Note tells Are known more old new net net
  acceptor_row known more old new net all listening came most alike = record {
    account = account_moves old new net net listening came most
        (record { given = refl; ends = refl; faults = refl });
    serving = λ telling terms are misdials was. record {
      books = books_row (Done terms) (Note terms) misdials old.row.items new.row.items net alike was.books;
      sessions = server_goes Fits Keeps Other behind terms (DoneAndSpent Done Spent) known more old.row.items
          new.row.items net all alike was.sessions;
    };
  }

  -- The first thread's steps, one after the other.
  module _ {d : Ghosts (Group (Either (Place W) P) Q R (EitherTag A V) U) (EitherTag A V)
      (Group (Either (Place W) P) Q R (EitherTag A V) U)} where
    pub goes_nowhere : (desk : ServerDesk W A P V Q R U d) (acceptor : Acceptor) (net : NetSeen C O)
        → GoesOn Fits Keeps Other behind Done Spent Note tells Are desk desk acceptor acceptor net net
    goes_nowhere desk acceptor net = record {
      at_desk = desk_stays desk;
      at_acceptor = acceptor_more (view desk.seat).known (view desk.seat).known acceptor net
          (record { stays = λ e there. there });
    }

    pub goes_further : (desk desk1 desk2 : ServerDesk W A P V Q R U d) (acceptor acceptor1 acceptor2 : Acceptor)
        (net net1 net2 : NetSeen C O)
        → GoesOn Fits Keeps Other behind Done Spent Note tells Are desk desk1 acceptor acceptor1 net net1
        → GoesOn Fits Keeps Other behind Done Spent Note tells Are desk1 desk2 acceptor1 acceptor2 net1 net2
        → GoesOn Fits Keeps Other behind Done Spent Note tells Are desk desk2 acceptor acceptor2 net net2
    goes_further desk desk1 desk2 acceptor acceptor1 acceptor2 net net1 net2 one two = record {
      at_desk = desk_on desk desk1 desk2 one.at_desk two.at_desk;
      at_acceptor = acceptor_on (view desk.seat).known (view desk1.seat).known (view desk2.seat).known acceptor
          acceptor1 acceptor2 net net1 net2 one.at_acceptor two.at_acceptor;
    }

    -- the seat entered some groups, and something was done at the acceptor
    pub goes_at_acceptor : (old new : ServerDesk W A P V Q R U d) (acceptor acceptor1 : Acceptor)
        (net net1 : NetSeen C O) → new.pass ≡ old.pass → KeepsSome (view old.seat) (view new.seat)
        → KeepsAcceptor Fits Keeps Other behind Done Spent Note tells Are (view old.seat).known
        (view new.seat).known acceptor acceptor1 net net1
        → GoesOn Fits Keeps Other behind Done Spent Note tells Are old new acceptor acceptor1 net net1
    goes_at_acceptor old new acceptor acceptor1 net net1 same seat keeps = record {
      at_desk = desk_seat old new same seat;
      at_acceptor = keeps;
    }

    -- only the desk did something
    pub goes_at_desk : (old new : ServerDesk W A P V Q R U d) (acceptor : Acceptor) (net : NetSeen C O) (most : ℕ)
        → KeepsDesk old new most
        → GoesOn Fits Keeps Other behind Done Spent Note tells Are old new acceptor acceptor net net
    goes_at_desk old new acceptor net most keeps = record {
      at_desk = desk_some old new most keeps;
      at_acceptor = acceptor_more (view old.seat).known (view new.seat).known acceptor net keeps.seat.known;
    }

    -- handlers were started
    pub goes_at_start : (old new : ServerDesk W A P V Q R U d) (acceptor acceptor1 : Acceptor) (net : NetSeen C O)
        → KeepsDeskSome old new → acceptor1.listening ≡ acceptor.listening → acceptor1.came ≡ acceptor.came
        → acceptor1.most ≡ acceptor.most → IsSameRow acceptor.row.items acceptor1.row.items
        → GoesOn Fits Keeps Other behind Done Spent Note tells Are old new acceptor acceptor1 net net
    goes_at_start old new acceptor acceptor1 net keeps listening came most alike = record {
      at_desk = keeps;
      at_acceptor = acceptor_row (view old.seat).known (view new.seat).known acceptor acceptor1 net
          keeps.1.seat.known listening came most alike;
    }

pub row_stays : (row : List Connection) → IsSameRow row row
row_stays row = record {
  places = refl;
  clients = λ k. client_stays (get_or row k Free);
  numbers = λ x. refl;
  taken = refl;
  origins = refl;
}

pub row_on : (a b c : List Connection) → IsSameRow a b → IsSameRow b c → IsSameRow a c
row_on a b c one two = record {
  places = two.places ∙ one.places;
  clients = λ k. client_on (get_or a k Free) (get_or b k Free) (get_or c k Free) (one.clients k) (two.clients k);
  numbers = λ x. two.numbers x ∙ one.numbers x;
  taken = two.taken ∙ one.taken;
  origins = two.origins ∙ one.origins;
}

-- the acceptor of a net, once other handlers were started
pub acceptor_again : {C O : Type 0} (old new : Acceptor) (net : NetSeen C O) → new.next ≡ old.next
    → new.came ≡ old.came → IsSameRow old.row.items new.row.items → IsAcceptorOf old net
    → IsAcceptorOf new net
acceptor_again old new net next came same was = record {
  row = same.places ∙ was.row;
  next = subst (λ n. n < PLACES) (sym next) was.next;
  came = came ∙ was.came;
  no_more = subst (λ n. net.handed + n ≤ net.given) (sym same.taken) was.no_more;
}

-- of an answer that says that memory lacked, whatever is to hold otherwise does
pub lacks_any : {A E : Type 0} (r : Result A E) (e : E) (P : Type 0) → IsErrAnd r (λ x. x ≡ e) → OnOk r P
lacks_any (Ok a) e P is = absurd is
lacks_any (Err x) e P is = tt
