-- What serving a net comes to, from the server as it is opened to the balance and the account at the end.
use Rattle.std.proofs.Common.{◌≡◌, ℕ, ◌≤◌, ◌⊎◌, inl, inr, Bool, true, List, [], replicate, length, refl, sym}
use Rattle.std.proofs.Common.{ap, ◌∙◌, subst, arith}
use Rattle.std.proofs.lemmas.List.{length-replicate}
use Rattle.std.proofs.lemmas.List.Elements.{All-nil}
use Rattle.ts_journal.specs.declared.slotted.Slotted.{Ghosts}
use Rattle.ts_slot.specs.declared.seat.Seat.{Seat}
use Rattle.ts_slot.specs.declared.slots.Slots.{Slots}
use Rattle.ts_slot.specs.Limits.{whole_share}
use Rattle.ts_slot.specs.Views.{opener}
use Rattle.ts_slot.specs.Words.{tags_of, view, IsSeatOf}
use Rattle.ts_queue.specs.declared.queue.EventQueue.{EventQueue}
use Rattle.ts_queue.specs.declared.queue.QueuePass.{QueuePass}
use Rattle.ts_queue.specs.Passes.{IsPassOf, pass_view}
use Rattle.ts_queue.specs.Views.{first_view}
use Rattle.ts_thread.specs.declared.desk.Desk.{Desk}
use Rattle.ts_thread.specs.Tokens.{AllName}
use Rattle.ts_thread.specs.Threads.{CanSplit}
use Rattle.ts_thread.specs.declared.TheConstants.{MOST_THREADS}
use Rattle.ts_txn.specs.Net.{IsFreshNet, NetSeen}
use Rattle.ts_txn.specs.declared.retired.Noted.{Noted}
use Rattle.ts_txn.specs.declared.retired.Retired.{Retired}
use Rattle.ts_serve.specs.declared.connection.Connection.{Connection}
use Rattle.ts_serve.specs.declared.connection.Connection.TheVariants.{Free}
use Rattle.ts_serve.specs.declared.acceptor.Acceptor.{Acceptor}
use Rattle.ts_serve.specs.declared.acceptor.Listening.{Listening}
use Rattle.ts_serve.specs.declared.acceptor.Listening.TheVariants as listening
use Rattle.ts_serve.specs.declared.acceptor.Served.TheVariants as served
use Rattle.ts_serve.specs.declared.acceptor.TheConstants.{PLACES}
use Rattle.ts_serve.specs.Balance.{IsBalanced, HasAll, HasNoMore, KeepsBalance}
use Rattle.ts_serve.specs.Acceptor.{HasShutCause, IsAccount, IsAcceptorOf, IsNotAsked, IsOver, KeepsAcceptor}
use Rattle.ts_serve.specs.Acceptor.{LosesNobody}
use Rattle.ts_serve.specs.Closing.{AreNotedSessions, KeepsSessions}
use Rattle.ts_serve.specs.Notes.{HadSessions}
use Rattle.ts_serve.specs.Opening.{IsNewAcceptor, IsNewServer}
use Rattle.ts_serve.specs.Knowledge.{DoneAndSpent, IsServing, KnownGroups, KnowsAll}
use Rattle.ts_serve.proofs.Books.{books_fresh}
use Rattle.ts_serve.proofs.Knowledge.{server_fresh}
use Rattle.ts_serve.specs.Served.{AreRetired, AreSessions, HasEndedFor, HasNotFailed, IsNotClosed, IsServed}
use Rattle.ts_serve.specs.Served.{served_by}
use Rattle.ts_serve.proofs.Balance.{all_fresh, balance_fresh, no_more_fresh}

-- what can be split among the most threads can be split among fewer
pub splits_few : {X G T : Type 0} {d : Ghosts X G T} (threads : ℕ) (seat : Seat X G T d) (pass : QueuePass)
    → threads ≤ MOST_THREADS → CanSplit MOST_THREADS seat pass → CanSplit threads seat pass
splits_few threads seat pass few splits =
    let share = splits.seat_share in
    let free = splits.seat_free in
    let pass_share = splits.pass_share in
    let pass_free = splits.pass_free in
    record {
      seat_share = omega (arith, few, share);
      seat_free = omega (arith, few, free);
      pass_share = omega (arith, few, pass_share);
      pass_free = omega (arith, few, pass_free);
    }

-- the first seat and the first pass make the desk of a new server
pub new_server : {X G T : Type 0} {d : Ghosts X G T} (tags gs : List G) (known : List (ℕ × ℕ × T))
    (slots : Slots X G T) (queue : EventQueue) (seat : Seat X G T d) (pass : QueuePass) (desk : Desk X G T d)
    → tags_of slots ≡ tags → IsSeatOf slots seat → view seat ≡ opener gs known → IsPassOf queue pass
    → pass_view pass ≡ first_view → desk.seat ≡ seat → desk.pass ≡ pass → desk.wheel ≡ []
    → IsNewServer tags (record { slots = slots; queue = queue; desk = desk })
new_server tags gs known slots queue seat pass desk are of_slots first of_queue start seat_is pass_is wheel =
    let seen = ap (λ s. view s) seat_is ∙ first in
    let share : (view desk.seat).share ≡ whole_share = ap (λ v. v.share) seen in
    let from : (view desk.seat).free_from ≡ 1 = ap (λ v. v.free_from) seen in
    let to : (view desk.seat).free_to ≡ whole_share = ap (λ v. v.free_to) seen in
    let known = ap (λ p. pass_view p) pass_is ∙ start in
    let pass_share : (pass_view desk.pass).share ≡ first_view.share = ap (λ v. v.share) known in
    let pass_from : (pass_view desk.pass).free_from ≡ first_view.free_from = ap (λ v. v.free_from) known in
    let pass_to : (pass_view desk.pass).free_to ≡ first_view.free_to = ap (λ v. v.free_to) known in
    record {
      tags_are = are;
      desk = record {
        seat = subst (λ s. IsSeatOf slots s) (sym seat_is) of_slots;
        pass = subst (λ p. IsPassOf queue p) (sym pass_is) of_queue;
        wheel = subst (λ w. AllName (length (tags_of slots)) w) (sym wheel) (All-nil _);
      };
      share = share;
      idle = ap (λ v. v.held) seen;
      splits = record {
        seat_share = omega (arith, share);
        seat_free = omega (arith, from, to);
        pass_share = omega (arith, pass_share);
        pass_free = omega (arith, pass_from, pass_to);
      };
    }

module _ {C O : Type 0} where
  -- a new acceptor is that of a net that gave no client
  pub acceptor_first : (most : ℕ) (acceptor : Acceptor) (net : NetSeen C O) → IsNewAcceptor most acceptor → IsFreshNet net
      → IsAcceptorOf acceptor net
  acceptor_first most acceptor net new fresh =
      let next = new.next in
      record {
        row = ap length new.row ∙ length-replicate PLACES Free;
        next = omega (arith, next);
        came = new.came ∙ sym fresh.given;
        no_more = subst (λ row. HasNoMore row net) (sym new.row) (no_more_fresh PLACES net fresh);
      }

  -- with its first account
  pub account_first : (most : ℕ) (acceptor : Acceptor) (net : NetSeen C O) → IsNewAcceptor most acceptor
      → IsAccount net.counts acceptor net
  account_first most acceptor net new =
      let came = new.came in
      record {
        few = omega (arith, came);
        cause = subst (λ (l : Listening). HasShutCause l net.counts net.counts) (sym new.listening)
            (record { ends = refl; faults = refl });
      }

  -- and its first balance
  pub balance_first : (Done : Retired C O → Type 0) (most : ℕ) (acceptor : Acceptor) (net : NetSeen C O)
      → IsNewAcceptor most acceptor → IsFreshNet net → IsBalanced Done net.counts.misdials acceptor.row.items net
  balance_first Done most acceptor net new fresh =
      subst (λ row. IsBalanced Done net.counts.misdials row net) (sym new.row)
      (balance_fresh Done net.counts.misdials PLACES net fresh refl)

  pub all_first : (most : ℕ) (acceptor : Acceptor) (net : NetSeen C O) → IsNewAcceptor most acceptor → IsFreshNet net
      → HasAll acceptor.row.items net
  all_first most acceptor net new fresh =
      subst (λ row. HasAll row net) (sym new.row) (all_fresh PLACES net fresh)

  -- what the balance say of what was handed over, whatever is still in the row
  pub retired_of : (Done : Retired C O → Type 0) (row : List Connection) (old new : NetSeen C O)
      → IsBalanced Done old.counts.misdials row new → AreRetired Done old new
  retired_of Done row old new balance = record {
    each = balance.each;
    once = λ x. let was = balance.once x in omega (arith, was);
    dialed = elim balance.dialed [ inl few ↦ inl (omega (arith, few)) | inr end ↦ inr end ];
  }

  -- nothing was done
  pub retired_none : (Done : Retired C O → Type 0) (net : NetSeen C O) → IsFreshNet net
      → AreRetired Done net net
  retired_none Done net fresh =
      retired_of Done (replicate PLACES Free) net net
      (balance_fresh Done net.counts.misdials PLACES net fresh refl)

  pub served_none : (most : ℕ) (net : NetSeen C O) → IsFreshNet net → IsServed served.NoMemory most net net
  served_none most net fresh =
      let none = fresh.given in
      let nothing = fresh.handed in
      record { few = omega (arith, none); no_more = omega (arith, none, nothing); shut = inl refl; ended = tt }

  -- once it is closed or failed, a net is asked for nobody more
  shut_by : (l : Listening) (old new : NetSeen C O) → HasShutCause l old.counts new.counts
      → HasNotFailed old new ⊎ IsNotClosed old new
  shut_by listening.Open old new cause = inl cause.faults
  shut_by listening.Closed old new cause = inl cause.faults
  shut_by listening.Failed old new cause = inr cause.ends

  -- the cause for which nobody more is let in, once nobody is in the row, is that for which serving ended
  ended_for : (l : Listening) (most came : ℕ) (old new : NetSeen C O) → came ≡ new.given → came ≤ most
      → (l ≡ listening.Open → most ≤ came) → new.handed ≡ new.given → HasShutCause l old.counts new.counts
      → HasEndedFor (served_by l) most old new
  ended_for listening.Open most came old new is few shut all cause =
      let more = shut refl in (all, cause.faults, inl (omega (arith, is, few, more)))
  ended_for listening.Closed most came old new is few shut all cause = (all, cause.faults, inr cause.ends)
  ended_for listening.Failed most came old new is few shut all cause = (all, cause.ends, cause.faults)

  pub served_whole : (most : ℕ) (acceptor : Acceptor) (old new : NetSeen C O) → acceptor.most ≡ most
      → IsAcceptorOf acceptor new → IsAccount old.counts acceptor new → IsOver acceptor → HasAll acceptor.row.items new
      → IsServed (served_by acceptor.listening) most old new
  served_whole most acceptor old new most_is is account over all =
      let came = is.came in
      let low = account.few in
      let nobody = over.nobody in
      let few : acceptor.came ≤ most = omega (arith, most_is, low) in
      let no_more = is.no_more in
      record {
        few = omega (arith, came, few);
        no_more = omega (arith, no_more);
        shut = shut_by acceptor.listening old new account.cause;
        ended = ended_for acceptor.listening most acceptor.came old new came few
            (λ still. let more = over.shut still in omega (arith, most_is, more)) (omega (arith, all, nobody))
            account.cause;
      }

  -- where memory lacked, no more clients came than were to, and no more were handed over
  pub served_few : (most : ℕ) (acceptor : Acceptor) (again : List Connection) (old now new : NetSeen C O)
      → acceptor.most ≡ most → IsAcceptorOf acceptor now → IsAccount old.counts acceptor now → IsNotAsked now new
      → HasNoMore again new → IsServed served.NoMemory most old new
  served_few most acceptor again old now new most_is is account same no_more =
      let came = is.came in
      let low = account.few in
      let given = same.given in
      record {
        few = omega (arith, most_is, came, low, given);
        no_more = omega (arith, no_more);
        shut = shut_by acceptor.listening old new
            (subst (λ counts. HasShutCause acceptor.listening old.counts counts) (sym same.counts) account.cause);
        ended = tt;
      }

module _ {C O : Type 0} (Note : Noted O → Type 0) (Session : List (Noted O) → Retired C O → Type 0) where
  -- what the notes and the sessions say of what was noted and handed over, whatever is still in the row
  pub sessions_of : (row : List Connection) (old new : NetSeen C O)
      → AreNotedSessions Note Session old.counts.misdials row new → AreSessions Note Session old new
  sessions_of row old new was = record {
    each = was.notes.each;
    known = was.notes.known;
    order = was.notes.order;
    had = was.had;
    dialed = elim was.notes.dialed [ inl few ↦ inl (omega (arith, few)) | inr end ↦ inr end ];
  }

-- What the threads leave of a new acceptor and of a fresh net.
module _ {W T A P V C O : Type 0} (Fits : T → W → Type 0) (Keeps : A → T → Type 0) (Other : V → P → Type 0)
    (behind : A → List (Noted O) → A) (Done Spent : A → Retired C O → Type 0) (Note : A → Noted O → Type 0)
    (tells : Bool) {Q R U : Type 0} (Are : A → Type 0) (known known' : KnownGroups W A P V Q R U) (most : ℕ)
    (first last : Acceptor) (old now : NetSeen C O) (new : IsNewAcceptor most first) (fresh : IsFreshNet old)
    (keeps : KeepsAcceptor Fits Keeps Other behind Done Spent Note tells Are known known' first last old now) where
  -- how the server is served at the end
  served_now : tells ≡ true → (terms : A) → Are terms
      → IsServing Fits Keeps Other behind Done Spent Note terms old.counts.misdials known' last.row.items now
  served_now telling terms are = keeps.serving telling terms are old.counts.misdials
      (subst (λ row. IsServing Fits Keeps Other behind Done Spent Note terms old.counts.misdials known row old)
      (sym new.row)
      (record {
        books = books_fresh (Done terms) (Note terms) old.counts.misdials PLACES old fresh refl;
        sessions = server_fresh Fits Keeps Other behind terms (DoneAndSpent Done Spent) known PLACES old fresh;
      }))

  pub whole_retired : tells ≡ true → (terms : A) → Are terms → AreRetired (Done terms) old now
  whole_retired telling terms are =
      retired_of (Done terms) last.row.items old now (served_now telling terms are).books.balance

  -- its notes, and the sessions that were had, of which each is done
  sessions_now : tells ≡ true → (terms : A) → Are terms
      → AreNotedSessions (Note terms) (λ notes. Done (behind terms notes)) old.counts.misdials last.row.items
      now
  sessions_now telling terms are =
      let was = served_now telling terms are in
      record { notes = was.books.notes; had = λ i d low. (was.sessions.had i d low).0 }

  pub whole_sessions : tells ≡ true → (terms : A) → Are terms
      → AreSessions (Note terms) (λ notes. Done (behind terms notes)) old now
  whole_sessions telling terms are =
      sessions_of (Note terms) (λ notes. Done (behind terms notes)) last.row.items old now
      (sessions_now telling terms are)

  pub whole_spent : tells ≡ true → (terms : A) → Are terms
      → HadSessions (λ notes. Spent (behind terms notes)) now
  whole_spent telling terms are i d low = ((served_now telling terms are).sessions.had i d low).1

  pub whole_served : IsAcceptorOf last now → IsOver last → LosesNobody first last old now
      → IsServed (served_by last.listening) most old now
  whole_served is over loses = served_whole most last old now (keeps.account.most ∙ new.most_is) is
      (keeps.account.account old.counts (account_first most first old new)) over
      (loses (all_first most first old new fresh))

  -- and where memory lacked, once the server is closed
  pub lacked_retired : (again : List Connection) (after : NetSeen C O)
      → KeepsBalance tells Done Are last.row.items now again after → tells ≡ true → (terms : A) → Are terms
      → AreRetired (Done terms) old after
  lacked_retired again after balance telling terms are =
      retired_of (Done terms) again old after
      (balance telling terms are old.counts.misdials (served_now telling terms are).books.balance)

  pub lacked_sessions : (again : List Connection) (after : NetSeen C O)
      → KeepsSessions tells behind Done Note
      (λ terms. Are terms × KnowsAll Fits Keeps Other behind terms known' last.row.items now)
      last.row.items now again after → tells ≡ true → (terms : A) → Are terms
      → AreSessions (Note terms) (λ notes. Done (behind terms notes)) old after
  lacked_sessions again after keeps_on telling terms are =
      sessions_of (Note terms) (λ notes. Done (behind terms notes)) again old after
      (keeps_on telling terms (are, (served_now telling terms are).sessions.knows) old.counts.misdials
      (sessions_now telling terms are))

  pub lacked_served : (again : List Connection) (after : NetSeen C O) → IsAcceptorOf last now
      → IsNotAsked now after → (HasNoMore last.row.items now → HasNoMore again after)
      → IsServed served.NoMemory most old after
  lacked_served again after is same on = served_few most last again old now after
      (keeps.account.most ∙ new.most_is) is (keeps.account.account old.counts (account_first most first old new))
      same (on is.no_more)
