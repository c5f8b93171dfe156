-- The acceptor: what the first thread keeps of the clients that come, and what each of its steps leaves of
-- that and of the net.
use Rattle.std.specs.Prelude.{◌≡◌, ℕ, ◌<◌, ◌≤◌, Bool, true, false, List, length, OnOk, Result}
use Rattle.std.specs.List.{sum_by}
use Rattle.ts_link.specs.Counts.{Counted}
use Rattle.ts_group.specs.declared.either.Either.{Either}
use Rattle.ts_group.specs.declared.either.EitherTag.{EitherTag}
use Rattle.ts_group.specs.declared.group.Group.{Group}
use Rattle.ts_journal.specs.declared.slotted.Slotted.{Ghosts}
use Rattle.ts_queue.specs.declared.queue.EventQueue.{EventQueue}
use Rattle.ts_slot.specs.Words.{tags_of, view}
use Rattle.ts_slot.specs.declared.slots.Slots.{Slots}
use Rattle.ts_slot.specs.declared.view.SeatView.{SeatView}
use Rattle.ts_thread.specs.declared.desk.Desk.{Desk}
use Rattle.ts_thread.specs.Desks.{IsDeskOf, KeepsDesk}
use Rattle.ts_thread.specs.Seats.{KeepsSeat}
use Rattle.ts_txn.specs.Net.{NetSeen}
use Rattle.ts_txn.specs.declared.net.NetCounts.{NetCounts}
use Rattle.ts_txn.specs.declared.retired.Noted.{Noted}
use Rattle.ts_txn.specs.declared.retired.Retired.{Retired}
use Rattle.ts_serve.specs.declared.acceptor.TheConstants.{PLACES}
use Rattle.ts_serve.specs.declared.acceptor.Acceptor.{Acceptor}
use Rattle.ts_serve.specs.declared.acceptor.Listening.{Listening}
use Rattle.ts_serve.specs.declared.acceptor.Listening.TheVariants as listening
use Rattle.ts_serve.specs.Balance.{HasAll, HasNoMore, is_taken}
use Rattle.ts_serve.specs.Knowledge.{KeepsServing, KnownGroups, ServerDesk}
use Rattle.ts_serve.specs.declared.place.Place.{Place}
use Rattle.ts_serve.specs.Tenants.{IsPlace, IsPlaceOf}

-- the first groups are places
abbrev pub HasPlaces : {A U : Type 0} → List (EitherTag A U) → Type 0
HasPlaces tags = (k : ℕ) → k < PLACES → IsPlace tags k

-- the first groups are places of these terms
abbrev pub HasPlacesOf : {A U : Type 0} → List (EitherTag A U) → A → Type 0
HasPlacesOf tags terms = (k : ℕ) → k < PLACES → IsPlaceOf tags k terms

-- the first groups are places of terms of this setting
abbrev pub IsServerOf : {S A U : Type 0} → (S → A → Type 0) → S → List (EitherTag A U) → Type 0
IsServerOf {A = A} AreTerms setting tags = (terms : A) × AreTerms setting terms × HasPlacesOf tags terms

-- handlers can be made with this setting, and live in the places
pub record IsOpenServer {S A U : Type 0} (IsSetting : S → Type 0) (AreTerms : S → A → Type 0) (setting : S)
    (tags : List (EitherTag A U)) : Type 0 where
  pub makes : IsSetting setting
  pub server : IsServerOf AreTerms setting tags

-- whether the net said that it is closed, and that it failed
abbrev pub saw_end : Listening → Bool
saw_end listening.Closed = true
saw_end _ = false

abbrev pub saw_fault : Listening → Bool
saw_fault listening.Failed = true
saw_fault _ = false

-- Why nobody more is let in, where the net gives nobody more: the count of that answer rose, and while more
-- are let in neither did. Once it is closed or failed, the net is not asked again.
pub record HasShutCause (listening : Listening) (old new : NetCounts) : Type 0 where
  pub ends : Counted (saw_end listening) old.ends new.ends
  pub faults : Counted (saw_fault listening) old.faults new.faults

-- The acceptor's account of a net, which had these counts at first: no more clients came than were to, and
-- where the net gives nobody more, there is a cause.
pub record IsAccount {C O : Type 0} (first : NetCounts) (acceptor : Acceptor) (net : NetSeen C O)
    : Type 0 where
  pub few : acceptor.came ≤ acceptor.most
  pub cause : HasShutCause acceptor.listening first net.counts

-- The acceptor of a net: it has a connection for each place, as many clients came as the net gave, and no
-- more of them are in the row, or were handed over.
pub record IsAcceptorOf {C O : Type 0} (acceptor : Acceptor) (net : NetSeen C O) : Type 0 where
  pub row : length acceptor.row.items ≡ PLACES
  pub next : acceptor.next < PLACES
  pub came : acceptor.came ≡ net.given
  pub no_more : HasNoMore acceptor.row.items net

-- What a step of the first thread leaves of the acceptor's account of a net: its limit, and the causes.
pub record KeepsAccount {C O : Type 0} (old new : Acceptor) (before after : NetSeen C O) : Type 0 where
  pub most : new.most ≡ old.most
  pub account : (first : NetCounts) → IsAccount first old before → IsAccount first new after

-- the net was not asked for a client, nor for an origin, and was noted nothing
pub record IsNotAsked {C O : Type 0} (old new : NetSeen C O) : Type 0 where
  pub given : new.given ≡ old.given
  pub noted : new.noted ≡ old.noted
  pub counts : new.counts ≡ old.counts

-- no client is lost on the way: if each that was given is in the row or was handed over, each is so then
abbrev pub LosesNobody : {C O : Type 0} → Acceptor → Acceptor → NetSeen C O → NetSeen C O → Type 0
LosesNobody old new before after = HasAll old.row.items before → HasAll new.row.items after

-- a seat has its share, its names and the groups that it held, and got some turns more
abbrev pub KeepsSome : {G T : Type 0} → SeatView G T → SeatView G T → Type 0
KeepsSome old new = (most : ℕ) × KeepsSeat old new most

-- the same of the seat of a desk, whose pass has its share
abbrev pub KeepsDeskSome : {X G T : Type 0} {d : Ghosts X G T} → Desk X G T d → Desk X G T d → Type 0
KeepsDeskSome old new = (most : ℕ) × KeepsDesk old new most

module _ {W T A P V C O : Type 0} (Fits : T → W → Type 0) (Keeps : A → T → Type 0) (Other : V → P → Type 0)
    (behind : A → List (Noted O) → A) (Done Spent : A → Retired C O → Type 0) (Note : A → Noted O → Type 0)
    (tells : Bool) {Q R U : Type 0} where
  -- What a step of the first thread, which knew these groups and knows those, leaves of the acceptor and of
  -- the net. Where the net tells what it was handed, it is served on, under any terms that are these.
  pub record KeepsAcceptor (Are : A → Type 0) (known known' : KnownGroups W A P V Q R U) (old new : Acceptor)
      (before after : NetSeen C O) : Type 0 where
    pub account : KeepsAccount old new before after
    pub serving : KeepsServing Fits Keeps Other behind Done Spent Note tells Are known known' old.row.items
        new.row.items before after

  -- What a step of the first thread leaves of its desk, of the acceptor and of the net.
  pub record GoesOn
      {d : Ghosts (Group (Either (Place W) P) Q R (EitherTag A V) U) (EitherTag A V)
      (Group (Either (Place W) P) Q R (EitherTag A V) U)} (Are : A → Type 0)
      (desk desk' : ServerDesk W A P V Q R U d) (acceptor acceptor' : Acceptor) (before after : NetSeen C O) :
      Type 0 where
    pub at_desk : KeepsDeskSome desk desk'
    pub at_acceptor : KeepsAcceptor Are (view desk.seat).known (view desk'.seat).known acceptor acceptor'
        before
        after

  -- What a round, the rounds and the threads leave, whatever the answer: the desk is one of these slots and
  -- of this queue, the acceptor that of the net, and the first thread went on; and where memory did not lack,
  -- no client was lost on the way.
  pub record Serves {B E : Type 0}
      {d : Ghosts (Group (Either (Place W) P) Q R (EitherTag A V) U) (EitherTag A V)
      (Group (Either (Place W) P) Q R (EitherTag A V) U)}
      (slots : Slots (Group (Either (Place W) P) Q R (EitherTag A V) U) (EitherTag A V)
      (Group (Either (Place W) P) Q R (EitherTag A V) U)) (queue : EventQueue)
      (result : Result B E) (desk desk' : ServerDesk W A P V Q R U d) (acceptor acceptor' : Acceptor)
      (before after : NetSeen C O) : Type 0 where
    pub at_desk : IsDeskOf slots queue desk'
    pub at_acceptor : IsAcceptorOf acceptor' after
    pub goes : GoesOn (HasPlacesOf (tags_of slots)) desk desk' acceptor acceptor' before after
    pub all : OnOk result (LosesNobody acceptor acceptor' before after)

-- nobody more is accepted, and what is left of each client was handed over
pub record IsOver (acceptor : Acceptor) : Type 0 where
  pub shut : acceptor.listening ≡ listening.Open → acceptor.most ≤ acceptor.came
  pub nobody : sum_by is_taken acceptor.row.items ≡ 0
