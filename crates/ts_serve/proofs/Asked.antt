-- A round of the first thread, behind which the net was asked who is ready, of which nothing is seen, and
-- some handlers were roused.
use Rattle.std.specs.Prelude.{◌≡◌, Ok, Err, OnOk, Result}
use Rattle.std.proofs.Common.{Bool, List, subst, sym}
use Rattle.ts_group.specs.declared.either.EitherTag.{EitherTag}
use Rattle.ts_journal.specs.declared.slotted.Slotted.{Ghosts}
use Rattle.ts_queue.specs.declared.queue.EventQueue.{EventQueue}
use Rattle.ts_slot.specs.declared.slots.Slots.{Slots}
use Rattle.ts_slot.specs.Words.{tags_of, view}
use Rattle.ts_thread.specs.Desks.{IsDeskOf}
use Rattle.ts_txn.specs.Net.{NetSeen}
use Rattle.ts_txn.specs.declared.retired.Retired.{Retired}
use Rattle.ts_serve.specs.declared.acceptor.Acceptor.{Acceptor}
use Rattle.ts_serve.specs.Acceptor.{GoesOn, HasPlacesOf, IsAcceptorOf, KeepsDeskSome, LosesNobody, Serves}
use Rattle.ts_serve.proofs.Accounts.{acceptor_more, acceptor_on}
use Rattle.ts_serve.proofs.Desks.{desk_on}
use Rattle.ts_serve.specs.Knowledge.{ServerDesk}
use Rattle.ts_serve.specs.declared.place.Place.{Place}
use Rattle.ts_group.specs.declared.either.Either.{Either}
use Rattle.ts_group.specs.declared.group.Group.{Group}
use Rattle.ts_txn.specs.declared.retired.Noted.{Noted}

-- what holds whatever is answered
any_answer : {B E : Type 0} (r : Result B E) (P : Type 0) → P → OnOk r P
any_answer (Ok b) P h = h
any_answer (Err e) P h = tt

module _ {W T A P V C O : Type 0} {Fits : T → W → Type 0} {Keeps : A → T → Type 0} {Other : V → P → Type 0}
    {behind : A → List (Noted O) → A} {Done Spent : A → Retired C O → Type 0} {Note : A → Noted O → Type 0}
    {tells : Bool} {Q R U : Type 0}
    {d : Ghosts (Group (Either (Place W) P) Q R (EitherTag A V) U) (EitherTag A V)
    (Group (Either (Place W) P) Q R (EitherTag A V) U)}
    (slots : Slots (Group (Either (Place W) P) Q R (EitherTag A V) U) (EitherTag A V)
    (Group (Either (Place W) P) Q R (EitherTag A V) U)) (queue : EventQueue)
    (desk desk1 desk2 : ServerDesk W A P V Q R U d) (acceptor acceptor1 : Acceptor) (before mid after : NetSeen C O)
  where
    pub serves_roused : {B E : Type 0} (r : Result B E) → IsAcceptorOf acceptor1 mid
        → GoesOn Fits Keeps Other behind Done Spent Note tells (HasPlacesOf (tags_of slots)) desk desk1 acceptor
        acceptor1 before mid
        → LosesNobody acceptor acceptor1 before mid → after ≡ mid → IsDeskOf slots queue desk2
        → KeepsDeskSome desk1 desk2
        → Serves Fits Keeps Other behind Done Spent Note tells slots queue r desk desk2 acceptor acceptor1 before
        after
    serves_roused r is goes all same here keeps =
        subst (λ (net : NetSeen C O). Serves Fits Keeps Other behind Done Spent Note tells slots queue r desk desk2
        acceptor acceptor1 before net)
        (sym same)
        (record {
          at_desk = here;
          at_acceptor = is;
          goes = record {
            at_desk = desk_on desk desk1 desk2 goes.at_desk keeps;
            at_acceptor = acceptor_on (view desk.seat).known (view desk1.seat).known (view desk2.seat).known acceptor
                acceptor1 acceptor1 before mid mid goes.at_acceptor
                (acceptor_more (view desk1.seat).known (view desk2.seat).known acceptor1 mid keeps.1.seat.known);
          };
          all = any_answer r (LosesNobody acceptor acceptor1 before mid) all;
        })
