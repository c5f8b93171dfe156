-- A desk that is split among threads, each of which takes some turns, and joined again; and what they tell.
use Rattle.std.proofs.Common.{◌≡◌, ℕ, zero, suc, ◌+◌, ◌-◌, ◌<◌, inl, inr, List, Bool, true, false, Option}
use Rattle.std.proofs.Common.{Err, refl, sym, ap, subst, arith}
use Rattle.std.specs.Prelude.{◌&&◌}
use Rattle.ts_group.specs.declared.action.Named.{Named}
use Rattle.ts_group.specs.declared.either.EitherTag.{EitherTag}
use Rattle.ts_group.specs.declared.group.Group.{Group}
use Rattle.ts_group.specs.declared.world.Asked.{Asked}
use Rattle.ts_journal.specs.State.{State}
use Rattle.ts_journal.specs.declared.slotted.Slotted.{Ghosts}
use Rattle.ts_queue.specs.declared.queue.EventQueue.{EventQueue}
use Rattle.ts_slot.specs.declared.slots.Slots.{Slots}
use Rattle.ts_thread.specs.declared.desk.Desk.{Desk}
use Rattle.ts_thread.specs.Desks.{IsDeskOf, KeepsDesk, SplitsDesk, JoinsDesk}
use Rattle.ts_thread.proofs.Joins.{desks_joined, joined_more}
use Rattle.ts_txn.specs.Net.{NetSeen}
use Rattle.ts_txn.specs.declared.retired.Retired.{Retired}
use Rattle.ts_serve.specs.declared.acceptor.Acceptor.{Acceptor}
use Rattle.ts_serve.specs.Acceptor.{GoesOn, IsAcceptorOf, KeepsDeskSome, Serves}
use Rattle.ts_serve.specs.Working.{CanWork, HasWorked, LacksInTurn, TakesTurn, TakesTurns, TellsWork}
use Rattle.ts_serve.specs.Working.{TellWorks, WorkWhole}
use Rattle.ts_serve.proofs.Accounts.{acceptor_more, acceptor_on, goes_at_desk}
use Rattle.ts_serve.specs.Knowledge.{ServerDesk}
use Rattle.ts_serve.specs.declared.place.Place.{Place}
use Rattle.ts_group.specs.declared.either.Either.{Either}
use Rattle.ts_slot.specs.Lists.{IsIn}
use Rattle.ts_slot.specs.Words.{view}
use Rattle.ts_thread.specs.Seats.{More}
use Rattle.ts_txn.specs.declared.retired.Noted.{Noted}
use Rattle.ts_serve.proofs.Desks.{desk_some, desk_on}

module _ {X G T : Type 0} {d : Ghosts X G T} where
  -- another turn was taken at a desk
  pub worked_on : (slots : Slots X G T) (queue : EventQueue) (old mid new : Desk X G T d) (most : ℕ)
      → HasWorked slots queue old mid → IsDeskOf slots queue new → KeepsDesk mid new most
      → HasWorked slots queue old new
  worked_on slots queue old mid new most helped ready keeps = record {
    ready = ready;
    keeps = desk_on old mid new helped.keeps (desk_some mid new most keeps);
  }

  -- a desk was split, each part got some turns, and they were joined
  pub joined_some : (slots : Slots X G T) (queue : EventQueue) (threads : ℕ)
      (old kept other kept' other' new : Desk X G T d) → CanWork slots queue threads old
      → SplitsDesk old kept other → KeepsDeskSome kept kept' → KeepsDeskSome other other'
      → JoinsDesk kept' other' new → KeepsDeskSome old new
  joined_some slots queue threads old kept other kept' other' new works splits keeps keeps_other joins =
      let some = works.some in
      let s = works.splits.seat_share in
      let p = works.splits.pass_share in (
        keeps_other.0 + keeps.0,
        desks_joined old kept other kept' other' new keeps.0 keeps_other.0 (omega arith) (omega arith) splits
            keeps.1 keeps_other.1 joins,
      )

  -- what a part of a desk knows that was split off the desk knows, and once it is joined again the desk knows
  -- what the part knows
  split_knows : (old kept other : Desk X G T d) → SplitsDesk old kept other
      → More (view old.seat).known (view other.seat).known
  split_knows old kept other splits = record {
    stays = λ e there. subst (IsIn e) (sym (ap (λ v. v.known) splits.other_seat)) there;
  }

  joined_knows : (kept other new : Desk X G T d) → JoinsDesk kept other new
      → More (view other.seat).known (view new.seat).known
  joined_knows kept other new joins = joined_more (view kept.seat) (view other.seat) (view new.seat) joins.seat

module _ {W T A P V C O : Type 0} {Fits : T → W → Type 0} {Keeps : A → T → Type 0} {Other : V → P → Type 0}
    {behind : A → List (Noted O) → A} {Done Spent : A → Retired C O → Type 0} {Note : A → Noted O → Type 0}
    {tells : Bool} {Q R U : Type 0}
    {d : Ghosts (Group (Either (Place W) P) Q R (EitherTag A V) U) (EitherTag A V)
    (Group (Either (Place W) P) Q R (EitherTag A V) U)}
    (slots : Slots (Group (Either (Place W) P) Q R (EitherTag A V) U) (EitherTag A V)
    (Group (Either (Place W) P) Q R (EitherTag A V) U)) (queue : EventQueue) where
  -- the first thread went on at its part
  pub goes_joined : {Are : A → Type 0} (threads : ℕ) (old kept other kept' other' new : ServerDesk W A P V Q R U d)
      (acceptor acceptor' : Acceptor) (before after : NetSeen C O)
      → CanWork slots queue threads old → SplitsDesk old kept other → KeepsDeskSome kept kept'
      → GoesOn Fits Keeps Other behind Done Spent Note tells Are other other' acceptor acceptor' before after
      → JoinsDesk kept' other' new
      → GoesOn Fits Keeps Other behind Done Spent Note tells Are old new acceptor acceptor' before after
  goes_joined threads old kept other kept' other' new acceptor acceptor' before after works splits keeps goes
      joins = record {
        at_desk = joined_some slots queue threads old kept other kept' other' new works splits keeps goes.at_desk
            joins;
        at_acceptor = acceptor_on (view old.seat).known (view other'.seat).known (view new.seat).known acceptor
            acceptor' acceptor' before after after
            (acceptor_on (view old.seat).known (view other.seat).known (view other'.seat).known acceptor acceptor
            acceptor' before before after
            (acceptor_more (view old.seat).known (view other.seat).known acceptor before
            (split_knows old kept other splits)) goes.at_acceptor)
            (acceptor_more (view other'.seat).known (view new.seat).known acceptor' after
            (joined_knows kept' other' new joins));
      }

  -- where memory lacked for a part of the desk, nothing was done
  pub serves_split : {B E : Type 0} (desk desk' : ServerDesk W A P V Q R U d) (acceptor : Acceptor)
      (net : NetSeen C O) (e : E) → IsDeskOf slots queue desk' → IsAcceptorOf acceptor net → KeepsDesk desk desk' 0
      → Serves Fits Keeps Other behind Done Spent Note tells {B = B} slots queue (Err e) desk desk' acceptor
      acceptor net net
  serves_split desk desk' acceptor net e ready is keeps = record {
    at_desk = ready;
    at_acceptor = is;
    goes = goes_at_desk desk desk' acceptor net 0 keeps;
    all = tt;
  }

-- ---- what threads tell of their turns

module _ {W Q R T U : Type 0} {d : Ghosts (Group W Q R T U) T (Group W Q R T U)}
    (Fits : T → W → Type 0) (Asking : W → State → List Named → ℕ → ℕ → Q → Type 0)
    (Answers : W → Q → R → Type 0) (Called : W → W → List ℕ → Type 0) (Heard : W → W → Asked Q R → Type 0)
    (Left : W → State → Option ℕ) (tags : List T) where
  -- another turn was taken
  pub turned_on : (old mid new : Desk (Group W Q R T U) T (Group W Q R T U) d)
      → TellsWork Fits Asking Answers Called Heard Left tags true old mid
      → TakesTurn Fits Asking Answers Called Heard Left tags mid new
      → TellsWork Fits Asking Answers Called Heard Left tags true old new
  turned_on old mid new told turn =
      let turns : TakesTurns Fits Asking Answers Called Heard Left tags (suc told.0) old new =
      (mid, told.1, turn) in (suc told.0, turns)

  -- memory lacked in the next turn
  pub turned_short : (old mid new : Desk (Group W Q R T U) T (Group W Q R T U) d)
      → TellsWork Fits Asking Answers Called Heard Left tags true old mid → LacksInTurn tags mid new
      → TellsWork Fits Asking Answers Called Heard Left tags false old new
  turned_short old mid new told lacks = (told.0, mid, told.1, lacks)

  -- what one thread more tells, whose part was split off and joined again
  pub one_more_works : (n : ℕ) → 1 < n → (own others : Bool)
      → (old kept kept' other other' new : Desk (Group W Q R T U) T (Group W Q R T U) d)
      → SplitsDesk old kept other → TellWorks Fits Asking Answers Called Heard Left tags 1 own other other'
      → TellWorks Fits Asking Answers Called Heard Left tags (n - 1) others kept kept'
      → JoinsDesk kept' other' new
      → TellWorks Fits Asking Answers Called Heard Left tags n (others && own) old new
  one_more_works zero more own others old kept kept' other other' new splits told tell joins =
      absurd (omega arith)
  one_more_works (suc zero) more own others old kept kept' other other' new splits told tell joins =
      absurd (omega arith)
  one_more_works (suc (suc n)) more own others old kept kept' other other' new splits told tell joins =
      let count : suc (suc n) - 1 ≡ suc n = omega arith in inr (
        kept,
        kept',
        other,
        other',
        own,
        others,
        splits,
        told,
        subst (λ m. TellWorks Fits Asking Answers Called Heard Left tags m others kept kept') count tell,
        joins,
        refl,
      )

  -- what more threads than one tell where memory lacked for a part of the desk
  pub none_splits : (n : ℕ) → 1 < n → (old new : Desk (Group W Q R T U) T (Group W Q R T U) d)
      → KeepsDesk old new 0 → TellWorks Fits Asking Answers Called Heard Left tags n false old new
  none_splits zero more old new keeps = absurd (omega arith)
  none_splits (suc zero) more old new keeps = absurd (omega arith)
  none_splits (suc (suc n)) more old new keeps = inl (refl, keeps)

  -- what is known of more threads than one, where those beside the first tell that memory lacked in none
  pub whole_beside : (n : ℕ) → 1 < n → (whole : Bool) → whole ≡ true
      → (old kept kept' first first' new : Desk (Group W Q R T U) T (Group W Q R T U) d)
      → SplitsDesk old kept first
      → TellWorks Fits Asking Answers Called Heard Left tags (n - 1) whole kept kept'
      → KeepsDeskSome first first' → JoinsDesk kept' first' new
      → WorkWhole Fits Asking Answers Called Heard Left tags n old new
  whole_beside zero more whole is old kept kept' first first' new splits tell keeps joins = tt
  whole_beside (suc zero) more whole is old kept kept' first first' new splits tell keeps joins = tt
  whole_beside (suc (suc n)) more whole is old kept kept' first first' new splits tell keeps joins =
      let count : suc (suc n) - 1 ≡ suc n = omega arith in
      let told =
      subst (λ m. TellWorks Fits Asking Answers Called Heard Left tags m whole kept kept') count tell in (
        kept,
        kept',
        first,
        first',
        splits,
        subst (λ w. TellWorks Fits Asking Answers Called Heard Left tags (suc n) w kept kept') is told,
        keeps,
        joins,
      )

  -- one thread has no other beside it
  pub whole_alone : (n : ℕ) → n ≡ 1 → (old new : Desk (Group W Q R T U) T (Group W Q R T U) d)
      → WorkWhole Fits Asking Answers Called Heard Left tags n old new
  whole_alone n is old new =
      subst (λ m. WorkWhole Fits Asking Answers Called Heard Left tags m old new) (sym is) tt
