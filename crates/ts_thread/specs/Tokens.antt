-- Where tokens come from and where they go: a thread's wheel and its pass of the queue.
use Rattle.std.specs.Prelude.{◌≡◌, ℕ, ◌<◌, ◌≤◌, ◌⊎◌, ◌++◌, ◌==◌, ◌%◌, ◌&&◌, nat_lt, Bool, true, false, List, Some, None, All}
use Rattle.ts_journal.specs.declared.slotted.Slotted.{Ghosts}
use Rattle.ts_journal.specs.declared.entry.TheConstants.{GREATEST}
use Rattle.ts_link.specs.Counts.{Rose}
use Rattle.ts_queue.specs.declared.queue.QueuePass.{QueuePass}
use Rattle.ts_queue.specs.declared.ticket.Token.{Token}
use Rattle.ts_queue.specs.declared.ticket.Ticket.{Ticket}
use Rattle.ts_queue.specs.declared.view.PassView.{PassView}
use Rattle.ts_queue.specs.Views.{putting_next}
use Rattle.ts_queue.specs.Passes.{pass_view, empties_of, TakesTicket, FindsEmpty}
use Rattle.ts_wheel.specs.Due.{added, first_due, after_due}
use Rattle.ts_thread.specs.declared.desk.Desk.{Desk}

-- so many turns of a group, its first ones, hand nothing over to other threads
abbrev pub own_turns : ℕ
own_turns = 128

-- of so many turns after them one does
abbrev pub shared_every : ℕ
shared_every = 16

-- Whether a turn with this number hands what is due of its news over to any thread: past a group's own turns
-- one of so many does, so that a thread whose turns tell no more than one due event each comes to what waits
-- in the queue. (What a group's start tells is handed over too, so that the threads share the groups.)
abbrev pub is_shared : ℕ → Bool
is_shared turn = nat_lt own_turns turn && (turn % shared_every == 0)

-- each token names one of so many groups
abbrev pub AllName : ℕ → List (ℕ × Token) → Type 0
AllName groups wheel = All (λ e. e.1.group < groups) wheel

-- a pass took tickets whose tokens name none of so many groups, and let them go
pub record LetsGo (groups : ℕ) (old new : PassView) : Type 0 where
  pub gone : List Ticket
  pub foreign : All (λ t. groups ≤ t.token.group) gone
  pub is : new ≡ record old { taken = gone ++ old.taken }

-- a pass took the next ticket whose token names one of so many groups, which is this token
pub record TakesNext (groups : ℕ) (old new : PassView) (token : Token) : Type 0 where
  pub names : token.group < groups
  pub before : PassView
  pub lets_go : LetsGo groups old before
  pub ticket : Ticket
  pub is : ticket.token ≡ token
  pub takes : TakesTicket before ticket new

-- a take of the pass found the queue empty at one moment, after it had let go what names none of so many
-- groups
pub record FindsNone (groups : ℕ) (old new : QueuePass) : Type 0 where
  pub lets_go : LetsGo groups (pass_view old) (pass_view new)
  pub empty : FindsEmpty (pass_view new)
  pub rose : Rose (empties_of old) (empties_of new)

module _ {X G T : Type 0} {d : Ghosts X G T} where
  -- A token of one of so many groups was taken: the first of the wheel, where it was due, and else the next
  -- of the queue.
  pub record Gets (groups moment : ℕ) (old new : Desk X G T d) (token : Token) : Type 0 where
    pub names : token.group < groups
    pub wheel : new.wheel ≡ after_due moment old.wheel
    pub seat : new.seat ≡ old.seat
    pub empties : empties_of new.pass ≡ empties_of old.pass
    pub first :
        ((first_due moment old.wheel ≡ Some token) × (pass_view new.pass ≡ pass_view old.pass))
        ⊎ ((first_due moment old.wheel ≡ None) × TakesNext groups (pass_view old.pass) (pass_view new.pass)
        token)

  -- Nothing in the wheel was due, and nothing was in the queue.
  pub record FindsNothing (groups moment : ℕ) (old new : Desk X G T d) : Type 0 where
    pub late : first_due moment old.wheel ≡ None
    pub none : FindsNone groups old.pass new.pass

  -- the wheel and the pass are as they were
  pub record SamePlaces (old new : Desk X G T d) : Type 0 where
    pub wheel : new.wheel ≡ old.wheel
    pub pass : pass_view new.pass ≡ pass_view old.pass

  -- What a turn tells stays with its thread: it is due later, or the turn is not shared, or the pass has no
  -- serial left.
  abbrev pub Stays : Bool → ℕ → ℕ → Desk X G T d → Type 0
  Stays shared due moment desk =
      (moment < due) ⊎ (shared ≡ false) ⊎ ((pass_view desk.pass).serial ≡ GREATEST)

  -- a token that is due was put by a turn that is shared, for which a serial was left
  pub record Puts (shared : Bool) (token : Token) (due moment : ℕ) (old new : Desk X G T d) : Type 0 where
    pub is_due : due ≤ moment
    pub by_shared : shared ≡ true
    pub left : (pass_view old.pass).serial < GREATEST
    pub wheel : new.wheel ≡ old.wheel
    pub pass : pass_view new.pass ≡ putting_next token (pass_view old.pass)

  -- a token that stays with its thread was added to the wheel
  pub record AddsToWheel (shared : Bool) (token : Token) (due moment : ℕ) (old new : Desk X G T d)
      : Type 0 where
    pub stays : Stays shared due moment old
    pub wheel : new.wheel ≡ added due token old.wheel
    pub pass : pass_view new.pass ≡ pass_view old.pass

  abbrev pub Places : Bool → Token → ℕ → ℕ → Desk X G T d → Desk X G T d → Type 0
  Places shared token due moment old new =
      Puts shared token due moment old new ⊎ AddsToWheel shared token due moment old new
