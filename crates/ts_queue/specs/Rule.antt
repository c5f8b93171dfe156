-- The rule of the queue: what holds between any two steps of the tickets in it, front to back, and of what
-- all its
-- passes know.
use Rattle.std.specs.Prelude.{◌≡◌, ℕ, ◌+◌, ◌==◌, ◌<◌, ◌≤◌, List, All, AllPairs, Contains, sum_by, count_by}
use Rattle.ts_queue.specs.declared.TheConstants.{WHOLE_SHARE}
use Rattle.ts_queue.specs.declared.ticket.Ticket.{Ticket}
use Rattle.ts_queue.specs.declared.view.PassView.{PassView}
use Rattle.ts_queue.specs.Tickets.{is_numbered, IsInOrder}
use Rattle.ts_queue.specs.Views.{spent, owned}

-- What holds of one pass: its number is one of its names; each ticket that it put has one of its names and a
-- serial from 1 on; those under its own number have no serial above its last; and without a share nothing is
-- left
-- of it.
pub record IsLawfulView (v : PassView) : Type 0 where
  pub own : 0 < v.share → 0 < count_by (λ n. n == v.number) v.names
  pub names : All (λ t. (0 < count_by (λ n. n == t.putter) v.names) × (0 < t.serial)) v.put
  pub last : All (λ t. t.putter ≡ v.number → t.serial ≤ v.serial) v.put
  pub blank : v.share ≡ 0 → v ≡ spent

pub record IsLawfulQueue (items : List Ticket) (views : List PassView) : Type 0 where
  -- the shares of all passes make up the whole
  pub shares : sum_by (λ v. v.share) views ≡ WHOLE_SHARE
  -- no number is had twice
  pub apart : (x : ℕ) → sum_by (owned x) views ≤ 1
  -- no serial of a putter was put twice
  pub once : (putter serial : ℕ) → sum_by (λ v. count_by (is_numbered putter serial) v.put) views ≤ 1
  -- what was put was taken or stands in the queue, however tickets are counted
  pub balance : (f : Ticket → ℕ)
      → sum_by (λ v. sum_by f v.put) views ≡ sum_by (λ v. sum_by f v.taken) views + sum_by f items
  -- of each putter the serials in the queue rise from front to back
  pub rising : AllPairs IsInOrder items
  -- each ticket that was taken comes before those that stand in the queue
  pub before : All (λ v. All (λ t. All (IsInOrder t) items) v.taken) views
  pub each_view : All IsLawfulView views

-- At one moment the queue held these tickets, and one of its passes knew this.
pub record Moment (known : PassView) (items : List Ticket) : Type 0 where
  pub views : List PassView
  pub there : Contains views known
  pub lawful : IsLawfulQueue items views
