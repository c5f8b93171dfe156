-- What a seat and a desk keep over some turns, and then some more.
use Rattle.std.proofs.Common.{◌≡◌, ℕ, ◌+◌, ◌≤◌, refl, ap, ◌∙◌, arith}
use Rattle.ts_journal.specs.declared.slotted.Slotted.{Ghosts}
use Rattle.ts_slot.specs.declared.view.SeatView.{SeatView}
use Rattle.ts_queue.specs.Passes.{pass_view}
use Rattle.ts_slot.specs.Words.{view}
use Rattle.ts_thread.specs.declared.desk.Desk.{Desk}
use Rattle.ts_thread.specs.Desks.{KeepsDesk}
use Rattle.ts_thread.specs.Seats.{KeepsSeat}
use Rattle.ts_thread.proofs.Seats.{keeps_refl, keeps_trans}
use Rattle.ts_serve.specs.Acceptor.{KeepsSome, KeepsDeskSome}

le_itself : (n : ℕ) → n ≤ n
le_itself n = omega arith

module _ {G T : Type 0} where
  pub seat_stays : (v : SeatView G T) → KeepsSome v v
  seat_stays v = (0, keeps_refl v v 0 refl)

  pub seat_some : (v w : SeatView G T) (most : ℕ) → KeepsSeat v w most → KeepsSome v w
  seat_some v w most keeps = (most, keeps)

  pub seat_on : (v w u : SeatView G T) → KeepsSome v w → KeepsSome w u → KeepsSome v u
  seat_on v w u a b = (a.0 + b.0, keeps_trans v w u a.0 b.0 (a.0 + b.0) (le_itself (a.0 + b.0)) a.1 b.1)

module _ {X G T : Type 0} {d : Ghosts X G T} where
  pub desk_stays : (old : Desk X G T d) → KeepsDeskSome old old
  desk_stays old = (0, record { seat = keeps_refl (view old.seat) (view old.seat) 0 refl; share = refl })

  pub desk_some : (old new : Desk X G T d) (most : ℕ) → KeepsDesk old new most → KeepsDeskSome old new
  desk_some old new most keeps = (most, keeps)

  pub desk_on : (old mid new : Desk X G T d) → KeepsDeskSome old mid → KeepsDeskSome mid new
      → KeepsDeskSome old new
  desk_on old mid new a b = (
    a.0 + b.0,
    record {
      seat = keeps_trans (view old.seat) (view mid.seat) (view new.seat) a.0 b.0 (a.0 + b.0)
          (le_itself (a.0 + b.0)) a.1.seat b.1.seat;
      share = b.1.share ∙ a.1.share;
    },
  )

  -- only the seat did something
  pub desk_seat : (old new : Desk X G T d) → new.pass ≡ old.pass → KeepsSome (view old.seat) (view new.seat)
      → KeepsDeskSome old new
  desk_seat old new same a = (
    a.0,
    record { seat = a.1; share = ap (λ p. (pass_view p).share) same },
  )
