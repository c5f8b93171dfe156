-- The first seat and the first pass, before groups are started and after.
use Rattle.std.proofs.Common.{◌≡◌, ℕ, ◌+◌, ◌-◌, ◌≤◌, List, [], ◌++◌, length, length-append, refl, ap, ◌∙◌, arith}
use Rattle.ts_journal.specs.declared.slotted.Slotted.{Ghosts}
use Rattle.ts_queue.specs.declared.TheConstants.{WHOLE_SHARE}
use Rattle.ts_queue.specs.declared.queue.QueuePass.{QueuePass}
use Rattle.ts_queue.specs.declared.ticket.Ticket.{Ticket}
use Rattle.ts_queue.specs.declared.view.PassView.{PassView as Known}
use Rattle.ts_queue.specs.Passes.{pass_view}
use Rattle.ts_queue.specs.Views.{first_view, kept_part, split_part, with_joined}
use Rattle.ts_queue.proofs.Whole.{whole_holds}
use Rattle.ts_slot.specs.declared.seat.Seat.{Seat}
use Rattle.ts_slot.specs.declared.view.SeatView.{SeatView}
use Rattle.ts_slot.specs.Limits.{whole_share}
use Rattle.ts_slot.specs.Views.{left_half, right_half, joined}
use Rattle.ts_slot.specs.Words.{view}
use Rattle.ts_thread.specs.declared.TheConstants.{MOST_THREADS}
use Rattle.ts_thread.specs.Seats.{KeepsSeat}
use Rattle.ts_thread.specs.Threads.{IsOpening, HasOpened}

module _ {X G T : Type 0} {d : Ghosts X G T} where
  -- a first seat and a first pass with which nothing was done
  pub unopened : (turns : ℕ) (seat : Seat X G T d) (pass pass' : QueuePass) → IsOpening seat pass
      → pass_view pass' ≡ pass_view pass → HasOpened turns seat pass'
  unopened turns seat pass pass' opening same =
      let first : pass_view pass' ≡ first_view = same ∙ opening.knows in
      let share : (pass_view pass').share ≡ WHOLE_SHARE = ap (λ (v : Known). v.share) first in
      let taken : (pass_view pass').taken ≡ [] = ap (λ (v : Known). v.taken) first in
      let from : (pass_view pass').free_from ≡ 1 = ap (λ (v : Known). v.free_from) first in
      let to : (pass_view pass').free_to ≡ WHOLE_SHARE = ap (λ (v : Known). v.free_to) first in
      let most : MOST_THREADS ≡ 64 = refl in
      let whole : WHOLE_SHARE ≡ whole_share = refl in
      let seat_share = opening.seat_share in
      let seat_from = opening.seat_from in
      let seat_to = opening.seat_to in
      record {
        share = opening.seat_share;
        held = opening.held;
        few = let none : length (view seat).turns ≡ 0 = ap length opening.turns in omega arith;
        splits = record {
          seat_share = omega arith;
          seat_free = omega arith;
          pass_share = omega arith;
          pass_free = omega arith;
        };
        pass_share = share;
        none_taken = taken;
        queued = whole_holds (pass_view pass') share taken;
      }

  -- a seat and a pass of their own were split off a first seat and a first pass, took few turns and no ticket,
  -- and were joined to them again
  pub joined_opened : (turns : ℕ) (seat kept own own' back : Seat X G T d)
      → (pass kept_pass own_pass own_pass' back_pass : QueuePass) → IsOpening seat pass
      → view kept ≡ left_half (view seat) → view own ≡ right_half (view seat)
      → KeepsSeat (view own) (view own') turns → view back ≡ joined (view kept) (view own')
      → pass_view kept_pass ≡ kept_part (pass_view pass) → pass_view own_pass ≡ split_part (pass_view pass)
      → (pass_view own_pass').share ≡ (pass_view own_pass).share
      → (pass_view own_pass').taken ≡ (pass_view own_pass).taken
      → pass_view back_pass ≡ with_joined (pass_view kept_pass) (pass_view own_pass')
      → HasOpened turns back back_pass
  joined_opened turns seat kept own own' back pass kept_pass own_pass own_pass' back_pass opening left right
      keeps both left_pass right_pass same_share same_taken both_passes =
      let kept_is : pass_view kept_pass ≡ kept_part first_view =
      left_pass ∙ ap (λ (v : Known). kept_part v) opening.knows in
      let own_is : pass_view own_pass ≡ split_part first_view =
      right_pass ∙ ap (λ (v : Known). split_part v) opening.knows in
      let kept_share : (pass_view kept_pass).share ≡ WHOLE_SHARE - 1 = ap (λ (v : Known). v.share) kept_is in
      let own_share : (pass_view own_pass).share ≡ 1 = ap (λ (v : Known). v.share) own_is in
      let sum : (pass_view back_pass).share ≡ (pass_view kept_pass).share + (pass_view own_pass').share =
      ap (λ (v : Known). v.share) both_passes in
      let from : (pass_view back_pass).free_from ≡ 2 =
      ap (λ (v : Known). v.free_from) both_passes ∙ ap (λ (v : Known). v.free_from) kept_is in
      let to : (pass_view back_pass).free_to ≡ WHOLE_SHARE =
      ap (λ (v : Known). v.free_to) both_passes ∙ ap (λ (v : Known). v.free_to) kept_is in
      let own_taken : (pass_view own_pass').taken ≡ [] =
      same_taken ∙ ap (λ (v : Known). v.taken) own_is in
      let taken : (pass_view back_pass).taken ≡ [] =
      ap (λ (v : Known). v.taken) both_passes
      ∙ ap (λ (ts : List Ticket). ts ++ (pass_view kept_pass).taken) own_taken
      ∙ ap (λ (v : Known). v.taken) kept_is in
      let most : MOST_THREADS ≡ 64 = refl in
      let whole : WHOLE_SHARE ≡ whole_share = refl in
      let number : whole_share ≡ 4294967296 = refl in
      let share : (pass_view back_pass).share ≡ WHOLE_SHARE = omega arith in
      let seat_sum : (view back).share ≡ (view kept).share + (view own').share =
      ap (λ (v : SeatView G T). v.share) both in
      let seat_kept : (view kept).share ≡ (view seat).share - 1 = ap (λ (v : SeatView G T). v.share) left in
      let seat_own : (view own).share ≡ 1 = ap (λ (v : SeatView G T). v.share) right in
      let seat_same = keeps.share in
      let seat_whole = opening.seat_share in
      let seat_share : (view back).share ≡ whole_share = omega arith in
      let seat_from : (view back).free_from ≡ (view seat).free_from + 1 =
      ap (λ (v : SeatView G T). v.free_from) both ∙ ap (λ (v : SeatView G T). v.free_from) left in
      let seat_to : (view back).free_to ≡ (view seat).free_to =
      ap (λ (v : SeatView G T). v.free_to) both ∙ ap (λ (v : SeatView G T). v.free_to) left in
      let was_from = opening.seat_from in
      let was_to = opening.seat_to in
      let turns_sum : length (view back).turns ≡ length (view own').turns + length (view kept).turns =
      ap (λ (v : SeatView G T). length v.turns) both ∙ length-append (view own').turns (view kept).turns in
      let kept_turns : length (view kept).turns ≡ 0 =
      ap (λ (v : SeatView G T). length v.turns) left ∙ ap length opening.turns in
      let own_turns : length (view own).turns ≡ 0 = ap (λ (v : SeatView G T). length v.turns) right in
      let few = keeps.turns in
      record {
        share = seat_share;
        held = ap (λ (v : SeatView G T). v.held) both ∙ ap (λ (v : SeatView G T). v.held) left
            ∙ opening.held;
        few = omega arith;
        splits = record {
          seat_share = omega arith;
          seat_free = omega arith;
          pass_share = omega arith;
          pass_free = omega arith;
        };
        pass_share = share;
        none_taken = taken;
        queued = whole_holds (pass_view back_pass) share taken;
      }
