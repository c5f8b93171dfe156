-- Seats and passes that are split among threads and joined again.
use Rattle.std.proofs.Common.{◌≡◌, ℕ, zero, suc, ◌+◌, ◌-◌, ◌*◌, ◌≤◌, inl, inr, List, [], ◌∷◌, ◌++◌, length, length-append, refl, sym, ap, ◌∙◌, subst, arith}
use Rattle.ts_queue.specs.declared.ticket.Token.{Token}
use Rattle.ts_queue.specs.declared.view.PassView.{PassView as Known}
use Rattle.ts_queue.specs.Views.{kept_part, split_part, with_joined}
use Rattle.ts_journal.specs.declared.slotted.Slotted.{Ghosts}
use Rattle.ts_queue.specs.Passes.{pass_view}
use Rattle.ts_slot.specs.Words.{view}
use Rattle.ts_slot.specs.declared.view.SeatView.{SeatView}
use Rattle.ts_slot.specs.Lists.{IsIn}
use Rattle.ts_slot.specs.Views.{left_half, right_half, joined}
use Rattle.ts_thread.specs.declared.desk.Desk.{Desk}
use Rattle.ts_thread.specs.Desks.{KeepsDesk, SplitsDesk, JoinsDesk}
use Rattle.ts_thread.specs.News.{HasTicket}
use Rattle.ts_thread.specs.Seats.{More, KeepsSeat}

-- one and all but one
pub one_and_rest : (n m : ℕ) → 1 ≤ n → m + (n - 1) * m ≡ n * m
one_and_rest zero m h = absurd (omega arith)
one_and_rest (suc n) m h = let e : suc n - 1 ≡ n = omega arith in ap (λ k. m + k * m) e ∙ sym (mul-step n m)
  where
    mul-step : (a b : ℕ) → suc a * b ≡ b + a * b
    mul-step a b = grind arith

in_append : {A : Type 0} (e : A) (xs ys : List A) → IsIn e ys → IsIn e (xs ++ ys)
in_append e [] ys h = h
in_append e (x ∷ xs) ys h = inr (in_append e xs ys h)

in_front : {A : Type 0} (e : A) (xs ys : List A) → IsIn e xs → IsIn e (xs ++ ys)
in_front e [] ys h = absurd h
in_front e (y ∷ xs) ys (inl here) = inl here
in_front e (y ∷ xs) ys (inr more) = inr (in_front e xs ys more)

module _ {G T : Type 0} where
  -- a seat was split, each half kept what it had, and they were joined
  pub joined_keeps : (v w u x : SeatView G T) (l m n : ℕ) → 1 ≤ v.share → m + l ≤ n
      → KeepsSeat (right_half v) w m
      → KeepsSeat (left_half v) u l → x ≡ joined u w → KeepsSeat v x n
  joined_keeps v w u x l m n some le right left is = record {
    share = let a = right.share in let b = left.share in let c : x.share ≡ u.share + w.share = ap
        (λ (y : SeatView G T). y.share) is in omega arith;
    names = ap (λ (y : SeatView G T). y.names) is ∙ left.names;
    held = ap (λ (y : SeatView G T). y.held) is ∙ left.held;
    turns = let a = right.turns in let b = left.turns in
        let c : length x.turns ≡ length w.turns + length u.turns = ap (λ (y : SeatView G T). length y.turns)
        is ∙
        length-append w.turns u.turns in omega arith;
    misses = let a = left.misses in let c : length x.misses ≡ length u.misses = ap
        (λ (y : SeatView G T). length y.misses) is in omega arith;
    known = record {
      stays = λ e h. subst (IsIn e) (sym (ap (λ (y : SeatView G T). y.known) is))
          (in_append e w.known u.known (left.known.stays e h));
    };
  }

  -- what the seat knew of which another was split off, the two know together
  pub joined_front : (v u w x : SeatView G T) → u ≡ left_half v → x ≡ joined u w → More v.known x.known
  joined_front v u w x part is = record {
    stays = λ e h. subst (IsIn e) (sym (ap (λ (y : SeatView G T). y.known) is))
        (in_append e w.known u.known (subst (IsIn e) (sym (ap (λ (y : SeatView G T). y.known) part)) h));
  }

  -- what the seat that was split off knows, the two know together
  pub joined_more : (u w x : SeatView G T) → x ≡ joined u w → More w.known x.known
  joined_more u w x is = record {
    stays = λ e h. subst (IsIn e) (sym (ap (λ (y : SeatView G T). y.known) is))
        (in_front e w.known u.known h);
  }

-- what the pass that was split off put, the two have put together
pub joined_put : (t : Token) (u w x : Known) → x ≡ with_joined u w → HasTicket t w.put → HasTicket t x.put
joined_put t u w x is put = (
  put.0,
  subst (IsIn put.0) (sym (ap (λ (y : Known). y.put) is))
      (in_front put.0 w.put u.put put.1),
  put.2,
)

-- the same for the shares of a pass
pub joined_share : (v w u x : Known) → 1 ≤ v.share → w.share ≡ (split_part v).share
    → u.share ≡ (kept_part v).share → x ≡ with_joined u w → x.share ≡ v.share
joined_share v w u x some right left is = let c : x.share ≡ u.share + w.share = ap (λ (y : Known). y.share) is
    in omega arith

pub le_of : (a b : ℕ) → a ≡ b → a ≤ b
le_of a b e = omega arith

module _ {X G T : Type 0} {d : Ghosts X G T} where
  -- a desk was split, each half kept what it had, and they were joined
  pub desks_joined : (old kept other kept' other' new : Desk X G T d) (l m : ℕ) → 1 ≤ (view old.seat).share
      → 1 ≤ (pass_view old.pass).share → SplitsDesk old kept other → KeepsDesk kept kept' l
      → KeepsDesk other other' m → JoinsDesk kept' other' new → KeepsDesk old new (m + l)
  desks_joined old kept other kept' other' new l m some some_pass splits keeps keeps_other joins = record {
    seat = joined_keeps (view old.seat) (view other'.seat) (view kept'.seat) (view new.seat) l m (m + l) some
        (le_of (m + l) (m + l) refl)
        (subst (λ (v : SeatView G T). KeepsSeat v (view other'.seat) m) splits.other_seat keeps_other.seat)
        (subst (λ (v : SeatView G T). KeepsSeat v (view kept'.seat) l) splits.seat keeps.seat)
        joins.seat;
    share = joined_share (pass_view old.pass) (pass_view other'.pass) (pass_view kept'.pass)
        (pass_view new.pass) some_pass
        (keeps_other.share ∙ ap (λ (v : Known). v.share) splits.other_pass)
        (keeps.share ∙ ap (λ (v : Known). v.share) splits.pass) joins.pass;
  }
