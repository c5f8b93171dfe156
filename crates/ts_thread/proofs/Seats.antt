-- What calls leave of what a seat knows.
use Rattle.std.proofs.Common.{◌≡◌, ℕ, ◌+◌, ◌-◌, ◌≤◌, inl, inr, List, [], ◌∷◌, length, refl, sym, ap, ◌∙◌, subst, arith}
use Rattle.ts_journal.specs.declared.slotted.Slotted.{Ghosts}
use Rattle.ts_slot.specs.declared.seat.Left.{Left}
use Rattle.ts_slot.specs.declared.seat.Left.TheVariants.{Freed, Worn}
use Rattle.ts_slot.specs.declared.seat.Seat.{Seat}
use Rattle.ts_slot.specs.declared.seat.Turn.{Turn}
use Rattle.ts_slot.specs.declared.view.SeatView.{SeatView}
use Rattle.ts_slot.specs.Lists.{IsIn, rest}
use Rattle.ts_slot.specs.Views.{won, missed}
use Rattle.ts_slot.specs.Words.{view, IsTop, GivesUp, LeavesFree, LeavesWorn}
use Rattle.ts_thread.specs.Seats.{More, KeepsSeat, LeavesWon, Leaves, KnowsTurn}

module _ {A : Type 0} where
  pub more_refl : (xs ys : List A) → ys ≡ xs → More xs ys
  more_refl xs ys e = record { stays = λ x h. subst (IsIn x) (sym e) h }

  pub more_one : (x : A) (xs ys : List A) → ys ≡ x ∷ xs → More xs ys
  more_one x xs ys e = record { stays = λ y h. subst (IsIn y) (sym e) (inr h) }

  pub more_trans : {xs ys zs : List A} → More xs ys → More ys zs → More xs zs
  more_trans a b = record { stays = λ x h. b.stays x (a.stays x h) }

module _ {G T : Type 0} where
  pub keeps_refl : (v w : SeatView G T) (m : ℕ) → w ≡ v → KeepsSeat v w m
  keeps_refl v w m e = record {
    share = ap (λ (u : SeatView G T). u.share) e;
    names = ap (λ (u : SeatView G T). u.names) e;
    held = ap (λ (u : SeatView G T). u.held) e;
    turns = let h : length w.turns ≡ length v.turns = ap (λ (u : SeatView G T). length u.turns) e in omega
        arith;
    misses = let h : length w.misses ≡ length v.misses = ap (λ (u : SeatView G T). length u.misses) e in omega
        arith;
    known = more_refl v.known w.known (ap (λ (u : SeatView G T). u.known) e);
  }

  pub keeps_trans : (v w u : SeatView G T) (m n k : ℕ) → m + n ≤ k → KeepsSeat v w m → KeepsSeat w u n
      → KeepsSeat v u k
  keeps_trans v w u m n k le a b = record {
    share = b.share ∙ a.share;
    names = b.names ∙ a.names;
    held = b.held ∙ a.held;
    turns = let x = a.turns in let y = b.turns in omega arith;
    misses = let x = a.misses in let y = b.misses in omega arith;
    known = more_trans a.known b.known;
  }

  -- a group was won and left
  pub won_left : (v w u : SeatView G T) (k t : ℕ) (c : T) → w ≡ won k t c v → Leaves w u → KeepsSeat v u 1
  won_left v w u k t c is leaves = record {
    share = leaves.share ∙ ap (λ (x : SeatView G T). x.share) is;
    names = leaves.names ∙ ap (λ (x : SeatView G T). x.names) is;
    held = leaves.held ∙ ap (λ (x : SeatView G T). rest x.held) is;
    turns = let h : length u.turns ≡ length ((k, t) ∷ v.turns) = ap (λ es. length es) leaves.turns ∙ ap
        (λ (x : SeatView G T). length x.turns) is in omega arith;
    misses = let h : length u.misses ≡ length v.misses = ap (λ es. length es) leaves.misses ∙ ap
        (λ (x : SeatView G T). length x.misses) is in omega arith;
    known = more_trans (more_one (k, t - 1, c) v.known w.known (ap (λ (x : SeatView G T). x.known) is))
        leaves.known;
  }

  pub missed_keeps : (v w : SeatView G T) (k n m : ℕ) → w ≡ missed k n v → KeepsSeat v w m
  missed_keeps v w k n m is = record {
    share = ap (λ (x : SeatView G T). x.share) is;
    names = ap (λ (x : SeatView G T). x.names) is;
    held = ap (λ (x : SeatView G T). x.held) is;
    turns = let h : length w.turns ≡ length v.turns = ap (λ (x : SeatView G T). length x.turns) is in omega
        arith;
    misses = let h : length w.misses ≡ length ((k, n) ∷ v.misses) = ap (λ (x : SeatView G T). length x.misses)
        is
        in omega arith;
    known = more_refl v.known w.known (ap (λ (x : SeatView G T). x.known) is);
  }

  pub closes : (v w u : SeatView G T) (m : ℕ) → KeepsSeat v w m → Leaves w u → LeavesWon v u m
  closes v w u m a b = record {
    share = b.share ∙ a.share;
    names = b.names ∙ a.names;
    held = b.held ∙ ap rest a.held;
    turns = let x = a.turns in let y : length u.turns ≡ length w.turns = ap (λ es. length es) b.turns in omega
        arith;
    misses = let x = a.misses in let y : length u.misses ≡ length w.misses = ap (λ es. length es) b.misses in
        omega arith;
    known = more_trans a.known b.known;
  }

  -- a group was won, and left after some turns more
  pub won_closed : (v w u : SeatView G T) (k t m n : ℕ) (c : T) → m + 1 ≤ n → w ≡ won k t c v
      → LeavesWon w u m
      → KeepsSeat v u n
  won_closed v w u k t m n c le is closes = record {
    share = closes.share ∙ ap (λ (x : SeatView G T). x.share) is;
    names = closes.names ∙ ap (λ (x : SeatView G T). x.names) is;
    held = closes.held ∙ ap (λ (x : SeatView G T). rest x.held) is;
    turns = let a = closes.turns in let h : length w.turns ≡ length ((k, t) ∷ v.turns) = ap
        (λ (x : SeatView G T). length x.turns) is in omega arith;
    misses = let a = closes.misses in let h : length w.misses ≡ length v.misses = ap
        (λ (x : SeatView G T). length x.misses) is in omega arith;
    known = more_trans (more_one (k, t - 1, c) v.known w.known (ap (λ (x : SeatView G T). x.known) is))
        closes.known;
  }

module _ {X G T : Type 0} {d : Ghosts X G T} where
  pub same_number : (s t : Seat X G T d) → (view t).names ≡ (view s).names → t.number ≡ s.number
  same_number s t e = let h : t.number ∷ [] ≡ s.number ∷ [] = sym t.named.0 ∙ e ∙ s.named.0 in cc

  pub left_seat : (turn : Turn X G T d) (v w : SeatView G T) (r : Left)
      → IsTop v turn.group turn.number (d.trace turn.found.value)
      → (r ≡ Freed → LeavesFree turn v w) → (r ≡ Worn → LeavesWorn turn v w)
      → GivesUp turn.group v.held w.held → Leaves v w × KnowsTurn turn.group turn.number
      (d.trace turn.boxed.value) w.known
  left_seat turn v w Freed top freed worn up =
      let is = (freed refl).is in (
        record {
          share = ap (λ (u : SeatView G T). u.share) is;
          names = ap (λ (u : SeatView G T). u.names) is;
          held = up.top turn.number (d.trace turn.found.value) top;
          turns = ap (λ (u : SeatView G T). u.turns) is;
          misses = ap (λ (u : SeatView G T). u.misses) is;
          known = more_one (turn.group, turn.number, d.trace turn.boxed.value) v.known w.known
              (ap (λ (u : SeatView G T). u.known) is);
        },
        λ low. subst (IsIn (turn.group, turn.number, d.trace turn.boxed.value))
            (sym (ap (λ (u : SeatView G T). u.known) is)) (inl refl),
      )
  left_seat turn v w Worn top freed worn up =
      let is = (worn refl).is in
      let last = (worn refl).number in (
        record {
          share = ap (λ (u : SeatView G T). u.share) is;
          names = ap (λ (u : SeatView G T). u.names) is;
          held = up.top turn.number (d.trace turn.found.value) top;
          turns = ap (λ (u : SeatView G T). u.turns) is;
          misses = ap (λ (u : SeatView G T). u.misses) is;
          known = more_refl v.known w.known (ap (λ (u : SeatView G T). u.known) is);
        },
        λ low. absurd (omega arith),
      )
