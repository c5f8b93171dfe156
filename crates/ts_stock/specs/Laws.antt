-- What the states of the stock transforms say of one that is done, and of one that got nothing.
use Rattle.std.specs.Prelude.{◌≡◌, ℕ, zero, suc, List, [], is_none, Bool, true, Option, Some, None, cond, length}
use Rattle.std.proofs.Common.{refl, ap, sym, ◌∙◌}
use Rattle.std.proofs.Math.Dec.{leb-zero, leb-suc-zero}
use Rattle.std.proofs.lemmas.Bool.{false≢true}
use Rattle.std.proofs.lemmas.Option.{same_Some}
use Rattle.ts_transform.specs.Law.{IsDone}
use Rattle.ts_stock.specs.declared.stock.State.{State}
use Rattle.ts_stock.specs.declared.stock.State.TheVariants as s
use Rattle.ts_stock.specs.Stock.{soon_writes, still_writes}

-- what a limit has written, by whether it has no byte left to pass on
abbrev limit_soon : Bool → Option (List ℕ)
limit_soon done = cond done None (Some [])

-- a limit with bytes left is not done
going : (n : ℕ) → soon_writes (s.Limiting (suc n)) [] ≡ Some []
going n = ap limit_soon (leb-suc-zero n)

-- one that is done writes nothing more, whatever still comes
pub done_stays : (t : State) → is_none (soon_writes t []) ≡ true → IsDone (still_writes t) (soon_writes t)
done_stays (s.Limiting zero) is = λ z. (refl, ap (λ b. cond b None (Some [])) (leb-zero (length z)))
done_stays (s.Limiting (suc n)) is =
    absurd (false≢true (sym (ap (is_none {T = List ℕ}) (going n)) ∙ is))
done_stays s.Passing is = absurd (false≢true is)
done_stays (s.Delaying ms) is = absurd (false≢true is)
done_stays (s.Appending text) is = absurd (false≢true is)
done_stays (s.Holding held) is = absurd (false≢true is)
done_stays (s.Prepending text) is = absurd (false≢true is)
done_stays (s.Mapping from to) is = absurd (false≢true is)
done_stays (s.Dropping byte) is = absurd (false≢true is)

-- one that got nothing has written nothing
pub silent_before : (t : State) (w : List ℕ) → soon_writes t [] ≡ Some w → w ≡ []
silent_before (s.Limiting zero) w is = absurd (false≢true (sym (ap (is_none {T = List ℕ}) is)))
silent_before (s.Limiting (suc n)) w is = sym (same_Some [] w (sym (going n) ∙ is))
silent_before s.Passing w is = sym (same_Some [] w is)
silent_before (s.Delaying ms) w is = sym (same_Some [] w is)
silent_before (s.Appending text) w is = sym (same_Some [] w is)
silent_before (s.Holding held) w is = sym (same_Some [] w is)
silent_before (s.Prepending text) w is = sym (same_Some [] w is)
silent_before (s.Mapping from to) w is = sym (same_Some [] w is)
silent_before (s.Dropping byte) w is = sym (same_Some [] w is)
