-- What of a piece is passed on: no line that may be dropped begins in it.
use Rattle.std.proofs.Common.{◌≡◌, ℕ, ◌+◌, ◌-◌, ◌<◌, ◌≤◌, Bool, true, false, List, ◌++◌, take, drop, ⊎_elim}
use Rattle.std.proofs.Common.{sym, ap}
use Rattle.std.proofs.Common.{subst, ◌∙◌, arith, append_assoc}
use Rattle.std.specs.Prelude.{◌&&◌}
use Rattle.std.proofs.lemmas.Bool.{cases_lt}
use Rattle.ts_session.specs.Kept.{close_line}
use Rattle.ts_session.specs.Lines.{BeginsLine, GoesOver, PassesNoLine, agrees, may_drop_at}
use Rattle.ts_session.specs.declared.lines.Lines.{Lines}
use Rattle.ts_session.proofs.HeadWalks.{begins_may, ended_begins}
use Rattle.ts_session.proofs.Parts.{take_on}

second_false : (a b : Bool) → a ≡ true → (a && b) ≡ false → b ≡ false
second_false true b is none = none
second_false false b is none = absurd (cc)

pub passes_none : (asks : Bool) (s : Lines) (bytes : List ℕ) → PassesNoLine asks s bytes 0
passes_none asks s bytes sent shows at some below b = absurd (omega (arith, below))

module _ (asks : Bool) (s lines : Lines) (bytes : List ℕ) (at : ℕ) (over : GoesOver s (take at bytes) lines)
    (passes : PassesNoLine asks s bytes at) where
  -- one place more
  pub passes_more : (0 < at → (may_drop_at lines asks && agrees close_line (drop at bytes)) ≡ false)
      → PassesNoLine asks s bytes (at + 1)
  passes_more none sent shows k some below b =
      ⊎_elim
      (λ (before : k < at). passes sent shows k some before b)
      (λ (here : at ≤ k).
      let same : k ≡ at = omega (arith, below, here) in
      let first : 0 < at = omega (arith, some, same) in
      let may = begins_may asks (sent ++ take at bytes) lines (over sent shows)
      (subst (λ n. BeginsLine asks (sent ++ take n bytes)) same b) in
      ap (λ n. agrees close_line (drop n bytes)) same
      ∙ second_false (may_drop_at lines asks) (agrees close_line (drop at bytes)) may (none first))
      (cases_lt k at)

  -- behind a head that has ended there is none
  pub passes_ended : lines.ended ≡ true → (count : ℕ) → PassesNoLine asks s bytes count
  passes_ended ended count sent shows k some below b =
      ⊎_elim
      (λ (before : k < at). passes sent shows k some before b)
      (λ (behind : at ≤ k).
      let long : at + (k - at) ≡ k = omega (arith, behind) in
      let parts : sent ++ take k bytes ≡ (sent ++ take at bytes) ++ take (k - at) (drop at bytes) =
      ap (λ n. sent ++ take n bytes) (sym long)
      ∙ ap (λ t. sent ++ t) (sym (take_on at (k - at) bytes))
      ∙ sym (append_assoc sent (take at bytes) (take (k - at) (drop at bytes))) in
      absurd (ended_begins asks (sent ++ take at bytes) (take (k - at) (drop at bytes))
      ((over sent shows).over ended) (subst (BeginsLine asks) parts b)))
      (cases_lt k at)
