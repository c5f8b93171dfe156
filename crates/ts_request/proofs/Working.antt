-- The stages that must work: each is there, and a pump of one does something.
use Rattle.std.proofs.Common.{◌≡◌, ℕ, zero, suc, ◌<◌, ◌≤◌, List, [], ◌∷◌, length, Bool, true, false, arith}
use Rattle.std.proofs.Common.{sym, subst}
use Rattle.std.specs.Prelude.{nat_le}
use Rattle.std.proofs.lemmas.Bool.Decides.{nat_tests}
use Rattle.ts_transform.specs.Flow.{AnswersAt, MustPump}
use Rattle.ts_transform.specs.Stage.{AnswersIf, AnswersWork, HasDuty, MOST_WAITING, done_by, has_ended}
use Rattle.ts_transform.specs.Stage.{has_work, is_done, needs_no_more}
use Rattle.ts_transform.specs.declared.pump.Pumped.{Pumped}
use Rattle.ts_transform.specs.declared.pump.Pumped.TheVariants.{Moved, Ended, Blocked, Idle}
use Rattle.ts_transform.specs.declared.pump.Stage.{Stage}

pub must_within : {P : Type 0} (up : Bool) (from : List ℕ) (ss : List (Stage P)) (at : ℕ)
    → MustPump up from ss at
    → at < length ss
must_within up from [] at must = absurd must
must_within up from (s ∷ ss) zero must = omega arith
must_within up from (s ∷ ss) (suc at) must = omega (arith, must_within (has_ended s) s.after ss at must)

-- a stage that has work and room after it ends, or moves some bytes
moves_if : (full done : Bool) (from after : List ℕ) (r : Pumped) → full ≡ false
    → AnswersWork full done from after r
    → 1 ≤ done_by r
moves_if true done from after r room answers = absurd (let wrong : true ≡ false = room in cc)
moves_if false true from after r room answers = subst (λ x. 1 ≤ done_by x) (sym answers) (omega arith)
moves_if false false [] after r room answers = subst (λ x. 1 ≤ done_by x) (sym answers) (omega arith)
moves_if false false (b ∷ bs) after (Moved n) room answers = answers.0
moves_if false false (b ∷ bs) after Ended room answers = absurd answers
moves_if false false (b ∷ bs) after (Blocked w) room answers = absurd answers
moves_if false false (b ∷ bs) after Idle room answers = absurd answers

work_if : (works done : Bool) (from after : List ℕ) (r : Pumped) → HasDuty works after
    → AnswersIf works done from after r → 1 ≤ done_by r
work_if true done from after r duty answers =
    moves_if (nat_le MOST_WAITING (length after)) done from after r
    (let short : length after < MOST_WAITING = duty.1 in grind (arith, nat_tests)) answers
work_if false done from after r duty answers = absurd (let wrong : false ≡ true = duty.0 in cc)

pub must_moves : {P : Type 0} (up : Bool) (from : List ℕ) (ss : List (Stage P)) (at : ℕ) (r : Pumped)
    → MustPump up from ss at → AnswersAt up from ss at r → 1 ≤ done_by r
must_moves up from [] at r must answers = absurd must
must_moves up from (s ∷ ss) zero r must answers =
    work_if (has_work (has_ended s) (needs_no_more up s.part) from)
    (is_done s.part) from s.after r must answers
must_moves up from (s ∷ ss) (suc at) r must answers = must_moves (has_ended s) s.after ss at r must answers
