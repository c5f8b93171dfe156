-- A group that is found again goes on from what a seat knew of it.
use Rattle.std.proofs.Common.{ℕ, List}
use Rattle.ts_group.specs.declared.group.Group.{Group}
use Rattle.ts_group.specs.Standing.{StandsAfter}
use Rattle.ts_slot.specs.Views.{IsAfter}
use Rattle.ts_thread.specs.Entering.{FindsAgain}
use Rattle.ts_thread.proofs.Starts.{after_known}

-- what stands after all that is known of a group fits each tag that was fitted there, if it was made alike
pub finds_again : {W Q R T U : Type 0} (Fits : T → W → Type 0) (k turn : ℕ)
    (known : List (ℕ × ℕ × Group W Q R T U)) (now : Group W Q R T U)
    → IsAfter (StandsAfter Fits) k turn now known → FindsAgain Fits k known now
finds_again Fits k turn known now after = record {
  same = λ n left there made.
      (after_known (StandsAfter Fits) known k turn n left now after there).follows.tags made;
}
