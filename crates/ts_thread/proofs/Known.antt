-- What is known at the end of the world of a group that was started.
use Rattle.std.proofs.Common.{◌≡◌, ℕ, Bool, true, List, subst, arith}
use Rattle.std.specs.Bool.{OnTrue}
use Rattle.ts_lists.proofs.Places.{place_once}
use mathlib.Core.Option.{some}
use lib.ListN.{get_elem?}
use Rattle.ts_journal.specs.State.{State}
use Rattle.ts_group.specs.declared.action.Named.{Named}
use Rattle.ts_group.specs.declared.group.Group.{Group}
use Rattle.ts_group.specs.Answers.{KeepsTags}
use Rattle.ts_group.specs.Standing.{made_later}
use Rattle.ts_thread.specs.Started.{IsFirst, WasStarted}

-- the group k, whose tag says that it is the first one in its slot
module _ {W Q R T U : Type 0} (Fits : T → W → Type 0) (is_first : T → Bool) (Begun : W → W → Type 0)
    (Sound : W → State → List Named → Type 0) (tags : List T) (k : ℕ) (given now : Group W Q R T U) (t : T)
    (there : get_elem? tags k ≡ some t) (first : is_first t ≡ true)
    (was : WasStarted Fits (IsFirst is_first tags) Begun Sound k given now) where
  started_first : was.started.cx.log.base.made ≡ 0
  started_first =
      let own = was.first in
      let same : is_first own.0 ≡ true = subst (λ (u : T). is_first u ≡ true)
      (place_once tags k t own.0 there own.1) first in
      subst (λ b. OnTrue b (was.started.cx.log.base.made ≡ 0)) same own.2

  -- its world was started from one that fits each tag that the given one fitted
  pub found_fits : KeepsTags Fits given.world was.found.world
  found_fits tag =
      let zero = started_first in
      let low = made_later Fits was.started was.found was.goes in
      let lower = made_later Fits was.found given was.stood.follows in
      was.stood.follows.tags (omega arith) tag

  -- once started it fits each of these
  pub started_fits : KeepsTags Fits given.world was.started.world
  started_fits tag fit =
      let zero = started_first in
      let low = made_later Fits was.started was.found was.goes in
      was.goes.tags (omega arith) tag (found_fits tag fit)

  -- and at the end it fits each tag that it fitted when it was started
  pub end_fits : now.cx.log.base.made ≡ 0 → KeepsTags Fits was.started.world now.world
  end_fits none tag = let zero = started_first in was.follows.tags (omega arith) tag
