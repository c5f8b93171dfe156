-- Groups that can be driven to their end, and that were.
use Rattle.std.proofs.Common.{◌≡◌, ℕ, zero, suc, ◌+◌, ◌*◌, ◌<◌, ◌≤◌, max, inr, List, [], ◌∷◌, length, Bool, Option, Result, Ok, All, refl, ap, subst, arith}
use mathlib.Core.Option.{some}
use lib.ListN.{get_elem?}
use Rattle.std.specs.List.{AllZip, sum_by}
use Rattle.std.proofs.lemmas.List.Sums.{sum_by-le}
use Rattle.std.proofs.lemmas.List.Elements.{All-nil, All-cons, All-head, All-tail, All-weaker}
use Rattle.ts_lists.proofs.Pairs.{zip_across}
use Rattle.ts_journal.specs.State.{State}
use Rattle.ts_group.specs.declared.action.Named.{Named}
use Rattle.ts_group.specs.declared.group.Group.{Group}
use Rattle.ts_group.specs.Standing.{FollowsGroup, follows_on}
use Rattle.ts_thread.specs.declared.TheConstants.{MOST_ALONE}
use Rattle.ts_thread.specs.declared.did.Unfinished.{Unfinished}
use Rattle.ts_thread.specs.Tags.{GroupFits, GroupsFit}
use Rattle.ts_group.specs.Answers.{Finite, KeepsTags}
use Rattle.ts_thread.specs.Goings.{IsLaterGroup, HasTakenTurns, AllGoOn, IsIdle, HasTurns, left_in_all}
use Rattle.ts_thread.specs.Started.{IsFirst, WasStarted}
use Rattle.ts_thread.specs.Threads.{HasHadTurns, turns_of}
use Rattle.ts_thread.specs.Whole.{EachTells, EndSoon, HaveRun, HaveEnded}
use Rattle.ts_thread.proofs.Rows.{fits_on}

pub fit_count : {A B : Type 0} (P : A → B → Type 0) (ts : List A) (gs : List B) → AllZip P ts gs
    → length gs ≡ length ts
fit_count P [] [] fit = refl
fit_count P [] (g ∷ gs) fit = absurd fit
fit_count P (t ∷ ts) [] fit = absurd fit
fit_count P (t ∷ ts) (g ∷ gs) fit = let e = fit_count P ts gs fit.1 in omega arith

module _ {W Q R T U : Type 0} (Fits : T → W → Type 0) (Sound : W → State → List Named → Type 0)
    (oa isf : T → Bool) where
  module _ (Left : W → State → Option ℕ) where
    -- groups that fit tags tell what is left to do
    pub all_tell : (ts : List T) (gs : List (Group W Q R T U)) → EachTells Q R U Fits Sound oa isf Left ts
        → GroupsFit Fits Sound oa isf ts gs → All (Finite Left) gs
    all_tell ts gs tells fit = zip_across (λ t g. GroupFits Fits Sound oa isf t g)
        (λ t. (g : Group W Q R T U) → GroupFits Fits Sound oa isf t g → Finite Left g) (Finite Left) ts gs
        (λ t g each fits. each g fits) tells fit

    -- groups that end soon have turns enough for what is left to do
    pub turns_enough : (limit turns : ℕ) (ts : List T) (gs : List (Group W Q R T U))
        → EndSoon Q R U Fits Sound oa isf Left limit turns ts → GroupsFit Fits Sound oa isf ts gs
        → All (HasHadTurns turns) gs
        → All (HasTurns limit (sum_by (left_in_all Left) gs)) gs
    turns_enough limit turns ts gs ends fit few =
        let little : All (λ g. HasHadTurns turns g → left_in_all Left g ≤ ends.most) gs =
        zip_across (λ t g. GroupFits Fits Sound oa isf t g)
        (λ t. (g : Group W Q R T U) → GroupFits Fits Sound oa isf t g → HasHadTurns turns g → left_in_all
        Left g ≤ ends.most) (λ g. HasHadTurns turns g → left_in_all Left g ≤ ends.most) ts gs
        (λ t g each fits. each g fits) ends.each fit in
        let all : All (λ g. left_in_all Left g ≤ ends.most) gs = λ k d low. little k d low (few k d low) in
        let sum : sum_by (left_in_all Left) gs ≤ length gs * ends.most = sum_by-le (left_in_all Left)
        ends.most gs
        all in
        let count : length gs ≡ length ts = fit_count (λ t g. GroupFits Fits Sound oa isf t g) ts gs fit in
        let same : length gs * ends.most ≡ length ts * ends.most = ap (λ (n : ℕ). n * ends.most) count in
        let enough : turns + length ts * ends.most + 1 < limit = ends.enough in
        All-weaker (HasHadTurns turns) (HasTurns limit (sum_by (left_in_all Left) gs)) (λ g h. omega arith) gs
        few

  -- a group that follows another, follows it still when it went on
  later_follows : (x g h : Group W Q R T U) → IsLaterGroup g h → KeepsTags Fits g.world h.world
      → FollowsGroup Fits g x → FollowsGroup Fits h x
  later_follows x g h later tags = follows_on Fits h g x (record {
    journal = inr (later.made, later.later);
    tags = λ same. tags;
  })

  -- a group that follows one that was started, follows it still when it went on
  later_started : (First : ℕ → ℕ → Type 0) (Begun : W → W → Type 0) (k : ℕ) (given g h : Group W Q R T U)
      → IsLaterGroup g h → KeepsTags Fits g.world h.world → WasStarted Fits First Begun Sound k given g
      → WasStarted Fits First Begun Sound k given h
  later_started First Begun k given g h later tags was = record {
    found = was.found;
    stood = was.stood;
    started = was.started;
    turned = was.turned;
    goes = was.goes;
    first = was.first;
    begun = was.begun;
    sound = was.sound;
    follows = later_follows was.started g h later tags was.follows;
  }

  -- groups that follow those that were given, follow them still when they went on
  all_follow : (r : Result (Unit {0}) Unfinished) (Left : W → State → Option ℕ) (limit turns : ℕ)
      (given gs hs : List (Group W Q R T U)) → AllZip (FollowsGroup Fits) gs given
      → AllGoOn Fits Sound oa isf Left limit r gs hs turns → AllZip (FollowsGroup Fits) hs given
  all_follow r Left limit turns [] [] [] all goes = tt
  all_follow r Left limit turns [] [] (h ∷ hs) all goes = absurd goes
  all_follow r Left limit turns [] (g ∷ gs) hs all goes = absurd all
  all_follow r Left limit turns (x ∷ xs) [] hs all goes = absurd all
  all_follow r Left limit turns (x ∷ xs) (g ∷ gs) [] all goes = absurd goes
  all_follow r Left limit turns (x ∷ xs) (g ∷ gs) (h ∷ hs) all goes = (
    later_follows x g h goes.0.later goes.0.tags all.0,
    all_follow r Left limit turns xs gs hs all.1
        goes.1,
  )

  -- the group from which one went on
  back_at : (r : Result (Unit {0}) Unfinished) (Left : W → State → Option ℕ) (limit turns : ℕ)
      (gs hs : List (Group W Q R T U)) (k : ℕ) (h : Group W Q R T U)
      → AllGoOn Fits Sound oa isf Left limit r gs hs turns → get_elem? hs k ≡ some h
      → (g : Group W Q R T U) × (get_elem? gs k ≡ some g) × HasTakenTurns Fits Sound oa isf Left limit r g h
      turns
  back_at r Left limit turns [] [] k h a e = absurd (cc)
  back_at r Left limit turns [] (y ∷ ys) k h a e = absurd a
  back_at r Left limit turns (x ∷ xs) [] k h a e = absurd a
  back_at r Left limit turns (x ∷ xs) (y ∷ ys) zero h a e = let is : y ≡ h = cc in (
    x,
    refl,
    subst (λ (z : Group W Q R T U). HasTakenTurns Fits Sound oa isf Left limit r x z turns) is
        a.0,
  )
  back_at r Left limit turns (x ∷ xs) (y ∷ ys) (suc k) h a e = back_at r Left limit turns xs ys k h a.1 e

  -- groups that had so many turns at most had no more of them alone than one thread gives
  few_on : (Left : W → State → Option ℕ) (limit n m : ℕ) (gs hs : List (Group W Q R T U))
      → AllGoOn Fits Sound oa isf Left limit (Ok tt) gs hs n → All (HasHadTurns m) gs
      → All (HasHadTurns (max m limit)) hs
  few_on Left limit n m [] [] goes few = All-nil (HasHadTurns (max m limit))
  few_on Left limit n m [] (h ∷ hs) goes few = absurd goes
  few_on Left limit n m (g ∷ gs) [] goes few = absurd goes
  few_on Left limit n m (g ∷ gs) (h ∷ hs) goes few =
      let had : g.cx.log.state.turns ≤ m = All-head (HasHadTurns m) g gs few in
      let within : h.cx.log.state.turns ≤ max g.cx.log.state.turns limit = goes.0.within in
      All-cons (HasHadTurns (max m limit)) h hs (omega arith)
      (few_on Left limit n m gs hs goes.1 (All-tail (HasHadTurns m) g gs few))

  -- groups that threads ran and that went on to their end
  pub have_ended : (Left : W → State → Option ℕ) (Begun : W → W → Type 0) (tags : List T)
      (starts threads budget turns : ℕ) (given old new : List (Group W Q R T U))
      → HaveRun Fits Sound oa isf Begun tags given starts threads budget old
      → AllGoOn Fits Sound oa isf Left MOST_ALONE (Ok tt) old new turns → All IsIdle new
      → HaveEnded Fits Sound oa isf Begun tags given starts threads budget new
  have_ended Left Begun tags starts threads budget turns given old new run goes idle = record {
    follow = all_follow (Ok tt) Left MOST_ALONE turns given old new run.follow goes;
    fits = fits_on Fits Sound oa isf Left MOST_ALONE _ tags old new turns run.fits goes;
    idle = idle;
    turns = few_on Left MOST_ALONE turns (turns_of starts threads budget) old new goes run.turns;
    started = λ k x h low at there. let was = back_at (Ok tt) Left MOST_ALONE turns old new k h goes there in
        later_started (IsFirst isf tags) Begun k x was.0 h was.2.later was.2.tags
        (run.started k x was.0 low at was.1);
  }
