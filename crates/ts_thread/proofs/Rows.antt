-- Rows of groups.
use Rattle.std.proofs.Common.{◌≡◌, ℕ, zero, suc, ◌+◌, List, [], ◌∷◌, ◌++◌, ◌<◌, ◌≤◌, length, Bool, true, Option, Some, None, Result, Ok, Err, IsSome, unwrap_or, OnOk, All, take, refl, ap, sym, ◌∙◌, subst, arith}
use Rattle.std.specs.List.{slice_get, sum_by}
use Rattle.std.specs.Result.{IsErrAnd, IsErrOf}
use Rattle.std.proofs.lemmas.List.Sums.{sum_by-cons, sum_by-append}
use Rattle.std.proofs.lemmas.List.Elements.{All-nil, All-cons, All-head, All-tail, All-append}
use Rattle.ts_lists.proofs.Fronts.{take_one_more}
use Rattle.ts_lists.proofs.Elements.{all_front, all_middle, all_rest}
use Rattle.ts_lists.proofs.Gets.{get_middle}
use Rattle.ts_journal.specs.State.{State}
use Rattle.ts_group.specs.declared.action.Named.{Named}
use Rattle.ts_group.specs.declared.group.Group.{Group}
use Rattle.ts_group.specs.declared.world.Asked.{Asked}
use Rattle.ts_group.specs.declared.world.Asked.TheVariants as asked
use Rattle.ts_group.specs.Answers.{Finite, Falls, LeavesLess, TellFalls, IsAnswer, KeepsTags}
use Rattle.ts_thread.specs.declared.did.Unfinished.{Unfinished}
use Rattle.ts_thread.specs.declared.did.Unfinished.TheVariants as unfinished
use Rattle.ts_thread.specs.Tags.{GroupFits, GroupsFit, FitAround, CanAsk}
use Rattle.ts_thread.specs.Goings.{HasTakenTurns, AllGoOn, HasTurns, IsIdle, WornAmong, came_of, row, left_in_all, Drives, DrivesAt, Finishes}
use Rattle.ts_thread.proofs.Moves.{goes_refl, goes_trans, goes_well}

pub get_below : {X : Type 0} (xs : List X) (k : ℕ) (x : X) → slice_get xs k ≡ Some x → k ≤ length xs
get_below [] k x e = absurd (cc)
get_below (y ∷ xs) zero x e = omega arith
get_below (y ∷ xs) (suc k) x e = let h = get_below xs k x e in omega arith

take_front : {X : Type 0} (xs ys : List X) (k : ℕ) → length xs ≡ k → take k (xs ++ ys) ≡ xs
take_front [] ys zero e = refl
take_front [] ys (suc k) e = absurd (omega arith)
take_front (x ∷ xs) ys zero e = absurd (omega arith)
take_front (x ∷ xs) ys (suc k) e = ap (λ zs. x ∷ zs) (take_front xs ys k (omega arith))

take_all : {X : Type 0} (xs : List X) (k : ℕ) → length xs ≤ k → take k xs ≡ xs
take_all [] zero h = refl
take_all [] (suc k) h = refl
take_all (x ∷ xs) zero h = absurd (omega arith)
take_all (x ∷ xs) (suc k) h = ap (λ zs. x ∷ zs) (take_all xs k (omega arith))

module _ {W Q R T U : Type 0} (Fits : T → W → Type 0) (Sound : W → State → List Named → Type 0)
    (oa isf : T → Bool) (Left : W → State → Option ℕ) (limit : ℕ) where
  pub all_refl : (r : Result (Unit {0}) Unfinished) (gs : List (Group W Q R T U)) (n : ℕ)
      → AllGoOn Fits Sound oa isf Left limit r gs gs n
  all_refl r [] n = tt
  all_refl r (g ∷ gs) n = (goes_refl Fits Sound oa isf Left limit g n, all_refl r gs n)

  -- what groups become where all goes well, they become with any answer
  pub all_well : (r : Result (Unit {0}) Unfinished) (gs hs : List (Group W Q R T U)) (n : ℕ)
      → AllGoOn Fits Sound oa isf Left limit (Ok tt) gs hs n → AllGoOn Fits Sound oa isf Left limit r gs hs n
  all_well r [] [] n a = tt
  all_well r [] (h ∷ hs) n a = absurd a
  all_well r (g ∷ gs) [] n a = absurd a
  all_well r (g ∷ gs) (h ∷ hs) n a = (
    goes_well Fits Sound oa isf Left limit g h n a.0,
    all_well r gs hs n
        a.1,
  )

  pub all_trans : (r : Result (Unit {0}) Unfinished) (gs hs ks : List (Group W Q R T U)) (m n : ℕ)
      → AllGoOn Fits Sound oa isf Left limit r gs hs m → AllGoOn Fits Sound oa isf Left limit r hs ks n
      → AllGoOn Fits Sound oa isf Left limit r gs ks (m + n)
  all_trans r [] [] [] m n a b = tt
  all_trans r [] [] (k ∷ ks) m n a b = absurd b
  all_trans r [] (h ∷ hs) ks m n a b = absurd a
  all_trans r (g ∷ gs) [] ks m n a b = absurd a
  all_trans r (g ∷ gs) (h ∷ hs) [] m n a b = absurd b
  all_trans r (g ∷ gs) (h ∷ hs) (k ∷ ks) m n a b =
      (goes_trans Fits Sound oa isf Left limit g h k m n a.0 b.0, all_trans r gs hs ks m n a.1 b.1)

  pub all_both : (r : Result (Unit {0}) Unfinished) (xs xs' ys ys' : List (Group W Q R T U)) (n : ℕ)
      → AllGoOn Fits Sound oa isf Left limit r xs xs' n → AllGoOn Fits Sound oa isf Left limit r ys ys' n
      → AllGoOn Fits Sound oa isf Left limit r (xs ++ ys) (xs' ++ ys') n
  all_both r [] [] ys ys' n a b = b
  all_both r [] (x ∷ xs) ys ys' n a b = absurd a
  all_both r (x ∷ xs) [] ys ys' n a b = absurd a
  all_both r (x ∷ xs) (y ∷ zs) ys ys' n a b = (a.0, all_both r xs zs ys ys' n a.1 b)

  -- one of a row goes on, between those before and after it
  pub all_row : {r : Result (Unit {0}) Unfinished} (before before' after after' : List (Group W Q R T U))
      (g h : Group W Q R T U) (n : ℕ) → AllGoOn Fits Sound oa isf Left limit r before before' n
      → HasTakenTurns Fits Sound oa isf Left limit r g h n
      → AllGoOn Fits Sound oa isf Left limit r after after' n
      → AllGoOn Fits Sound oa isf Left limit r (before ++ g ∷ after) (before' ++ h ∷ after') n
  all_row [] [] after after' g h n a b c = (b, c)
  all_row [] (x ∷ xs) after after' g h n a b c = absurd a
  all_row (x ∷ xs) [] after after' g h n a b c = absurd a
  all_row (x ∷ xs) (y ∷ ys) after after' g h n a b c = (a.0, all_row xs ys after after' g h n a.1 b c)

  -- groups that went on fit the tags that they fitted
  pub fits_on : (r : Result (Unit {0}) Unfinished) (tags : List T) (gs hs : List (Group W Q R T U)) (n : ℕ)
      → GroupsFit Fits Sound oa isf tags gs → AllGoOn Fits Sound oa isf Left limit r gs hs n
      → GroupsFit Fits Sound oa isf tags hs
  fits_on r [] [] [] n f a = tt
  fits_on r [] [] (h ∷ hs) n f a = absurd a
  fits_on r [] (g ∷ gs) hs n f a = absurd f
  fits_on r (t ∷ ts) [] hs n f a = absurd f
  fits_on r (t ∷ ts) (g ∷ gs) [] n f a = absurd a
  fits_on r (t ∷ ts) (g ∷ gs) (h ∷ hs) n f a = (a.0.fits t f.0, fits_on r ts gs hs n f.1 a.1)

  -- the tags of a row, around that of one of its groups
  pub around : (tags : List T) (before : List (Group W Q R T U)) (g : Group W Q R T U) (world : W)
      (after : List (Group W Q R T U)) → GroupsFit Fits Sound oa isf tags (before ++ g ∷ after)
      → world ≡ g.world
      → FitAround Fits Sound oa isf tags before world after
  around [] [] g world after f e = absurd f
  around [] (b ∷ bs) g world after f e = absurd f
  around (t ∷ ts) [] g world after f e = record {
    first = [];
    tag = t;
    last = ts;
    are = refl;
    fit_before = tt;
    fits = subst (λ (w : W). Fits t w) (sym e) f.0.0;
    fit_after = f.1;
  }
  around (t ∷ ts) (b ∷ bs) g world after f e =
      let h = around ts bs g world after f.1 e in
      record {
        first = t ∷ h.first;
        tag = h.tag;
        last = h.last;
        are = ap (λ zs. t ∷ zs) h.are;
        fit_before = (f.0, h.fit_before);
        fits = h.fits;
        fit_after = h.fit_after;
      }

  zip_at : (us : List T) (gs : List (Group W Q R T U)) (k : ℕ) (u : T) → GroupsFit Fits Sound oa isf us gs
      → slice_get us k ≡ Some u
      → (g : Group W Q R T U) × (slice_get gs k ≡ Some g) × GroupFits Fits Sound oa isf u g
  zip_at [] [] k u f e = absurd (cc)
  zip_at [] (g ∷ gs) k u f e = absurd f
  zip_at (t ∷ ts) [] k u f e = absurd f
  zip_at (t ∷ ts) (g ∷ gs) zero u f e = let is : t ≡ u = cc in
      (g, refl, subst (λ (v : T). GroupFits Fits Sound oa isf v g) is f.0)
  zip_at (t ∷ ts) (g ∷ gs) (suc k) u f e = zip_at ts gs k u f.1 e

  -- a group of a row, not the one between, fits its tag
  row_at : (first last : List T) (tag : T) (before after : List (Group W Q R T U)) (here : Group W Q R T U)
      (k : ℕ) (u : T)
      → GroupsFit Fits Sound oa isf first before → GroupsFit Fits Sound oa isf last after
      → (k ≡ length before → ⊥) → slice_get (first ++ tag ∷ last) k ≡ Some u
      → (g : Group W Q R T U) × (slice_get (before ++ here ∷ after) k ≡ Some g) × GroupFits Fits Sound oa isf
      u g
  row_at [] last tag [] after here zero u f l other e = absurd (other refl)
  row_at [] last tag [] after here (suc k) u f l other e = zip_at last after k u l e
  row_at [] last tag (b ∷ bs) after here k u f l other e = absurd f
  row_at (t ∷ ts) last tag [] after here k u f l other e = absurd f
  row_at (t ∷ ts) last tag (b ∷ bs) after here zero u f l other e = let is : t ≡ u = cc in
      (b, refl, subst (λ (v : T). GroupFits Fits Sound oa isf v b) is f.0)
  row_at (t ∷ ts) last tag (b ∷ bs) after here (suc k) u f l other e = row_at ts last tag bs after here k u
      f.1 l (λ same. other (omega arith)) e

  length_fit : (first : List T) (before : List (Group W Q R T U)) → GroupsFit Fits Sound oa isf first before
      → length first ≡ length before
  length_fit [] [] f = refl
  length_fit [] (b ∷ bs) f = absurd f
  length_fit (t ∷ ts) [] f = absurd f
  length_fit (t ∷ ts) (b ∷ bs) f = let e = length_fit ts bs f.1 in omega arith

  pub fit_middle : (tags : List T) (before : List (Group W Q R T U)) (g : Group W Q R T U)
      (after : List (Group W Q R T U)) → GroupsFit Fits Sound oa isf tags (before ++ g ∷ after)
      → (t : T) × GroupFits Fits Sound oa isf t g
  fit_middle [] [] g after f = absurd f
  fit_middle [] (b ∷ bs) g after f = absurd f
  fit_middle (t ∷ ts) [] g after f = (t, f.0)
  fit_middle (t ∷ ts) (b ∷ bs) g after f = fit_middle ts bs g after f.1

  -- A group that the world of one in a row may ask: it stands elsewhere in the row, and is only asked.
  pub record IsAskable (MayAsk : W → ℕ → Type 0) (Right : W → ℕ → Q → R → Type 0)
      (Answers : W → Q → R → Type 0) (before after : List (Group W Q R T U)) (world : W)
      (here : Group W Q R T U) (k : ℕ) : Type 0 where
    pub other : k ≡ length before → ⊥
    pub tag : T
    pub group : Group W Q R T U
    pub there : slice_get (before ++ here ∷ after) k ≡ Some group
    pub fits : GroupFits Fits Sound oa isf tag group
    pub asked : oa tag ≡ true
    pub right : (q : Q) (r : R) → Answers group.world q r → Right world k q r

  pub askable : (MayAsk : W → ℕ → Type 0) (Right : W → ℕ → Q → R → Type 0) (Answers : W → Q → R → Type 0)
      (tags : List T) (before after : List (Group W Q R T U)) (old world : W) (here : Group W Q R T U) (k : ℕ)
      → CanAsk Fits oa MayAsk Right Answers tags → FitAround Fits Sound oa isf tags before old after
      → KeepsTags Fits old world → MayAsk world k
      → IsAskable MayAsk Right Answers before after world here k
  askable MayAsk Right Answers tags before after old world here k can h keeps may =
      let j : ℕ = length h.first in
      let mine : slice_get tags j ≡ Some h.tag = ap (λ (ts : List T). slice_get ts j) h.are ∙ get_middle
      h.first h.tag h.last j refl in
      let fit : Fits h.tag world = keeps h.tag h.fits in
      let found = can.others j k h.tag world mine fit may in
      let len : j ≡ length before = length_fit h.first before h.fit_before in
      let other : k ≡ length before → ⊥ = λ e. found.0 (len ∙ sym e) in
      let at = row_at h.first h.last h.tag before after here k found.1 h.fit_before h.fit_after other
      (sym (ap (λ (ts : List T). slice_get ts k) h.are) ∙ found.2) in
      record {
        other = other;
        tag = found.1;
        group = at.0;
        there = at.1;
        fits = at.2;
        asked = found.3;
        right = λ q r answers. can.replies j k h.tag found.1 world at.0.world q r mine fit found.2 at.2.0
            answers;
      }

-- what is handed back for a question is right for it in another sense too
pub answer_right : {Q R : Type 0} (A B : ℕ → Q → R → Type 0) (j k : ℕ) (q : Q) (answer : Asked Q R)
    → IsAnswer A j q answer → ((r : R) → A j q r → B k q r) → IsAnswer B k q answer
answer_right A B j k q (asked.Reply r) a f = f r a
answer_right A B j k q (asked.Missed seen p) a f = a
answer_right A B j k q (asked.NoMemory p) a f = a

-- what no fault of one call is, no fault is that it was
pub no_fault : {A B E : Type 0} (r : Result A E) (e f : E) → IsErrAnd r (λ x. x ≡ e)
    → (IsErrOf {T = B} (Err e) f → ⊥) → IsErrOf r f → ⊥
no_fault (Ok a) e f is none worn = absurd is
no_fault (Err x) e f is none worn = let same : e ≡ f = cc in none (ap (λ y. Err y) same)

-- an answer that is no fault names no worn group
never_worn : {E : Type 0} {e : E} → IsErrOf {T = Unit {0}} (Ok tt) e → ⊥
never_worn is = absurd (cc)

-- what holds where no group is worn, holds where all went well
pub well_then : (r : Result (Unit {0}) Unfinished) (P : Type 0) → ((IsErrOf r unfinished.Worn → ⊥) → P)
    → OnOk r P
well_then (Ok tt) P p = p (λ is. never_worn is)
well_then (Err e) P p = tt

-- a question that no worn group missed leaves no more to do
pub told_falls : {Q R : Type 0} (answer : Asked Q R) (a b : Option ℕ) → TellFalls answer a b
    → (IsErrOf (came_of answer) unfinished.Worn → ⊥) → Falls a 0 b
told_falls (asked.Reply r) a b f well = f
told_falls (asked.Missed seen q) a b f well = absurd (well refl)
told_falls (asked.NoMemory q) a b f well = f

-- what is left falls, and goes on to be told
left_falls : (a b : Option ℕ) (n : ℕ) → IsSome a → Falls a n b
    → IsSome b × (unwrap_or b 0 + n ≤ unwrap_or a 0)
left_falls None b n tells f = absurd (cc)
left_falls (Some x) None n tells f = absurd f
left_falls (Some x) (Some y) n tells f = (refl, f)

module _ {W Q R T U : Type 0} (Fits : T → W → Type 0) (Sound : W → State → List Named → Type 0)
    (oa isf : T → Bool) (Left : W → State → Option ℕ) (limit : ℕ) where
  -- groups that had turns enough for those that were taken are not worn
  young_on : (r : Result (Unit {0}) Unfinished) (gs hs : List (Group W Q R T U)) (n m : ℕ)
      → AllGoOn Fits Sound oa isf Left limit r gs hs n → n ≤ m + 1 → All (HasTurns limit m) gs
      → All (λ h. h.cx.log.state.turns < limit) hs
  young_on r [] [] n m a le all = All-nil (λ h. h.cx.log.state.turns < limit)
  young_on r [] (h ∷ hs) n m a le all = absurd a
  young_on r (g ∷ gs) [] n m a le all = absurd a
  young_on r (g ∷ gs) (h ∷ hs) n m a le all =
      let young : g.cx.log.state.turns + m + 1 < limit = All-head (HasTurns limit m) g gs all in
      let took : h.cx.log.state.turns ≤ g.cx.log.state.turns + n = a.0.took in
      All-cons (λ k. k.cx.log.state.turns < limit) h hs (omega arith)
      (young_on r gs hs n m a.1 le (All-tail (HasTurns limit m) g gs all))

  -- where each group has turns enough for all that is left to do, none is worn
  pub finish_spares : (gs hs : List (Group W Q R T U)) (result : Result (Unit {0}) Unfinished)
      → Finishes Fits Sound oa isf Left limit gs hs result
      → All (HasTurns limit (sum_by (left_in_all Left) gs)) gs → IsErrOf result unfinished.Worn → ⊥
  finish_spares gs hs result ends all is =
      let worn = ends.worn is in
      let young = young_on result gs hs ends.turns (sum_by (left_in_all Left) gs) ends.goes ends.within all in
      let low : worn.1.cx.log.state.turns < limit = subst
      (λ (h : Group W Q R T U). h.cx.log.state.turns < limit) worn.3 (young worn.0 worn.1 worn.2) in
      let high : limit ≤ worn.1.cx.log.state.turns = worn.4.0 in
      omega arith

  -- What holds while a group is driven.
  pub record IsDriving (before before' : List (Group W Q R T U)) (old new : Group W Q R T U)
      (after after' : List (Group W Q R T U)) : Type 0 where
    pub turns : ℕ
    pub first : AllGoOn Fits Sound oa isf Left limit (Ok tt) before before' turns
    pub own : HasTakenTurns Fits Sound oa isf Left limit (Ok tt) old new turns
    pub last : AllGoOn Fits Sound oa isf Left limit (Ok tt) after after' turns
    pub less : left_in_all Left new + turns ≤ left_in_all Left old
    pub tells : Finite Left new

  pub driving_begins : (before : List (Group W Q R T U)) (g : Group W Q R T U)
      (after : List (Group W Q R T U)) → Finite Left g → IsDriving before before g g after after
  driving_begins before g after tells = record {
    turns = 0;
    first = all_refl Fits Sound oa isf Left limit _ before 0;
    own = goes_refl Fits Sound oa isf Left limit g 0;
    last = all_refl Fits Sound oa isf Left limit _ after 0;
    less = omega arith;
    tells = tells;
  }

  pub driving_row : (before before' : List (Group W Q R T U)) (old new : Group W Q R T U)
      (after after' : List (Group W Q R T U)) (h : IsDriving before before' old new after after')
      → AllGoOn Fits Sound oa isf Left limit (Ok tt) (before ++ old ∷ after) (before' ++ new ∷ after') h.turns
  driving_row before before' old new after after' h = all_row Fits Sound oa isf Left limit before before'
      after after' old new h.turns h.first h.own h.last

  pub driving_goes_on : (b0 b1 b2 : List (Group W Q R T U)) (g0 g1 g2 : Group W Q R T U)
      (a0 a1 a2 : List (Group W Q R T U)) → IsDriving b0 b1 g0 g1 a0 a1
      → AllGoOn Fits Sound oa isf Left limit (Ok tt) b1 b2 1
      → HasTakenTurns Fits Sound oa isf Left limit (Ok tt) g1 g2 1
      → AllGoOn Fits Sound oa isf Left limit (Ok tt) a1 a2 1 → LeavesLess Left g1 1 g2
      → IsDriving b0 b2 g0 g2 a0 a2 × (left_in_all Left g2 < left_in_all Left g1)
  driving_goes_on b0 b1 b2 g0 g1 g2 a0 a1 a2 h b g a falls =
      let left = left_falls (Left g1.world g1.cx.log.state) (Left g2.world g2.cx.log.state) 1 h.tells falls in
      let less : left_in_all Left g2 + 1 ≤ left_in_all Left g1 = left.1 in
      let was = h.less in (
        record {
          turns = h.turns + 1;
          first = all_trans Fits Sound oa isf Left limit _ b0 b1 b2 h.turns 1 h.first b;
          own = goes_trans Fits Sound oa isf Left limit g0 g1 g2 h.turns 1 h.own g;
          last = all_trans Fits Sound oa isf Left limit _ a0 a1 a2 h.turns 1 h.last a;
          less = omega arith;
          tells = left.0;
        },
        omega arith,
      )

  pub driving_stops : (b0 b1 b2 : List (Group W Q R T U)) (g0 g1 g2 : Group W Q R T U)
      (a0 a1 a2 : List (Group W Q R T U)) (e : Unfinished) → IsDriving b0 b1 g0 g1 a0 a1
      → AllGoOn Fits Sound oa isf Left limit (Err e) b1 b2 1
      → HasTakenTurns Fits Sound oa isf Left limit (Err e) g1 g2 1
      → AllGoOn Fits Sound oa isf Left limit (Err e) a1 a2 1
      → WornAmong Fits Sound oa isf limit (Err e) (row b2 g2 a2)
      → Drives Fits Sound oa isf Left limit b0 b2 g0 g2 a0 a2 (Err e)
  driving_stops b0 b1 b2 g0 g1 g2 a0 a1 a2 e h b g a worn = record {
    turns = h.turns + 1;
    within = let less = h.less in omega arith;
    first = all_trans Fits Sound oa isf Left limit _ b0 b1 b2 h.turns 1
        (all_well Fits Sound oa isf Left limit (Err e) b0 b1 h.turns h.first) b;
    own = goes_trans Fits Sound oa isf Left limit g0 g1 g2 h.turns 1
        (goes_well Fits Sound oa isf Left limit g0 g1 h.turns h.own) g;
    last = all_trans Fits Sound oa isf Left limit _ a0 a1 a2 h.turns 1
        (all_well Fits Sound oa isf Left limit (Err e) a0 a1 h.turns h.last) a;
    less = tt;
    idle = tt;
    worn = worn;
  }

  pub driving_ends : (b0 b1 : List (Group W Q R T U)) (g0 g1 : Group W Q R T U)
      (a0 a1 : List (Group W Q R T U)) → IsDriving b0 b1 g0 g1 a0 a1 → IsIdle g1
      → Drives Fits Sound oa isf Left limit b0 b1 g0 g1 a0 a1 (Ok tt)
  driving_ends b0 b1 g0 g1 a0 a1 h idle = record {
    turns = h.turns;
    within = let less = h.less in omega arith;
    first = h.first;
    own = h.own;
    last = h.last;
    less = h.less;
    idle = idle;
    worn = λ is. absurd (never_worn is);
  }

  -- the lists of groups are of one length
  length_on : (r : Result (Unit {0}) Unfinished) (gs hs : List (Group W Q R T U)) (n : ℕ)
      → AllGoOn Fits Sound oa isf Left limit r gs hs n → length hs ≡ length gs
  length_on r [] [] n a = refl
  length_on r [] (h ∷ hs) n a = absurd a
  length_on r (g ∷ gs) [] n a = absurd a
  length_on r (g ∷ gs) (h ∷ hs) n a = let e = length_on r gs hs n a.1 in omega arith

  -- no more is left to do, and worlds go on to tell it
  left_on : (gs hs : List (Group W Q R T U)) (n : ℕ) → AllGoOn Fits Sound oa isf Left limit (Ok tt) gs hs n
      → All (Finite Left) gs → (sum_by (left_in_all Left) hs ≤ sum_by (left_in_all Left) gs) × All
      (Finite Left)
      hs
  left_on [] [] n a tells = (omega arith, All-nil (Finite Left))
  left_on [] (h ∷ hs) n a tells = absurd a
  left_on (g ∷ gs) [] n a tells = absurd a
  left_on (g ∷ gs) (h ∷ hs) n a tells =
      let one = left_falls (Left g.world g.cx.log.state) (Left h.world h.cx.log.state) 0
      (All-head (Finite Left) g gs tells) (a.0.falls (λ is. never_worn is)) in
      let less : left_in_all Left h + 0 ≤ left_in_all Left g = one.1 in
      let rest = left_on gs hs n a.1 (All-tail (Finite Left) g gs tells) in
      let rest_less : sum_by (left_in_all Left) hs ≤ sum_by (left_in_all Left) gs = rest.0 in (
        omega (arith, sum_by-cons (left_in_all Left) g gs, sum_by-cons (left_in_all Left) h hs),
        All-cons (Finite Left) h hs one.0 rest.1,
      )

  -- groups with nothing pending go on to have nothing pending
  idle_on : (r : Result (Unit {0}) Unfinished) (gs hs : List (Group W Q R T U)) (n : ℕ)
      → AllGoOn Fits Sound oa isf Left limit r gs hs n → All IsIdle gs → All IsIdle hs
  idle_on r [] [] n a idle = All-nil IsIdle
  idle_on r [] (h ∷ hs) n a idle = absurd a
  idle_on r (g ∷ gs) [] n a idle = absurd a
  idle_on r (g ∷ gs) (h ∷ hs) n a idle = All-cons IsIdle h hs (a.0.nothing (All-head IsIdle g gs idle))
      (idle_on r gs hs n a.1 (All-tail IsIdle g gs idle))

  -- What holds while groups are driven to their end, those below a place first.
  pub record IsFinishing (old new : List (Group W Q R T U)) (place : ℕ) : Type 0 where
    pub turns : ℕ
    pub goes : AllGoOn Fits Sound oa isf Left limit (Ok tt) old new turns
    pub less : sum_by (left_in_all Left) new + turns ≤ sum_by (left_in_all Left) old
    pub tells : All (Finite Left) new
    pub idle : All IsIdle (take place new)

  pub finishing_begins : (gs : List (Group W Q R T U)) → All (Finite Left) gs → IsFinishing gs gs 0
  finishing_begins gs tells = record {
    turns = 0;
    goes = all_refl Fits Sound oa isf Left limit _ gs 0;
    less = omega arith;
    tells = tells;
    idle = All-nil IsIdle;
  }

  pub finishing_goes_on : (old front front' rest rest' : List (Group W Q R T U)) (g h : Group W Q R T U)
      (place : ℕ) → length front ≡ place → IsFinishing old (front ++ g ∷ rest) place
      → Drives Fits Sound oa isf Left limit front front' g h rest rest' (Ok tt)
      → IsFinishing old (front' ++ h ∷ rest') (place + 1)
  finishing_goes_on old front front' rest rest' g h place len was drives =
      let tells_front = all_front (Finite Left) front (g ∷ rest) was.tells in
      let tells_rest = All-tail (Finite Left) g rest (all_rest (Finite Left) front (g ∷ rest) was.tells) in
      let tells_g = all_middle (Finite Left) front g rest was.tells in
      let first = left_on front front' drives.turns drives.first tells_front in
      let last = left_on rest rest' drives.turns drives.last tells_rest in
      let own = left_falls (Left g.world g.cx.log.state) (Left h.world h.cx.log.state) 0 tells_g
      (drives.own.falls (λ is. never_worn is)) in
      let first_less : sum_by (left_in_all Left) front' ≤ sum_by (left_in_all Left) front = first.0 in
      let last_less : sum_by (left_in_all Left) rest' ≤ sum_by (left_in_all Left) rest = last.0 in
      let own_less : left_in_all Left h + drives.turns ≤ left_in_all Left g = drives.less in
      let before = was.less in
      let idle_front : All IsIdle front = subst (λ (gs : List (Group W Q R T U)). All IsIdle gs)
      (take_front front (g ∷ rest) place len) was.idle in
      let len' : length front' ≡ place = length_on _ front front' drives.turns drives.first ∙ len in
      record {
        turns = was.turns + drives.turns;
        goes = all_trans Fits Sound oa isf Left limit _ old (front ++ g ∷ rest) (front' ++ h ∷ rest')
            was.turns drives.turns was.goes
            (all_row Fits Sound oa isf Left limit front front' rest rest' g h drives.turns drives.first
            drives.own drives.last);
        less = omega (
          arith,
          sum_by-append (left_in_all Left) front (g ∷ rest),
          sum_by-append
              (left_in_all Left)
              front' (h ∷ rest'),
          sum_by-cons (left_in_all Left) g rest,
          sum_by-cons (left_in_all Left) h
              rest',
        );
        tells = All-append (Finite Left) front' (h ∷ rest') first.1
            (All-cons (Finite Left) h rest' own.0 last.1);
        idle = subst (λ (gs : List (Group W Q R T U)). All IsIdle gs)
            (sym (take_one_more front' h rest' place len'))
            (All-append IsIdle front' (h ∷ []) (idle_on _ front front' drives.turns drives.first idle_front)
            (All-cons IsIdle h [] drives.idle (All-nil IsIdle)));
      }

  left-le-sum : (front : List (Group W Q R T U)) (g : Group W Q R T U) (rest : List (Group W Q R T U))
      → left_in_all Left g ≤ sum_by (left_in_all Left) (front ++ g ∷ rest)
  left-le-sum front g rest = omega (
    arith,
    sum_by-append (left_in_all Left) front (g ∷ rest),
    sum_by-cons
        (left_in_all Left) g rest,
  )

  pub finishing_next : (old new next : List (Group W Q R T U)) (place : ℕ) → IsFinishing old new place
      → DrivesAt Fits Sound oa isf Left limit place new next (Ok tt) → IsFinishing old next (place + 1)
  finishing_next old new next place was at = subst
      (λ (gs : List (Group W Q R T U)). IsFinishing old gs (place + 1)) (sym at.new_is)
      (finishing_goes_on old at.before at.before' at.after at.after' at.group at.group' place at.at_place
      (subst (λ (gs : List (Group W Q R T U)). IsFinishing old gs place) at.old_is was) at.drives)

  pub finishing_stops : (old new next : List (Group W Q R T U)) (place : ℕ) (e : Unfinished)
      → IsFinishing old new place → DrivesAt Fits Sound oa isf Left limit place new next (Err e)
      → Finishes Fits Sound oa isf Left limit old next (Err e)
  finishing_stops old new next place e was at =
      let row_goes = all_row Fits Sound oa isf Left limit at.before at.before' at.after at.after' at.group
      at.group' at.drives.turns at.drives.first at.drives.own at.drives.last in
      let left : left_in_all Left at.group ≤ sum_by (left_in_all Left) new = subst
      (λ (gs : List (Group W Q R T U)). left_in_all Left at.group ≤ sum_by (left_in_all Left) gs)
      (sym at.old_is) (left-le-sum at.before at.group at.after) in
      record {
        turns = was.turns + at.drives.turns;
        within = let less = was.less in let few = at.drives.within in omega arith;
        goes = all_trans Fits Sound oa isf Left limit _ old new next was.turns at.drives.turns
            (all_well Fits Sound oa isf Left limit (Err e) old new was.turns was.goes)
            (subst (λ (x : List (Group W Q R T U) × List (Group W Q R T U)). AllGoOn Fits Sound oa isf Left
            limit (Err e) x.0 x.1 at.drives.turns) (λ i. (sym at.old_is i, sym at.new_is i)) row_goes);
        less = tt;
        idle = tt;
        worn = subst (λ (gs : List (Group W Q R T U)). WornAmong Fits Sound oa isf limit (Err e) gs)
            (sym at.new_is) at.drives.worn;
      }

  pub finishing_ends : (old new : List (Group W Q R T U)) (place : ℕ) → length new ≤ place
      → IsFinishing old new place → Finishes Fits Sound oa isf Left limit old new (Ok tt)
  finishing_ends old new place le was = record {
    turns = was.turns;
    within = let less = was.less in omega arith;
    goes = was.goes;
    less = was.less;
    idle = subst (λ (gs : List (Group W Q R T U)). All IsIdle gs) (take_all new place le) was.idle;
    worn = λ is. absurd (never_worn is);
  }

  pub finishing_fits : (tags : List T) (old new : List (Group W Q R T U)) (place : ℕ)
      → GroupsFit Fits Sound oa isf tags old → IsFinishing old new place
      → GroupsFit Fits Sound oa isf tags new
  finishing_fits tags old new place fits was = fits_on Fits Sound oa isf Left limit _ tags old new was.turns
      fits was.goes
