-- What a watcher was shown, and what it left, offer by offer.
use Rattle.std.proofs.Common.{◌≡◌, ℕ, ◌<◌, ◌≤◌, Bool, true, false, List, [], ◌++◌, length, take, drop, inl}
use Rattle.std.proofs.Common.{inr, ⊎_elim, refl, sym, ap, subst, ◌∙◌, arith, append_assoc, take-append-drop}
use Rattle.std.specs.Prelude.{if◌then◌else◌}
use Rattle.std.proofs.lemmas.List.{append-nil}
use Rattle.ts_link.specs.Counts.{Rose}
use Rattle.ts_tap.specs.Sending.{Sent, HasSeen, SeesOn}
use Rattle.ts_tap.specs.Taps.{HasTapped, IsTapping, TapsOn}
use Rattle.ts_tap.specs.Watching.{CountsLeft, CountsMore, IsCounted, IsShown, KeepsLeft, LeavesSome, Offers}
use Rattle.ts_tap.specs.Watching.{ShowsOn, Watching}
use Rattle.ts_tap.proofs.Seeing.{seen_body}

-- what waits of a watcher of which nothing was lost is all that it left
pub all_waits : {W : Type 0} (Took : W → List ℕ → Type 0) (bytes : List ℕ) (w : Watching W)
    (shown : IsShown Took bytes w) → w.lost ≡ false → w.waits ≡ shown.left
all_waits Took bytes w shown kept =
    shown.waits ∙ ap (λ (b : Bool). if b then [] else shown.left) kept

-- ---- offers

module _ {W : Type 0} (Took : W → List ℕ → Type 0) (lefts : W → ℕ) where
  -- bytes were offered, where none waited before them, and what is left of them is kept
  pub shows_offered : (old : Watching W) (mid new : Watching W) (bytes left : List ℕ) (n : ℕ)
      → old.lost ≡ false → old.waits ≡ [] → Offers Took lefts old.watcher mid.watcher n bytes
      → mid.waits ≡ [] → left ≡ drop n bytes → KeepsLeft mid left new
      → ShowsOn Took old bytes new
  shows_offered old mid new bytes left n kept none offers mid_none is keeps before shown =
      let left_none : shown.left ≡ [] = sym (all_waits Took before old shown kept) ∙ none in
      record {
        took = shown.took ++ take n bytes;
        is = subst (λ v. Took v (shown.took ++ take n bytes)) (sym keeps.watcher)
            (offers.takes shown.took shown.is);
        left = mid.waits ++ left;
        whole = ap (λ l. l ++ bytes) (shown.whole ∙ ap (λ l. shown.took ++ l) left_none
            ∙ append-nil shown.took)
            ∙ ap (λ l. shown.took ++ l) (sym (take-append-drop n bytes))
            ∙ sym (append_assoc shown.took (take n bytes) (drop n bytes))
            ∙ ap (λ l. (shown.took ++ take n bytes) ++ l) (sym is)
            ∙ ap (λ l. (shown.took ++ take n bytes) ++ (l ++ left)) (sym mid_none);
        lost = keeps.lost;
        waits = keeps.waits;
      }

  -- ---- counts

  -- a count rose at a later step
  later_rose : (a b c : ℕ) → a ≤ b → Rose b c → Rose a c
  later_rose a b c le rose = omega (arith, le, rose)

  -- or at an earlier one
  pub early_rose : (a b c : ℕ) → Rose a b → b ≤ c → Rose a c
  early_rose a b c rose le = omega (arith, rose, le)

  -- a count that rose is above 0
  pub rose_some : (a b : ℕ) → Rose a b → 0 < b
  rose_some a b rose = omega (arith, rose)

  -- offers behind offers
  pub counts_on : (u v w : Watching W) → CountsLeft lefts u v → CountsMore lefts v w → CountsLeft lefts u w
  counts_on u v w left more =
      let a = lefts u.watcher in
      let b = lefts v.watcher in
      let c = lefts w.watcher in
      let before : Rose a b → Rose a c = λ rose. early_rose a b c rose more.stays in
      let behind : Rose b c → Rose a c = λ rose. later_rose a b c left.stays rose in
      record {
        stays = omega (arith, left.stays, more.stays);
        waits = λ some. ⊎_elim (λ (waited : 0 < length v.waits). before (left.waits waited)) behind
            (more.waits some);
        lost = λ lost. ⊎_elim
            (λ (some : LeavesSome v). ⊎_elim
            (λ (waited : 0 < length v.waits). inr (before (left.waits waited)))
            (λ (gone : v.lost ≡ true). ⊎_elim
            (λ (was : u.lost ≡ true). inl was)
            (λ (rose : Rose a b). inr (before rose))
            (left.lost gone))
            some)
            (λ (rose : Rose b c). inr (behind rose))
            (more.lost lost);
      }

  -- so bytes wait, or were lost, only where the count tells of it
  pub counted_on : (u v : Watching W) → CountsLeft lefts u v → IsCounted lefts u → IsCounted lefts v
  counted_on u v counts counted some =
      ⊎_elim
      (λ (waits : 0 < length v.waits). rose_some (lefts u.watcher) (lefts v.watcher) (counts.waits waits))
      (λ (lost : v.lost ≡ true). ⊎_elim
      (λ (was : u.lost ≡ true). let told : 0 < lefts u.watcher = counted (inr was)
      in omega (arith, told, counts.stays))
      (λ (rose : Rose (lefts u.watcher) (lefts v.watcher)).
      rose_some (lefts u.watcher) (lefts v.watcher) rose)
      (counts.lost lost))
      some

  -- ---- the tap

  -- what waits was offered again behind what a client took
  pub taps_again : (s : Sent) (w x : Watching W) → ShowsOn Took w [] x → TapsOn Took s w [] s x
  taps_again s w x shows taken tap = record {
    body = tap.body ++ [];
    seen = subst (λ (l : List ℕ). HasSeen l (tap.body ++ []) s) (sym (append-nil taken))
        (subst (λ (l : List ℕ). HasSeen taken l s) (sym (append-nil tap.body)) tap.seen);
    shown = shows tap.body tap.shown;
  }

  -- a front of what follows was seen, and the body data in it shown
  pub taps_front : (s t u : Sent) (w x y : Watching W) (gone front found : List ℕ)
      → TapsOn Took s w gone t x → SeesOn t front found u → ShowsOn Took x found y
      → TapsOn Took s w (gone ++ front) u y
  taps_front s t u w x y gone front found taps sees shows taken tap =
      let so_far = taps taken tap in
      record {
        body = so_far.body ++ found;
        seen = subst (λ (l : List ℕ). HasSeen l (so_far.body ++ found) u) (append_assoc taken gone front)
            (sees (taken ++ gone) so_far.body so_far.seen);
        shown = shows so_far.body so_far.shown;
      }

  -- and what was tapped is what it says at its end
  pub tapped_whole : (taken : List ℕ) (s : Sent) (w x : Watching W) → IsTapping Took taken s w
      → IsCounted lefts w → ShowsOn Took w [] x → CountsLeft lefts w x → x.lost ≡ w.lost
      → HasTapped Took lefts taken w x.watcher
  tapped_whole taken s w x tap counted shows counts same =
      let shown : IsShown Took tap.body x =
      subst (λ (l : List ℕ). IsShown Took l x) (append-nil tap.body) (shows tap.body tap.shown) in
      let told = counted_on w x counts counted in
      record {
        body = tap.body;
        is_body = seen_body s taken tap.body tap.seen;
        took = shown.took;
        is = shown.is;
        left = shown.left;
        whole = shown.whole;
        limit = sym same ∙ shown.lost;
        offered = λ some. ⊎_elim
            (λ (waits : 0 < length x.waits). inr (counts.waits waits))
            (λ (lost : x.lost ≡ true). inl (sym same ∙ lost))
            (leaves x.lost refl shown some);
        counted = λ some. told (leaves x.lost refl shown some);
      }
    where
      leaves : (b : Bool) → x.lost ≡ b → (shown : IsShown Took tap.body x) → 0 < length shown.left
          → LeavesSome x
      leaves true is shown some = inr is
      leaves false is shown some =
          let all : x.waits ≡ shown.left = all_waits Took tap.body x shown is in
          inl (subst (λ (l : List ℕ). 0 < length l) (sym all) some)
