-- Each kind of step on a word keeps the rule.
use Rattle.std.proofs.Common.{◌≡◌, ◌≢◌, ◌⊎◌, ℕ, ◌+◌, ◌-◌, ◌*◌, ◌/◌, ◌%◌, ◌<◌, ◌≤◌, cond, eqb, List, [], ◌∷◌, length, set, refl, sym, ap, ◌∙◌, subst, inl, inr, ⊎_elim, arith}
use Rattle.std.specs.Prelude.{slice_index, Option, Some}
use Rattle.std.specs.Int.Bits.{bit_or, bit_and, or_add_and}
use Rattle.std.proofs.Math.ListN.{length-set}
use Rattle.std.proofs.lemmas.Nat.{and_mask}
use Rattle.std.proofs.lemmas.Bool.{eq-eqb, ne_eqb, cond-true, cond-false}
use Rattle.std.proofs.lemmas.List.{get_or-set_same, set-get_or}
use mathlib.Core.Option.{some, none, some-injective}
use mathlib.Core.Option as maybe
use mathlib.Core.Logic.{dite}
use native.Mathlib.Decide.{ℕ_discrete}
use lib.ListN.{get_elem?}
use Rattle.atomic_table.specs.Table.{State, Act, Valid, step, keeps, takes, gives, stepped, carried_after, Allows, rest as below}
use Rattle.atomic_table.proofs.Lists.{at_set, set_here, set_else, set_again}
use Rattle.ts_slot.specs.declared.view.SeatView.{SeatView}
use Rattle.ts_slot.specs.Lists.{total, Each, rest, same, traced, entries, without_group}
use Rattle.ts_slot.specs.Limits.{last_turn}
use Rattle.ts_slot.specs.Views.{owns, won, missed, freed, worn_out, Coherent}
use Rattle.ts_slot.specs.Rule.{free, taken, worn, AtHome, ViewOk}
use Rattle.ts_slot.specs.Steps.{Mine, Entered, Returned, WornOut, Learned}
use Rattle.ts_slot.specs.Words.{FitsTag}
use Rattle.ts_lists.proofs.Cases.{by_eq}
use Rattle.ts_slot.proofs.Lists.{same_one, total_set, total_at, total_two, each_map, each_without, traced_without, traced_others}
use Rattle.ts_slot.proofs.Kept.{Rule, Group, group_same, view_stays, after_known, kept_views, kept_word}

pub or_even : (n m : ℕ) → n ≡ 2 * m → bit_or n 1 ≡ n + 1
or_even n m e = let a : bit_and n 1 ≡ n % 2 = and_mask n 1 in let o = or_add_and n 1 in omega arith

pub or_odd : (n m : ℕ) → n ≡ 2 * m + 1 → bit_or n 1 ≡ n
or_odd n m e = let a : bit_and n 1 ≡ n % 2 = and_mask n 1 in let o = or_add_and n 1 in omega arith

-- the trace after one turn of one group is another
abbrev pub told : {T : Type 0} → ℕ → ℕ → T → (ℕ → ℕ → T) → ℕ → ℕ → T
told k t c history j m = cond (eqb j k) (cond (eqb m t) c (history j m)) (history j m)

pub told_here : {T : Type 0} (k t : ℕ) (c : T) (history : ℕ → ℕ → T) → told k t c history k t ≡ c
told_here k t c history = cond-true (eqb k k) _ _ (eq-eqb k k refl) ∙ cond-true (eqb t t) _ _
    (eq-eqb t t refl)

pub told_group : {T : Type 0} (k t : ℕ) (c : T) (history : ℕ → ℕ → T) (j m : ℕ) → j ≢ k
    → told k t c history j m ≡ history j m
told_group k t c history j m ne = cond-false (eqb j k) _ _ (ne_eqb j k ne)

pub told_turn : {T : Type 0} (k t : ℕ) (c : T) (history : ℕ → ℕ → T) (j m : ℕ) → (j ≡ k → m ≢ t)
    → told k t c history j m ≡ history j m
told_turn k t c history j m ne =
    by_eq j k (λ b. cond b (cond (eqb m t) c (history j m)) (history j m) ≡ history j m)
    (λ is. cond-false (eqb m t) _ _ (ne_eqb m t (ne is)))
    (λ _. refl)

abbrev first_of : {A : Type 0} → A → List A → A
first_of d [] = d
first_of d (x ∷ xs) = x

-- what two equal lists begin with
pub first_is : {A : Type 0} (x y : A) (xs ys : List A) → x ∷ xs ≡ y ∷ ys → x ≡ y
first_is x y xs ys e = ap (first_of x) e

is_or_less : (a b : ℕ) → a ≤ b → (a ≡ b) ⊎ (a < b)
is_or_less a b le = dite (ℕ_discrete a b) (λ e. inl e) (λ ne. inr (omega arith))

-- what the first entries of two equal lists say
turn_is : {T : Type 0} (k t t' : ℕ) (c c' : T) (es fs : List (ℕ × ℕ × T)) → (k, t, c) ∷ es ≡ (k, t', c') ∷ fs
    → t ≡ t'
turn_is {T} k t t' c c' es fs e = ap (λ (y : ℕ × ℕ × T). y.1) (first_is (k, t, c) (k, t', c') es fs e)

value_is : {X : Type 0} (k : ℕ) (x x' : X) (cs ds : List (ℕ × Option X))
    → (k, Some x) ∷ cs ≡ (k, Some x') ∷ ds → x ≡ x'
value_is {X} k x x' cs ds e = let s : Some x ≡ Some x' = ap (λ (y : ℕ × Option X). y.1)
    (first_is (k, Some x) (k, Some x') cs ds e) in cc

module _ {X G T : Type 0} (fits : G → X → Type 0) (stamp : X → ℕ) (trace : X → T) (follows : T → T → Type 0)
    (tags : List G) where
  abbrev R : State (Option X) (SeatView G T) → Type 0
  R = Rule fits stamp trace follows tags

  abbrev Grp : ℕ → ℕ → ℕ → ℕ → maybe.Option (maybe.Option (Option X)) → (ℕ → T) → Type 0
  Grp = Group fits stamp trace follows tags

  -- while no view holds the group
  none_holds : (k : ℕ) (views : List (SeatView G T)) (j : ℕ) (u : SeatView G T)
      → total (λ v. traced k v.held) views ≡ 0 → get_elem? views j ≡ some u → traced k u.held ≡ 0
  none_holds k views j u idle at = let a = total_at (λ (v : SeatView G T). traced k v.held) views j u at in
      omega
      arith

  -- the step that finds the word even
  wins : (slots id k n : ℕ) (me : Mine X G T) (s : State (Option X) (SeatView G T)) (K : R s)
      → k < length tags
      → 0 < me.0.share → get_elem? s.views id ≡ some me.0 → slice_index s.words k < 18446744073709551616
      → slice_index s.words k ≡ 2 * n → total (λ v. traced k v.held) s.views ≡ 0
      → total (λ v. entries k v.turns) s.views ≡ n
      → (x : X) → AtHome fits stamp trace follows tags k n (get_elem? s.homes k) x → trace x ≡ K.history k n
      → R (stepped s k (bit_or (slice_index s.words k) 1) id me.1
      (won k (slice_index s.words k / 2 + 1) (trace x) me.0) (takes k (Some x)))
      × Entered fits stamp trace follows (step slots k 1 0 none) me (slice_index s.words k)
      (won k (slice_index s.words k / 2 + 1) (trace x) me.0, carried_after me.1 (takes k (Some x)))
  wins slots id k n me s K low alive at small even idle turns x home is =
      let half : slice_index s.words k / 2 ≡ n = omega arith in
      let or : bit_or (slice_index s.words k) 1 ≡ slice_index s.words k + 1 = or_even (slice_index s.words k)
      n even in
      let w : SeatView G T = won k (slice_index s.words k / 2 + 1) (trace x) me.0 in
      let ok : ViewOk tags s.words K.history me.0 = K.each_view id me.0 at in
      let wide : k < length s.words = let e = K.wide in omega arith in
      let mine : traced k me.0.held ≡ 0 = none_holds k s.views id me.0 idle at in
      let stays : ViewOk tags (set s.words k (bit_or (slice_index s.words k) 1)) K.history me.0 =
      view_stays fits stamp trace follows tags s.words k (bit_or (slice_index s.words k) 1) K.history
      K.history me.0 wide (omega arith) (λ j m _. refl) mine ok in
      let here : slice_index (set s.words k (bit_or (slice_index s.words k) 1)) k ≡ bit_or
      (slice_index s.words k) 1 = get_or-set_same s.words k (bit_or (slice_index s.words k) 1) 0 wide in
      let found : trace x ≡ K.history k (slice_index s.words k / 2 + 1 - 1) = is ∙ ap (K.history k)
      (let e : n ≡ slice_index s.words k / 2 + 1 - 1 = omega arith in e) in
      let won_ok : ViewOk tags (set s.words k (bit_or (slice_index s.words k) 1)) K.history w = record {
        about = stays.about;
        held = (((omega arith), found), stays.held);
        missed = stays.missed;
        known = (((omega arith), found), stays.known);
        blank = λ zero_share. absurd (omega arith);
      } in
      let h = total_set (λ (u : SeatView G T). traced k u.held) s.views id me.0 w at in
      let t = total_set (λ (u : SeatView G T). entries k u.turns) s.views id me.0 w at in
      let one = same_one k k refl in (
        kept_word fits stamp trace follows tags s K (set s.homes k none) K.history k
            (bit_or (slice_index s.words k) 1) id me.0 w low (omega arith) at
            (length-set s.homes k none) (λ j ne. set_else s.homes k j none ne) (λ j m _. refl) (λ j m _. refl)
            (λ j ne. let z : same k j ≡ 0 = cond-false (eqb k j) 1 0 (ne_eqb k j (λ e. ne (sym e))) in
            (omega arith, omega arith))
            (refl, λ y. refl)
            (λ j u ne e. none_holds k s.views j u idle e)
            (taken n, (omega arith, omega arith, omega arith))
            won_ok
            (λ l m up reached. K.each_turn k l m up (omega arith)),
        (
          (λ _. (
            x,
            home.tag,
            ap (λ gs. get_elem? gs k) (ok.about alive) ∙ home.tag_is,
            home.fit,
            (let o = home.old in omega arith),
            mine,
            refl,
            after_known fits stamp trace follows tags s.words K.history me.0 k (slice_index s.words k / 2 + 1)
                (trace x)
                (λ m reached. (
                  omega arith,
                  subst (λ y. follows y (K.history k m)) (sym is)
                      (K.each_turn k m n (omega arith) (omega arith)),
                  λ next. is ∙ ap (K.history k) (let e : n ≡ m = omega arith in e),
                )) ok,
          )),
          (λ odd. absurd (omega arith)),
        ),
      )

  -- the step that finds the word odd
  is_missed : (slots id k n : ℕ) (me : Mine X G T) (s : State (Option X) (SeatView G T)) (K : R s)
      → k < length tags → get_elem? s.views id ≡ some me.0 → 0 < me.0.share
      → slice_index s.words k ≡ 2 * n + 1
      → R (stepped s k (bit_or (slice_index s.words k) 1) id me.1 (missed k (slice_index s.words k) me.0)
      keeps)
      × Entered fits stamp trace follows (step slots k 1 0 none) me (slice_index s.words k)
      (missed k (slice_index s.words k) me.0, carried_after me.1 keeps)
  is_missed slots id k n me s K low at alive odd =
      let w : SeatView G T = missed k (slice_index s.words k) me.0 in
      let ok : ViewOk tags s.words K.history me.0 = K.each_view id me.0 at in
      let miss_ok : ViewOk tags s.words K.history w = record {
        about = ok.about;
        held = ok.held;
        missed = ((omega arith, omega arith), ok.missed);
        known =
            ok.known;
        blank = λ z. absurd (omega arith);
      } in
      let words : s.words ≡ set s.words k (bit_or (slice_index s.words k) 1) =
      sym (ap (set s.words k) (or_odd (slice_index s.words k) n odd) ∙ set-get_or s.words k 0) in
      let kept : R (record { words = s.words; homes = s.homes; views = set s.views id w }) =
      kept_views fits stamp trace follows tags s K s.homes (set s.views id w) refl (λ j _. refl)
      (λ j. let a = total_set (λ (u : SeatView G T). traced j u.held) s.views id me.0 w at in omega arith)
      (λ j. let a = total_set (λ (u : SeatView G T). entries j u.turns) s.views id me.0 w at in omega arith)
      (let a = total_set (λ (u : SeatView G T). u.share) s.views id me.0 w at in omega arith)
      (λ x. let a = total_set (owns x) s.views id me.0 w at in let b = K.apart x in omega arith)
      (λ j u e. ⊎_elim
      (λ (y : (j ≡ id) × (w ≡ u)). subst (ViewOk tags s.words K.history) y.1 miss_ok)
      (λ (y : (j ≢ id) × (get_elem? s.views j ≡ some u)). K.each_view j u y.1)
      (at_set s.views id j w u e)) in (
        subst (λ ws. R (record { words = ws; homes = s.homes; views = set s.views id w })) words kept,
        (
          (λ even. absurd (omega arith)),
          (λ _. (
            refl,
            each_map _ _ me.0.known (λ e h is. subst (λ j. 2 * e.1 ≤ slice_index s.words j) is h.0)
                ok.known,
          )),
        ),
      )

  pub enters : (slots id k : ℕ) (me : Mine X G T) → k < length tags → 0 < me.0.share
      → Allows R slots id me k (λ n. bit_or n 1) (Entered fits stamp trace follows (step slots k 1 0 none) me)
  enters slots id k me low alive s K deep at small = go (K.each_group k low)
    where
      go : Grp k (slice_index s.words k) (total (λ v. traced k v.held) s.views)
          (total (λ v. entries k v.turns) s.views) (get_elem? s.homes k) (K.history k)
          → (w : SeatView G T) × (a : Act (Option X)) × Valid s.homes me.1 a × R
          (stepped s k (bit_or (slice_index s.words k) 1) id me.1 w a)
          × Entered fits stamp trace follows (step slots k 1 0 none) me (slice_index s.words k)
          (w, carried_after me.1 a)
      go (free n, (even, idle, turns, x, home, is)) =
          let r = wins slots id k n me s K low alive at small even idle turns x home is in
          (won k (slice_index s.words k / 2 + 1) (trace x) me.0, takes k (Some x), home.home_is, r.0, r.1)
      go (taken n, (odd, one, turns)) =
          let r = is_missed slots id k n me s K low at alive odd in
          (missed k (slice_index s.words k) me.0, keeps, tt, r.0, r.1)
      go (worn, (odd, idle, turns, x, home, after)) =
          let r = is_missed slots id k (last_turn - 1) me s K low at alive (omega arith) in
          (missed k (slice_index s.words k) me.0, keeps, tt, r.0, r.1)

  -- the word and the count of a group whose turn t a seat holds
  record Turning (s : State (Option X) (SeatView G T)) (history : ℕ → ℕ → T) (k t : ℕ) (c : T)
      (v : SeatView G T) :
      Type 0 where
    word : slice_index s.words k + 1 ≡ 2 * t
    held : total (λ u. traced k u.held) s.views ≡ 1
    turns : total (λ u. entries k u.turns) s.views ≡ t
    mine : traced k v.held ≡ 1
    found : c ≡ history k (t - 1)

  turning : (s : State (Option X) (SeatView G T)) (K : R s) (id k t : ℕ) (c : T) (v : SeatView G T)
      → k < length tags
      → get_elem? s.views id ≡ some v
      → v.held ≡ (k, t, c) ∷ rest v.held → Turning s K.history k t c v
  turning s K id k t c v low at top = go (K.each_group k low)
    where
      mine : 1 ≤ traced k v.held
      mine = let e = ap (λ (l : List (ℕ × ℕ × T)). traced k l) top in let o = same_one k k refl in omega arith

      all : traced k v.held ≤ total (λ u. traced k u.held) s.views
      all = total_at (λ (u : SeatView G T). traced k u.held) s.views id v at

      first : (slice_index s.words k + 1 ≡ 2 * t) × (c ≡ K.history k (t - 1))
      first = (subst (λ l. Each (λ (e : ℕ × ℕ × T). (slice_index s.words e.0 + 1 ≡ 2 * e.1) ×
          (e.2 ≡ K.history e.0 (e.1 - 1))) l) top (K.each_view id v at).held).0

      go : Grp k (slice_index s.words k) (total (λ u. traced k u.held) s.views)
          (total (λ u. entries k u.turns) s.views) (get_elem? s.homes k) (K.history k)
          → Turning s K.history k t c v
      go (free n, (even, idle, turns, x, home, is)) = absurd (let a = all in let b = mine in omega arith)
      go (taken n, (odd, one, turns)) = let a = all in let b = mine in let f = first.0 in record
          { word = f; held = one; turns = omega arith; mine = omega arith; found = first.1 }
      go (worn, (odd, idle, turns, x, home, after)) = absurd (let a = all in let b = mine in omega arith)

  -- A value goes home: the group whose turn t this seat holds is free or worn.
  goes_home : (s : State (Option X) (SeatView G T)) (K : R s) (id k t n : ℕ) (c : T) (v w : SeatView G T)
      (x : X)
      (history : ℕ → ℕ → T)
      → k < length tags → get_elem? s.views id ≡ some v → Turning s K.history k t c v
      → (w.held ≡ without_group k v.held) × (w.turns ≡ v.turns) × (w.share ≡ v.share) ×
      ((y : ℕ) → owns y w ≡ owns y v)
      → slice_index s.words k ≤ n
      → ((j m : ℕ) → 2 * m ≤ slice_index s.words j → history j m ≡ K.history j m)
      → ((j m : ℕ) → j ≢ k → history j m ≡ K.history j m)
      → Grp k n 0 t (some (some (Some x))) (history k)
      → ViewOk tags (set s.words k n) history w
      → ((l m : ℕ) → l ≤ m → 2 * m ≤ n → follows (history k m) (history k l))
      → R (record {
        words = set s.words k n;
        homes = set s.homes k (some (Some x));
        views = set s.views id w;
      })
  goes_home s K id k t n c v w x history low at now part le past apart_past group ok turns =
      let h = total_set (λ (u : SeatView G T). traced k u.held) s.views id v w at in
      let e = total_set (λ (u : SeatView G T). entries k u.turns) s.views id v w at in
      let w_held : traced k w.held ≡ traced k (without_group k v.held) = ap
      (λ (l : List (ℕ × ℕ × T)). traced k l) part.0 in
      let w_turns : entries k w.turns ≡ entries k v.turns = ap (λ l. entries k l) part.1 in
      let one = now.mine in let all = now.held in let counted = now.turns in
      let less = traced_without k v.held (omega arith) in
      kept_word fits stamp trace follows tags s K (set s.homes k (some (Some x))) history k n id v w low le at
      (length-set s.homes k (some (Some x))) (λ j ne. set_else s.homes k j (some (Some x)) ne) past apart_past
      (λ j ne. (
        ap (λ (l : List (ℕ × ℕ × T)). traced j l) part.0 ∙ traced_others k j v.held ne,
        ap
            (λ l. entries j l) part.1,
      ))
      (part.2, part.3)
      (λ j u ne there. let two = total_two (λ (y : SeatView G T). traced k y.held) s.views id j v u
      (λ is. ne (sym is)) at there in omega arith)
      (group_same fits stamp trace follows tags k n n 0 _ t _ (some (some (Some x)))
      (get_elem? (set s.homes k (some (Some x))) k) (history k) (history k) refl (omega arith)
      (omega arith)
      (λ _. set_here s.homes k (some (Some x)) (let d = K.deep in omega arith)) (λ m. refl) group)
      ok turns

  -- what the seat knows still, without the group
  lets_go : (words : List ℕ) (k n : ℕ) (history history' : ℕ → ℕ → T) (v : SeatView G T) → k < length words
      → slice_index words k ≤ n
      → ((j m : ℕ) → 2 * m ≤ slice_index words j → history' j m ≡ history j m) → traced k v.held ≡ 1
      → 0 < v.share
      → ViewOk tags words history v → ViewOk tags (set words k n) history' (worn_out k v)
  lets_go words k n history history' v low le past one alive ok =
      view_stays fits stamp trace follows tags words k n history history' (worn_out k v) low le past
      (let l = traced_without k v.held (omega arith) in omega arith)
      (record {
        about = ok.about;
        held = each_without _ k v.held ok.held;
        missed = ok.missed;
        known =
            ok.known;
        blank = λ z. absurd (omega arith);
      })

  module _ (itself : (a : T) → follows a a) (on : (a b c : T) → follows a b → follows b c → follows a c) where
    frees_at : (slots id k t : ℕ) (c : T) (x : X) (v : SeatView G T) (cs : List (ℕ × Option X))
        → k < length tags
        → 0 < v.share
        → v.held ≡ (k, t, c) ∷ rest v.held → FitsTag fits tags k x → stamp x ≤ t → follows (trace x) c
        → t < last_turn
        → Allows R slots id (v, (k, Some x) ∷ cs) k (λ n. (n + 1) % 18446744073709551616)
        (Returned trace (step slots k 1 0 none) (v, (k, Some x) ∷ cs))
    frees_at slots id k t c x v cs low alive top fit old later young s K deep at small =
        let n : ℕ = (slice_index s.words k + 1) % 18446744073709551616 in
        let history : ℕ → ℕ → T = told k t (trace x) K.history in
        let now = turning s K id k t c v low at top in
        let word = now.word in
        let even : n ≡ 2 * t = omega arith in
        let ok : ViewOk tags s.words K.history v = K.each_view id v at in
        let wide : k < length s.words = let e = K.wide in omega arith in
        let past : (j m : ℕ) → 2 * m ≤ slice_index s.words j → history j m ≡ K.history j m =
        λ j m reached. told_turn k t (trace x) K.history j m
        (λ is here. let r : 2 * m ≤ slice_index s.words k = subst (λ i. 2 * m ≤ slice_index s.words i) is
        reached in absurd (omega arith)) in
        let gone = lets_go s.words k n K.history history v wide (omega arith) past now.mine alive ok in
        let here = told_here k t (trace x) K.history in
        let reached : slice_index (set s.words k n) k ≡ n = get_or-set_same s.words k n 0 wide in
        let before : (m : ℕ) → m < t → history k m ≡ K.history k m = λ m less. past k m (omega arith) in (
          freed k t (trace x) v,
          gives,
          tt,
          goes_home s K id k t n c v (freed k t (trace x) v) x history low at now
              (refl, refl, refl, λ y. refl) (omega arith) past
              (λ j m ne. told_group k t (trace x) K.history j m ne) (
                free t,
                (
                  even,
                  refl,
                  refl,
                  x,
                  record
                      { tag = fit.0; tag_is = fit.1; home_is = refl; fit = fit.2; old = old },
                  sym here,
                ),
              )
              (record {
                about = gone.about;
                held = gone.held;
                missed = gone.missed;
                known =
                    ((omega arith, sym here), gone.known);
                blank = λ z. absurd (omega arith);
              })
              (λ l m up high. ⊎_elim
              (λ (last : m ≡ t). ⊎_elim
              (λ (both : l ≡ t). subst (λ i. follows (history k i) (history k l)) (sym last)
              (subst (λ i. follows (history k t) (history k i)) (sym both) (itself (history k t))))
              (λ (less : l < t).
              let f : follows c (K.history k l) = subst (λ y. follows y (K.history k l)) (sym now.found)
              (K.each_turn k l (t - 1) (omega arith) (omega arith)) in
              let g : follows (trace x) (K.history k l) = on (trace x) c (K.history k l) later f in
              subst (λ i. follows (history k i) (history k l)) (sym last)
              (subst (λ y. follows y (history k l)) (sym here)
              (subst (λ y. follows (trace x) y) (sym (before l less)) g)))
              (is_or_less l t (omega arith)))
              (λ (less : m < t).
              subst (λ y. follows y (history k l)) (sym (before m less))
              (subst (λ y. follows (K.history k m) y) (sym (before l (omega arith)))
              (K.each_turn k l m up (omega arith))))
              (is_or_less m t (omega arith))),
          (λ t' c' x' top' carried.
              let t_is : t ≡ t' = turn_is k t t' c c' (rest v.held) (rest v.held) (sym top ∙ top') in
              let x_is : x ≡ x' = value_is k x x' cs cs carried in (
                (λ i. (freed k (t_is i) (trace (x_is i)) v, cs)),
                each_map _ _ v.known (λ f h is. let r : 2 * f.1 ≤ slice_index s.words k = subst
                    (λ j. 2 * f.1 ≤ slice_index s.words j) is h.0 in omega arith) ok.known,
              )),
        )

    pub frees : (slots id k t : ℕ) (c : T) (x : X) (v : SeatView G T) (cs : List (ℕ × Option X))
        (me : Mine X G T)
        → me ≡ (v, (k, Some x) ∷ cs) → k < length tags → 0 < v.share
        → v.held ≡ (k, t, c) ∷ rest v.held → FitsTag fits tags k x → stamp x ≤ t → follows (trace x) c
        → t < last_turn
        → Allows R slots id me k (λ n. (n + 1) % 18446744073709551616)
        (Returned trace (step slots k 1 0 none) me)
    frees slots id k t c x v cs me is low alive top fit old later young =
        subst (λ (m : Mine X G T). Allows R slots id m k (λ n. (n + 1) % 18446744073709551616)
        (Returned trace (step slots k 1 0 none) m)) (sym is)
        (frees_at slots id k t c x v cs low alive top fit old later young)

  wears_at : (slots id k t : ℕ) (c : T) (x : X) (v : SeatView G T) (cs : List (ℕ × Option X))
      → k < length tags
      → 0 < v.share
      → v.held ≡ (k, t, c) ∷ rest v.held → FitsTag fits tags k x → stamp x ≤ t → follows (trace x) c
      → t ≡ last_turn
      → Allows R slots id (v, (k, Some x) ∷ cs) k (λ n. (n + 0) % 18446744073709551616)
      (WornOut (step slots k 0 0 none) (v, (k, Some x) ∷ cs))
  wears_at slots id k t c x v cs low alive top fit old later last s K deep at small =
      let n : ℕ = (slice_index s.words k + 0) % 18446744073709551616 in
      let now = turning s K id k t c v low at top in
      let word = now.word in
      let ok : ViewOk tags s.words K.history v = K.each_view id v at in
      let wide : k < length s.words = let e = K.wide in omega arith in
      let reached : slice_index (set s.words k n) k ≡ n = get_or-set_same s.words k n 0 wide in
      let gone = lets_go s.words k n K.history K.history v wide (omega arith) (λ j m _. refl) now.mine alive
      ok in
      let found : c ≡ K.history k (last_turn - 1) = now.found ∙ ap (λ i. K.history k (i - 1)) last in (
        worn_out k v,
        gives,
        tt,
        goes_home s K id k t n c v (worn_out k v) x K.history low at now (refl, refl, refl, λ y. refl)
            (omega arith) (λ j m _. refl) (λ j m _. refl) (
              worn,
              (
                omega arith,
                refl,
                last,
                x,
                record {
                  tag = fit.0;
                  tag_is = fit.1;
                  home_is = refl;
                  fit = fit.2;
                  old = subst (λ i. stamp x ≤ i)
                      last old;
                },
                subst (follows (trace x)) found later,
              ),
            )
            gone
            (λ l m up high. K.each_turn k l m up (omega arith)),
        refl,
      )

  pub wears : (slots id k t : ℕ) (c : T) (x : X) (v : SeatView G T) (cs : List (ℕ × Option X))
      (me : Mine X G T)
      → me ≡ (v, (k, Some x) ∷ cs) → k < length tags → 0 < v.share
      → v.held ≡ (k, t, c) ∷ rest v.held → FitsTag fits tags k x → stamp x ≤ t → follows (trace x) c
      → t ≡ last_turn
      → Allows R slots id me k (λ n. (n + 0) % 18446744073709551616) (WornOut (step slots k 0 0 none) me)
  wears slots id k t c x v cs me is low alive top fit old later last =
      subst (λ (m : Mine X G T). Allows R slots id m k (λ n. (n + 0) % 18446744073709551616)
      (WornOut (step slots k 0 0 none) m)) (sym is)
      (wears_at slots id k t c x v cs low alive top fit old later last)

  -- what a seat knows is coherent
  is_coherent : (words : List ℕ) (history : ℕ → ℕ → T) (es : List (ℕ × ℕ × T))
      → ((k n m : ℕ) → n ≤ m → 2 * m ≤ slice_index words k → follows (history k m) (history k n))
      → Each (λ e. (2 * e.1 ≤ slice_index words e.0) × (e.2 ≡ history e.0 e.1)) es → Coherent follows es
  is_coherent words history es turns known =
      each_map _ _ es (λ a ka. each_map _ _ es (λ b kb is up. (
        (let a_is : a.2 ≡ history b.0 a.1 = ka.1 ∙ ap (λ j. history j a.1) is in
            subst (λ y. follows y a.2) (sym kb.1)
            (subst (follows (history b.0 b.1)) (sym a_is) (turns b.0 a.1 b.1 up kb.0))),
        λ one. ka.1 ∙ ap (λ j. history j a.1) is ∙ ap (history b.0) one ∙ sym kb.1,
      )) known) known

  pub looks : (slots id k : ℕ) (me : Mine X G T)
      → Allows R slots id me k (λ n. n) (Learned follows (step slots k 0 0 none) me)
  looks slots id k me s K deep at small =
      let words : s.words ≡ set s.words k (slice_index s.words k) = sym (set-get_or s.words k 0) in
      let views : s.views ≡ set s.views id me.0 = sym (set_again s.views id me.0 at) in (
        me.0,
        keeps,
        tt,
        subst (λ vs. R (record {
          words = set s.words k (slice_index s.words k);
          homes = s.homes;
          views = vs;
        })) views
            (subst (λ ws. R (record { words = ws; homes = s.homes; views = s.views })) words K),
        (refl, is_coherent s.words K.history me.0.known K.each_turn (K.each_view id me.0 at).known),
      )

-- a list that begins with an entry, and the list without it
pub below_is : {S : Type 0} (cs ds : List (ℕ × S)) (e : ℕ × S) → cs ≡ e ∷ ds → cs ≡ e ∷ below cs
below_is {S} cs ds e is = is ∙ ap (λ (fs : List (ℕ × S)). e ∷ below fs) (sym is)
