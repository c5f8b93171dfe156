-- The rule holds at the start, and what it says at the end.
use Rattle.std.proofs.Common.{◌≡◌, ◌≢◌, ℕ, zero, suc, ◌+◌, ◌-◌, ◌*◌, ◌<◌, ◌≤◌, List, [], ◌∷◌, ◌++◌, map, take, length, get_or, refl, sym, ap, ◌∙◌, subst, arith, replicate}
use Rattle.std.proofs.lemmas.List.{length-map, length-replicate, map-append}
use Rattle.std.proofs.lemmas.Slice.Zip.{AllZip-long}
use Rattle.std.specs.Prelude.{slice_index, Option, Some, None}
use Rattle.std.specs.List.{AllZip}
use Rattle.std.proofs.lemmas.Bool.Decides.{nat_tests}
use mathlib.Core.Option.{some, some-injective, some-ne-none}
use lib.ListN.{get_elem?}
use Rattle.atomic_table.specs.Table.{opening, Final, Seen}
use Rattle.atomic_table.proofs.Lists.{at_map}
use Rattle.std.proofs.lemmas.List.{get_or_default}
use Rattle.ts_lists.proofs.Pairs.{zip_at_read}
use Rattle.ts_lists.proofs.Places.{take_place}
use Rattle.ts_slot.specs.declared.view.SeatView.{SeatView}
use Rattle.ts_slot.specs.Lists.{total, Each, same, traced, entries}
use Rattle.ts_slot.specs.Limits.{whole_share, last_turn}
use Rattle.ts_slot.specs.Views.{firsts, opener, nobody, within, IsAfter}
use Rattle.ts_slot.specs.Rule.{free, taken, worn, ViewOk}
use Rattle.ts_slot.specs.Words.{FitsTag}
use Rattle.ts_slot.proofs.Lists.{total_two}
use Rattle.ts_slot.proofs.Kept.{Rule, Group, after_known}

word_zero : (n k : ℕ) → slice_index (replicate n 0) k ≡ 0
word_zero zero k = refl
word_zero (suc n) zero = refl
word_zero (suc n) (suc k) = word_zero n k

each_at : {A : Type 0} (P : A → Type 0) (xs : List A) (d : A) (k : ℕ) → Each P xs → k < length xs
    → P (get_or xs k d)
each_at P [] d k e low = absurd (omega arith)
each_at P (x ∷ xs) d zero e low = e.0
each_at P (x ∷ xs) d (suc k) e low = each_at P xs d k e.1 (omega arith)

one_number : (x : ℕ) → same 0 x + 0 + within 1 whole_share x ≤ 1
one_number x = grind (arith, nat_tests)

-- where all views but one have 0, the total is that view's
total_only : {A : Type 0} (f : A → ℕ) (xs : List A) (i : ℕ) (v : A) → get_elem? xs i ≡ some v
    → ((j : ℕ) (u : A) → j ≢ i → get_elem? xs j ≡ some u → f u ≡ 0) → total f xs ≡ f v
total_only f [] i v at others = absurd (some-ne-none v (sym at))
total_only f (x ∷ xs) zero v at others = let p : f x ≡ f v = ap f (some-injective x v at) in let z =
    total_none f xs (λ j u e. others (suc j) u (λ h. absurd (omega arith)) e) in omega arith
  where
    total_none : {A : Type 0} (f : A → ℕ) (xs : List A)
        → ((j : ℕ) (u : A) → get_elem? xs j ≡ some u → f u ≡ 0) → total f xs ≡ 0
    total_none f [] all = refl
    total_none f (x ∷ xs) all = let a = all 0 x refl in let b = total_none f xs (λ j u e. all (suc j) u e) in
        omega arith
total_only f (x ∷ xs) (suc i) v at others = let z = others 0 x (λ h. absurd (omega arith)) refl in let r =
    total_only f xs i v at (λ j u ne e. others (suc j) u (λ h. ne (omega arith)) e) in omega arith

module _ {X G T : Type 0} (fits : G → X → Type 0) (stamp : X → ℕ) (trace : X → T) (follows : T → T → Type 0)
  where
    firsts_known : (words : List ℕ) (history : ℕ → ℕ → T) (k : ℕ) (xs : List X)
        → ((d : X) (j : ℕ) → j < length xs → trace (get_or xs j d) ≡ history (k + j) 0)
        → Each (λ e. (2 * e.1 ≤ slice_index words e.0) × (e.2 ≡ history e.0 e.1)) (firsts trace k xs)
    firsts_known words history k [] is = tt
    firsts_known words history k (x ∷ xs) is = (
      ((omega arith), is x 0 (omega arith) ∙ ap (λ j. history j 0) (let e : k + 0 ≡ k = omega arith in e)),
      firsts_known words history (k + 1) xs (λ d j low. is d (suc j) (omega arith) ∙ ap (λ i. history i 0)
          (let e : k + suc j ≡ k + 1 + j = omega arith in e)),
    )

    pub opens : (tags : List G) (values : List X) (n : ℕ) → n ≡ length values → 0 < length values
        → AllZip fits tags values → Each (λ x. stamp x ≡ 0) values → ((a : T) → follows a a)
        → Rule fits stamp trace follows tags (opening (replicate n 0) (map Some values)
        (opener tags (firsts trace 0 values)))
    opens tags [] n count some_value zip young itself = absurd (omega arith)
    opens tags (x ∷ xs) n count some_value zip young itself =
        let values : List X = x ∷ xs in
        let history : ℕ → ℕ → T = λ k _. trace (get_or values k x) in
        let long = AllZip-long fits tags values zip in
        record {
          history = history;
          wide = length-replicate n 0 ∙ count ∙ long;
          deep = length-map (map Some values) some ∙ length-map values Some ∙ long;
          each_group = λ k low.
              let z = zip_at_read fits tags values x k zip low in
              let home : get_elem? (map some (map Some values)) k ≡ some (some (Some (get_or values k x))) =
              at_map some (map Some values) k (Some (get_or values k x))
              (at_map Some values k (get_or values k x) z.2) in (
                free 0,
                (
                  word_zero n k,
                  refl,
                  refl,
                  get_or values k x,
                  record {
                    tag = z.0;
                    tag_is = z.1;
                    home_is = home;
                    fit = z.3;
                    old = let e = each_at
                        (λ y. stamp y ≡ 0) values x k young (omega arith) in omega arith;
                  },
                  refl,
                ),
              );
          each_view = one;
          each_turn = λ k l m up reached. itself (history k m);
          shares = refl;
          apart = λ y. let o = one_number y in omega arith;
        }
      where
        ok : ViewOk tags (replicate n 0) (λ k _. trace (get_or (x ∷ xs) k x))
            (opener tags (firsts trace 0 (x ∷ xs)))
        ok = record {
          about = λ _. refl;
          held = tt;
          missed = tt;
          known = firsts_known (replicate n 0) (λ k _. trace (get_or (x ∷ xs) k x)) 0 (x ∷ xs)
              (λ d j low. ap trace (get_or_default (x ∷ xs) j d x low) ∙ ap (λ i. trace (get_or (x ∷ xs) i x))
              (let e : j ≡ 0 + j = omega arith in e));
          blank = λ z. absurd (omega arith);
        }

        one : (id : ℕ) (v : SeatView G T) → get_elem? (opener tags (firsts trace 0 (x ∷ xs)) ∷ []) id ≡ some v
            → ViewOk tags (replicate n 0) (λ k _. trace (get_or (x ∷ xs) k x)) v
        one zero v e = subst (ViewOk tags (replicate n 0) (λ k _. trace (get_or (x ∷ xs) k x)))
            (some-injective _ _ e) ok
        one (suc id) v e = absurd (some-ne-none v (sym e))

    -- the same, of the lists that `make` has by then
    pub opens_with : (tags tags' : List G) (values values' : List X) (words : List ℕ)
        (places : List (Option X))
        (n : ℕ) → tags' ≡ tags → values' ≡ values → words ≡ replicate n 0 → places ≡ map Some values
        → n ≡ length values → 0 < length values → AllZip fits tags values → Each (λ x. stamp x ≡ 0) values
        → ((a : T) → follows a a)
        → Rule fits stamp trace follows tags' (opening words places (opener tags' (firsts trace 0 values')))
    opens_with tags tags' values values' words places n tags_are values_are words_are places_are count
        some_value zip young itself =
        subst (λ ts. Rule fits stamp trace follows ts
        (opening words places (opener ts (firsts trace 0 values')))) (sym tags_are)
        (subst (λ xs. Rule fits stamp trace follows tags
        (opening words places (opener tags (firsts trace 0 xs)))) (sym values_are)
        (subst (λ ws. Rule fits stamp trace follows tags
        (opening ws places (opener tags (firsts trace 0 values)))) (sym words_are)
        (subst (λ ps. Rule fits stamp trace follows tags
        (opening (replicate n 0) ps (opener tags (firsts trace 0 values)))) (sym places_are)
        (opens tags values n count some_value zip young itself))))

    -- A seat with the whole share knows how each group ended.
    pub record Ended (tags : List G) (v : SeatView G T) (k : ℕ) (slots : List (Option X)) : Type 0 where
      pub value : X
      pub there : get_elem? slots k ≡ some (Some value)
      pub fit : FitsTag fits tags k value
      pub stamped : stamp value ≤ entries k v.turns
      pub later : IsAfter follows k (entries k v.turns + 1) (trace value) v.known

    pub ends : (on : (a b c : T) → follows a b → follows b c → follows a c) (tags : List G) (id : ℕ)
        (v : SeatView G T) (words : List ℕ) (slots : List (Option X)) → v.share ≡ whole_share → v.held ≡ []
        → Final (Seen (Rule fits stamp trace follows tags) id v) words slots → (k : ℕ) → k < length tags
        → Ended tags v k slots
    ends on tags id v words slots whole idle (s, (K, at), words_are, count, homes) k low = go
        (K.each_group k low)
      where
        nobody_else : (j : ℕ) (u : SeatView G T) → j ≢ id → get_elem? s.views j ≡ some u → u ≡ nobody
        nobody_else j u ne there = (K.each_view j u there).blank
            (let two = total_two (λ (y : SeatView G T). y.share) s.views id j v u (λ e. ne (sym e)) at there
            in let
            all = K.shares in omega arith)

        held : total (λ u. traced k u.held) s.views ≡ 0
        held = total_only (λ (u : SeatView G T). traced k u.held) s.views id v at
            (λ j u ne there. ap (λ (y : SeatView G T). traced k y.held) (nobody_else j u ne there)) ∙ ap
            (λ (l : List (ℕ × ℕ × T)). traced k l) idle

        counted : total (λ u. entries k u.turns) s.views ≡ entries k v.turns
        counted = total_only (λ (u : SeatView G T). entries k u.turns) s.views id v at
            (λ j u ne there. ap (λ (y : SeatView G T). entries k y.turns) (nobody_else j u ne there))

        ok : ViewOk tags s.words K.history v
        ok = K.each_view id v at

        go : Group fits stamp trace follows tags k (slice_index s.words k)
            (total (λ u. traced k u.held) s.views) (total (λ u. entries k u.turns) s.views)
            (get_elem? s.homes k) (K.history k) → Ended tags v k slots
        go (free n, (even, none_holds, turns, x, home, is)) = record {
          value = x;
          there = homes k (Some x) home.home_is;
          fit = (home.tag, home.tag_is, home.fit);
          stamped = let o = home.old in let c = counted in omega arith;
          later = after_known fits stamp trace follows tags s.words K.history v k (entries k v.turns + 1)
              (trace x)
              (λ m reached. let c = counted in (
                omega arith,
                subst (λ y. follows y (K.history k m)) (sym is)
                    (K.each_turn k m n (omega arith) (omega arith)),
                λ next. is ∙ ap (K.history k) (let e : n ≡ m = omega arith in e),
              )) ok;
        }
        go (taken n, (odd, one, turns)) = absurd (let h = held in omega arith)
        go (worn, (odd, none_holds, turns, x, home, after)) = record {
          value = x;
          there = homes k (Some x) home.home_is;
          fit = (home.tag, home.tag_is, home.fit);
          stamped = let o = home.old in let c = counted in omega arith;
          later = after_known fits stamp trace follows tags s.words K.history v k (entries k v.turns + 1)
              (trace x)
              (λ m reached. let c = counted in (
                omega arith,
                on (trace x) (K.history k (last_turn - 1)) (K.history k m) after
                    (K.each_turn k m (last_turn - 1) (omega arith) (omega arith)),
                λ next. absurd (omega arith),
              )) ok;
        }

-- one value more of slots that all have one
pub taken_more : {A : Type 0} (xs : List A) (l : List (Option A)) (k : ℕ) (x : A) → map Some xs ≡ take k l
    → get_elem? l k ≡ some (Some x) → map Some (xs ++ x ∷ []) ≡ take (k + 1) l
taken_more xs l k x front there = map-append Some xs (x ∷ []) ∙ ap (λ ys. ys ++ Some x ∷ []) front ∙ sym
    (take_place l k (Some x) there)

pub not_empty : {A : Type 0} (l : List (Option A)) (k : ℕ) (x : A) (y : Option A)
    → get_elem? l k ≡ some (Some x) → get_elem? l k ≡ some y → y ≡ None → ⊥
not_empty l k x y a b is = let e : Some x ≡ y = some-injective (Some x) y (sym a ∙ b) in absurd (cc)

-- each value that was taken out stood in its slot
pub value_at : {A : Type 0} (xs : List A) (l : List (Option A)) (k : ℕ) (x : A) → map Some xs ≡ l
    → get_elem? xs k ≡ some x → get_elem? l k ≡ some (Some x)
value_at xs l k x are at = ap (λ m. get_elem? m k) (sym are) ∙ at_map Some xs k x at

pub one_value : {A : Type 0} (l : List (Option A)) (k : ℕ) (x y : A) → get_elem? l k ≡ some (Some x)
    → get_elem? l k ≡ some (Some y) → x ≡ y
one_value l k x y a b = let e : Some x ≡ Some y = some-injective (Some x) (Some y) (sym a ∙ b) in cc
