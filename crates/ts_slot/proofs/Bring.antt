-- The slot of one group comes before the others that a seat holds.
use Rattle.std.proofs.Common.{◌≡◌, ◌≢◌, ℕ, ◌+◌, ◌*◌, ◌<◌, ◌≤◌, cond, List, [], ◌∷◌, length, set, refl, sym, ap, ◌∙◌, subst, inl, inr, ⊎_elim, arith}
use Rattle.std.specs.Prelude.{slice_index, Option, None}
use Rattle.std.proofs.Math.ListN.{length-set}
use Rattle.std.proofs.lemmas.List.{set-get_or, get_or_past}
use Rattle.std.proofs.lemmas.Bool.{cases_lt}
use mathlib.Core.Logic.{dite}
use native.Mathlib.Decide.{ℕ_discrete}
use mathlib.Core.Option.{some, none}
use mathlib.Core.Option as maybe
use lib.ListN.{get_elem?}
use Rattle.atomic_table.specs.Table.{State, Act, Valid, step, keeps, takes, gives, chain, carried_after, homes_after, Allows}
use Rattle.atomic_table.proofs.Lists.{at_set, set_here, set_else}
use Rattle.ts_slot.specs.declared.view.SeatView.{SeatView}
use Rattle.ts_slot.specs.Lists.{total, Each, IsIn, same, traced, entries, without_group}
use Rattle.ts_slot.specs.Views.{owns}
use Rattle.ts_slot.specs.Rule.{free, taken, worn, ViewOk}
use Rattle.ts_slot.specs.Steps.{Mine, emptied, bring, Fetched}
use Rattle.ts_lists.proofs.Cases.{by_eq}
use Rattle.ts_slot.proofs.Lists.{same_one, same_none, total_set, total_at, each_map, each_in, each_without, in_traced, traced_without, traced_others}
use Rattle.ts_slot.proofs.Kept.{Rule, kept_views}

abbrev Homes : Type 0 → Type 0
Homes X = List (maybe.Option (Option X))

abbrev Carried : Type 0 → Type 0
Carried X = List (ℕ × Option X)

module _ {X : Type 0} where
  -- an act brings k before these, and changes no home but those of the groups that are out
  record Brings (k : ℕ) (out : ℕ → ℕ) (homes : Homes X) (cs : Carried X) (a : Act (Option X)) (ds : Carried X)
      : Type 0 where
    valid : Valid homes cs a
    carried : carried_after cs a ≡ (k, None) ∷ ds
    others : (j : ℕ) → out j ≡ 0 → get_elem? (homes_after homes cs a) j ≡ get_elem? homes j
    long : length (homes_after homes cs a) ≡ length homes

  -- the first slot that is held goes home, and h and k are taken
  abbrev back : ℕ → ℕ → Act (Option X)
  back h k = chain gives (chain (takes h None) (takes k None))

  goes_back : (homes : Homes X) (cs ds : Carried X) (h k : ℕ) (out : ℕ → ℕ) → cs ≡ (k, None) ∷ ds → h ≢ k
      → get_elem? homes h ≡ some (some None) → k < length homes
      → ((j : ℕ) → out j ≡ 0 → (j ≢ h) × (j ≢ k)) → Brings k out homes cs (back h k) ((h, None) ∷ ds)
  goes_back homes cs ds h k out is ne home low apart =
      subst (λ es. Brings k out homes es (back h k) ((h, None) ∷ ds)) (sym is) (record {
        valid = (
          tt,
          (
            set_else homes k h (some None) ne ∙ home,
            set_else (set homes k (some None)) h k none
                (λ e. ne (sym e)) ∙ set_here homes k (some None) low,
          ),
        );
        carried = refl;
        others = λ j away.
            let a = apart j away in
            set_else (set (set homes k (some None)) h none) k j none a.1 ∙ set_else (set homes k (some None))
            h j none a.0 ∙ set_else homes k j (some None) a.1;
        long = length-set (set (set homes k (some None)) h none) k none ∙ length-set (set homes k (some None))
            h none ∙ length-set homes k (some None);
      })

  brings : {T : Type 0} (k t : ℕ) (c : T) (homes : Homes X) (hs : List (ℕ × ℕ × T)) → IsIn (k, t, c) hs
      → ((j : ℕ) → traced j hs ≤ 1) → Each (λ e. e.0 < length homes) hs
      → Brings k (λ j. traced j hs) homes (emptied hs) (bring k hs) (emptied (without_group k hs))
  brings k t c homes [] i once low = absurd i
  brings {T} k t c homes (h ∷ hs) i once low =
      by_eq h.0 k
      (λ b. Brings k (λ j. traced j (h ∷ hs)) homes ((h.0, None) ∷ emptied hs)
      (cond b keeps (chain gives (chain (bring k hs) (back h.0 k))))
      (emptied (cond b hs (h ∷ without_group k hs))))
      (λ is. record {
        valid = tt;
        carried = ap (λ j. (j, None) ∷ emptied hs) is;
        others = λ j _. refl;
        long =
            refl;
      })
      (λ ne.
      let there : IsIn (k, t, c) hs = elim i [
        | inl e ↦ absurd (ne (ap (λ (y : ℕ × ℕ × T). y.0) e))
        | inr more
            ↦ more
      ] in
      let homes' : Homes X = set homes h.0 (some None) in
      let same_long = length-set homes h.0 (some None) in
      let r : Brings k (λ j. traced j hs) homes' (emptied hs) (bring k hs) (emptied (without_group k hs)) =
      brings k t c homes' hs there (λ j. let o = once j in omega arith)
      (subst (λ n. Each (λ (e : ℕ × ℕ × T). e.0 < n) hs) (sym same_long) low.1) in
      let alone : traced h.0 hs ≡ 0 = let o = once h.0 in let s = same_one h.0 h.0 refl in omega arith in
      let b : Brings k (λ j. traced j (h ∷ hs)) (homes_after homes' (emptied hs) (bring k hs))
      (carried_after (emptied hs) (bring k hs)) (back h.0 k) ((h.0, None) ∷ emptied (without_group k hs))
      =
      goes_back (homes_after homes' (emptied hs) (bring k hs)) (carried_after (emptied hs) (bring k hs))
      (emptied (without_group k hs)) h.0 k (λ j. traced j (h ∷ hs)) r.carried ne
      (r.others h.0 alone ∙ set_here homes h.0 (some None) low.0)
      (let l = r.long in let u : k < length homes = each_in (λ (e : ℕ × ℕ × T). e.0 < length homes) hs
      (k, t, c) there low.1 in omega arith)
      (λ j away. (
        (λ e. let s = same_one h.0 j (sym e) in absurd (omega arith)),
        (λ e. let g = in_traced k t c hs there in let a : traced k hs ≡ 0 = subst (λ n. traced n hs ≡ 0) e
            (omega arith) in absurd (omega arith)),
      )) in
      record {
        valid = (tt, (r.valid, b.valid));
        carried = b.carried;
        others = λ j away. b.others j away ∙ r.others j (omega arith) ∙ set_else homes h.0 j (some None)
            (λ e. let s = same_one h.0 j (sym e) in absurd (omega arith));
        long = b.long ∙ r.long ∙ same_long;
      })

-- a place where a word is not 0 is one of the words
in_range : (words : List ℕ) (k t n : ℕ) → length words ≡ n → slice_index words k + 1 ≡ 2 * t → k < n
in_range words k t n wide odd = elim (cases_lt k n) [
  | inl less ↦ less
  | inr more ↦ let z = get_or_past words k 0 (omega arith) in absurd (omega arith)
]

-- no entry is of a group above all
none_above : {T : Type 0} (n j : ℕ) (es : List (ℕ × ℕ × T)) → Each (λ e. e.0 < n) es → n ≤ j → traced j es ≡ 0
none_above n j [] low more = refl
none_above n j (e ∷ es) low more = let z = same_none e.0 j (λ is. let l = low.0 in omega arith) in let r =
    none_above n j es low.1 more in omega arith

-- a group that is held once has one entry
in_one : {T : Type 0} (k t t' : ℕ) (c c' : T) (es : List (ℕ × ℕ × T)) → IsIn (k, t, c) es
    → IsIn (k, t', c') es → traced k es ≤ 1 → ◌≡◌ {A = ℕ × ℕ × T} (k, t, c) (k, t', c')
in_one k t t' c c' [] i j once = absurd i
in_one {T} k t t' c c' (e ∷ es) i j once = elim i [
  | inl here ↦ elim j [
    | inl there ↦ sym here ∙ there
    | inr more ↦ let g = in_traced k t' c' es more in let o = same_one e.0 k
        (ap (λ (y : ℕ × ℕ × T). y.0) here) in absurd (omega arith)
  ]
  | inr more ↦ elim j [
    | inl there ↦ let g = in_traced k t c es more in let o = same_one e.0 k
        (ap (λ (y : ℕ × ℕ × T). y.0) there) in absurd (omega arith)
    | inr more' ↦ in_one k t t' c c' es more more' (omega arith)
  ]
]

module _ {X G T : Type 0} (fits : G → X → Type 0) (stamp : X → ℕ) (trace : X → T) (follows : T → T → Type 0)
    (tags : List G) where
  abbrev R : State (Option X) (SeatView G T) → Type 0
  R = Rule fits stamp trace follows tags

  -- a group is held at most once
  held_once : (s : State (Option X) (SeatView G T)) (K : R s) (id j : ℕ) (v : SeatView G T)
      → get_elem? s.views id ≡ some v → j < length tags → traced j v.held ≤ 1
  held_once s K id j v at low = go (K.each_group j low)
    where
      all : traced j v.held ≤ total (λ u. traced j u.held) s.views
      all = total_at (λ (u : SeatView G T). traced j u.held) s.views id v at

      go : Rattle.ts_slot.proofs.Kept.Group fits stamp trace follows tags j (slice_index s.words j)
          (total (λ u. traced j u.held) s.views) (total (λ u. entries j u.turns) s.views)
          (get_elem? s.homes j) (K.history j) → traced j v.held ≤ 1
      go (free n, (even, idle, turns, x, home, is)) = let a = all in omega arith
      go (taken n, (odd, one, turns)) = let a = all in omega arith
      go (worn, (odd, idle, turns, x, home, after)) = let a = all in omega arith

  pub fetches : (slots id k : ℕ) (me : Mine X G T) → 0 < me.0.share → me.1 ≡ emptied me.0.held
      → (t : ℕ) (c : T) → IsIn (k, t, c) me.0.held
      → Allows R slots id me k (λ n. n) (Fetched (step slots k 0 0 none) me)
  fetches slots id k me alive carried t c there s K deep at small =
      let v : SeatView G T = me.0 in
      let w : SeatView G T = record v { held = (k, t, c) ∷ without_group k v.held } in
      let ok : ViewOk tags s.words K.history v = K.each_view id v at in
      let low : Each (λ e. e.0 < length tags) v.held = each_map _ _ v.held
      (λ e h. let a = h.0 in let b = K.wide in in_range s.words e.0 e.1 (length tags) (omega arith) a)
      ok.held in
      let low' : Each (λ e. e.0 < length s.homes) v.held = subst
      (λ n. Each (λ (e : ℕ × ℕ × T). e.0 < n) v.held) (sym K.deep) low in
      let once : (j : ℕ) → traced j v.held ≤ 1 = λ j. elim (cases_lt j (length tags)) [
        | inl less ↦ held_once s K id j v at less
        | inr more ↦ let z = none_above (length tags) j v.held low more in omega arith
      ] in
      let b = brings k t c s.homes v.held there once low' in
      let words : s.words ≡ set s.words k (slice_index s.words k) = sym (set-get_or s.words k 0) in
      let w_ok : ViewOk tags s.words K.history w = record {
        about = ok.about;
        held = (each_in _ v.held (k, t, c) there ok.held, each_without _ k v.held ok.held);
        missed = ok.missed;
        known = ok.known;
        blank = λ z. absurd (omega arith);
      } in
      let held : (j : ℕ) → traced j w.held ≡ traced j v.held = λ j. dite (ℕ_discrete k j)
      (λ is. subst (λ i. same k i + traced i (without_group k v.held) ≡ traced i v.held) is
      (let g = in_traced k t c v.held there in let l = traced_without k v.held g in let o = same_one k k
      refl in omega arith))
      (λ ne. let o = traced_others k j v.held (λ e. ne (sym e)) in let z = same_none k j ne in omega arith) in
      let homes = homes_after s.homes (emptied v.held) (bring k v.held) in
      let kept : R (record { words = s.words; homes = homes; views = set s.views id w }) =
      kept_views fits stamp trace follows tags s K homes (set s.views id w) b.long
      (λ j idle. b.others j (let a = total_at (λ (u : SeatView G T). traced j u.held) s.views id v at in omega
      arith))
      (λ j. let a = total_set (λ (u : SeatView G T). traced j u.held) s.views id v w at in let h = held j in
      omega
      arith)
      (λ j. let a = total_set (λ (u : SeatView G T). entries j u.turns) s.views id v w at in omega arith)
      (let a = total_set (λ (u : SeatView G T). u.share) s.views id v w at in omega arith)
      (λ x. let a = total_set (owns x) s.views id v w at in let c' = K.apart x in omega arith)
      (λ j u e. ⊎_elim
      (λ (y : (j ≡ id) × (w ≡ u)). subst (ViewOk tags s.words K.history) y.1 w_ok)
      (λ (y : (j ≢ id) × (get_elem? s.views j ≡ some u)). K.each_view j u y.1)
      (at_set s.views id j w u e)) in
      let kept' : R (record {
        words = set s.words k (slice_index s.words k);
        homes = homes;
        views = set
            s.views id w;
      }) =
      subst (λ ws. R (record { words = ws; homes = homes; views = set s.views id w })) words kept in (
        w,
        bring k v.held,
        subst (λ cs. Valid s.homes cs (bring k v.held)) (sym carried) b.valid,
        subst (λ cs. R (record {
          words = set s.words k (slice_index s.words k);
          homes = homes_after s.homes cs
              (bring k v.held);
          views = set s.views id w;
        })) (sym carried) kept',
        λ t' c' there'.
            let e : ◌≡◌ {A = ℕ × ℕ × T} (k, t, c) (k, t', c') = in_one k t t' c c' v.held there there'
            (once k) in
            let d : carried_after me.1 (bring k v.held) ≡ (k, None) ∷ emptied (without_group k v.held) = ap
            (λ cs. carried_after cs (bring k v.held)) carried ∙ b.carried in
            λ i. (record v { held = e i ∷ without_group k v.held }, d i),
      )
