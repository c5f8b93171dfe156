-- What a change of one word, of the slots or of the views owes, so that the rule holds again.
use Rattle.std.proofs.Common.{◌≡◌, ◌≢◌, ℕ, ◌+◌, ◌-◌, ◌*◌, ◌<◌, ◌≤◌, List, length, set, refl, sym, ap, ◌∙◌, subst, ⊎_elim, arith}
use Rattle.std.specs.Prelude.{slice_index, Option}
use Rattle.std.proofs.Math.ListN.{length-set}
use Rattle.std.proofs.lemmas.List.{get_or-set_same, get_or-set_other}
use mathlib.Core.Option.{some}
use mathlib.Core.Option as maybe
use mathlib.Core.Logic.{dite}
use native.Mathlib.Decide.{ℕ_discrete}
use lib.ListN.{get_elem?}
use Rattle.atomic_table.specs.Table.{State}
use Rattle.atomic_table.proofs.Lists.{at_set}
use Rattle.ts_slot.specs.declared.view.SeatView.{SeatView}
use Rattle.ts_slot.specs.Lists.{total, traced, entries}
use Rattle.ts_slot.specs.Limits.{last_turn}
use Rattle.ts_slot.specs.Views.{owns, IsAfter}
use Rattle.ts_slot.specs.Rule.{free, taken, worn, GroupOk, ViewOk, Kept}
use Rattle.ts_slot.proofs.Lists.{total_set, each_map, each_apart}

-- a word that rises, and the others
pub word_rises : (words : List ℕ) (k n j : ℕ) → k < length words → slice_index words k ≤ n
    → slice_index words j ≤ slice_index (set words k n) j
word_rises words k n j low le =
    dite (ℕ_discrete j k)
    (λ is. subst (λ i. slice_index words i ≤ slice_index (set words k n) i) (sym is)
    (let e = get_or-set_same words k n 0 low in omega arith))
    (λ ne. let e = get_or-set_other words k j n 0 ne in omega arith)

module _ {X G T : Type 0} (fits : G → X → Type 0) (stamp : X → ℕ) (trace : X → T) (follows : T → T → Type 0)
    (tags : List G) where
  abbrev pub Rule : State (Option X) (SeatView G T) → Type 0
  Rule = Kept fits stamp trace follows tags

  abbrev pub Group : ℕ → ℕ → ℕ → ℕ → maybe.Option (maybe.Option (Option X)) → (ℕ → T) → Type 0
  Group = GroupOk fits stamp trace follows tags

  -- a group about which nothing changes; while it is held, its slot does not matter
  pub group_same : (k word word' held held' turns turns' : ℕ)
      (home home' : maybe.Option (maybe.Option (Option X))) (h h' : ℕ → T)
      → word' ≡ word → held' ≡ held → turns' ≡ turns → (held ≡ 0 → home' ≡ home) → ((m : ℕ) → h' m ≡ h m)
      → Group k word held turns home h → Group k word' held' turns' home' h'
  group_same k word word' held held' turns turns' home home' h h' w e t same past
      (free n, (a, b, c, x, at, is)) = (
        free n,
        (
          omega arith,
          omega arith,
          omega arith,
          x,
          record
              { tag = at.tag; tag_is = at.tag_is; home_is = same b ∙ at.home_is; fit = at.fit; old = at.old },
          is ∙
              sym (past n),
        ),
      )
  group_same k word word' held held' turns turns' home home' h h' w e t same past (taken n, (a, b, c)) =
      (taken n, (omega arith, omega arith, omega arith))
  group_same k word word' held held' turns turns' home home' h h' w e t same past
      (worn, (a, b, c, x, at, after)) = (
        worn,
        (
          w ∙ a,
          omega arith,
          t ∙ c,
          x,
          record {
            tag = at.tag;
            tag_is = at.tag_is;
            home_is = same b ∙ at.home_is;
            fit = at.fit;
            old = at.old;
          },
          subst (λ y. follows (trace x) y) (sym (past (last_turn - 1))) after,
        ),
      )

  -- what a seat knows stays so where it does not hold the group whose word rises
  pub view_stays : (words : List ℕ) (k n : ℕ) (history history' : ℕ → ℕ → T) (v : SeatView G T)
      → k < length words
      → slice_index words k ≤ n
      → ((j m : ℕ) → 2 * m ≤ slice_index words j → history' j m ≡ history j m) → traced k v.held ≡ 0
      → ViewOk tags words history v → ViewOk tags (set words k n) history' v
  view_stays words k n history history' v low le past apart ok = record {
    about = ok.about;
    held = each_apart _ _ k v.held apart
        (λ e ne h. (
          (let s = get_or-set_other words k e.0 n 0 ne in let p = h.0 in omega arith),
          h.1 ∙ sym (past e.0 (e.1 - 1) (let p = h.0 in omega arith)),
        )) ok.held;
    missed = each_map _ _ v.misses (λ e h. (
      h.0,
      let r = word_rises words k n e.0 low le in let p = h.1 in
          omega arith,
    )) ok.missed;
    known = each_map _ _ v.known (λ e h. (
      (let r = word_rises words k n e.0 low le in let p = h.0 in omega
          arith),
      h.1 ∙ sym (past e.0 e.1 h.0),
    )) ok.known;
    blank = ok.blank;
  }

  -- what comes after each turn of a group comes after what a seat knows of it
  pub after_known : (words : List ℕ) (history : ℕ → ℕ → T) (v : SeatView G T) (k number : ℕ) (c : T)
      → ((m : ℕ) → 2 * m ≤ slice_index words k → (m < number) × follows c (history k m) ×
      (m + 1 ≡ number → c ≡ history k m))
      → ViewOk tags words history v → IsAfter follows k number c v.known
  after_known words history v k number c later ok =
      each_map _ _ v.known
      (λ e h is.
      let l = later e.1 (subst (λ j. 2 * e.1 ≤ slice_index words j) is h.0) in
      let t : e.2 ≡ history k e.1 = h.1 ∙ ap (λ j. history j e.1) is in
      (l.0, subst (λ y. follows c y) (sym t) l.1, λ next. l.2 next ∙ sym t))
      ok.known

  -- the views and the slots change, and no word does
  pub kept_views : (s : State (Option X) (SeatView G T)) (K : Rule s) (homes : List (maybe.Option (Option X)))
      (views : List (SeatView G T))
      → length homes ≡ length s.homes
      → ((j : ℕ) → total (λ v. traced j v.held) s.views ≡ 0 → get_elem? homes j ≡ get_elem? s.homes j)
      → ((j : ℕ) → total (λ v. traced j v.held) views ≡ total (λ v. traced j v.held) s.views)
      → ((j : ℕ) → total (λ v. entries j v.turns) views ≡ total (λ v. entries j v.turns) s.views)
      → total (λ v. v.share) views ≡ total (λ v. v.share) s.views
      → ((x : ℕ) → total (owns x) views ≤ 1)
      → ((id : ℕ) (v : SeatView G T) → get_elem? views id ≡ some v → ViewOk tags s.words K.history v)
      → Rule (record { words = s.words; homes = homes; views = views })
  kept_views s K homes views deep same held turns shares apart each = record {
    history = K.history;
    wide = K.wide;
    deep = deep ∙ K.deep;
    each_group = λ k low. group_same k (slice_index s.words k) _ _ _ _ _ _ _ (K.history k) (K.history k) refl
        (held k) (turns k) (same k) (λ m. refl) (K.each_group k low);
    each_view = each;
    each_turn = K.each_turn;
    shares = shares ∙ K.shares;
    apart = apart;
  }

  -- The word of one group rises in a step of one seat, which no other seat holds; the group is as it may be
  -- again.
  pub kept_word : (s : State (Option X) (SeatView G T)) (K : Rule s) (homes : List (maybe.Option (Option X)))
      (history : ℕ → ℕ → T) (k n id : ℕ) (v w : SeatView G T)
      → k < length tags → slice_index s.words k ≤ n → get_elem? s.views id ≡ some v
      → length homes ≡ length s.homes → ((j : ℕ) → j ≢ k → get_elem? homes j ≡ get_elem? s.homes j)
      → ((j m : ℕ) → 2 * m ≤ slice_index s.words j → history j m ≡ K.history j m)
      → ((j m : ℕ) → j ≢ k → history j m ≡ K.history j m)
      → ((j : ℕ) → j ≢ k → (traced j w.held ≡ traced j v.held) × (entries j w.turns ≡ entries j v.turns))
      → (w.share ≡ v.share) × ((x : ℕ) → owns x w ≡ owns x v)
      → ((j : ℕ) (u : SeatView G T) → j ≢ id → get_elem? s.views j ≡ some u → traced k u.held ≡ 0)
      → Group k n (total (λ u. traced k u.held) (set s.views id w))
      (total (λ u. entries k u.turns) (set s.views id w)) (get_elem? homes k) (history k)
      → ViewOk tags (set s.words k n) history w
      → ((l m : ℕ) → l ≤ m → 2 * m ≤ n → follows (history k m) (history k l))
      → Rule (record { words = set s.words k n; homes = homes; views = set s.views id w })
  kept_word s K homes history k n id v w low le at deep there past apart_past others own alone group ok turns
      = record {
        history = history;
        wide = length-set s.words k n ∙ K.wide;
        deep = deep ∙ K.deep;
        each_group = λ j in_range. dite (ℕ_discrete j k)
            (λ is. subst (λ i. Group i (slice_index (set s.words k n) i)
            (total (λ u. traced i u.held) (set s.views id w))
            (total (λ u. entries i u.turns) (set s.views id w)) (get_elem? homes i) (history i)) (sym is)
            (subst (λ x. Group k x (total (λ u. traced k u.held) (set s.views id w))
            (total (λ u. entries k u.turns) (set s.views id w)) (get_elem? homes k) (history k))
            (sym (get_or-set_same s.words k n 0 wide')) group))
            (λ ne.
            let o = others j ne in
            let a = total_set (λ (u : SeatView G T). traced j u.held) s.views id v w at in
            let b = total_set (λ (u : SeatView G T). entries j u.turns) s.views id v w at in
            let a' : total (λ (u : SeatView G T). traced j u.held) (set s.views id w) ≡ total
            (λ (u : SeatView G T). traced j u.held) s.views = let p = o.0 in omega arith in
            let b' : total (λ (u : SeatView G T). entries j u.turns) (set s.views id w) ≡ total
            (λ (u : SeatView G T). entries j u.turns) s.views = let p = o.1 in omega arith in
            group_same j (slice_index s.words j) _ _ _ _ _ _ _ (K.history j) (history j)
            (get_or-set_other s.words k j n 0 ne) a' b' (λ _. there j ne) (λ m. apart_past j m ne)
            (K.each_group j in_range));
        each_view = λ j u e. ⊎_elim
            (λ (x : (j ≡ id) × (w ≡ u)). subst (ViewOk tags (set s.words k n) history) x.1 ok)
            (λ (x : (j ≢ id) × (get_elem? s.views j ≡ some u)). view_stays s.words k n K.history history u
            wide'
            le past (alone j u x.0 x.1) (K.each_view j u x.1))
            (at_set s.views id j w u e);
        each_turn = λ j l m up reached. dite (ℕ_discrete j k)
            (λ is. subst (λ i. follows (history i m) (history i l)) (sym is)
            (turns l m up (let e = get_or-set_same s.words k n 0 wide' in let r : 2 * m ≤ slice_index
            (set s.words k n) k = subst (λ i. 2 * m ≤ slice_index (set s.words k n) i) is reached in omega
            arith)))
            (λ ne.
            let r : 2 * m ≤ slice_index s.words j = let e = get_or-set_other s.words k j n 0 ne in omega arith
            in
            subst (λ y. follows y (history j l)) (sym (apart_past j m ne))
            (subst (λ y. follows (K.history j m) y) (sym (apart_past j l ne)) (K.each_turn j l m up r)));
        shares = let a = total_set (λ (u : SeatView G T). u.share) s.views id v w at in let b = own.0 in let c
            =
            K.shares in omega arith;
        apart = λ x. let a = total_set (owns x) s.views id v w at in let b = own.1 x in let c = K.apart x in
            omega
            arith;
      }
    where
      wide' : k < length s.words
      wide' = let e = K.wide in omega arith
