-- What a seat has at each step of leaving a group.
use Rattle.std.proofs.Common.{◌≡◌, ℕ, ◌<◌, List, ◌∷◌, length, refl, sym, ap, ◌∙◌, subst}
use Rattle.std.specs.Prelude.{Option, Some, None}
use mathlib.Core.Option.{none}
use Rattle.atomic_table.specs.Table.{step, rest as below}
use Rattle.ts_lists.proofs.Places.{place_below}
use Rattle.ts_slot.specs.declared.view.SeatView.{SeatView}
use Rattle.ts_slot.specs.Lists.{IsIn, rest, without_group}
use Rattle.ts_slot.specs.Views.{freed, worn_out, latest}
use Rattle.ts_slot.specs.Steps.{Mine, emptied, Returned, WornOut}
use Rattle.ts_slot.specs.Words.{GivesUp, FitsTag}
use Rattle.ts_slot.proofs.Lists.{in_without, without_top, length_without}
use Rattle.ts_slot.proofs.Steps.{first_is}
use Rattle.ts_slot.proofs.Latest.{latest_here}

pub gives_up : {T : Type 0} (k t : ℕ) (c : T) (es : List (ℕ × ℕ × T)) → IsIn (k, t, c) es
    → GivesUp k es (without_group k es)
gives_up k t c es there = record {
  top = λ t' c' top. ap (λ l. without_group k l) top ∙ without_top k t' c' (rest es);
  others = λ e ne in_it. in_without k e es ne in_it;
  count = length_without k t c es there;
}

pub none_there : {X : Type 0} (k : ℕ) (y : Option X) (x : X) (cs ds es : List (ℕ × Option X))
    → cs ≡ (k, None) ∷ ds → cs ≡ (k, y) ∷ es → y ≡ Some x → ⊥
none_there {X} k y x cs ds es a b is = let e : None ≡ y = ap (λ (z : ℕ × Option X). z.1)
    (first_is (k, None) (k, y) ds es (sym a ∙ b)) in absurd (cc)

-- a group's number is below the number of tags where it has one
pub fits_low : {X G : Type 0} (fits : G → X → Type 0) (tags : List G) (k : ℕ) (x : X) → FitsTag fits tags k x
    → k < length tags
fits_low fits tags k x fit = place_below tags k fit.0 fit.1

module _ {G T : Type 0} (k t : ℕ) (c : T) (v : SeatView G T) where
  -- the seat after its slot of the group k came first
  abbrev pub fetched : SeatView G T
  fetched = record v { held = (k, t, c) ∷ without_group k v.held }

  without_fetched : without_group k fetched.held ≡ without_group k v.held
  without_fetched = without_top k t c (without_group k v.held)

module _ {X G T : Type 0} (k t : ℕ) (c : T) (v : SeatView G T) where
  -- the slots of its other groups
  abbrev pub others : List (ℕ × Option X)
  others = emptied (without_group k v.held)

  -- the value was put into the slot
  pub puts : (x : X) (m n : Mine X G T) → m ≡ (fetched k t c v, (k, None) ∷ others)
      → n ≡ (m.0, (k, Some x) ∷ below m.1) → n ≡ (fetched k t c v, (k, Some x) ∷ others)
  puts x m n is after = after ∙ ap (λ (l : Mine X G T). (l.0, (k, Some x) ∷ below l.1)) is

  pub worn_after : (x : X) (slots : ℕ) (m n : Mine X G T) (found : ℕ)
      → m ≡ (fetched k t c v, (k, Some x) ∷ others) → WornOut (step slots k 0 0 none) m found n
      → n ≡ (worn_out k v, others)
  worn_after x slots m n found is after = after ∙ ap (λ (l : Mine X G T). (worn_out k l.0, below l.1)) is ∙
      (λ i. (record v { held = without_fetched k t c v i }, others))

  pub freed_after : (trace : X → T) (x : X) (slots : ℕ) (m n : Mine X G T) (found : ℕ)
      → m ≡ (fetched k t c v, (k, Some x) ∷ others) → Returned trace (step slots k 1 0 none) m found n
      → (n ≡ (freed k t (trace x) v, others)) × (latest k n.0.known ≡ Some (t, trace x))
  freed_after trace x slots m n found is after =
      let r = subst (λ (l : Mine X G T). Returned trace (step slots k 1 0 none) l found n) is after t c x refl
      refl in
      let n_is : n ≡ (freed k t (trace x) v, others) = r.0 ∙
      (λ i. (record v { held = without_fetched k t c v i; known = (k, t, trace x) ∷ v.known }, others)) in
      (n_is, ap (λ (l : Mine X G T). latest k l.0.known) n_is ∙ latest_here k t (trace x) v.known r.1)

  -- from the first step to the last
  pub worn_end : (x : X) (slots : ℕ) (l m n : Mine X G T) (found : ℕ)
      → l ≡ (fetched k t c v, (k, None) ∷ others) → m ≡ (l.0, (k, Some x) ∷ below l.1)
      → WornOut (step slots k 0 0 none) m found n → n ≡ (worn_out k v, others)
  worn_end x slots l m n found first put = worn_after x slots m n found (puts x l m first put)

  pub freed_end : (trace : X → T) (x : X) (slots : ℕ) (l m n : Mine X G T) (found : ℕ)
      → l ≡ (fetched k t c v, (k, None) ∷ others) → m ≡ (l.0, (k, Some x) ∷ below l.1)
      → Returned trace (step slots k 1 0 none) m found n
      → (n ≡ (freed k t (trace x) v, others)) × (latest k n.0.known ≡ Some (t, trace x))
  freed_end trace x slots l m n found first put = freed_after trace x slots m n found (puts x l m first put)

-- what holds of a seat holds again
module _ {X G T : Type 0} (n : Mine X G T) (w : SeatView G T) (cs : List (ℕ × Option X)) (is : n ≡ (w, cs))
  where
    pub names_are : n.0.names ≡ w.names
    names_are = ap (λ (m : Mine X G T). m.0.names) is

    pub free_from_is : n.0.free_from ≡ w.free_from
    free_from_is = ap (λ (m : Mine X G T). m.0.free_from) is

    pub free_to_is : n.0.free_to ≡ w.free_to
    free_to_is = ap (λ (m : Mine X G T). m.0.free_to) is

    pub share_is : n.0.share ≡ w.share
    share_is = ap (λ (m : Mine X G T). m.0.share) is

    pub tags_are : n.0.tags ≡ w.tags
    tags_are = ap (λ (m : Mine X G T). m.0.tags) is

    pub held_is : n.0.held ≡ w.held
    held_is = ap (λ (m : Mine X G T). m.0.held) is

    pub view_is : n.0 ≡ w
    view_is = ap (λ (m : Mine X G T). m.0) is

    pub carries_are : cs ≡ emptied w.held → n.1 ≡ emptied n.0.held
    carries_are e = ap (λ (m : Mine X G T). m.1) is ∙ e ∙ ap (λ (m : Mine X G T). emptied m.0.held) (sym is)
