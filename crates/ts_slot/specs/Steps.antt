-- What each kind of step tells the seat that takes it.
use Rattle.std.specs.Prelude.{◌≡◌, ℕ, ◌+◌, ◌*◌, ◌/◌, ◌%◌, ◌<◌, ◌≤◌, cond, eqb, List, [], ◌∷◌, Option, Some, None}
use mathlib.Core.Option.{some}
use lib.ListN.{get_elem?}
use Rattle.atomic_table.specs.Table.{Me, Step, Act, keeps, takes, gives, chain, rest as below}
use Rattle.ts_slot.specs.declared.view.SeatView.{SeatView}
use Rattle.ts_slot.specs.Lists.{Each, IsIn, rest, traced, without_group}
use Rattle.ts_slot.specs.Views.{won, missed, freed, worn_out, Coherent, IsAfter}

-- the slots of the groups that are held, without their values
abbrev pub emptied : {X T : Type 0} → List (ℕ × ℕ × T) → List (ℕ × Option X)
emptied [] = []
emptied (h ∷ hs) = (h.0, None) ∷ emptied hs

-- The slot of the group k comes before the others: those before it are given back, and taken again.
abbrev pub bring : {X T : Type 0} → ℕ → List (ℕ × ℕ × T) → Act (Option X)
bring k [] = keeps
bring k (h ∷ hs) = cond (eqb h.0 k) keeps
    (chain gives (chain (bring k hs) (chain gives (chain (takes h.0 None) (takes k None)))))

-- a seat's view, and the slots that it carries
abbrev pub Mine : Type 0 → Type 0 → Type 0 → Type 0
Mine X G T = Me (Option X) (SeatView G T)

module _ {X G T : Type 0} where
  -- An even word gives the group, which the seat did not hold, and its value, whose trace comes after all
  -- that is known; an odd word is a miss.
  abbrev pub Entered : (G → X → Type 0) → (X → ℕ) → (X → T) → (T → T → Type 0)
      → Step (Option X) → Mine X G T → ℕ → Mine X G T → Type 0
  Entered fits stamp trace follows st m n m' =
      (n % 2 ≡ 0
      → (x : X) × (tag : G) × (get_elem? m.0.tags st.word ≡ some tag) × fits tag x × (stamp x ≤ n / 2)
      × (traced st.word m.0.held ≡ 0)
      × (m' ≡ (won st.word (n / 2 + 1) (trace x) m.0, (st.word, Some x) ∷ m.1))
      × IsAfter follows st.word (n / 2 + 1) (trace x) m.0.known)
      × (n % 2 ≡ 1 → (m' ≡ (missed st.word n m.0, m.1)) × Each (λ e. e.0 ≡ st.word → 2 * e.1 ≤ n) m.0.known)

  -- The seat has put x into the slot that comes first. The group is free after the turn t, which is later
  -- than all that was known.
  abbrev pub Returned : (X → T) → Step (Option X) → Mine X G T → ℕ → Mine X G T → Type 0
  Returned trace st m n m' = (t : ℕ) (c : T) (x : X)
      → m.0.held ≡ (st.word, t, c) ∷ rest m.0.held → m.1 ≡ (st.word, Some x) ∷ below m.1
      → (m' ≡ (freed st.word t (trace x) m.0, below m.1)) × Each (λ e. e.0 ≡ st.word → e.1 < t) m.0.known

  abbrev pub WornOut : Step (Option X) → Mine X G T → ℕ → Mine X G T → Type 0
  WornOut st m n m' = m' ≡ (worn_out st.word m.0, below m.1)

  -- nothing changes, and what is known is coherent
  abbrev pub Learned : (T → T → Type 0) → Step (Option X) → Mine X G T → ℕ → Mine X G T → Type 0
  Learned follows st m n m' = (m' ≡ m) × Coherent follows m.0.known

  -- a group that the seat holds comes before its others
  abbrev pub Fetched : Step (Option X) → Mine X G T → ℕ → Mine X G T → Type 0
  Fetched st m n m' = (t : ℕ) (c : T) → IsIn (st.word, t, c) m.0.held
      → m' ≡ (
        record m.0 { held = (st.word, t, c) ∷ without_group st.word m.0.held },
        (st.word, None) ∷ emptied (without_group st.word m.0.held),
      )
