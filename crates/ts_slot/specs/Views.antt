-- What a seat knows of the slots, and how each step changes it.
use Rattle.std.specs.Prelude.{◌≡◌, ℕ, ◌+◌, ◌-◌, ◌≤◌, ◌<◌, cond, eqb, ltb, leb, List, [], ◌∷◌, ◌++◌, Option, Some, None}
use Rattle.ts_slot.specs.declared.view.SeatView.{SeatView}
use Rattle.ts_slot.specs.Lists.{total, Each, same, without_group}
use Rattle.ts_slot.specs.Limits.{whole_share}

-- 1 where x is from a up to b, and else 0
abbrev pub within : ℕ → ℕ → ℕ → ℕ
within a b x = cond (leb a x) (cond (ltb x b) 1 0) 0

-- before any turn: the trace of each value, from the group k on
abbrev pub firsts : {X T : Type 0} → (X → T) → ℕ → List X → List (ℕ × ℕ × T)
firsts trace k [] = []
firsts trace k (x ∷ xs) = (k, 0, trace x) ∷ firsts trace (k + 1) xs

module _ {G T : Type 0} where
  -- the first seat: it has the whole share, the number 0 and all other numbers
  abbrev pub opener : List G → List (ℕ × ℕ × T) → SeatView G T
  opener gs ks = record {
    tags = gs;
    share = whole_share;
    names = 0 ∷ [];
    free_from = 1;
    free_to = whole_share;
    held = [];
    turns = [];
    misses = [];
    known = ks;
  }

  -- a seat that was joined to another is spent
  abbrev pub nobody : SeatView G T
  nobody = record {
    tags = [];
    share = 0;
    names = [];
    free_from = 0;
    free_to = 0;
    held = [];
    turns = [];
    misses = [];
    known = [];
  }

  -- how often the seat has the number x, as its own or free
  abbrev pub owns : ℕ → SeatView G T → ℕ
  owns x v = total (λ y. same y x) v.names + within v.free_from v.free_to x

  -- the group k was won for its turn t, where the trace c was found
  abbrev pub won : ℕ → ℕ → T → SeatView G T → SeatView G T
  won k t c v = record v {
    held = (k, t, c) ∷ v.held;
    turns = (k, t) ∷ v.turns;
    known = (k, t - 1, c) ∷ v.known;
  }

  -- the group k was held by another: its word was n
  abbrev pub missed : ℕ → ℕ → SeatView G T → SeatView G T
  missed k n v = record v { misses = (k, n) ∷ v.misses }

  -- the group k was left after its turn t, with the trace c
  abbrev pub freed : ℕ → ℕ → T → SeatView G T → SeatView G T
  freed k t c v = record v { held = without_group k v.held; known = (k, t, c) ∷ v.known }

  -- the group k was left after its last turn
  abbrev pub worn_out : ℕ → SeatView G T → SeatView G T
  worn_out k v = record v { held = without_group k v.held }

  -- a seat that was split: what stays, and what the new one has
  abbrev pub left_half : SeatView G T → SeatView G T
  left_half v = record v { share = v.share - 1; free_from = v.free_from + 1 }

  abbrev pub right_half : SeatView G T → SeatView G T
  right_half v = record {
    tags = v.tags;
    share = 1;
    names = v.free_from ∷ [];
    free_from = 0;
    free_to = 0;
    held = [];
    turns = [];
    misses = [];
    known = v.known;
  }

  -- the second seat is joined to the first
  abbrev pub joined : SeatView G T → SeatView G T → SeatView G T
  joined v w = record v { share = v.share + w.share; turns = w.turns ++ v.turns; known = w.known ++ v.known }

-- of the traces that are known of one group, that after the later turn follows the other, and one turn has
-- one trace
abbrev pub Coherent : {T : Type 0} → (T → T → Type 0) → List (ℕ × ℕ × T) → Type 0
Coherent follows es =
    Each (λ a. Each (λ b. a.0 ≡ b.0 → a.1 ≤ b.1 → follows b.2 a.2 × (a.1 ≡ b.1 → a.2 ≡ b.2)) es) es

-- the later of two, if there is one
abbrev pub newer : {T : Type 0} → Option (ℕ × T) → Option (ℕ × T) → Option (ℕ × T)
newer None b = b
newer (Some a) None = Some a
newer (Some a) (Some b) = cond (leb b.0 a.0) (Some a) (Some b)

-- the last finished turn of the group k that is known, and the trace that stood after it
abbrev pub latest : {T : Type 0} → ℕ → List (ℕ × ℕ × T) → Option (ℕ × T)
latest k [] = None
latest k (e ∷ es) = newer (cond (eqb e.0 k) (Some (e.1, e.2)) None) (latest k es)

-- A turn of this number found the trace c: all that is known of the group was finished before, c follows each
-- trace, and after the turn next to it c was kept.
abbrev pub IsAfter : {T : Type 0} → (T → T → Type 0) → ℕ → ℕ → T → List (ℕ × ℕ × T) → Type 0
IsAfter follows k number c known =
    Each (λ e. e.0 ≡ k → (e.1 < number) × follows c e.2 × (e.1 + 1 ≡ number → c ≡ e.2)) known

-- of each group the last finished turn that is known is the later of what two knew
abbrev pub KnowsLater : {T : Type 0} → List (ℕ × ℕ × T) → List (ℕ × ℕ × T) → List (ℕ × ℕ × T) → Type 0
KnowsLater one other both = (k : ℕ) → latest k both ≡ newer (latest k other) (latest k one)
