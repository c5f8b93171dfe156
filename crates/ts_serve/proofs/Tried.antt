-- The handlers that wait to be started: place after place, each is tried.
use Rattle.std.proofs.Common.{◌≡◌, ℕ, zero, suc, ◌+◌, ◌<◌, ◌≤◌, List, [], ◌∷◌, ◌++◌, get_or, length, subst}
use Rattle.std.proofs.Common.{take, take_all, refl, ap, arith}
use Rattle.std.specs.List.{sum_by}
use Rattle.std.proofs.Math.Seq.{take-suc}
use Rattle.std.proofs.lemmas.List.{take_more}
use Rattle.std.proofs.lemmas.List.Sums.{sum_by-append, sum_by-cons}
use Rattle.ts_slot.specs.declared.view.SeatView.{SeatView}
use Rattle.ts_serve.specs.declared.connection.Connection.{Connection}
use Rattle.ts_serve.specs.declared.connection.Connection.TheVariants.{Free}
use Rattle.ts_serve.specs.Starting.{AreTried, IsTriedAt, OthersStay, is_waiting}

-- each of the first so many that waits still was tried
abbrev pub TriedFirst : {G X : Type 0} → ℕ → List Connection → SeatView G X → SeatView G X → Type 0
TriedFirst k row old new = AreTried (take k row) old new

-- a sum over one more
sum_more : (f : Connection → ℕ) (front more : List Connection) (last : Connection) → more ≡ front ++ last ∷ []
    → sum_by f more ≡ sum_by f front + f last
sum_more f front more last is =
    let same : sum_by f more ≡ sum_by f (front ++ last ∷ []) = ap (sum_by f) is in
    let one : sum_by f (last ∷ []) ≡ f last + sum_by f [] = sum_by-cons f last [] in
    let none : sum_by f [] ≡ 0 = refl in
    omega (arith, sum_by-append f front (last ∷ []))

-- and over places that are what they were
sum_same : (f : Connection → ℕ) (k : ℕ) (mid new : List Connection) → k ≤ length mid → length new ≡ length mid
    → ((j : ℕ) → j < k → get_or new j Free ≡ get_or mid j Free)
    → sum_by f (take k new) ≡ sum_by f (take k mid)
sum_same f zero mid new low long same = refl
sum_same f (suc k) mid new low long same =
    let here : f (get_or new k Free) ≡ f (get_or mid k Free) = ap f (same k (omega arith)) in
    let before = sum_same f k mid new (omega arith) long (λ j less. same j (omega arith)) in
    let one : sum_by f (take (suc k) new) ≡ sum_by f (take k new) + f (get_or new k Free) =
    sum_more f (take k new) (take (suc k) new) (get_or new k Free) (take-suc new k Free (omega arith)) in
    let other : sum_by f (take (suc k) mid) ≡ sum_by f (take k mid) + f (get_or mid k Free) =
    sum_more f (take k mid) (take (suc k) mid) (get_or mid k Free) (take-suc mid k Free (omega arith)) in
    omega arith

module _ {G X : Type 0} where
  -- one place more was looked at, and the others are what they were
  pub one_more_tried : (k : ℕ) (mid new : List Connection) (first before after : SeatView G X) → k < length mid
      → length new ≡ length mid → OthersStay k mid new → TriedFirst k mid first before
      → IsTriedAt k new before after → TriedFirst (k + 1) new first after
  one_more_tried k mid new first before after below long others were at =
      let same = sum_same is_waiting k mid new (omega arith) long
      (λ j less. others j (λ is. absurd (omega arith))) in
      let more : sum_by is_waiting (take (k + 1) new)
      ≡ sum_by is_waiting (take k new) + is_waiting (get_or new k Free) =
      sum_more is_waiting (take k new) (take (k + 1) new) (get_or new k Free) (take_more new k Free (omega arith)) in
      omega arith

  -- all places were looked at
  pub all_tried : (k : ℕ) (row : List Connection) (first after : SeatView G X) → length row ≤ k
      → TriedFirst k row first after → AreTried row first after
  all_tried k row first after all tried =
      subst (λ (r : List Connection). AreTried r first after) (take_all k row all) tried
