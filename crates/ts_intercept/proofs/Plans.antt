-- A plan that is told is the origin's, by which the link never leaves.
use Rattle.std.proofs.Common.{◌≡◌, ℕ, ◌≤◌, List, length, Option, Some, None, refl, sym, subst, ◌∙◌}
use Rattle.std.specs.Prelude.{IfSome, IsSomeAnd}
use Rattle.ts_link.specs.Link.{Plan}
use Rattle.ts_intercept.specs.Seen.{plan_told, unless_leaves}

unless_same : (P : Plan → Type 0) (n : Option ℕ) (plan : Plan) → IsSomeAnd (unless_leaves n plan) P
    → unless_leaves n plan ≡ Some plan
unless_same P None plan h = refl
unless_same P (Some n) plan h = absurd h

pub told_same : (P : Plan → Type 0) (p : Option Plan) → IsSomeAnd (plan_told p) P → plan_told p ≡ p
told_same P None h = absurd h
told_same P (Some plan) h = unless_same P plan.leave plan h

unless_stays : (P : Plan → Type 0) (n : Option ℕ) (plan : Plan) → IsSomeAnd (unless_leaves n plan) P → n ≡
    None
unless_stays P None plan h = refl
unless_stays P (Some n) plan h = absurd h

pub told_stays : (P : Plan → Type 0) (p : Option Plan) → IsSomeAnd (plan_told p) P
    → IsSomeAnd p (λ q. q.leave ≡ None)
told_stays P None h = absurd h
told_stays P (Some plan) h = unless_stays P plan.leave plan h

-- such a link has not left
pub not_left : (p : Option Plan) (n : ℕ) → IsSomeAnd p (λ q. q.leave ≡ None)
    → IsSomeAnd p (λ q. q.leave ≡ Some n) → ⊥
not_left None n h g = h
not_left (Some q) n h g = let wrong : None ≡ Some n = sym h ∙ g in cc

unless_within : (taken : List ℕ) (n : Option ℕ) (plan : Plan) → n ≡ plan.leave
    → IfSome (unless_leaves n plan) (λ q. IfSome q.leave (λ m. length taken ≤ m))
unless_within taken None plan e = subst (λ (n : Option ℕ). IfSome n (λ m. length taken ≤ m)) e tt
unless_within taken (Some n) plan e = tt

-- and has no limit
pub told_within : (taken : List ℕ) (p : Option Plan)
    → IfSome (plan_told p) (λ q. IfSome q.leave (λ m. length taken ≤ m))
told_within taken None = tt
told_within taken (Some plan) = unless_within taken plan.leave plan refl
