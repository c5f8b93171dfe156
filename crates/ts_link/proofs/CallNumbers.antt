-- What holds of calls by their numbers: how many may still wait, and when none goes wrong.
use Rattle.std.proofs.Common.{◌≡◌, ℕ, ◌+◌, ◌<◌, ◌≤◌, List, [], ◌∷◌, Bool, true, false, refl, ap, cond, arith, false-eqb}
use Rattle.std.specs.List.{list_any}
use Rattle.std.specs.Prelude.{◌==◌}
use Rattle.ts_link.specs.Counts.{greatest, one_more}
use Rattle.ts_link.specs.Numbered.{Numbered, is_listed, mishap_of, mishap_at, after_call, later, waits_left}
use Rattle.ts_link.specs.declared.numbered.Mishap.TheVariants.{Nothing, Waits}

-- of the numbers after n there are no more than after m
pub later_falls : (m n : ℕ) (ns : List ℕ) → m ≤ n → later n ns ≤ later m ns
later_falls m n [] h = omega arith
later_falls m n (k ∷ ns) h = grind (arith, later_falls m n ns h)

-- and fewer, where the next one is a number of the list
pub later_listed : (made : ℕ) (ns : List ℕ) → list_any (λ n. n == made + 1) ns ≡ true
    → later (made + 1) ns < later made ns
later_listed made [] e = let none : ⊥ = cc in absurd none
later_listed made (k ∷ ns) e =
    let fewer : later (made + 1) ns ≤ later made ns = later_falls made (made + 1) ns (omega arith) in
    let rest : list_any (λ n. n == made + 1) ns ≡ true
    → later (made + 1) ns < later made ns = later_listed made ns in
    grind (arith, fewer, rest, e)

pub waits_fall : (c : Numbered) → c.made ≤ greatest → waits_left (after_call c) ≤ waits_left c
waits_fall c h = later_falls c.made (one_more c.made) c.again (omega arith)

at_limit : (made : ℕ) (numbers : List ℕ) (b : Bool) → b ≡ (made == greatest)
    → cond b false (list_any (λ n. n == made + 1) numbers) ≡ true
    → (made ≡ greatest → ⊥) × (list_any (λ n. n == made + 1) numbers ≡ true)
at_limit made numbers true e h = let none : ⊥ = cc in absurd none
at_limit made numbers false e h = (false-eqb made greatest e, h)

pub waits_listed : (c : Numbered) → c.made ≤ greatest → is_listed c.made c.again ≡ true
    → waits_left (after_call c) < waits_left c
waits_listed c h e =
    let known = at_limit c.made c.again (c.made == greatest) refl e in
    let other : c.made ≡ greatest → ⊥ = known.0 in
    let next : one_more c.made ≡ c.made + 1 = omega arith in
    rw next (later_listed c.made c.again known.1)

none_by : (b : Bool) → cond b false false ≡ false
none_by true = refl
none_by false = refl

pub none_listed : (made : ℕ) → is_listed made [] ≡ false
none_listed made = none_by (made == greatest)

pub no_mishap : (c : Numbered) → c.fail ≡ [] → c.again ≡ [] → mishap_at c ≡ Nothing
no_mishap c f a = rw (f, a, none_listed c.made) refl

pub none_wait : (c : Numbered) → c.again ≡ [] → waits_left c ≡ 0
none_wait c a = ap (later c.made) a

pub waits_by : (fails waits : Bool) → mishap_of fails waits ≡ Waits → waits ≡ true
waits_by true waits e = let none : ⊥ = cc in absurd none
waits_by false true e = refl
waits_by false false e = let none : ⊥ = cc in absurd none
