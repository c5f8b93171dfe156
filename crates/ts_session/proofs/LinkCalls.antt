-- Calls of a link, one after the other: what is told of each is told of both.
use Rattle.std.proofs.Common.{◌≡◌, ℕ, ◌<◌, ◌≤◌, Bool, true, false, List, [], ◌∷◌, ◌++◌, length, Option}
use Rattle.std.proofs.Common.{Some, None, refl, sym, ap, subst, ◌∙◌, arith}
use Rattle.std.proofs.lemmas.List.{append-nil, nil_from_length}
use Rattle.ts_link.specs.Counts.{Counted}
use Rattle.ts_link.specs.Link.{AgainsFall, Calls, GivesMore, Look, MayReplace, NoMore}

-- ---- what a link may still give

-- it may stay
pub replace_none : (given left : List ℕ) → MayReplace given left left
replace_none [] left = omega arith
replace_none (b ∷ bs) left = refl

-- in no case it gets longer
pub replace_short : (given before after : List ℕ) → MayReplace given before after
    → length after ≤ length before
replace_short [] before after may = may
replace_short (b ∷ bs) before after may = let e = ap length may in omega arith

-- it stays where something was given
pub replace_not : (given before after : List ℕ) → 0 < length given → MayReplace given before after
    → after ≡ before
replace_not [] before after some may = absurd (omega (arith, some))
replace_not (b ∷ bs) before after some may = may

-- it may be replaced again while nothing was given
pub replace_on : (g h x y z : List ℕ) → h ≡ g → MayReplace g x y → MayReplace h y z → MayReplace g x z
replace_on g h x y z same a b = on g (subst (λ l. MayReplace l y z) same b) a
  where
    on : (k : List ℕ) → MayReplace k y z → MayReplace k x y → MayReplace k x z
    on [] short long = omega arith
    on (c ∷ cs) e d = e ∙ d

-- ---- none given, and then more

pub gives_after : (a b c : Look) (more : List ℕ) → GivesMore a b [] → GivesMore b c more → GivesMore a c more
gives_after a b c more p q = record {
  before = q.before;
  replaced = replace_on a.given b.given a.left b.left q.before (p.given ∙ append-nil a.given)
      (subst (MayReplace a.given a.left) p.moved p.replaced) q.replaced;
  moved = q.moved;
  given = q.given ∙ ap (λ l. l ++ more) (p.given ∙ append-nil a.given);
  taken = q.taken ∙ p.taken;
}

pub gives_none : (a : Look) → GivesMore a a []
gives_none a = record {
  before = a.left;
  replaced = replace_none a.given a.left;
  moved = refl;
  given = sym (append-nil a.given);
  taken = refl;
}

-- ---- counts

no_more_same : (n : Option ℕ) → NoMore n n
no_more_same None = tt
no_more_same (Some n) = omega arith

agains_after : (waited : Bool) (a b c : Option ℕ) → NoMore a b → AgainsFall waited b c → AgainsFall waited a c
agains_after true None b c p q = tt
agains_after true (Some n) None c p q = absurd p
agains_after true (Some n) (Some m) None p q = absurd q
agains_after true (Some n) (Some m) (Some k) p q = omega arith
agains_after false None b c p q = tt
agains_after false (Some n) None c p q = absurd p
agains_after false (Some n) (Some m) None p q = absurd q
agains_after false (Some n) (Some m) (Some k) p q = omega arith

pub calls_none : (a : Look) → Calls a a false false
calls_none a = record {
  source = refl;
  name = refl;
  plan = refl;
  carried = refl;
  uploaded = refl;
  before = refl;
  faults = refl;
  waits = refl;
  agains = no_more_same a.agains;
}

pub calls_after : (a b c : Look) (failed waited : Bool) → Calls a b false false → Calls b c failed waited
    → Calls a c failed waited
calls_after a b c failed waited p q = record {
  source = q.source ∙ p.source;
  name = q.name ∙ p.name;
  plan = q.plan ∙ p.plan;
  carried = q.carried ∙ p.carried;
  uploaded = q.uploaded ∙ p.uploaded;
  before = q.before ∙ p.before;
  faults = subst (λ n. Counted failed n c.faults) p.faults q.faults;
  waits = subst (λ n. Counted waited n c.waits) p.waits q.waits;
  agains = agains_after waited a.agains b.agains c.agains p.agains q.agains;
}

-- a link that does not tell how many Again answers it has left
pub agains_none : (waited : Bool) → AgainsFall waited None None
agains_none true = tt
agains_none false = tt

-- where something was given, or nothing is left, what is left may not be replaced
pub before_is : (given left before : List ℕ) → (given ≡ [] → left ≡ []) → MayReplace given left before
    → before ≡ left
before_is [] left before some may =
    let none = some refl in
    let long = ap length none in
    nil_from_length before (omega arith) ∙ sym none
before_is (b ∷ bs) left before some may = may
