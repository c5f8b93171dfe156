-- The roles of the keys that are live.
use Rattle.std.proofs.Common.{◌≡◌, ℕ, cond, eqb, List, [], ◌∷◌, ◌++◌, Some, None, length, refl, sym, ap, subst, ◌∙◌, arith}
use Rattle.std.proofs.lemmas.Bool.{eq-eqb, ne_eqb, cond-true, cond-false}
use Rattle.ts_journal.specs.declared.entry.ContKey.{ContKey}
use Rattle.ts_journal.specs.State.{State, generation_at, without_index, IsLive, others_of, pending_at}
use Rattle.ts_journal.specs.Machine.{IsValid}
use Rattle.ts_journal.proofs.Cases.{split, by_eq}
use Rattle.ts_journal.proofs.Keys.{generation_more}
use Rattle.ts_journal.proofs.Lookups.{others_stay, others_from, others_length}
use Rattle.ts_group.specs.declared.action.Named.{Named}
use Rattle.ts_group.specs.Context.{Context, IsOrderly, AllPlain, keys_of, role_at, without_role}
use Rattle.ts_group.specs.Changes.{HasMade, KeepsKeys, HasLost, IsLess}
use Rattle.ts_group.proofs.Facts.{plain_others}

pub keys_push : (rs : List Named) (r : Named) → keys_of (rs ++ r ∷ []) ≡ keys_of rs ++ r.key ∷ []
keys_push [] r = refl
keys_push (q ∷ rs) r = ap (λ ks. q.key ∷ ks) (keys_push rs r)

pub keys_without : (i : ℕ) (rs : List Named) → keys_of (without_role i rs) ≡ without_index i (keys_of rs)
keys_without i [] = refl
keys_without i (r ∷ rs) =
    split (eqb r.key.index i) (λ t. keys_of (cond t rs (r ∷ without_role i rs)) ≡ cond t (keys_of rs)
    (r.key ∷ without_index i (keys_of rs)))
    (λ e. refl) (λ e. ap (λ ks. r.key ∷ ks) (keys_without i rs))

pub role_none : (i : ℕ) (rs : List Named) → generation_at i (keys_of rs) ≡ None → role_at i rs ≡ None
role_none i [] h = refl
role_none i (r ∷ rs) h =
    split (eqb r.key.index i) (λ t. cond t (Some r.key.generation) (generation_at i (keys_of rs)) ≡ None →
    cond t (Some r.role) (role_at i rs) ≡ None)
    (λ e x. absurd (cc)) (λ e x. role_none i rs x) h

pub role_there : (i : ℕ) (rs : List Named) (g : ℕ) → generation_at i (keys_of rs) ≡ Some g
    → (role : ℕ) × (role_at i rs ≡ Some role)
role_there i [] g h = absurd (cc)
role_there i (r ∷ rs) g h =
    split (eqb r.key.index i) (λ t. cond t (Some r.key.generation) (generation_at i (keys_of rs)) ≡ Some g →
    (role : ℕ) × (cond t (Some r.role) (role_at i rs) ≡ Some role))
    (λ e x. (r.role, refl)) (λ e x. role_there i rs g x) h

role_pushed : (rs : List Named) (r : Named) → role_at r.key.index rs ≡ None
    → role_at r.key.index (rs ++ r ∷ []) ≡ Some r.role
role_pushed rs r h = at r.key.index rs refl h
  where
    at : (i : ℕ) (qs : List Named) → r.key.index ≡ i → role_at i qs ≡ None
        → role_at i (qs ++ r ∷ []) ≡ Some r.role
    at i [] e x = cond-true (eqb r.key.index i) (Some r.role) None (eq-eqb r.key.index i e)
    at i (q ∷ qs) e x =
        split (eqb q.key.index i) (λ t. cond t (Some q.role) (role_at i qs) ≡ None → cond t (Some q.role)
        (role_at i (qs ++ r ∷ [])) ≡ Some r.role)
        (λ f y. absurd (cc)) (λ f y. at i qs e y) x

role_other : (i : ℕ) (rs : List Named) (r : Named) → (i ≡ r.key.index → ⊥)
    → role_at i (rs ++ r ∷ []) ≡ role_at i rs
role_other i [] r ne = cond-false (eqb r.key.index i) (Some r.role) None
    (ne_eqb r.key.index i (λ e. ne (sym e)))
role_other i (q ∷ rs) r ne =
    split (eqb q.key.index i) (λ t. cond t (Some q.role) (role_at i (rs ++ r ∷ [])) ≡ cond t (Some q.role)
    (role_at i rs)) (λ e. refl) (λ e. role_other i rs r ne)

role_stays : (i : ℕ) (rs qs : List Named) (role : ℕ) → role_at i rs ≡ Some role
    → role_at i (rs ++ qs) ≡ Some role
role_stays i [] qs role h = absurd (cc)
role_stays i (q ∷ rs) qs role h =
    split (eqb q.key.index i) (λ t. cond t (Some q.role) (role_at i rs) ≡ Some role → cond t (Some q.role)
    (role_at i (rs ++ qs)) ≡ Some role)
    (λ e x. x) (λ e x. role_stays i rs qs role x) h

role_left : (i j : ℕ) (rs : List Named) → (i ≡ j → ⊥) → role_at i (without_role j rs) ≡ role_at i rs
role_left i j [] ne = refl
role_left i j (r ∷ rs) ne =
    by_eq r.key.index j (λ t. role_at i (cond t rs (r ∷ without_role j rs)) ≡ cond (eqb r.key.index i)
    (Some r.role) (role_at i rs))
    (λ e. let other : r.key.index ≡ i → ⊥ = λ h. ne (sym h ∙ e) in sym
    (cond-false (eqb r.key.index i) (Some r.role) (role_at i rs) (ne_eqb r.key.index i other)))
    (λ f. split (eqb r.key.index i) (λ t. cond t (Some r.role) (role_at i (without_role j rs)) ≡ cond t
    (Some r.role) (role_at i rs)) (λ e. refl) (λ e. role_left i j rs ne))

pub keeps_none : (a b : State) (rs qs : List Named) → b ≡ a → qs ≡ rs → KeepsKeys a b rs qs
keeps_none a b rs qs e f = record {
  live = λ key l. subst (λ (s : State). IsLive s.live key) (sym e) l;
  roles = λ i role h. ap (role_at i) f ∙ h;
}

pub keeps_made : (a b : State) (rs qs : List Named) (r : Named) → b.live ≡ a.live ++ r.key ∷ []
    → qs ≡ rs ++ r ∷ [] → KeepsKeys a b rs qs
keeps_made a b rs qs r e f = record {
  live = λ key l. ap (generation_at key.index) e ∙ generation_more key.index a.live (r.key ∷ [])
      key.generation l;
  roles = λ i role h. ap (role_at i) f ∙ role_stays i rs (r ∷ []) role h;
}

pub has_made : (a b : State) (rs qs : List Named) (r : Named) → IsLive b.live r.key
    → generation_at r.key.index a.live ≡ None → keys_of rs ≡ a.live → qs ≡ rs ++ r ∷ []
    → HasMade a b rs qs r.key r.role
has_made a b rs qs r live free keys e =
    let none : role_at r.key.index rs ≡ None = role_none r.key.index rs
    (ap (generation_at r.key.index) keys ∙ free) in
    record {
      live = live;
      named = ap (role_at r.key.index) e ∙ role_pushed rs r none;
      others = λ i ne. ap (role_at i) e ∙ role_other i rs r ne;
      was_free = none;
    }

pub has_lost : (a b : State) (rs qs : List Named) (key : ContKey) → IsValid a
    → b.pending ≡ others_of key a.pending → b.next ≡ a.next → b.live ≡ without_index key.index a.live
    → qs ≡ without_role key.index rs → HasLost a b rs qs key
has_lost a b rs qs key v e n l q = record {
  pending = e;
  next = n;
  stays = λ k p h f. ap (pending_at k) e ∙ others_stay key k a.pending p h f;
  from = λ k p h. others_from key k 0 a.pending a.next p v.rises (ap (pending_at k) (sym e) ∙ h);
  live = l;
  roles = q;
  others = λ i ne. ap (role_at i) q ∙ role_left i key.index rs ne;
}

pub less_lost : (a b : State) (key : ContKey) → IsValid a → b.pending ≡ others_of key a.pending
    → b.next ≡ a.next → IsLess a b
less_lost a b key v e n = record {
  from = λ k p h. (others_from key k 0 a.pending a.next p v.rises (ap (pending_at k) (sym e) ∙ h)).0;
  next = n;
  plain = λ h. subst (λ ps. AllPlain ps) (sym e) (plain_others key a.pending h);
  count = let l : length b.pending ≡ length (others_of key a.pending) = ap length e in let m = others_length
      key a.pending in omega arith;
}

pub orderly : (now : Context) → IsValid now.log.state → keys_of now.roles ≡ now.log.state.live → IsOrderly now
orderly now v keys = record {
  valid = v;
  keys = keys;
  named = λ key l. role_there key.index now.roles key.generation (ap (generation_at key.index) keys ∙ l);
}

-- a key that is live has a role
pub has_role : (live : List ContKey) (rs : List Named) (key : ContKey) → keys_of rs ≡ live → IsLive live key
    → role_at key.index rs ≡ None → ⊥
has_role live rs key keys l none = let r = role_there key.index rs key.generation
    (ap (generation_at key.index) keys ∙ l) in let e = r.1 in cc
