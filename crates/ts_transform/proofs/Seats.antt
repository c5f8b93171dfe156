-- Continuations are destroyed, and whose events are pending then.
use Rattle.std.proofs.Common.{◌≡◌, ◌≢◌, ◌+◌, ◌<◌, ◌≤◌, ◌++◌, ◌⊎◌, inl, inr, ℕ, List, [], ◌∷◌, Bool, true, false, Option, Some, None, slice_get, length, arith, refl, sym, ap, subst, ◌∙◌}
use Rattle.ts_journal.specs.declared.entry.ContKey.{ContKey}
use Rattle.ts_journal.specs.declared.entry.Pending.{Pending}
use Rattle.ts_journal.specs.State.{IsLive, generation_at, pending_at, same_key}
use Rattle.ts_journal.proofs.Events.{known_in}
use Rattle.ts_journal.proofs.Keys.{generation_without}
use Rattle.ts_journal.proofs.Lookups.{same_from, same_to}
use Rattle.ts_group.specs.declared.action.Destroy.{Destroy}
use Rattle.ts_group.specs.declared.action.Destroy.TheVariants as D
use Rattle.ts_group.specs.Acts.{Destroys}
use Rattle.ts_group.specs.Changes.{HasLost, IsLess}
use Rattle.ts_group.specs.Context.{Context, IsOrderly, role_at}
use Rattle.ts_group.specs.Entries.{Grows}
use Rattle.ts_group.proofs.Grows.{grows_trans}
use Rattle.ts_transform.specs.declared.continuation.StageContinuation.{StageContinuation}
use Rattle.ts_transform.specs.Driving.{ActsWithin, AreNamed, HasLiveIf, IsNamedIf, IsOfStageIf, Lessens, changed, gone}
use Rattle.ts_transform.specs.Seats.{AllSeated, HasKey, KeepsSeated}
use Rattle.ts_transform.proofs.Seating.{key_beside, key_gone, seat_of}
use Rattle.ts_transform.specs.Destroying.{Clears, KeepsOwn, KeepsOutside}
use Rattle.ts_transform.proofs.Closing.{lost_if}
use Rattle.ts_transform.proofs.Kept.{acts_lessens, few_trans}
use Rattle.ts_transform.proofs.Setting.{less_same, lessens_less, lessens_none}

-- nothing is done
keeps_own_same : (role : ℕ) (t : Option StageContinuation) (a : Context) → IsNamedIf a.roles role t
    → KeepsOwn role t a a
keeps_own_same role t a named = record { named = named; of_stage = λ h. h; live = λ h. h }

pub clears_nobody : (a : Context) (ts : List (Option StageContinuation))
    → ((key : ContKey) → HasKey ts key → ⊥) → a.log.state.held ≡ true → Clears ts a a
clears_nobody a ts nobody turn = record {
  lessens = lessens_none a turn;
  less = less_same a;
  none = λ n p there has. nobody p.key has;
  stays = λ n p there other. there;
  others = λ first named role t outside is. keeps_own_same role t a is;
}

pub clears_none : (a : Context) (slot : Option StageContinuation) → slot ≡ None → a.log.state.held ≡ true
    → Clears (slot ∷ []) a a
clears_none a slot is turn = subst (λ s. Clears (s ∷ []) a a) (sym is)
    (clears_nobody a (None ∷ []) (λ key has. has) turn)

pub clears_empty : (a : Context) (ts : List (Option StageContinuation)) → length ts ≡ 0
    → a.log.state.held ≡ true → Clears ts a a
clears_empty a [] is turn = clears_nobody a [] (λ key has. has) turn
clears_empty a (t ∷ ts) is turn = absurd (omega (arith, is))

-- a continuation was destroyed, and one of another role keeps what it has
kept_beside : (first role : ℕ) (t : StageContinuation) (u : Option StageContinuation) (a b : Context)
    → HasLost a.log.state b.log.state a.roles b.roles t.key → role_at t.key.index a.roles ≡ Some first
    → role ≢ first
    → IsNamedIf a.roles role u → KeepsOwn role u a b
kept_beside first role t None a b lost mine differ named = record
    { named = tt; of_stage = λ h. tt; live = λ h. h }
kept_beside first role t (Some u) a b lost mine differ named = record {
  named = lost.others u.key.index other ∙ named;
  of_stage = λ h. lost_if a b t.key first role (Some u) lost mine differ h;
  live = λ h. ap (generation_at u.key.index) lost.live ∙ generation_without u.key.index t.key.index
      a.log.state.live (λ same. other (sym same)) ∙ h;
}
  where
    other : u.key.index ≢ t.key.index
    other same = differ (let both : Some role ≡ Some first = sym named ∙ ap (λ i. role_at i a.roles) same ∙
        mine in cc)

gone_others : (first : ℕ) (t : StageContinuation) (a b : Context)
    → HasLost a.log.state b.log.state a.roles b.roles t.key → KeepsOutside first (Some t ∷ []) a b
gone_others first t a b lost named role u outside is = kept_beside first role t u a b lost named.0
    (differ outside) is
  where
    differ : (role < first) ⊎ (first + length {A = Option StageContinuation} (Some t ∷ []) ≤ role)
        → role ≢ first
    differ (inl below) same = omega (arith, below, same)
    differ (inr above) same = omega (arith, above, same)

-- it was not live, and nothing was done
dead_others : (first : ℕ) (ts : List (Option StageContinuation)) (a b : Context) → b.log.state ≡ a.log.state
    → b.roles ≡ a.roles → KeepsOutside first ts a b
dead_others first ts a b state roles named role u outside is = record {
  named = subst (λ rs. IsNamedIf rs role u) (sym roles) is;
  of_stage = λ h. subst (λ rs. IsOfStageIf b.log.state.pending rs role u) (sym roles)
      (subst (λ s. IsOfStageIf s.pending a.roles role u) (sym state) h);
  live = λ h. subst (λ s. HasLiveIf s.live u) (sym state) h;
}

one_clears : (a b : Context) (t : StageContinuation) (d : Destroy) → IsOrderly a → Grows a b
    → Destroys a.log b.log a.roles b.roles d t.key → Clears (Some t ∷ []) a b
one_clears a b t D.Gone orderly grows h = record {
  lessens = lessens_less a b grows h.turn h.less;
  less = h.less;
  none = none;
  stays = λ n p there other. stays n p there other (same_key p.key t.key) refl;
  others = λ first. gone_others first t a b (h.lost refl);
}
  where
    stays : (n : ℕ) (p : Pending) → pending_at n a.log.state.pending ≡ Some p → ((t.key ≡ p.key) ⊎ ⊥ → ⊥)
        → (same : Bool) → same_key p.key t.key ≡ same → pending_at n b.log.state.pending ≡ Some p
    stays n p there other true same = absurd (other (inl (sym (same_from p.key t.key same))))
    stays n p there other false same = (h.lost refl).stays n p there same

    none : (n : ℕ) (p : Pending) → pending_at n b.log.state.pending ≡ Some p → (t.key ≡ p.key) ⊎ ⊥ → ⊥
    none n p there (inl same) = let old = (h.lost refl).from n p there in let clash : true ≡ false = sym
        (same_to t.key t.key refl) ∙ ap (λ k. same_key k t.key) same ∙ old.1 in cc
    none n p there (inr never) = never
one_clears a b t D.Dead orderly grows h = record {
  lessens = lessens_less a b grows h.turn h.less;
  less = h.less;
  none = none;
  stays = λ n p there other. ap (λ s. pending_at n s.pending) (h.dead refl).1.state ∙ there;
  others = λ first. dead_others first (Some t ∷ []) a b (h.dead refl).1.state (h.dead refl).2;
}
  where
    none : (n : ℕ) (p : Pending) → pending_at n b.log.state.pending ≡ Some p → (t.key ≡ p.key) ⊎ ⊥ → ⊥
    none n p there (inl same) =
        let old = h.less.from n p there in
        let known = known_in a.log.state n p 0 a.log.state.pending orderly.valid.rises orderly.valid.alive
        orderly.valid.begun old in
        (h.dead refl).0 (subst (IsLive a.log.state.live) (sym same) known.live)
    none n p there (inr never) = never

pub clears_one : (a b : Context) (slot : Option StageContinuation) (t : StageContinuation) (d : Destroy)
    → slot ≡ Some t → IsOrderly a → Grows a b → Destroys a.log b.log a.roles b.roles d t.key
    → Clears (slot ∷ []) a b
clears_one a b slot t d is orderly grows h = subst (λ s. Clears (s ∷ []) a b) (sym is)
    (one_clears a b t d orderly grows h)

-- one after another
less_then : (a m b : Context) → IsLess a.log.state m.log.state → IsLess m.log.state b.log.state
    → IsLess a.log.state b.log.state
less_then a m b h k = record {
  from = λ n p there. h.from n p (k.from n p there);
  next = k.next ∙ h.next;
  plain = λ plain. k.plain (h.plain plain);
  count = omega (arith, h.count, k.count);
}

lessens_then : (a m b : Context) → IsLess a.log.state b.log.state → Lessens a m → Lessens m b → Lessens a b
lessens_then a m b less h k = record {
  grows = grows_trans h.grows k.grows;
  turn = k.turn;
  plain = λ plain. k.plain (h.plain plain);
  few = few_trans 0 0 h.few k.few;
  none = λ n p none some. let wrong : None ≡ Some p = sym none ∙ less.from n p some in cc;
  less = less;
}

names_kept : (first role : ℕ) (t : Option StageContinuation) (us : List (Option StageContinuation))
    (a m : Context) → IsNamedIf a.roles first t → Clears (t ∷ []) a m → first + 1 ≤ role
    → AreNamed a.roles role us → AreNamed m.roles role us
names_kept first role t [] a m mine h behind named = tt
names_kept first role t (u ∷ us) a m mine h behind (here, others) = (
  (h.others first (mine, tt) role u (inr (omega (arith, behind))) here).named,
  names_kept first (role + 1)
      t us a m mine h (omega (arith, behind)) others,
)

clears_before : (t : Option StageContinuation) (us : List (Option StageContinuation)) (a m b : Context)
    → Clears (t ∷ []) a m → Clears us m b → Clears (t ∷ us) a b
clears_before t us a m b h k = record {
  lessens = lessens_then a m b (less_then a m b h.less k.less) h.lessens k.lessens;
  less = less_then a m b h.less k.less;
  none = λ n p there has. none p t (λ own. h.none n p (k.less.from n p there) own) (k.none n p there) has;
  stays = λ n p there other. k.stays n p (h.stays n p there (λ own. other (front p t own)))
      (λ has. other (back p t has));
  others = others;
}
  where
    none : (p : Pending) (t : Option StageContinuation) → (HasKey (t ∷ []) p.key → ⊥) → (HasKey us p.key → ⊥)
        → HasKey (t ∷ us) p.key → ⊥
    none p None own behind has = behind has
    none p (Some s) own behind (inl same) = own (inl same)
    none p (Some s) own behind (inr has) = behind has

    front : (p : Pending) (t : Option StageContinuation) → HasKey (t ∷ []) p.key → HasKey (t ∷ us) p.key
    front p None own = absurd own
    front p (Some s) (inl same) = inl same
    front p (Some s) (inr never) = absurd never

    back : (p : Pending) (t : Option StageContinuation) → HasKey us p.key → HasKey (t ∷ us) p.key
    back p None has = has
    back p (Some s) has = inr has

    before : (first role : ℕ) → (role < first) ⊎ (first + length (t ∷ us) ≤ role)
        → (role < first) ⊎ (first + length (t ∷ []) ≤ role)
    before first role (inl below) = inl below
    before first role (inr above) = inr (omega (arith, above))

    behind : (first role : ℕ) → (role < first) ⊎ (first + length (t ∷ us) ≤ role)
        → (role < first + 1) ⊎ (first + 1 + length us ≤ role)
    behind first role (inl below) = inl (omega (arith, below))
    behind first role (inr above) = inr (omega (arith, above))

    others : (first : ℕ) → KeepsOutside first (t ∷ us) a b
    others first (mine, named) role u outside is =
        let one = h.others first (mine, tt) role u (before first role outside) is in
        let two = k.others (first + 1) (names_kept first (first + 1) t us a m mine h (omega arith) named) role
        u (behind first role outside) one.named in
        record {
          named = two.named;
          of_stage = λ s. two.of_stage (one.of_stage s);
          live = λ l. two.live
              (one.live l);
        }

pub clears_then : (t : Option StageContinuation) (us ts : List (Option StageContinuation)) (a m b : Context)
    → ts ≡ t ∷ us → Clears (t ∷ []) a m → Clears us m b → Clears ts a b
clears_then t us ts a m b is h k = subst (λ vs. Clears vs a b) (sym is) (clears_before t us a m b h k)

-- So whoever is left has the events that are pending, where they and these had them.
pub seated_cleared : (ts us : List (Option StageContinuation)) (a b : Context) → Clears us a b
    → AllSeated a.log.state.pending (ts ++ us) → AllSeated b.log.state.pending ts
seated_cleared ts us a b h seated n p there = by_seat
    (seat_of ts us p.key (seated n p (h.less.from n p there)))
  where
    by_seat : HasKey ts p.key ⊎ HasKey us p.key → HasKey ts p.key
    by_seat (inl own) = own
    by_seat (inr other) = absurd (h.none n p there other)

pub cleared_acts : (ts : List (Option StageContinuation)) (a b : Context) → Clears ts a b → ActsWithin 0 a b
cleared_acts ts a b h = acts_lessens 0 a b h.lessens

-- a continuation was destroyed, or was not live
pub seated_gone : (ts us : List (Option StageContinuation)) (at : ℕ) (t : StageContinuation) (a b : Context)
    (d : Destroy) → slice_get ts at ≡ Some (Some t) → us ≡ changed gone ts at → IsOrderly a → Grows a b
    → Destroys a.log b.log a.roles b.roles d t.key → KeepsSeated ts us a b
seated_gone ts us at t a b d is changed_is orderly grows h others seated n p there =
    let clears = one_clears a b t d orderly grows h in
    let kept = key_beside others ts (changed gone ts at) p.key
    (key_gone ts at p.key (λ u there_u same. clears.none n p there (inl (own_of u there_u ∙ same))))
    (seated n p (clears.less.from n p there)) in
    subst (λ vs. HasKey (others ++ vs) p.key) (sym changed_is) kept
  where
    own_of : (u : StageContinuation) → slice_get ts at ≡ Some (Some u) → t.key ≡ u.key
    own_of u there_u = let both : Some (Some t) ≡ Some (Some u) = sym is ∙ there_u in let one : t ≡ u = cc in
        ap (λ x. x.key) one

pub seated_nobody : (ts us : List (Option StageContinuation)) (at : ℕ) (a : Context)
    → slice_get ts at ≡ Some None → us ≡ changed gone ts at → KeepsSeated ts us a a
seated_nobody ts us at a is changed_is others seated n p there =
    subst (λ vs. HasKey (others ++ vs) p.key) (sym changed_is)
    (key_beside others ts (changed gone ts at) p.key
    (key_gone ts at p.key (λ u there_u same. let wrong : Some None ≡ Some (Some u) = sym is ∙ there_u in
    absurd (cc))) (seated n p there))
