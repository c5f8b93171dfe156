-- Which continuations ought to be live where an event could not be set.
use Rattle.std.proofs.Common.{◌≡◌, ◌-◌, ◌<◌, ◌++◌, inl, inr, ℕ, zero, suc, List, [], ◌∷◌, Bool, true, false, is_none, map, Option, Some, None, length, get_or, slice_get, arith, refl, sym, ap, subst, ◌∙◌}
use Rattle.std.specs.Prelude.{⊤}
use Rattle.ts_journal.specs.declared.entry.ContKey.{ContKey}
use Rattle.ts_journal.specs.State.{IsLive}
use Rattle.ts_group.specs.Context.{Context}
use Rattle.ts_group.specs.declared.action.SetFault.{SetFault}
use Rattle.ts_group.specs.declared.action.SetFault.TheVariants as F
use Rattle.ts_transform.specs.declared.continuation.StageContinuation.{StageContinuation}
use Rattle.ts_transform.specs.declared.pump.Pumped.{Pumped}
use Rattle.ts_transform.specs.declared.pump.Pumped.TheVariants.{Moved, Ended, Blocked, Idle}
use Rattle.ts_transform.specs.declared.pump.Stage.{Stage}
use Rattle.ts_transform.specs.Stage.{Steps, has_ended, cuts}
use Rattle.ts_transform.specs.Flow.{ChainState, MayPump, MustPump, MustWork, StepsAt, Takes, aborted, closed, ended_at, IsBefore, done_at}
use Rattle.ts_transform.specs.Driving.{AreLive, EachIsLive, HasLive, HasLiveIf, IsCause, Keeps, all_unroused, changed, error_passed, unroused}
use Rattle.ts_transform.specs.Cover.{AreAllLive}
use Rattle.ts_transform.specs.Acting.{KeepsLive}
use Rattle.ts_transform.specs.Loss.{IsCauseOf, loss_of}
use Rattle.ts_transform.proofs.Closing.{ended-rests}

-- the stage at a place is that of the table, or of what stands behind its first
pub live_front : (live : List ContKey) (t : Option StageContinuation) (ts : List (Option StageContinuation))
    (at : ℕ) → at ≡ 0 → HasLive live (t ∷ ts) at → HasLiveIf live t
live_front live t ts at front h = subst (HasLive live (t ∷ ts)) front h

pub live_behind : (live : List ContKey) (t : Option StageContinuation) (ts : List (Option StageContinuation))
    (at : ℕ) → (at ≡ 0 → ⊥) → HasLive live (t ∷ ts) at → HasLive live ts (at - 1)
live_behind live t ts zero behind h = absurd (behind refl)
live_behind live t ts (suc k) behind h = let same : k ≡ suc k - 1 = omega arith in subst (HasLive live ts)
    same h

pub live_within : (live : List ContKey) (ts : List (Option StageContinuation)) (at : ℕ) → HasLive live ts at
    → at < length ts
live_within live [] at h = absurd h
live_within live (t ∷ ts) zero h = omega arith
live_within live (t ∷ ts) (suc at) h = omega (arith, live_within live ts at h)

-- a stage that must work has not ended
must_goes : {P : Type 0} (up : Bool) (from : List ℕ) (ss : List (Stage P)) (at : ℕ) → MustPump up from ss at
    → ended_at ss at ≡ false
must_goes up from ss at must = by_end (ended_at ss at) refl
  where
    by_end : (b : Bool) → ended_at ss at ≡ b → ended_at ss at ≡ false
    by_end false is = is
    by_end true is = absurd (ended-rests up from ss at is must)

pub must_live : {P : Type 0} (c : ChainState P) (ts : List (Option StageContinuation)) (now : Context)
    (at : ℕ) → MustWork c at → AreAllLive c ts now → HasLive now.log.state.live ts at
must_live c ts now at must h = h.there at (must_goes c.given c.first c.stages at must)

-- what stands at a place
pub slot_there : (ts : List (Option StageContinuation)) (at : ℕ) (o : Option StageContinuation)
    (t : StageContinuation) → at < length ts → get_or ts at o ≡ Some t → slice_get ts at ≡ Some (Some t)
slot_there [] at o t below is = absurd (omega (arith, below))
slot_there (u ∷ ts) zero o t below is = ap Some is
slot_there (u ∷ ts) (suc at) o t below is = slot_there ts at o t (omega (arith, below)) is

-- what is there of one continuation is so of the same one, whether it is roused or not
live_same_if : (live : List ContKey) (t u : Option StageContinuation) → unroused u ≡ unroused t
    → HasLiveIf live t → HasLiveIf live u
live_same_if live None u same h = absurd h
live_same_if live (Some t) None same h = absurd
    (let wrong : None ≡ Some (record t { roused = false }) = same in cc)
live_same_if live (Some t) (Some u) same h = let as_one : record u { roused = false } ≡ record t
    { roused = false } = cc in subst (IsLive live) (sym (ap (λ x. x.key) as_one)) h

live_same : (live : List ContKey) (ts us : List (Option StageContinuation))
    → all_unroused us ≡ all_unroused ts → (at : ℕ) → HasLive live ts at → HasLive live us at
live_same live [] us same at h = absurd h
live_same live (t ∷ ts) [] same at h = absurd (let wrong : ◌≡◌ {A = List (Option StageContinuation)} []
    (unroused t ∷ all_unroused ts) = same in cc)
live_same live (t ∷ ts) (u ∷ us) same zero h = let front : unroused u ≡ unroused t = cc in live_same_if live t
    u front h
live_same live (t ∷ ts) (u ∷ us) same (suc at) h = let behind : all_unroused us ≡ all_unroused ts = cc in
    live_same live ts us behind at h

-- the continuation at a place has the key that it had
slot_same : (ts us : List (Option StageContinuation)) → all_unroused us ≡ all_unroused ts
    → (at : ℕ) (u : StageContinuation) → slice_get us at ≡ Some (Some u)
    → (t : StageContinuation) × (slice_get ts at ≡ Some (Some t)) × (u.key ≡ t.key)
slot_same ts [] same at u is = absurd (let wrong : ◌≡◌ {A = Option (Option StageContinuation)} None
    (Some (Some u)) = is in cc)
slot_same [] (v ∷ us) same at u is = absurd (let wrong : ◌≡◌ {A = List (Option StageContinuation)}
    (unroused v ∷ all_unroused us) [] = same in cc)
slot_same (t ∷ ts) (v ∷ us) same zero u is =
    let here : v ≡ Some u = cc in
    let front : unroused v ≡ unroused t = cc in
    by_slot t (sym (ap unroused here) ∙ front)
  where
    by_slot : (t : Option StageContinuation) → unroused (Some u) ≡ unroused t
        → (x : StageContinuation) × (◌≡◌ {A = Option (Option StageContinuation)} (Some t) (Some (Some x))) ×
        (u.key ≡ x.key)
    by_slot None same = absurd (let wrong : Some (record u { roused = false }) ≡ None = same in cc)
    by_slot (Some x) same = let as_one : record u { roused = false } ≡ record x { roused = false } = cc in
        (x, refl, ap (λ y. y.key) as_one)
slot_same (t ∷ ts) (v ∷ us) same (suc at) u is = let behind : all_unroused us ≡ all_unroused ts = cc in
    slot_same ts us behind at u is

are_live_same : (live : List ContKey) (ts us : List (Option StageContinuation))
    → all_unroused us ≡ all_unroused ts → AreLive live ts → AreLive live us
are_live_same live ts us same h j u is = let t = slot_same ts us same j u is in subst (IsLive live) (sym t.2)
    (h j t.0 t.1)

-- Continuations that were live are so where no continuation was made or destroyed, and no stage but such as
-- goes on still was there.
pub all_live : {P : Type 0} (c d : ChainState P) (ts us : List (Option StageContinuation)) (a b : Context)
    → b.log.state.live ≡ a.log.state.live → all_unroused us ≡ all_unroused ts
    → ((j : ℕ) → ended_at d.stages j ≡ false → ended_at c.stages j ≡ false) → AreAllLive c ts a
    → AreAllLive d us b
all_live c d ts us a b keys same goes h = record {
  live = subst (λ l. AreLive l us) (sym keys) (are_live_same a.log.state.live ts us same h.live);
  there = λ j going. subst (λ l. HasLive l us j) (sym keys)
      (live_same a.log.state.live ts us same j (h.there j (goes j going)));
}

-- so they are under the same stages
pub live_stages : {P : Type 0} (c d : ChainState P) (ts : List (Option StageContinuation)) (a : Context)
    → d.stages ≡ c.stages → AreAllLive c ts a → AreAllLive d ts a
live_stages c d ts a same h = record {
  live = h.live;
  there = λ j going. h.there j
      (ap (λ ss. ended_at ss j) (sym same) ∙ going);
}

-- a stage that goes on went on before a pump
pumped_goes : {P : Type 0} (rest : P → List ℕ → List ℕ) (from : List ℕ) (ss : List (Stage P)) (at : ℕ)
    (r : Pumped) (from' : List ℕ) (ss' : List (Stage P)) → StepsAt rest from ss at r from' ss'
    → (j : ℕ) → ended_at ss' j ≡ false → ended_at ss j ≡ false
pumped_goes rest from [] at r from' ss' h j going = absurd (none at h)
  where
    none : (at : ℕ) → StepsAt rest from [] at r from' ss' → ⊥
    none at h = h
pumped_goes rest from (s ∷ ss) at r from' [] h j going = absurd (none at h)
  where
    none : (at : ℕ) → StepsAt rest from (s ∷ ss) at r from' [] → ⊥
    none zero h = h
    none (suc at) h = h
pumped_goes {P} rest from (s ∷ ss) zero r from' (s' ∷ ss') (step, same) zero going = by_answer r step
  where
    by_answer : (r : Pumped) → Steps rest from s r from' s' → has_ended s ≡ false
    by_answer (Moved n) step = sym step.1 ∙ going
    by_answer Ended step = absurd (let wrong : true ≡ false = sym (ap (λ p. is_none p) step.1) ∙ going in cc)
    by_answer (Blocked w) step = ap has_ended (sym step.1) ∙ going
    by_answer Idle step = ap has_ended (sym step.1) ∙ going
pumped_goes rest from (s ∷ ss) zero r from' (s' ∷ ss') (step, same) (suc j) going = ap (λ us. ended_at us j)
    (sym same) ∙ going
pumped_goes rest from (s ∷ ss) (suc at) r from' (s' ∷ ss') h zero going = by_cut (cuts r (done_at ss at)) h.0
  where
    by_cut : (cut : Bool) → IsBefore cut from s from' s' → has_ended s ≡ false
    by_cut true off = absurd (let wrong : true ≡ false = sym (ap (λ p. is_none p) off.1) ∙ going in cc)
    by_cut false stays = ap (λ p. is_none p) (sym stays.1) ∙ going
pumped_goes rest from (s ∷ ss) (suc at) r from' (s' ∷ ss') h (suc j) going = pumped_goes rest s.after ss at r
    s'.after ss' h.1 j going

pub may_pump_goes : {P : Type 0} (rest : P → List ℕ → List ℕ) (at : ℕ) (c d : ChainState P)
    → MayPump rest at c d → (j : ℕ) → ended_at d.stages j ≡ false → ended_at c.stages j ≡ false
may_pump_goes rest at c d (inl same) j going = ap (λ x. ended_at x.stages j) (sym same) ∙ going
may_pump_goes rest at c d (inr pumps) j going = pumped_goes rest c.first c.stages at pumps.pumped d.first
    d.stages pumps.steps j going

-- and before bytes were taken
taken_goes : {P : Type 0} (from : List ℕ) (ss : List (Stage P)) (n : ℕ) (from' : List ℕ)
    (ss' : List (Stage P)) → Takes from ss n from' ss' → (j : ℕ) → ended_at ss' j ≡ false
    → ended_at ss j ≡ false
taken_goes from [] n from' ss' h j going = ap (λ us. ended_at us j) (sym h.1) ∙ going
taken_goes from (s ∷ ss) n from' [] h j going = absurd h
taken_goes from (s ∷ ss) n from' (s' ∷ ss') h zero going = ap (λ p. is_none p) (sym h.1) ∙ going
taken_goes from (s ∷ ss) n from' (s' ∷ ss') h (suc j) going = taken_goes s.after ss n s'.after ss' h.2 j going

pub live_taken : {P : Type 0} (n : ℕ) (c d : ChainState P) (ts : List (Option StageContinuation))
    (a : Context) → Takes c.first c.stages n d.first d.stages → AreAllLive c ts a → AreAllLive d ts a
live_taken n c d ts a takes = all_live c d ts ts a a refl refl
    (taken_goes c.first c.stages n d.first d.stages takes)

-- no stage of a chain that was aborted goes on
aborted_goes : {P : Type 0} (ss : List (Stage P)) (j : ℕ) → ended_at (map closed ss) j ≡ false → ⊥
aborted_goes [] j going = let wrong : true ≡ false = going in cc
aborted_goes (s ∷ ss) zero going = let wrong : true ≡ false = going in cc
aborted_goes (s ∷ ss) (suc j) going = aborted_goes ss j going

pub live_aborted : {P : Type 0} (c d e : ChainState P) (ts us : List (Option StageContinuation)) (a : Context)
    → e ≡ aborted d → us ≡ ts → AreAllLive c ts a → AreAllLive e us a
live_aborted c d e ts us a is same h =
    all_live c e ts us a a refl (ap all_unroused same)
    (λ j going. absurd (aborted_goes d.stages j (ap (λ x. ended_at x.stages j) (sym is) ∙ going))) h

-- a stage worked
pub live_worked : {P : Type 0} (rest : P → List ℕ → List ℕ) (at : ℕ) (c d : ChainState P)
    (ts us : List (Option StageContinuation)) (a b : Context) → MayPump rest at c d → Keeps a b
    → all_unroused us ≡ all_unroused ts → KeepsLive c d ts us a b
live_worked rest at c d ts us a b pumps keeps same = inr
    (keeps, all_live c d ts us a b keeps.live same (may_pump_goes rest at c d pumps))

-- what was found live before its event was handled
pub live_found : {P : Type 0} (c d : ChainState P) (ts vs us : List (Option StageContinuation))
    (a b : Context) → (AreAllLive c ts a → AreAllLive c vs a) → KeepsLive c d vs us a b
    → KeepsLive c d ts us a b
live_found c d ts vs us a b found (inl same) = inl same
live_found c d ts vs us a b found (inr (keys, live)) = inr (keys, λ all. live (found all))

-- a stage passed an error on, or tried to
live_passed_if : (live : List ContKey) (t : Option StageContinuation) → (u : StageContinuation)
    → error_passed t ≡ Some u → (x : StageContinuation) × (t ≡ Some x) × (u.key ≡ x.key)
live_passed_if live None u is = absurd (let wrong : None ≡ Some u = is in cc)
live_passed_if live (Some t) u is = let as_one : record t { passed_error = true } ≡ u = cc in
    (t, refl, ap (λ y. y.key) (sym as_one))

passed_slot : (live : List ContKey) (ts : List (Option StageContinuation)) (at j : ℕ) (u : StageContinuation)
    → slice_get (changed error_passed ts at) j ≡ Some (Some u)
    → (t : StageContinuation) × (slice_get ts j ≡ Some (Some t)) × (u.key ≡ t.key)
passed_slot live [] at j u is = absurd (let wrong : ◌≡◌ {A = Option (Option StageContinuation)} None
    (Some (Some u)) = is in cc)
passed_slot live (t ∷ ts) zero zero u is = let here : error_passed t ≡ Some u = cc in let x = live_passed_if
    live t u here in (x.0, ap Some x.1, x.2)
passed_slot live (t ∷ ts) zero (suc j) u is = (u, is, refl)
passed_slot live (t ∷ ts) (suc at) zero u is = (u, is, refl)
passed_slot live (t ∷ ts) (suc at) (suc j) u is = passed_slot live ts at j u is

pub live_passed : (live : List ContKey) (ts us : List (Option StageContinuation)) (at : ℕ)
    → us ≡ changed error_passed ts at → AreLive live ts → AreLive live us
live_passed live ts us at is h = subst (AreLive live) (sym is)
    (λ j u there. let t = passed_slot live ts at j u there in subst (IsLive live) (sym t.2) (h j t.0 t.1))

-- continuations were made, and stand at each place
pub each_more : (a b : Context) (ts : List (Option StageContinuation))
    → ((key : ContKey) → IsLive a.log.state.live key → IsLive b.log.state.live key)
    → EachIsLive a.log.state.live ts → EachIsLive b.log.state.live ts
each_more a b [] keeps h = tt
each_more a b (None ∷ ts) keeps h = absurd h.0
each_more a b (Some t ∷ ts) keeps h = (keeps t.key h.0, each_more a b ts keeps h.1)

pub each_push : (live : List ContKey) (ts : List (Option StageContinuation)) (t : StageContinuation)
    → EachIsLive live ts → IsLive live t.key → EachIsLive live (ts ++ Some t ∷ [])
each_push live [] t h new = (new, tt)
each_push live (u ∷ ts) t h new = (h.0, each_push live ts t h.1 new)

each_there : (live : List ContKey) (ts : List (Option StageContinuation)) → EachIsLive live ts → (j : ℕ)
    → j < length ts → HasLive live ts j
each_there live [] h j below = absurd (omega (arith, below))
each_there live (t ∷ ts) h zero below = h.0
each_there live (t ∷ ts) h (suc j) below = each_there live ts h.1 j (omega (arith, below))

each_live : (live : List ContKey) (ts : List (Option StageContinuation)) → EachIsLive live ts
    → AreLive live ts
each_live live [] h j t is = absurd (let wrong : ◌≡◌ {A = Option (Option StageContinuation)} None
    (Some (Some t)) = is in cc)
each_live live (u ∷ ts) h zero t is = let here : u ≡ Some t = cc in subst (HasLiveIf live) here h.0
each_live live (u ∷ ts) h (suc j) t is = each_live live ts h.1 j t is

goes_within : {P : Type 0} (ss : List (Stage P)) (j : ℕ) → ended_at ss j ≡ false → j < length ss
goes_within [] j going = absurd (let wrong : true ≡ false = going in cc)
goes_within (s ∷ ss) zero going = omega arith
goes_within (s ∷ ss) (suc j) going = omega (arith, goes_within ss j going)

pub made_live : {P : Type 0} (c : ChainState P) (ts : List (Option StageContinuation)) (now : Context)
    → length ts ≡ length c.stages → EachIsLive now.log.state.live ts → AreAllLive c ts now
made_live c ts now len h = record {
  live = each_live now.log.state.live ts h;
  there = λ j going. each_there now.log.state.live ts h j (omega (arith, len, goes_within c.stages j going));
}

-- where all are live, no fault is that of a dead one
pub cause_alive : (Live : Type 0) (fault : SetFault) (now : Context) → Live → IsCause Live fault now
    → IsCauseOf ⊤ (loss_of fault) now
cause_alive Live F.NoMemory now live cause = tt
cause_alive Live F.Dead now live cause = absurd (cause live)
cause_alive Live F.Spent now live cause = cause

-- an end that is there is live where it was
pub end_live : (t u : Option StageContinuation) (a b : Context) → b.log.state.live ≡ a.log.state.live
    → unroused u ≡ unroused t → HasLiveIf a.log.state.live t → HasLiveIf b.log.state.live u
end_live t u a b keys same h = subst (λ l. HasLiveIf l u) (sym keys)
    (live_same_if a.log.state.live t u same h)

pub made_end_live : (t : StageContinuation) (a b : Context)
    → ((key : ContKey) → IsLive a.log.state.live key → IsLive b.log.state.live key)
    → IsLive a.log.state.live t.key → HasLiveIf b.log.state.live (Some t)
made_end_live t a b keeps h = keeps t.key h
