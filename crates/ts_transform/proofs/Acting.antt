-- What the handler of a stage does, by what it found.
use Rattle.std.proofs.Common.{◌≡◌, ◌≢◌, ◌≤◌, ◌<◌, ◌+◌, ◌*◌, ◌⊎◌, inl, inr, ℕ, List, [], Bool, true, false, length, Option, Some, Result, Ok, Err, OnOk, arith, refl, sym, ap, subst, ◌∙◌, slice_get}
use Rattle.std.specs.Prelude.{IfErr, is_ok}
use Rattle.std.specs.Bool.{OnTrue}
use Rattle.ts_journal.specs.declared.entry.ContKey.{ContKey}
use Rattle.ts_journal.specs.declared.entry.Event.{Event}
use Rattle.ts_journal.specs.declared.entry.Event.TheVariants.{Error, WriteComplete}
use Rattle.ts_journal.specs.declared.entry.TheConstants.{GREATEST}
use Rattle.ts_journal.specs.State.{IsLive, same_key, without_index}
use Rattle.ts_group.specs.declared.action.SetFault.{SetFault}
use Rattle.ts_group.specs.declared.action.SetFault.TheVariants as F
use Rattle.ts_group.specs.Context.{Context, role_at, without_role}
use Rattle.ts_transform.specs.declared.continuation.StageContinuation.{StageContinuation}
use Rattle.ts_transform.specs.declared.pump.Pumped.{Pumped}
use Rattle.ts_transform.specs.Stage.{done_by}
use Rattle.ts_transform.specs.Flow.{ChainState, AnswersAt, KeepsFlow, StepsAt, MayPump, MustWork, ended_at, left_to_do}
use Rattle.ts_transform.specs.Driving.{AreLive, AreNamed, ClosesAt, HasKind, HasNobodyToTell, IsCause, IsClosed, IsDestroyed, IsToldBefore, Keeps, KeepsOthers, KeepsStages, Lessens, OnlyTellsBefore, SetsFew, all_unroused, changed, error_passed, gone, is_there_at, may_pass_error_at, unroused_at, works_at}
use Rattle.ts_transform.specs.Cover.{AreAllLive, OnlySets}
use Rattle.ts_transform.specs.Acting.{ActsAt, GivesOn, GivesUpCall, HasNothingToDo, IsStage, PaysCalls, Pumps, StillGives, TellsBefore, TellsNobody, step_weight}
use Rattle.ts_transform.proofs.Called.{called_unroused, slot_changed}
use Rattle.ts_transform.proofs.Closing.{named_place, other_key}
use Rattle.ts_transform.proofs.Handled.{length-changed}
use Rattle.ts_transform.proofs.Kept.{few_refl}
use Rattle.ts_transform.proofs.MaySet.{may_close, may_pass, may_set_none}
use Rattle.ts_transform.proofs.PassedErrors.{calls_same, may_pass_same, nobody_same, there_same}
use Rattle.ts_transform.proofs.Setting.{named_same}
use Rattle.ts_transform.proofs.Told.{gone_unroused, pumped_once, same_length, unroused_key}

-- a chain that is as it was gives what it gave
pub flows_same : {P : Type 0} (rest : P → List ℕ → List ℕ) (soon : P → List ℕ → Option (List ℕ))
    (c : ChainState P) → KeepsFlow rest soon c c
flows_same rest soon c = record {
  flow = λ z none. refl;
  soon_too = λ goes z. refl;
  settled = λ settled. settled;
}

-- a pump pays for the events that follow it
pub pumps : {P : Type 0} (rest : P → List ℕ → List ℕ) (soon : P → List ℕ → Option (List ℕ)) (at : ℕ)
    (c d : ChainState P) (r : Pumped) (a b : Context) → AnswersAt c.given c.first c.stages at r
    → StepsAt rest c.first c.stages at r d.first d.stages → KeepsFlow rest soon c d
    → d.given ≡ c.given → length d.stages ≡ length c.stages
    → ((z : List ℕ) → OnTrue c.given (z ≡ []) → left_to_do rest d z + done_by r ≤ left_to_do rest c z)
    → length b.log.state.pending ≤ length a.log.state.pending + step_weight * done_by r
    → Pumps rest soon at c d a b
pumps rest soon at c d r a b answers steps flows given len falls few = record {
  own = inr (record { pumped = r; answers = answers; steps = steps; given = given });
  flows = flows;
  len = len;
  pays = λ z none. omega (arith, falls z none, few);
}

-- so does a stage that did nothing for none
pub pumps_none : {P : Type 0} (rest : P → List ℕ → List ℕ) (soon : P → List ℕ → Option (List ℕ)) (at : ℕ)
    (c d : ChainState P) (a : Context) → d ≡ c → Pumps rest soon at c d a a
pumps_none rest soon at c d a same = subst (λ x. Pumps rest soon at c x a a) (sym same)
    (record { own = inl refl; flows = flows_same rest soon c; len = refl; pays = λ z none. omega arith })

-- it tells nothing
pub tells_rest : {P : Type 0} (pause : P → ℕ) (at : ℕ) (c d : ChainState P)
    (ts us : List (Option StageContinuation)) (pending : _) → d ≡ c → TellsBefore pause at c d ts us pending
tells_rest pause at c d ts us pending same = record {
  ended = λ goes ended. absurd (let wrong : false ≡ true = sym goes ∙ ap (λ x. ended_at x.stages at)
      (sym same) ∙ ended in cc);
  ready = λ did. absurd (did same);
}

-- what is left to do and the calls that are to be made upstream pay together
pub gives_calls : {P : Type 0} (rest : P → List ℕ → List ℕ) (soon : P → List ℕ → Option (List ℕ))
    (c : ChainState P) (ts us : List (Option StageContinuation)) (a b : Context) → PaysCalls ts us a b
    → GivesOn rest soon c c ts us a b
gives_calls rest soon c ts us a b pays = record
    { flows = flows_same rest soon c; pays = λ z none. omega (arith, pays) }

pub gives_pumps : {P : Type 0} (rest : P → List ℕ → List ℕ) (soon : P → List ℕ → Option (List ℕ)) (at : ℕ)
    (c d : ChainState P) (ts us : List (Option StageContinuation)) (a b : Context)
    → Pumps rest soon at c d a b → KeepsStages a b ts us → GivesOn rest soon c d ts us a b
gives_pumps rest soon at c d ts us a b h stages = record {
  flows = h.flows;
  pays = λ z none. omega (arith, h.pays z none, calls_same ts us stages.same);
}

pub gives_none : {P : Type 0} (rest : P → List ℕ → List ℕ) (soon : P → List ℕ → Option (List ℕ))
    (c : ChainState P) (ts : List (Option StageContinuation)) (a : Context) → GivesOn rest soon c c ts ts a a
gives_none rest soon c ts a = record { flows = flows_same rest soon c; pays = λ z none. omega arith }

-- a continuation that is destroyed pays for the call before
call_paid : (ts us : List (Option StageContinuation)) (at : ℕ) (a m b : Context)
    → length m.log.state.pending ≤ length a.log.state.pending + 1
    → (HasNobodyToTell ts at → m ≡ a) → GivesUpCall ts us at m b → PaysCalls ts us a b
call_paid ts us at a m b few quiet gives = by_there (is_there_at ts at) refl
  where
    by_there : (there : Bool) → is_there_at ts at ≡ there → PaysCalls ts us a b
    by_there true is = omega (arith, few, gives.pending, gives.fewer is)
    by_there false is = let same : length m.log.state.pending ≡ length a.log.state.pending = ap
        (λ x. length x.log.state.pending) (quiet (inl is)) in omega (arith, same, gives.pending, gives.calls)

pub gives_closed : {P : Type 0} (rest : P → List ℕ → List ℕ) (soon : P → List ℕ → Option (List ℕ))
    (c : ChainState P) (ts us : List (Option StageContinuation)) (at : ℕ) (a m b : Context)
    → SetsFew 1 a m → (HasNobodyToTell ts at → m ≡ a) → GivesUpCall ts us at m b
    → GivesOn rest soon c c ts us a b
gives_closed rest soon c ts us at a m b few quiet gives =
    gives_calls rest soon c ts us a b (call_paid ts us at a m b few.pending quiet gives)

pub nothing_more : (b : Bool) → OnTrue b (◌≡◌ {A = List ℕ} [] [])
nothing_more true = refl
nothing_more false = tt

pub ok_then : {T : Type 0} {A : Type 0} (r : Result T SetFault) → is_ok r ≡ true → OnOk r A → A
ok_then (Ok x) ok a = a
ok_then (Err e) ok a = absurd (let wrong : false ≡ true = ok in cc)

-- a continuation that was gone after a call is so from before that
gone_since : (a m b : Context) (key : ContKey) → Keeps a m → IsDestroyed m b key → IsDestroyed a b key
gone_since a m b key keeps (inl gone) = inl (record {
  live = gone.live ∙ ap (without_index key.index) keeps.live;
  roles = gone.roles ∙ ap (without_role key.index) keeps.roles;
  none = gone.none;
  stays = λ n p there other. gone.stays n p (keeps.pending n p there) other;
})
gone_since a m b key keeps (inr dead) = inr (λ live. dead (subst (λ l. IsLive l key) (sym keeps.live) live))

-- the stage before is still told so when the continuation was destroyed
told_still : (first at : ℕ) (ts us : List (Option StageContinuation)) (a m b : Context) → Keeps a m
    → us ≡ changed gone ts at → AreNamed a.roles first ts
    → ClosesAt m b ts at → IsToldBefore m.log.state.pending WriteComplete ts at
    → IsToldBefore b.log.state.pending WriteComplete us at
told_still first at ts us a m b keeps is named closes told j above t there = record {
  event = was.event;
  there = closes.stays was.event.number was.event was.there other;
  of_key = was.of_key;
  is = was.is;
}
  where
    below : j ≢ at
    below e = omega (arith, e, above)

    there_before : slice_get ts j ≡ Some (Some t)
    there_before = sym (slot_changed gone ts at j below) ∙ ap (λ xs. slice_get xs j) (sym is) ∙ there

    was : HasKind m.log.state.pending t.key WriteComplete
    was = told j above t there_before

    other : (u : StageContinuation) → slice_get ts at ≡ Some (Some u)
        → same_key was.event.key u.key ≡ false
    other u stands = ap (λ k. same_key k u.key) was.of_key ∙ other_key t.key u.key differ
      where
        differ : t.key.index ≢ u.key.index
        differ e =
            let both : Some (first + j) ≡ Some (first + at) = sym (named_place a.roles first j ts t
            there_before named).0 ∙ ap (λ i. role_at i a.roles) e ∙ (named_place a.roles first at ts u stands
            named).0 in
            let sum : first + j ≡ first + at = cc in
            omega (arith, sum, above)

-- a stage that finds itself ended: it tells the one before it, and its continuation is destroyed
pub acts_gone : {P T : Type 0} (rest : P → List ℕ → List ℕ) (pause : P → ℕ) (at : ℕ) (event : Event)
    (c : ChainState P) (ts us : List (Option StageContinuation)) (r : Result T SetFault) (a m b : Context)
    → ended_at c.stages at ≡ true → Keeps a m → OnlyTellsBefore WriteComplete at ts a m
    → OnOk r (is_there_at ts at ≡ true → IsToldBefore m.log.state.pending WriteComplete ts at)
    → (HasNobodyToTell ts at → (is_ok r ≡ true) × (m ≡ a))
    → ClosesAt m b ts at → us ≡ changed gone ts at → Lessens m b
    → ActsAt rest pause at event c c ts ts us true (is_ok r) a b
acts_gone rest pause at event c ts us r a m b ended keeps only told quiet closes is lessens = record {
  own = inl refl;
  idle = λ rests. refl;
  still = λ rests. refl;
  only = may_close pause c ts at event a m b ended only (λ none. (quiet (inl none)).1) lessens;
  closed = λ e. (λ t there. gone_since a m b t.key keeps (closes.closed t there), is, refl);
  ended = λ now goes. absurd (goes_not goes);
  told = λ now e there first named. told_still first at ts us a m b keeps is named closes
      (ok_then r now told there);
  ready = λ now did. absurd (did refl);
  passed = λ now e goes. absurd (goes_not goes);
  error_passed = λ e goes. absurd (goes_not goes);
  quiet = λ e none nobody. let same = (quiet (nobody ended)).1 in subst (λ x. SetsFew 0 x b) same lessens.few;
  same = λ other goes. absurd (goes_not goes);
  rests = λ other nobody same. let count : length m.log.state.pending ≡ length a.log.state.pending = ap
      (λ x. length x.log.state.pending) (quiet (nobody ended)).1 in omega (
        arith,
        count,
        lessens.few.pending,
      );
  len = ap length is ∙ length-changed gone ts at;
  sure = λ nothing. (quiet (nothing.0 ended)).0;
}
  where
    goes_not : ended_at c.stages at ≡ false → ⊥
    goes_not goes = let wrong : true ≡ false = sym ended ∙ goes in cc

-- of a dead continuation it tells only where one was found dead
cause_closed : {P : Type 0} (c : ChainState P) (ts : List (Option StageContinuation)) (fault : SetFault)
    (a m b : Context) → Keeps a m → Lessens m b
    → IsCause (AreLive m.log.state.live ts) fault m → IsCause (AreAllLive c ts a) fault b
cause_closed c ts F.NoMemory a m b keeps lessens cause = tt
cause_closed c ts F.Dead a m b keeps lessens cause = λ all. cause (subst (λ l. AreLive l ts) (sym keeps.live)
    all.live)
cause_closed c ts F.Spent a m b keeps lessens cause = subst (λ n. GREATEST ≤ n) (sym lessens.less.next) cause

pub err_closed : {P T : Type 0} (r : Result T SetFault) (c : ChainState P)
    (ts : List (Option StageContinuation)) (a m b : Context) → Keeps a m → Lessens m b
    → IfErr r (λ fault. IsCause (AreLive m.log.state.live ts) fault m)
    → IfErr r (λ fault. IsCause (AreAllLive c ts a) fault b)
err_closed (Ok x) c ts a m b keeps lessens cause = tt
err_closed (Err fault) c ts a m b keeps lessens cause = cause_closed c ts fault a m b keeps lessens cause

-- a stage that works
pub acts_works : {P T : Type 0} (rest : P → List ℕ → List ℕ) (soon : P → List ℕ → Option (List ℕ))
    (pause : P → ℕ) (at : ℕ) (event : Event) (c d : ChainState P) (ts us : List (Option StageContinuation))
    (r : Result T SetFault) (a b : Context)
    → works_at event ≡ true → ended_at c.stages at ≡ false → Pumps rest soon at c d a b
    → OnlySets pause c d ts at event a b → OnOk r (TellsBefore pause at c d ts us b.log.state.pending)
    → KeepsStages a b ts us
    → ((MustWork c at → ⊥) → (is_ok r ≡ true) × (d ≡ c) × (b ≡ a))
    → ActsAt rest pause at event c d ts ts us true (is_ok r) a b
acts_works rest soon pause at event c d ts us r a b works goes pumps only tells stages quiet = record {
  own = pumps.own;
  idle = λ rests. absurd (works_not rests);
  still = λ rests. (quiet rests).1;
  only = only;
  closed = λ ended. absurd (ends_not ended);
  ended = λ now goes end. (ok_then r now tells).ended goes end;
  told = λ now ended. absurd (ends_not ended);
  ready = λ now did. (ok_then r now tells).ready did;
  passed = λ now e. absurd (no_error e);
  error_passed = λ e. absurd (no_error e);
  quiet = λ e. absurd (no_error e);
  same = λ other goes. stages.same;
  rests = λ other nobody same. let left : left_to_do rest d [] ≡ left_to_do rest c [] = ap
      (λ x. left_to_do rest x []) same in omega (arith, left, pumps.pays [] (nothing_more c.given));
  len = stages.len;
  sure = nothing;
}
  where
    works_not : works_at event ≡ false → ⊥
    works_not rests = let wrong : true ≡ false = sym works ∙ rests in cc

    ends_not : ended_at c.stages at ≡ true → ⊥
    ends_not ended = let wrong : false ≡ true = sym goes ∙ ended in cc

    no_error : event ≡ Error → ⊥
    no_error e = works_not (ap works_at e)

    nothing : HasNothingToDo event c ts at → is_ok r ≡ true
    nothing (nobody, inl ended) = absurd (ends_not ended)
    nothing (nobody, inr (inl complete)) = absurd (works_not (ap works_at complete))
    nothing (nobody, inr (inr (inl (e, passed)))) = absurd (no_error e)
    nothing (nobody, inr (inr (inr (w, rests)))) = (quiet rests).0

-- a stage that gets an error
pub acts_passes : {P T : Type 0} (rest : P → List ℕ → List ℕ) (pause : P → ℕ) (at : ℕ) (event : Event)
    (c : ChainState P) (ts us : List (Option StageContinuation)) (r : Result T SetFault) (a b : Context)
    → event ≡ Error → ended_at c.stages at ≡ false → us ≡ changed error_passed ts at
    → OnOk r (may_pass_error_at ts at ≡ true → IsToldBefore b.log.state.pending Error us at)
    → OnlyTellsBefore Error at ts a b → (may_pass_error_at ts at ≡ false → (is_ok r ≡ true) × SetsFew 0 a b)
    → ActsAt rest pause at event c c ts ts us true (is_ok r) a b
acts_passes rest pause at event c ts us r a b is goes passed told only quiet = record {
  own = inl refl;
  idle = λ rests. refl;
  still = λ rests. refl;
  only = may_pass pause c c ts at event a b is only;
  closed = λ ended. absurd (ends_not ended);
  ended = λ now goes end. absurd (ends_not end);
  told = λ now ended. absurd (ends_not ended);
  ready = λ now did. absurd (did refl);
  passed = λ now e goes may. ok_then r now told may;
  error_passed = λ e goes. passed;
  quiet = λ e none nobody. (quiet none).1;
  same = λ other. absurd (other is);
  rests = λ other. absurd (other is);
  len = ap length passed ∙ length-changed error_passed ts at;
  sure = nothing;
}
  where
    ends_not : ended_at c.stages at ≡ true → ⊥
    ends_not ended = let wrong : false ≡ true = sym goes ∙ ended in cc

    nothing : HasNothingToDo event c ts at → is_ok r ≡ true
    nothing (nobody, inl ended) = absurd (ends_not ended)
    nothing (nobody, inr (inl complete)) = absurd
        (let wrong : Error ≡ WriteComplete = sym is ∙ complete in cc)
    nothing (nobody, inr (inr (inl (e, none)))) = (quiet none).0
    nothing (nobody, inr (inr (inr (works, rests)))) = absurd
        (let wrong : false ≡ true = sym (ap works_at is) ∙ works in cc)

-- a stage at the end of its output
pub acts_rests : {P : Type 0} (rest : P → List ℕ → List ℕ) (pause : P → ℕ) (at : ℕ) (event : Event)
    (c : ChainState P) (ts : List (Option StageContinuation)) (a : Context)
    → (event ≡ Error → ⊥) → ended_at c.stages at ≡ false
    → ActsAt rest pause at event c c ts ts ts true true a a
acts_rests rest pause at event c ts a other goes = record {
  own = inl refl;
  idle = λ rests. refl;
  still = λ rests. refl;
  only = may_set_none pause c c ts at event a;
  closed = λ ended. absurd (ends_not ended);
  ended = λ now goes end. absurd (ends_not end);
  told = λ now ended. absurd (ends_not ended);
  ready = λ now did. absurd (did refl);
  passed = λ now e. absurd (other e);
  error_passed = λ e. absurd (other e);
  quiet = λ e none nobody. few_refl a 0;
  same = λ e goes. refl;
  rests = λ e nobody same. omega arith;
  len = refl;
  sure = λ nothing. refl;
}
  where
    ends_not : ended_at c.stages at ≡ true → ⊥
    ends_not ended = let wrong : false ≡ true = sym goes ∙ ended in cc

-- an error rouses no stage
error_unroused : (event : Event) (ts : List (Option StageContinuation)) (at : ℕ) → event ≡ Error
    → unroused_at event ts at ≡ ts
error_unroused event ts at is = ap (λ e. unroused_at e ts at) is

-- the same where the event was handled before
pub acts_handled : {P : Type 0} (rest : P → List ℕ → List ℕ) (pause : P → ℕ) (at : ℕ) (event : Event)
    (c d : ChainState P) (ts vs us : List (Option StageContinuation)) (was now : Bool) (a b : Context)
    → vs ≡ unroused_at event ts at → all_unroused vs ≡ all_unroused ts
    → ActsAt rest pause at event c d vs vs us was now a b
    → ActsAt rest pause at event c d ts (unroused_at event ts at) us was now a b
acts_handled rest pause at event c d ts vs us was now a b is same h = record {
  own = h.own;
  idle = h.idle;
  still = h.still;
  only = subst (λ xs. OnlySets pause c d xs at event a b) is h.only;
  closed = λ ended. (
    closed ended,
    (h.closed ended).1 ∙ gone_unroused (works_at event) ts vs at is,
    (h.closed ended).2,
  );
  ended = h.ended;
  told = λ running ended there first named. h.told running ended (there_same ts vs at same ∙ there) first
      (named_same a.roles first ts vs same named);
  ready = λ running did j above pauses must. called_unroused (works_at event) ts vs at b.log.state.pending us
      j is above (h.ready running did j above pauses must);
  passed = λ running e goes may. h.passed running e goes (may_pass_same ts vs at same ∙ may);
  error_passed = λ e goes. h.error_passed e goes ∙ ap (λ xs. changed error_passed xs at)
      (is ∙ error_unroused event ts at e);
  quiet = λ e none nobody. h.quiet e (may_pass_same ts vs at same ∙ none) (nobody_as nobody);
  same = λ other goes. h.same other goes ∙ same;
  rests = λ other nobody. h.rests other (nobody_as nobody);
  len = h.len ∙ same_length ts vs same;
  sure = λ nothing. h.sure (nothing_as nothing);
}
  where
    closed : ended_at c.stages at ≡ true → IsClosed a b ts at
    closed ended t there =
        let k = unroused_key (works_at event) ts at t there in
        subst (IsDestroyed a b) k.2 ((h.closed ended).0 k.0 (ap (λ xs. slice_get xs at) is ∙ k.1))

    nobody_as : TellsNobody c ts at → TellsNobody c vs at
    nobody_as nobody ended = nobody_same ts vs at same (nobody ended)

    nothing_as : HasNothingToDo event c ts at → HasNothingToDo event c vs at
    nothing_as (nobody, inl ended) = (nobody_as nobody, inl ended)
    nothing_as (nobody, inr (inl complete)) = (nobody_as nobody, inr (inl complete))
    nothing_as (nobody, inr (inr (inl (e, none)))) =
        (nobody_as nobody, inr (inr (inl (e, may_pass_same ts vs at same ∙ none))))
    nothing_as (nobody, inr (inr (inr quiet))) = (nobody_as nobody, inr (inr (inr quiet)))

-- and where something may have been lost before
pub acts_run : {P : Type 0} (rest : P → List ℕ → List ℕ) (pause : P → ℕ) (at : ℕ) (event : Event)
    (c d : ChainState P) (ts vs us : List (Option StageContinuation)) (ok was now : Bool) (a b : Context)
    → (now ≡ true → ok ≡ true) → (ok ≡ true → now ≡ was) → ActsAt rest pause at event c d ts vs us true ok a b
    → ActsAt rest pause at event c d ts vs us was now a b
acts_run rest pause at event c d ts vs us ok was now a b then as_was h = record {
  own = h.own;
  idle = h.idle;
  still = h.still;
  only = h.only;
  closed = h.closed;
  ended = λ runs. h.ended (then runs);
  told = λ runs. h.told (then runs);
  ready = λ runs. h.ready (then runs);
  passed = λ runs. h.passed (then runs);
  error_passed = h.error_passed;
  quiet = h.quiet;
  same = h.same;
  rests = h.rests;
  len = h.len;
  sure = λ nothing. as_was (h.sure nothing);
}

-- it pays whoever is roused
pub gives_handled : {P : Type 0} (rest : P → List ℕ → List ℕ) (soon : P → List ℕ → Option (List ℕ))
    (c d : ChainState P) (ts vs us : List (Option StageContinuation)) (a b : Context)
    → all_unroused vs ≡ all_unroused ts → GivesOn rest soon c d vs us a b → GivesOn rest soon c d ts us a b
gives_handled rest soon c d ts vs us a b same gives = record {
  flows = gives.flows;
  pays = λ z none. omega (arith, gives.pays z none, calls_same ts vs same);
}

-- and continuations of other roles are kept
pub others_handled : (first : ℕ) (ts vs : List (Option StageContinuation)) (a b : Context)
    → all_unroused vs ≡ all_unroused ts → KeepsOthers first vs a b → KeepsOthers first ts a b
others_handled first ts vs a b same others role t named outside =
    others role t (named_same a.roles first ts vs same named)
    (subst (λ n. (role < first) ⊎ (first + n ≤ role)) (sym (same_length ts vs same)) outside)

pumped_given : {P : Type 0} (rest : P → List ℕ → List ℕ) (at : ℕ) (c d : ChainState P) → MayPump rest at c d
    → d.given ≡ c.given
pumped_given rest at c d (inl same) = ap (λ x. x.given) same
pumped_given rest at c d (inr h) = h.given

-- so the chain goes on giving
pub still_gives : {P : Type 0} (rest : P → List ℕ → List ℕ) (soon : P → List ℕ → Option (List ℕ)) (at : ℕ)
    (c d : ChainState P) (ts us : List (Option StageContinuation)) (a b : Context)
    → IsStage c ts at → MayPump rest at c d → length us ≡ length ts → GivesOn rest soon c d ts us a b
    → StillGives rest soon c d ts us a b
still_gives rest soon at c d ts us a b stage own len gives = record {
  once = pumped_once rest c d at own;
  flows = gives.flows;
  pays = gives.pays;
  given = pumped_given rest at c d own;
  len = len;
  fresh = λ none. absurd (omega (arith, none, stage.within));
}
