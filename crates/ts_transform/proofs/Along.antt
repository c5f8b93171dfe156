-- What a handler of a chain between two links sets.
use Rattle.std.proofs.Common.{◌≡◌, ◌+◌, ◌-◌, ◌<◌, ◌≤◌, ◌⊎◌, inl, inr, ℕ, List, Bool, true, false, Option, eqb, leb, length, arith, refl, sym, ap, subst, ◌∙◌}
use Rattle.std.proofs.lemmas.Bool.Decides.{eqb_tells, leb_tells}
use Rattle.ts_journal.specs.declared.entry.Event.{Event}
use Rattle.ts_journal.specs.declared.entry.Pending.{Pending}
use Rattle.ts_group.specs.declared.action.Named.{Named}
use Rattle.ts_group.specs.Context.{Context, IsSame}
use Rattle.ts_transform.specs.Flow.{ChainState, MustRead, MustWrite}
use Rattle.ts_transform.specs.Driving.{AreNamed, IsNamedIf, IsRousedIf, IsRousingOf, Keeps, SetsOnly, changed, unroused, unroused_at, unroused_for, works_at}
use Rattle.ts_transform.specs.Cover.{IsRousing, MaySet}
use Rattle.ts_transform.specs.Acting.{HasNothingToDo, IsStage}
use Rattle.ts_transform.specs.Driven.{Acts, IsOfNoStage}
use Rattle.ts_transform.specs.Carrying.{AreEndsRoused, LacksMemory, StaysLinked}
use Rattle.ts_transform.specs.Along.{AreNamedAlong, DoesDuty, EndRests, HasNothingAlong, IsForDuty, LeavesDuties, MaySetAlong, ReadsOnce, RousesAnEnd, SetsForDuty, WorksAlong, WritesOnce}
use Rattle.ts_link.specs.Link.{Look}
use Rattle.ts_transform.specs.declared.continuation.StageContinuation.{StageContinuation}
use Rattle.ts_transform.specs.declared.link_world.LinkWorld.{LinkWorld}
use Rattle.ts_transform.specs.declared.link_world.TheConstants.{FIRST, READER, WRITER}
use Rattle.ts_link.specs.declared.clock.TheConstants.{RETRY_AFTER}
use Rattle.ts_transform.proofs.Joined.{ends_moved}
use Rattle.ts_transform.proofs.Kept.{acts_none}
use Rattle.ts_transform.proofs.Setting.{named_same, only_none, only_same, only_trans, only_weaker}
use Rattle.ts_transform.proofs.Told.{same_unroused}

-- an end was roused
pub rouses_writer : {P : Type 0} (c : ChainState P) (after : ℕ) (a b : Context)
    → (after ≡ 0) ⊎ (after ≡ RETRY_AFTER) → MustWrite c ⊎ (b ≡ a)
    → SetsOnly (IsRousingOf WRITER after a.moment a.roles) a b
    → SetsOnly (RousesAnEnd c a.moment a.roles) a b
rouses_writer c after a b soon (inl must) only = only_weaker (IsRousingOf WRITER after a.moment a.roles)
    (RousesAnEnd c a.moment a.roles) a b (λ p h. record
    { after = after; soon = soon; of_end = inl (must, h) }) only
rouses_writer c after a b soon (inr same) only = subst (SetsOnly (RousesAnEnd c a.moment a.roles) a)
    (sym same) (only_none (RousesAnEnd c a.moment a.roles) a)

pub rouses_reader : {P : Type 0} (c : ChainState P) (after : ℕ) (a b : Context)
    → (after ≡ 0) ⊎ (after ≡ RETRY_AFTER) → MustRead c ⊎ (b ≡ a)
    → SetsOnly (IsRousingOf READER after a.moment a.roles) a b
    → SetsOnly (RousesAnEnd c a.moment a.roles) a b
rouses_reader c after a b soon (inl must) only = only_weaker (IsRousingOf READER after a.moment a.roles)
    (RousesAnEnd c a.moment a.roles) a b (λ p h. record
    { after = after; soon = soon; of_end = inr (must, h) }) only
rouses_reader c after a b soon (inr same) only = subst (SetsOnly (RousesAnEnd c a.moment a.roles) a)
    (sym same) (only_none (RousesAnEnd c a.moment a.roles) a)

-- an end that is roused if it must work: it must, or nothing was done
pub must_or : {X Y : Type 0} (must : Bool) → (must ≡ true → X) → (must ≡ false → Y) → X ⊎ Y
must_or {X} {Y} must this other = by_must must refl
  where
    by_must : (b : Bool) → must ≡ b → X ⊎ Y
    by_must true is = inl (this is)
    by_must false is = inr (other is)

-- ends that are roused later are so in the moment and under the roles of before
ends_as : {P : Type 0} (c : ChainState P) (a m b : Context) → m.moment ≡ a.moment → Keeps a m
    → SetsOnly (RousesAnEnd c m.moment m.roles) m b → SetsOnly (RousesAnEnd c a.moment a.roles) m b
ends_as c a m b moment keeps only = subst (λ t. SetsOnly (RousesAnEnd c t a.roles) m b) moment
    (subst (λ rs. SetsOnly (RousesAnEnd c m.moment rs) m b) keeps.roles only)

pub ends_then : {P : Type 0} (c : ChainState P) (a m b : Context) → Keeps a m → m.moment ≡ a.moment
    → Keeps m b → SetsOnly (RousesAnEnd c a.moment a.roles) a m
    → SetsOnly (RousesAnEnd c m.moment m.roles) m b
    → SetsOnly (RousesAnEnd c a.moment a.roles) a b
ends_then c a m b keeps moment later first second = only_trans (RousesAnEnd c a.moment a.roles) a m b first
    later (ends_as c a m b moment keeps second)

-- nothing was set
pub duty_none : {I K P : Type 0} (pause : P → ℕ) (v w : LinkWorld I K P) (a : Context)
    → a.log.state.held ≡ true → SetsForDuty pause v w a a
duty_none pause v w a turn = record {
  within = acts_none 1 a turn;
  only = λ named. only_none
      (IsForDuty pause w.driven.chain v.driven.table.items a.moment a.roles) a;
}

-- a stage was roused, or an end
pub duty_stage : {P : Type 0} (pause : P → ℕ) (c : ChainState P) (ts : List (Option StageContinuation))
    (a b : Context) → SetsOnly (IsRousing pause FIRST c ts a.moment a.roles) a b
    → SetsOnly (IsForDuty pause c ts a.moment a.roles) a b
duty_stage pause c ts a b only = only_weaker (IsRousing pause FIRST c ts a.moment a.roles)
    (IsForDuty pause c ts a.moment a.roles) a b (λ p h. inl h) only

pub duty_end : {P : Type 0} (pause : P → ℕ) (c : ChainState P) (ts : List (Option StageContinuation))
    (a b : Context) → SetsOnly (RousesAnEnd c a.moment a.roles) a b
    → SetsOnly (IsForDuty pause c ts a.moment a.roles) a b
duty_end pause c ts a b only = only_weaker (RousesAnEnd c a.moment a.roles)
    (IsForDuty pause c ts a.moment a.roles) a b (λ p h. inr h) only

pub along_duty : {P : Type 0} (pause : P → ℕ) (role : ℕ) (event : Event) (c d : ChainState P)
    (ts : List (Option StageContinuation)) (a b : Context)
    → SetsOnly (IsForDuty pause d ts a.moment a.roles) a b
    → SetsOnly (MaySetAlong pause role event c d ts a.moment a.roles) a b
along_duty pause role event c d ts a b only = only_weaker (IsForDuty pause d ts a.moment a.roles)
    (MaySetAlong pause role event c d ts a.moment a.roles) a b (λ p h. inl h) only

-- a role is that of a stage, or it is not
pub stage_at : {P : Type 0} (role : ℕ) (c : ChainState P) (ts : List (Option StageContinuation))
    → ((at : ℕ) × (role ≡ FIRST + at) × IsStage c ts at) ⊎
    ((at : ℕ) → role ≡ FIRST + at → IsStage c ts at → ⊥)
stage_at {P} role c ts = by_role (leb_tells 3 role)
  where
    by_len : (at : ℕ) → role ≡ 3 + at → at + 1 ≤ length ts
        → ((eqb (length ts) (length c.stages) ≡ true) × (length ts ≡ length c.stages)) ⊎
        ((eqb (length ts) (length c.stages) ≡ false) × (length ts ≡ length c.stages → ⊥))
        → ((at : ℕ) × (role ≡ FIRST + at) × IsStage c ts at) ⊎
        ((at : ℕ) → role ≡ FIRST + at → IsStage c ts at → ⊥)
    by_len at is below (inl (t, same)) = inl (at, is, record { within = omega (arith, below); len = same })
    by_len at is below (inr (t, other)) = inr (λ j is_j stage. other stage.len)

    by_place : (at : ℕ) → role ≡ 3 + at → ((leb (at + 1) (length ts) ≡ true) × (at + 1 ≤ length ts)) ⊎
        ((leb (at + 1) (length ts) ≡ false) × (length ts < at + 1))
        → ((at : ℕ) × (role ≡ FIRST + at) × IsStage c ts at) ⊎
        ((at : ℕ) → role ≡ FIRST + at → IsStage c ts at → ⊥)
    by_place at is (inl (t, below)) = by_len at is below (eqb_tells (length ts) (length c.stages))
    by_place at is (inr (t, above)) = inr (λ j is_j stage. let k : role ≡ 3 + j = is_j in omega
        (arith, k, is, above, stage.within))

    by_role : ((leb 3 role ≡ true) × (3 ≤ role)) ⊎ ((leb 3 role ≡ false) × (role < 3))
        → ((at : ℕ) × (role ≡ FIRST + at) × IsStage c ts at) ⊎
        ((at : ℕ) → role ≡ FIRST + at → IsStage c ts at → ⊥)
    by_role (inl (t, behind)) = by_place (role - 3) (omega (arith, behind))
        (leb_tells ((role - 3) + 1) (length ts))
    by_role (inr (t, before)) = inr (λ j is_j stage. let k : role ≡ 3 + j = is_j in omega (arith, k, before))

-- continuations have their roles, whether an event of one was handled or not
pub named_handled : (b : Bool) (roles : List Named) (role at : ℕ) (ts : List (Option StageContinuation))
    → AreNamed roles role ts → AreNamed roles role (unroused_for b ts at)
named_handled true roles role at ts named = named_same roles role ts (changed unroused ts at)
    (same_unroused ts (changed unroused ts at) at refl) named
named_handled false roles role at ts named = named

-- a stage acted, or nobody did
pub along_stage : {P I K : Type 0} (rest : P → List ℕ → List ℕ) (pause : P → ℕ) (role : ℕ) (event : Event)
    (v w : LinkWorld I K P) (a b : Context)
    → ((at : ℕ) → role ≡ FIRST + at → IsStage v.driven.chain v.driven.table.items at → Acts rest pause at
    event v.driven w.driven a b) → (IsOfNoStage FIRST role v.driven
    → IsSame a b) → AreNamedAlong v a.roles
    → SetsOnly (MaySetAlong pause role event v.driven.chain w.driven.chain v.driven.table.items a.moment
    a.roles) a b
along_stage {P} {I} {K} rest pause role event v w a b acts other named = by_stage
    (stage_at role v.driven.chain v.driven.table.items)
  where
    Such : Pending → Type 0
    Such = MaySetAlong pause role event v.driven.chain w.driven.chain v.driven.table.items a.moment a.roles

    by_stage : ((at : ℕ) × (role ≡ FIRST + at) × IsStage v.driven.chain v.driven.table.items at) ⊎
        ((at : ℕ) → role ≡ FIRST + at → IsStage v.driven.chain v.driven.table.items at → ⊥)
        → SetsOnly Such a b
    by_stage (inl (at, is, stage)) =
        only_weaker (MaySet pause FIRST v.driven.chain w.driven.chain
        (unroused_at event v.driven.table.items at) at event a.moment a.roles) Such a b
        (λ p h. inr (at, is, h)) ((acts at is stage).only FIRST
        (named_handled (works_at event) a.roles FIRST at v.driven.table.items named.stages))
    by_stage (inr none) = only_same Such a b (ap (λ s. s.pending) (other none).log.state)

-- an end that has nothing to do leaves each duty
pub sure_writer : {I K P : Type 0} (role : ℕ) (event : Event) (v w : LinkWorld I K P) → role ≡ WRITER
    → (EndRests event (MustWrite v.driven.chain) → LeavesDuties v w) → HasNothingAlong role event v
    → LeavesDuties v w
sure_writer role event v w is leaves (inl (end, rests)) = leaves rests
sure_writer role event v w is leaves (inr (inl (end, rests))) = let k : role ≡ 2 = end in absurd
    (omega (arith, is, k))
sure_writer role event v w is leaves (inr (inr (at, place, stage, nothing))) =
    let k : role ≡ 3 + at = place in absurd (omega (arith, is, k))

pub sure_reader : {I K P : Type 0} (role : ℕ) (event : Event) (v w : LinkWorld I K P) → role ≡ READER
    → (EndRests event (MustRead v.driven.chain) → LeavesDuties v w) → HasNothingAlong role event v
    → LeavesDuties v w
sure_reader role event v w is leaves (inl (end, rests)) = let k : role ≡ 1 = end in absurd
    (omega (arith, is, k))
sure_reader role event v w is leaves (inr (inl (end, rests))) = leaves rests
sure_reader role event v w is leaves (inr (inr (at, place, stage, nothing))) =
    let k : role ≡ 3 + at = place in absurd (omega (arith, is, k))

-- so does a stage
pub sure_stage : {P I K : Type 0} (rest : P → List ℕ → List ℕ) (pause : P → ℕ) (role : ℕ) (event : Event)
    (v w : LinkWorld I K P) (a b : Context) → (role ≡ WRITER → ⊥) → (role ≡ READER → ⊥)
    → ((at : ℕ) → role ≡ FIRST + at → IsStage v.driven.chain v.driven.table.items at
    → Acts rest pause at event v.driven w.driven a b) → w.writer ≡ v.writer → w.reader ≡ v.reader
    → HasNothingAlong role event v → LeavesDuties v w
sure_stage rest pause role event v w a b not_writer not_reader acts writer reader (inl (is, rests)) = absurd
    (not_writer is)
sure_stage rest pause role event v w a b not_writer not_reader acts writer reader (inr (inl (is, rests))) =
    absurd (not_reader is)
sure_stage rest pause role event v w a b not_writer not_reader acts writer reader
    (inr (inr (at, is, stage, nothing))) =
    let h = acts at is stage in
    record {
      running = h.sure nothing;
      chain = still h nothing;
      writer = λ must. writer;
      reader = λ must.
          reader;
    }
  where
    still : Acts rest pause at event v.driven w.driven a b
        → HasNothingToDo event v.driven.chain v.driven.table.items at → w.driven.chain ≡ v.driven.chain
    still h (nobody, inl ended) = (h.closed ended).2
    still h (nobody, inr (inl complete)) = h.idle (ap works_at complete)
    still h (nobody, inr (inr (inl (e, none)))) = h.idle (ap works_at e)
    still h (nobody, inr (inr (inr (works, rests)))) = h.still rests

-- The ends were roused behind a handler: where nothing had to be done, nothing is.
pub step_sure : {I K P : Type 0} (u v w : LinkWorld I K P) (m b : Context)
    → AreEndsRoused u.driven.chain u.writer u.reader
    → ((v.driven.running ≡ false) ⊎ AreEndsRoused v.driven.chain v.writer v.reader → (w ≡ v) × (b ≡ m))
    → LeavesDuties u v → w.driven.running ≡ u.driven.running
step_sure u v w m b ends idle leaves =
    let chain = leaves.chain in
    let still : AreEndsRoused v.driven.chain v.writer v.reader = record {
      writes = λ must. let m = subst MustWrite chain must in subst IsRousedIf (sym (leaves.writer m))
          (ends.writes m);
      reads = λ must. let m = subst MustRead chain must in subst IsRousedIf (sym (leaves.reader m))
          (ends.reads m);
    } in
    ap (λ x. x.driven.running) (idle (inr still)).0 ∙ leaves.running

-- And what both set is what may be set.
pub step_only : {I K P : Type 0} (rest : P → List ℕ → List ℕ) (pause : P → ℕ) (input : I → Look)
    (output : K → Look) (role : ℕ) (event : Event) (u v w : LinkWorld I K P) (a m b : Context)
    → AreEndsRoused u.driven.chain u.writer u.reader → AreNamedAlong u a.roles
    → IsNamedIf m.roles WRITER v.writer → IsNamedIf m.roles READER v.reader
    → WorksAlong rest pause input output role event u v a m
    → ((v.driven.running ≡ false) ⊎ AreEndsRoused v.driven.chain v.writer v.reader → (w ≡ v) × (b ≡ m))
    → m.moment ≡ a.moment → Keeps m b
    → (IsNamedIf m.roles WRITER v.writer → IsNamedIf m.roles READER v.reader → SetsOnly
    (RousesAnEnd v.driven.chain m.moment m.roles) m b) → w.driven.chain ≡ v.driven.chain
    → SetsOnly (MaySetAlong pause role event u.driven.chain w.driven.chain u.driven.table.items a.moment
    a.roles) a b
step_only {I} {K} {P} rest pause input output role event u v w a m b ends named writer reader h idle moment
    later only same = by_live h.live
  where
    Such : Context → Type 0
    Such x = SetsOnly (MaySetAlong pause role event u.driven.chain w.driven.chain u.driven.table.items
        a.moment a.roles) a x

    first : Such m
    first = subst (λ d. SetsOnly (MaySetAlong pause role event u.driven.chain d u.driven.table.items a.moment
        a.roles) a m) (sym same) (h.only named)

    by_live : StaysLinked u v a m → Such b
    by_live (inl (chain, w_same, r_same)) = subst Such
        (sym (idle (inr (ends_moved u v chain w_same r_same ends))).1) first
    by_live (inr (keeps, linked)) =
        only_trans (MaySetAlong pause role event u.driven.chain w.driven.chain u.driven.table.items a.moment
        a.roles) a m b first later
        (only_weaker (RousesAnEnd w.driven.chain a.moment a.roles)
        (MaySetAlong pause role event u.driven.chain w.driven.chain u.driven.table.items a.moment a.roles)
        m b (λ p e. inl (inr e))
        (subst (λ d. SetsOnly (RousesAnEnd d a.moment a.roles) m b) (sym same)
        (ends_as v.driven.chain a m b moment keeps (only writer reader))))

-- The duty is done where the links stay as they were left, and want of memory is told.
pub does_then : {I K P : Type 0} (input : I → Look) (output : K → Look) (role : ℕ) (event : Event)
    (u v w : LinkWorld I K P) → w.input ≡ v.input → w.output ≡ v.output → (LacksMemory v → LacksMemory w)
    → DoesDuty input output role event u v → DoesDuty input output role event u w
does_then {I} {K} {P} input output role event u v w same_input same_output keeps does works =
    (λ is must. written ((does works).0 is must), λ is must. was_read ((does works).1 is must))
  where
    written : WritesOnce output u v → WritesOnce output u w
    written (inl once) = inl (ap (λ x. (output x).writes) same_output ∙ once)
    written (inr lacks) = inr (keeps lacks)

    was_read : ReadsOnce input u v → ReadsOnce input u w
    was_read (inl once) = inl (ap (λ x. (input x).reads) same_input ∙ once)
    was_read (inr lacks) = inr (keeps lacks)
