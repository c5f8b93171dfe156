-- Each duty of a chain between two links has its event.
use Rattle.std.proofs.Common.{◌≡◌, ◌≢◌, ◌≤◌, ◌+◌, ◌⊎◌, inl, inr, ℕ, suc, List, [], ◌∷◌, map, Bool, true, false, length, Option, Some, None, Result, Ok, Err, IsTrue, arith, refl, sym, ap, subst, ◌∙◌}
use Rattle.ts_journal.specs.declared.entry.Event.{Event}
use Rattle.ts_journal.specs.declared.entry.Pending.{Pending}
use Rattle.ts_group.specs.declared.action.Named.{Named}
use Rattle.std.specs.Prelude.{⊤}
use Rattle.std.proofs.lemmas.Bool.{not-false, not-true}
use Rattle.ts_group.specs.declared.action.SetFault.{SetFault}
use Rattle.ts_group.specs.declared.action.SetFault.TheVariants as F
use Rattle.ts_group.specs.declared.action.MakeFault.{MakeFault}
use Rattle.ts_group.specs.Context.{AllPlain, Context, IsSame, role_at}
use Rattle.ts_group.specs.Entries.{Grows}
use Rattle.ts_group.specs.Changes.{KeepsKeys, SameEvents}
use Rattle.ts_transform.specs.declared.continuation.StageContinuation.{StageContinuation}
use Rattle.ts_transform.specs.declared.driven.DrivenChain.{DrivenChain}
use Rattle.ts_transform.specs.declared.loss.Loss.{Loss}
use Rattle.ts_transform.specs.declared.pump.Stage.{Stage}
use Rattle.ts_transform.specs.Stage.{has_ended}
use Rattle.ts_transform.specs.Flow.{ChainState, EndsInOrder, IsFinished, MustPump, aborted, client_wait, closed, ended_at, first_wants, last_ended, last_wait, wants}
use Rattle.ts_transform.specs.Driving.{ActsWithin, HasEvent, IsCause, AreOfStages, IsHandled, IsNamedIf, IsOfStageIf, IsRousedIf, Keeps, KeepsOthers, unroused, works_at, all_unroused}
use Rattle.ts_transform.specs.Cover.{IsDriven}
use Rattle.ts_transform.specs.declared.loss.Loss.TheVariants.{NoMemory}
use Rattle.ts_transform.specs.Driven.{HasBegun, Loses, MayLose, HasAllLive}
use Rattle.ts_transform.specs.Loss.{IsCauseOf, loss_of, making_loss}
use Rattle.ts_transform.specs.Carrying.{HasBegunAlong, AreEndsRoused, FallsTold, AreLinked, HasNoDuty, GetsNoMore, IsCarried, IsJoined, IsOfNobody, MayBreak, RetriesOnce, RetriesRead, RetriesWrite, AreLiveAlong, KeepsCourse, StaysLinked}
use Rattle.ts_transform.specs.declared.link_world.LinkWorld.{LinkWorld}
use Rattle.ts_transform.specs.declared.link_world.TheConstants.{READER, WRITER}
use Rattle.ts_transform.specs.Acting.{KeepsLive}
use Rattle.ts_transform.proofs.Handled.{begun_other, begun_quiet, quiet_if, stays_if, unroused_if}
use Rattle.ts_transform.proofs.Driving.{may_lose}
use Rattle.ts_transform.proofs.Living.{cause_alive, all_live, end_live, live_aborted, live_stages}
use Rattle.ts_transform.proofs.Kept.{cause_weaker, keeps_refl, kept_if}
use Rattle.ts_transform.proofs.Setting.{of_stages_named}
use Rattle.ts_transform.proofs.Covering.{driven_kept}
use Rattle.ts_transform.proofs.Starting.{made_if}
use Rattle.ts_lists.proofs.Sizes.{empty_unless, longer_not_empty}
use Rattle.ts_transform.proofs.Resting.{ended-rests, full-else}
use Rattle.ts_transform.proofs.Taking.{aborted_driven, none-roused}

-- the stages went on, and the ends stayed as they were
pub joined_driven : {P : Type 0} (c d : ChainState P) (ts us : List (Option StageContinuation))
    (w r : Option StageContinuation) (a b : Context) → Keeps a b
    → (IsDriven 3 c ts a.log.state.pending a.roles → IsDriven 3 d us b.log.state.pending b.roles)
    → IsJoined c ts w r a.log.state.pending a.roles → IsJoined d us w r b.log.state.pending b.roles
joined_driven c d ts us w r a b keeps goes h = record {
  stages = goes h.stages;
  of_writer = kept_if a b keeps 1 w h.of_writer;
  of_reader = kept_if a b keeps 2 r
      h.of_reader;
}

-- more events leave them joined, whoever of the ends is roused
pub joined_ends : {P : Type 0} (c : ChainState P) (ts : List (Option StageContinuation))
    (w x r s : Option StageContinuation) (a b : Context) → Keeps a b
    → (IsOfStageIf a.log.state.pending a.roles 1 w → IsOfStageIf b.log.state.pending b.roles 1 x)
    → (IsOfStageIf a.log.state.pending a.roles 2 r → IsOfStageIf b.log.state.pending b.roles 2 s)
    → (IsDriven 3 c ts a.log.state.pending a.roles → IsDriven 3 c ts b.log.state.pending b.roles)
    → IsJoined c ts w r a.log.state.pending a.roles → IsJoined c ts x s b.log.state.pending b.roles
joined_ends c ts w x r s a b keeps writer reader stages h = record
    { stages = stages h.stages; of_writer = writer h.of_writer; of_reader = reader h.of_reader }

-- the chain was aborted
pub joined_aborted : {P : Type 0} (c d : ChainState P) (ts : List (Option StageContinuation))
    (w r : Option StageContinuation) (pending : List Pending) (roles : List Named) → d ≡ aborted c
    → IsJoined c ts w r pending roles → IsJoined d ts w r pending roles
joined_aborted c d ts w r pending roles is h = record {
  stages = aborted_driven 3 c d ts pending roles is h.stages;
  of_writer = h.of_writer;
  of_reader =
      h.of_reader;
}

-- of a chain that is aborted only the stages count
pub aborted_same : {P : Type 0} (c d : ChainState P) → d.stages ≡ c.stages → aborted d ≡ aborted c
aborted_same {P} c d same = ap (λ ss. aborted {P = P} (record { first = []; stages = ss; given = true })) same

-- an event of the writer was handled, or of the reader

pub joined_writer : {P : Type 0} (c : ChainState P) (ts : List (Option StageContinuation))
    (w r : Option StageContinuation) (before now : List Pending) (roles : List Named) (event : Event)
    → IsHandled before now roles 1 event → IsJoined c ts w r before roles
    → IsJoined c ts (unroused w) r now roles
joined_writer c ts w r before now roles event handled h = record {
  stages = begun_other 3 c ts before now roles 1 event handled (λ at is stage. omega (arith, is)) h.stages;
  of_writer = unroused_if before now roles 1 w h.of_writer;
  of_reader = stays_if before now roles 2 1 event r handled (λ is. omega (arith, is)) h.of_reader;
}

pub joined_reader : {P : Type 0} (c : ChainState P) (ts : List (Option StageContinuation))
    (w r : Option StageContinuation) (before now : List Pending) (roles : List Named) (event : Event)
    → IsHandled before now roles 2 event → IsJoined c ts w r before roles
    → IsJoined c ts w (unroused r) now roles
joined_reader c ts w r before now roles event handled h = record {
  stages = begun_other 3 c ts before now roles 2 event handled (λ at is stage. omega (arith, is)) h.stages;
  of_writer = stays_if before now roles 1 2 event w handled (λ is. omega (arith, is)) h.of_writer;
  of_reader = unroused_if before now roles 2 r h.of_reader;
}

-- an event at which nobody works
pub joined_quiet : {P : Type 0} (c : ChainState P) (ts : List (Option StageContinuation))
    (w r : Option StageContinuation) (before now : List Pending) (roles : List Named) (role : ℕ)
    (event : Event)
    → IsHandled before now roles role event → works_at event ≡ false → IsJoined c ts w r before roles
    → IsJoined c ts w r now roles
joined_quiet c ts w r before now roles role event handled rests h = record {
  stages = begun_quiet 3 c ts before now roles role event handled rests h.stages;
  of_writer = quiet_if before now roles 1 role event w handled rests h.of_writer;
  of_reader = quiet_if before now roles 2 role event r handled rests h.of_reader;
}

-- an event of a stage, or of nobody
pub joined_stage : {P : Type 0} (c d : ChainState P) (ts us : List (Option StageContinuation))
    (w r : Option StageContinuation) (before : List Pending) (a b : Context) (role : ℕ) (event : Event)
    → IsHandled before a.log.state.pending a.roles role event → role ≢ 1 → role ≢ 2 → KeepsOthers 3 ts a b
    → (IsDriven 3 c ts before a.roles → IsDriven 3 d us b.log.state.pending b.roles)
    → IsJoined c ts w r before a.roles → IsJoined d us w r b.log.state.pending b.roles
joined_stage c d ts us w r before a b role event handled not_writer not_reader others goes h =
    let named = of_stages_named before a.roles 3 ts h.stages.of_stages in
    record {
      stages = goes h.stages;
      of_writer = others 1 w named (inl (omega arith))
          (stays_if before a.log.state.pending a.roles 1 role event w handled (λ is. not_writer (sym is))
          h.of_writer);
      of_reader = others 2 r named (inl (omega arith))
          (stays_if before a.log.state.pending a.roles 2 role event r handled (λ is. not_reader (sym is))
          h.of_reader);
    }

-- what is the same is joined
pub joined_as : {P : Type 0} (c d : ChainState P) (ts us : List (Option StageContinuation))
    (w x r s : Option StageContinuation) (pending : List Pending) (roles : List Named) → d ≡ c → us ≡ ts
    → x ≡ w → s ≡ r
    → IsJoined c ts w r pending roles → IsJoined d us x s pending roles
joined_as c d ts us w x r s pending roles chain table writer reader h =
    subst (λ y. IsJoined y us x s pending roles) (sym chain)
    (subst (λ y. IsJoined c y x s pending roles) (sym table)
    (subst (λ y. IsJoined c ts y s pending roles) (sym writer)
    (subst (λ y. IsJoined c ts w y pending roles) (sym reader) h)))

-- whether it runs falls only
pub loses_runs : {P Live : Type 0} (d e : DrivenChain P) (now : Context) → MayLose Live d e now
    → e.running ≡ true → d.running ≡ true
loses_runs d e now (inl (same, lost)) runs = sym same ∙ runs
loses_runs d e now (inr (loss, stopped, lost, why)) runs = absurd
    (let wrong : false ≡ true = sym stopped ∙ runs in cc)

pub runs_before : {P T : Type 0} (result : Result T SetFault) (d e : DrivenChain P) (a b : Context)
    → Loses result d e a b → e.running ≡ true → d.running ≡ true
runs_before (Ok x) d e a b loses runs = sym loses.0 ∙ runs
runs_before (Err fault) d e a b loses runs = absurd (let wrong : false ≡ true = sym loses.0 ∙ runs in cc)

-- the cause is one of the stages, or of an end, or it is want of memory
pub lose_weaker : {P Live Other : Type 0} (d e : DrivenChain P) (now : Context) → (Other → Live)
    → MayLose Live d e now → MayLose Other d e now
lose_weaker d e now has (inl same) = inl same
lose_weaker d e now has (inr (fault, stopped, lost, cause)) = inr
    (fault, stopped, lost, cause_weaker fault now has cause)

-- what began runs on after its ends were roused, or is lost for a cause
pub begun_then : {I K P : Type 0} (v w : LinkWorld I K P) (m now : Context) → HasBegun v.driven m
    → (HasAllLive v.driven m → AreLinked v m) → (v.driven.running ≡ false → (w ≡ v) × (now ≡ m))
    → KeepsCourse v w m now → HasBegunAlong w now
begun_then {I} {K} {P} v w m now (inr stops) alive idle course =
    let same = idle stops.1 in
    let begun : HasBegunAlong v m = inr stops in
    subst (λ x. HasBegunAlong x now) (sym same.0) (subst (λ x. HasBegunAlong v x) (sym same.1) begun)
begun_then v w m now (inl (runs, none, live)) alive idle course = by_course course.loses
  where
    by_course : MayBreak v w m now → HasBegunAlong w now
    by_course (inl (goes, kept)) = inl (goes ∙ runs, kept ∙ none, course.live (alive live))
    by_course (inr (fault, stopped, lost, cause)) = inr
        (loss_of fault, stopped, lost, cause_alive (AreLinked v m) fault now (alive live) cause)

broke_still : {I K P : Type 0} (u v w : LinkWorld I K P) (a m now : Context) → (w ≡ v) × (now ≡ m)
    → MayBreak u v a m → MayBreak u w a now
broke_still u v w a m now same broke = subst (λ x. MayBreak u x a now) (sym same.0)
    (subst (λ x. MayBreak u v a x) (sym same.1) broke)

-- what is lost after something else was lost: nothing
pub may_break_then : {I K P : Type 0} (u v w : LinkWorld I K P) (a m now : Context) → MayBreak u v a m
    → (AreLinked u a → AreLinked v m) → (v.driven.running ≡ false → (w ≡ v) × (now ≡ m)) → MayBreak v w m now
    → MayBreak u w a now
may_break_then u v w a m now (inl (runs, lost)) linked idle (inl (goes, kept)) = inl
    (goes ∙ runs, kept ∙ lost)
may_break_then u v w a m now (inl (runs, lost)) linked idle (inr (fault, stopped, why, cause)) = inr
    (fault, stopped, why, cause_weaker fault now linked cause)
may_break_then u v w a m now (inr stops) linked idle then = broke_still u v w a m now (idle stops.1)
    (inr stops)

-- nothing was done
pub course_same : {I K P : Type 0} (w : LinkWorld I K P) (a : Context) → a.log.state.held ≡ true
    → KeepsCourse w w a a
course_same w a turn = record {
  loses = inl (refl, refl);
  keeps = keeps_refl a turn;
  live = λ all. all;
  started = λ none. none;
}

-- continuations stay live where those of the stages and of both ends do
pub linked_kept : {P : Type 0} (d e : DrivenChain P) (w x r s : Option StageContinuation) (a b : Context)
    → b.log.state.live ≡ a.log.state.live → (HasAllLive d a → HasAllLive e b) → unroused x ≡ unroused w
    → unroused s ≡ unroused r → AreLiveAlong d w r a → AreLiveAlong e x s b
linked_kept d e w x r s a b keys stages writer reader h = record {
  stages = stages h.stages;
  writer = end_live w x a b keys writer h.writer;
  reader = end_live r s a b keys reader h.reader;
}

-- a stage acted
pub linked_stage : {I K P : Type 0} (v w : LinkWorld I K P) (a b : Context) → w.writer ≡ v.writer
    → w.reader ≡ v.reader → KeepsLive v.driven.chain w.driven.chain v.driven.table.items w.driven.table.items
    a b → StaysLinked v w a b
linked_stage v w a b writer reader (inl same) = inl (same, writer, reader)
linked_stage v w a b writer reader (inr (keeps, live)) = inr (
  keeps,
  linked_kept v.driven w.driven v.writer w.writer v.reader w.reader a b keeps.live live
      (ap unroused writer) (ap unroused reader),
)

-- bytes or their end came to the chain, and a stage may have been roused
pub course_driven : {I K P T : Type 0} (v w : LinkWorld I K P) (c : ChainState P) (a b : Context)
    (r : Result T SetFault) → w.writer ≡ v.writer → w.reader ≡ v.reader → c.stages ≡ v.driven.chain.stages
    → w.driven.chain.stages ≡ c.stages → Keeps a b
    → all_unroused w.driven.table.items ≡ all_unroused v.driven.table.items
    → Loses r (record v.driven { chain = c }) w.driven a b → KeepsCourse v w a b
course_driven v w c a b r writer reader stages kept keeps same loses = record {
  keeps = keeps;
  loses = lose_weaker v.driven w.driven b (λ all. live_stages v.driven.chain c v.driven.table.items a stages
      all.stages) (may_lose r (record v.driven { chain = c }) w.driven a b loses);
  live = linked_kept v.driven w.driven v.writer w.writer v.reader w.reader a b keeps.live
      (all_live v.driven.chain w.driven.chain v.driven.table.items w.driven.table.items a b keeps.live same
      (λ j going. ap (λ ss. ended_at ss j) (sym (kept ∙ stages)) ∙ going)) (ap unroused writer)
      (ap unroused reader);
  started = λ none. sym writer ∙ none;
}

-- a link failed, and the chain was aborted
pub course_aborted : {I K P : Type 0} (v w : LinkWorld I K P) (c : ChainState P) (a : Context)
    → a.log.state.held ≡ true → w.driven.chain ≡ aborted c → w.driven.table.items ≡ v.driven.table.items
    → w.driven.running ≡ v.driven.running
    → w.driven.lost ≡ v.driven.lost → w.writer ≡ v.writer → w.reader ≡ v.reader → KeepsCourse v w a a
course_aborted v w c a turn chain table runs lost writer reader = record {
  keeps = keeps_refl a turn;
  loses = inl (runs, lost);
  live = linked_kept v.driven w.driven v.writer w.writer v.reader w.reader a a refl
      (live_aborted v.driven.chain c w.driven.chain v.driven.table.items w.driven.table.items a chain table)
      (ap unroused writer) (ap unroused reader);
  started = λ none. sym writer ∙ none;
}

-- the ends are roused that must work, since nothing of them changed
pub ends_moved : {I K P : Type 0} (u v : LinkWorld I K P) → v.driven.chain ≡ u.driven.chain
    → v.writer ≡ u.writer → v.reader ≡ u.reader → AreEndsRoused u.driven.chain u.writer u.reader
    → AreEndsRoused v.driven.chain v.writer v.reader
ends_moved u v chain writer reader ends =
    subst (λ c. AreEndsRoused c v.writer v.reader) (sym chain)
    (subst (λ t. AreEndsRoused u.driven.chain t v.reader) (sym writer)
    (subst (λ t. AreEndsRoused u.driven.chain u.writer t) (sym reader) ends))

-- so it is after a stage acted, which may have closed it where nobody must be roused
pub break_after : {I K P : Type 0} (u v w : LinkWorld I K P) (a m now : Context)
    → AreEndsRoused u.driven.chain u.writer u.reader → MayBreak u v a m → StaysLinked u v a m
    → ((v.driven.running ≡ false) ⊎ AreEndsRoused v.driven.chain v.writer v.reader → (w ≡ v) × (now ≡ m))
    → MayBreak v w m now → MayBreak u w a now
break_after u v w a m now ends broke (inl (chain, writer, reader)) idle then = broke_still u v w a m now
    (idle (inr (ends_moved u v chain writer reader ends))) broke
break_after u v w a m now ends broke (inr (keeps, linked)) idle then = may_break_then u v w a m now broke
    linked (λ stopped. idle (inl stopped)) then

-- where memory lacked, that is the cause
pub lose_lacks : {P Live Other : Type 0} (d e f : DrivenChain P) (now : Context) → e.lost ≡ Some NoMemory
    → f.running ≡ e.running → f.lost ≡ e.lost → MayLose Live d e now → MayLose Other d f now
lose_lacks d e f now lacks runs lost (inl (same, kept)) = inl (runs ∙ same, lost ∙ kept)
lose_lacks d e f now lacks runs lost (inr (fault, stopped, why, cause)) = inr
    (F.NoMemory, runs ∙ stopped, lost ∙ lacks, tt)

-- a fault of an end is its cause
pub end_loses : {P Live : Type 0} (d e : DrivenChain P) (fault : SetFault) (now : Context) → e.running ≡ false
    → e.lost ≡ Some (loss_of fault) → IsCause Live fault now → MayLose Live d e now
end_loses d e fault now stopped lost cause = inr (fault, stopped, lost, cause)

-- nobody is roused where nothing is pending
pub none_pending : (roles : List Named) (role : ℕ) (t : Option StageContinuation)
    → IsOfStageIf [] roles role t → IsRousedIf t → ⊥
none_pending roles role None h roused = roused
none_pending roles role (Some t) h roused =
    let e : HasEvent [] t.key = h.event roused in
    let wrong : None ≡ Some e.event = e.there in cc

-- where more may come the last stage has not ended
goes_on : {P : Type 0} (up : Bool) (ss : List (Stage P)) → up ≡ false → EndsInOrder up ss
    → last_ended up ss ≡ false
goes_on up [] goes h = goes
goes_on up (s ∷ ss) goes (here, others) = goes_on (has_ended s) ss (not_yet (has_ended s) refl) others
  where
    not_yet : (b : Bool) → has_ended s ≡ b → b ≡ false
    not_yet false is = refl
    not_yet true is = absurd (let wrong : false ≡ true = sym goes ∙ here is in cc)

-- so it has where the chain wants more
goes_first : {P : Type 0} (up : Bool) (ss : List (Stage P)) → up ≡ false → first_wants up ss ≡ true
    → EndsInOrder true ss → last_ended up ss ≡ false
goes_first up [] goes more h = goes
goes_first up (s ∷ ss) goes more (here, others) =
    goes_on (has_ended s) ss (not-true (has_ended s) more) others

-- what comes to the first stage has ended, or that has
ended_rest : {P : Type 0} (up : Bool) (from : List ℕ) (ss : List (Stage P))
    → (up ≡ true) ⊎ (first_wants up ss ≡ false) → ((j : ℕ) → MustPump up from ss j → ⊥)
    → last_wait from ss ≡ [] → last_ended up ss ≡ true
ended_rest up from ss (inl ended) rests none = ended-rests up from ss (inl ended) rests none
ended_rest up from [] (inr shut) rests none = not-false up shut
ended_rest up from (s ∷ ss) (inr shut) rests none = ended-rests (has_ended s) s.after ss
    (inl (not-false (has_ended s) shut)) (λ j must. rests (suc j) must) none

-- So a chain between two links that runs has written all once nothing is pending, and nothing more comes.
pub all_carried : {P : Type 0} (c : ChainState P) (ts : List (Option StageContinuation))
    (w r : Option StageContinuation) (roles : List Named) → IsJoined c ts w r [] roles → AreEndsRoused c w r
    → EndsInOrder true c.stages → IsFinished c × GetsNoMore c
all_carried {P} c ts w r roles h ends ordered =
    ((ended_rest c.given c.first c.stages shut rests wait, wait), shut)
  where
    wait : client_wait c ≡ []
    wait = empty_unless (client_wait c) (λ some. none_pending roles 1 w h.of_writer (ends.writes some))

    rests : (j : ℕ) → MustPump c.given c.first c.stages j → ⊥
    rests j must = none-roused roles 3 ts j h.stages.of_stages (h.stages.cover j must)

    long : c.given ≡ false → wants c ≡ true → 65536 ≤ length c.first
    long opened more = full-else (length c.first)
        (λ short. none_pending roles 2 r h.of_reader (ends.reads (opened, more, short)))

    by_more : (b e : Bool) → c.given ≡ b → wants c ≡ e → GetsNoMore c
    by_more true e is more = inl is
    by_more false false is more = inr more
    by_more false true is more = absurd (let wrong : false ≡ true = sym
        (goes_first c.given c.stages is more ordered) ∙ ended-rests c.given c.first c.stages
        (inr (longer_not_empty 65535 c.first (long is more))) rests wait in cc)

    shut : GetsNoMore c
    shut = by_more c.given (wants c) refl refl

-- nothing is left to do where the chain was aborted
closed_wait : {P : Type 0} (ss : List (Stage P)) → last_wait [] (map closed ss) ≡ []
closed_wait [] = refl
closed_wait (s ∷ ss) = closed_wait ss

pub aborted_quiet : {P : Type 0} (c d : ChainState P) (w r : Option StageContinuation) → d ≡ aborted c
    → AreEndsRoused d w r
aborted_quiet c d w r is = record {
  writes = λ some. absurd (some (ap (λ x. client_wait x) is ∙ closed_wait c.stages));
  reads = λ must. absurd (let wrong : true ≡ false = sym (ap (λ x. x.given) is) ∙ must.0 in cc);
}

-- a continuation that was made has its role
pub made_of : (pending : List Pending) (roles : List Named) (role : ℕ) (t : StageContinuation)
    → role_at t.key.index roles ≡ Some role → t.roused ≡ false → IsOfStageIf pending roles role (Some t)
made_of pending roles role t named rests = record
    { named = named; event = λ roused. absurd (let wrong : false ≡ true = sym rests ∙ roused in cc) }

-- and a context in which only continuations were made
pub acts_made : (n : ℕ) (a b : Context) → Grows a b → b.log.state.held ≡ true
    → SameEvents a.log.state b.log.state → ActsWithin n a b
acts_made n a b grows turn events = record {
  grows = grows;
  turn = turn;
  plain = subst AllPlain (sym events.pending);
  few = let l : length b.log.state.pending ≡ length a.log.state.pending = ap length events.pending in record
      { next = omega (arith, events.next); pending = omega (arith, l) };
}

-- whose event was handled keeps its role
pub named_unroused : (roles : List Named) (role : ℕ) (t : Option StageContinuation) → IsNamedIf roles role t
    → IsNamedIf roles role (unroused t)
named_unroused roles role None named = tt
named_unroused roles role (Some t) named = named

pub named_of : (pending : List Pending) (roles : List Named) (role : ℕ) (t : Option StageContinuation)
    → IsOfStageIf pending roles role t → IsNamedIf roles role t
named_of pending roles role None h = tt
named_of pending roles role (Some t) h = h.named

-- an end need not be roused that has no duty or was roused
pub end_rests : (must : Bool) (slot : Option StageContinuation) (Duty : Type 0) → (IsTrue must → Duty)
    → (Duty → IsRousedIf slot) → (must ≡ false) ⊎ IsRousedIf slot
end_rests false slot Duty has rouses = inl refl
end_rests true slot Duty has rouses = inr (rouses (has refl))

-- A step found the input not ready: its reader tries again later, and nobody else is roused.
pub again_reads : {I K P : Type 0} (v m n : LinkWorld I K P) (a b c : Context)
    → AreEndsRoused v.driven.chain v.writer v.reader → RetriesRead v m a b
    → ((m.driven.running ≡ false) ⊎ AreEndsRoused m.driven.chain m.writer m.reader → (n ≡ m) × (c ≡ b))
    → m.driven.running ≡ true → IsRousedIf n.reader × RetriesOnce READER a c
again_reads v m n a b c ends h idle runs =
    let roused : IsRousedIf m.reader = h.roused runs in
    let both : AreEndsRoused m.driven.chain m.writer m.reader = record {
      writes = λ must. subst IsRousedIf (sym h.writer) (ends.writes (h.chain must));
      reads = λ must.
          roused;
    } in
    let same = idle (inr both) in (
      subst (λ x. IsRousedIf x.reader) (sym same.0) roused,
      subst (λ x. RetriesOnce READER a x) (sym same.1)
          h.only,
    )

-- So does the writer, where the output was not ready.
pub again_writes : {I K P : Type 0} (v m n : LinkWorld I K P) (a b c : Context)
    → AreEndsRoused v.driven.chain v.writer v.reader → RetriesWrite v m a b
    → ((m.driven.running ≡ false) ⊎ AreEndsRoused m.driven.chain m.writer m.reader → (n ≡ m) × (c ≡ b))
    → m.driven.running ≡ true → IsRousedIf n.writer × RetriesOnce WRITER a c
again_writes v m n a b c ends h idle runs =
    let roused : IsRousedIf m.writer = h.roused runs in
    let both : AreEndsRoused m.driven.chain m.writer m.reader = record {
      writes = λ must. roused;
      reads = λ must. subst IsRousedIf (sym h.reader) (ends.reads (h.chain must));
    } in
    let same = idle (inr both) in (
      subst (λ x. IsRousedIf x.writer) (sym same.0) roused,
      subst (λ x. RetriesOnce WRITER a x) (sym same.1)
          h.only,
    )

-- what follows while it runs
pub while_runs : {A E : Type 0} (b : Bool) → b ≡ true → (E → A) → (b ≡ false) ⊎ E → A
while_runs b runs then (inl stopped) = absurd (let wrong : true ≡ false = sym runs ∙ stopped in cc)
while_runs b runs then (inr e) = then e

-- a continuation is there where it was before, whether it is roused or not
pub none_same : (t u : Option StageContinuation) → unroused u ≡ unroused t → u ≡ None → t ≡ None
none_same None u same is = refl
none_same (Some t) None same is = absurd (let wrong : None ≡ Some (record t { roused = false }) = same in cc)
none_same (Some t) (Some u) same is = absurd (let wrong : Some u ≡ None = is in cc)

-- it is lost where a continuation could not be made
pub begun_made : {I K P : Type 0} (w : LinkWorld I K P) (fault : MakeFault) (loss : Loss) (now : Context)
    → w.driven.running ≡ false → w.driven.lost ≡ Some loss → loss ≡ making_loss fault
    → IsCauseOf ⊤ (making_loss fault) now → HasBegunAlong w now
begun_made w fault loss now stopped lost is cause = inr
    (loss, stopped, lost, subst (λ l. IsCauseOf ⊤ l now) (sym is) cause)

-- Where nobody has a duty, and those who stand at the ends were roused, nothing is done.
pub rests_then : {I K P : Type 0} (role : ℕ) (u v w : LinkWorld I K P) (a b c : Context)
    → u.driven.running ≡ true → (IsOfNobody role u → (v ≡ u) × IsSame a b)
    → ((v.driven.running ≡ false) ⊎ AreEndsRoused v.driven.chain v.writer v.reader → (w ≡ v) × (c ≡ b))
    → HasNoDuty role u → (w ≡ u) × IsSame a c
rests_then role u v w a b c runs work ends (inl stopped) = absurd
    (let wrong : true ≡ false = sym runs ∙ stopped in cc)
rests_then role u v w a b c runs work ends (inr (nobody, roused)) =
    let first = work nobody in
    let second = ends (inr (subst (λ x. AreEndsRoused x.driven.chain x.writer x.reader) (sym first.0) roused))
    in
    (second.0 ∙ first.0, subst (IsSame a) (sym second.1) first.1)

-- A world that is sound and runs has roused its ends.
pub no_duty : {I K P : Type 0} (role : ℕ) (w : LinkWorld I K P)
    → (w.driven.running ≡ true → AreEndsRoused w.driven.chain w.writer w.reader)
    → (w.driven.running ≡ false) ⊎ IsOfNobody role w → HasNoDuty role w
no_duty role w ends (inl stopped) = inl stopped
no_duty role w ends (inr nobody) = by_run w.driven.running refl
  where
    by_run : (b : Bool) → w.driven.running ≡ b → HasNoDuty role w
    by_run false is = inl is
    by_run true is = inr (nobody, ends is)

-- A fall is told as a fault of an event, or as want of memory.
pub falls_told : {I K P : Type 0} (v w : LinkWorld I K P) (a b : Context) → MayBreak v w a b → FallsTold v w
falls_told v w a b (inl (same, kept)) runs stopped = absurd
    (let wrong : true ≡ false = sym runs ∙ sym same ∙ stopped in cc)
falls_told v w a b (inr (fault, down, lost, cause)) runs stopped = (fault, lost)

-- each duty keeps its event where others are set
pub carried_kept : {I K P : Type 0} (a b : Context) (w : LinkWorld I K P) → Keeps a b
    → a.log.state.next ≤ b.log.state.next → IsCarried w a.log.state.pending a.log.state.next a.roles
    → IsCarried w b.log.state.pending b.log.state.next b.roles
carried_kept a b w keeps rises h = record {
  told = λ spent. let used = h.told spent in omega (arith, used, rises);
  joined = λ runs. let j = h.joined runs in record {
    stages = driven_kept 3 a b w.driven.chain w.driven.table.items keeps j.stages;
    of_writer = kept_if a b keeps 1 w.writer j.of_writer;
    of_reader = kept_if a b keeps 2 w.reader j.of_reader;
  };
  ends = h.ends;
  fresh = h.fresh;
  ordered = h.ordered;
  bounded = h.bounded;
}

-- and where a continuation is made
made_each : (a b : Context) → SameEvents a.log.state b.log.state
    → KeepsKeys a.log.state b.log.state a.roles b.roles → (role : ℕ) (ts : List (Option StageContinuation))
    → AreOfStages a.log.state.pending a.roles role ts
    → AreOfStages b.log.state.pending b.roles role ts
made_each a b events keys role [] h = tt
made_each a b events keys role (t ∷ ts) (here, others) =
    (made_if a b events keys role t here, made_each a b events keys (role + 1) ts others)

pub carried_made : {I K P : Type 0} (a b : Context) (w : LinkWorld I K P) → SameEvents a.log.state b.log.state
    → KeepsKeys a.log.state b.log.state a.roles b.roles
    → IsCarried w a.log.state.pending a.log.state.next a.roles
    → IsCarried w b.log.state.pending b.log.state.next b.roles
carried_made a b w events keys h = record {
  told = λ spent. let used = h.told spent in omega (arith, used, events.next);
  joined = λ runs. let j = h.joined runs in record {
    stages = record {
      len = j.stages.len;
      of_stages = made_each a b events keys 3 w.driven.table.items
          j.stages.of_stages;
      cover = j.stages.cover;
    };
    of_writer = made_if a b events keys 1 w.writer j.of_writer;
    of_reader = made_if a b events keys 2 w.reader j.of_reader;
  };
  ends = h.ends;
  fresh = h.fresh;
  ordered = h.ordered;
  bounded = h.bounded;
}
