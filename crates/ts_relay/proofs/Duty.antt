-- The duties of a body: what a stage's event keeps, who is roused, and that none is left where nothing is
-- pending.
use Rattle.std.proofs.Common.{◌≡◌, ◌≤◌, ◌⊎◌, inl, inr, List, [], ◌∷◌, Bool, true, false, Option, None, Some}
use Rattle.std.proofs.Common.{Result, Ok, Err, refl, sym, subst, ◌∙◌, arith}
use Rattle.std.specs.Prelude.{◌≢◌, OnOk, is_some, ⊤}
use Rattle.std.proofs.lemmas.Bool.{false≢true}
use Rattle.ts_config.specs.declared.setup.Setup.{Setup}
use Rattle.ts_journal.specs.declared.entry.TheConstants.{GREATEST}
use Rattle.ts_lists.proofs.Sizes.{empty_unless}
use Rattle.ts_group.specs.declared.action.Named.{Named}
use Rattle.ts_group.specs.declared.action.SetFault.{SetFault}
use Rattle.ts_group.specs.declared.action.SetFault.TheVariants as F
use Rattle.ts_group.specs.Context.{Context, IsOrderly}
use Rattle.ts_group.proofs.Grows.{grows_trans}
use Rattle.ts_transform.specs.Flow.{ChainState, EndsInOrder, IsFinished, MustWrite, Rests, client_wait}
use Rattle.ts_transform.specs.Carrying.{IsJoined}
use Rattle.ts_transform.specs.declared.transform.Transform as transform
use Rattle.ts_transform.specs.Acting.{StillGives}
use Rattle.ts_transform.specs.Driving.{AddsEvents, IsRousedIf, KeepsStage}
use Rattle.ts_transform.specs.declared.continuation.StageContinuation.{StageContinuation}
use Rattle.ts_transform.specs.Seats.{KeepsSeated}
use Rattle.ts_transform.proofs.Joined.{all_carried}
use Rattle.ts_transform.proofs.Taking.{none-roused}
pub use Rattle.ts_transform.proofs.Joined.{none_pending}
use Rattle.ts_transform.proofs.Seating.{seated_behind, seated_front, seated_then}
use Rattle.ts_transform.proofs.Kept.{few_trans, kept_if, keeps_trans}
use Rattle.ts_wire.specs.Place.{Place}
use Rattle.ts_block.specs.Block.{body_lines}
use Rattle.ts_phases.specs.View.{View}
use Rattle.ts_relay.specs.Feeding.{OnGoes}
use Rattle.ts_relay.specs.Relaying.{GivesEnd, RelaysBody, step_after}
use Rattle.ts_relay.specs.Duties.{AreBodyEndsRoused, IsBodyJoined, MustEnd, MustSend, MustWriteOut}
use Rattle.ts_relay.specs.Duties.{RousesBoth, RousesOne, TellsDuty}
use Rattle.ts_relay.specs.declared.last_writes.BodyStep.{BodyStep}
use Rattle.ts_relay.specs.declared.last_writes.BodyStep.TheVariants as S
use Rattle.ts_relay.specs.declared.relay.TheConstants.{MAIN}
use Rattle.ts_relay.specs.declared.relay.Relay.{Relay}
use Rattle.ts_relay.specs.declared.relay.Short.{Short}
use Rattle.ts_relay.proofs.Chaining.{grows_next}
use Rattle.ts_passing.proofs.Early.{sends_kept}

-- ---- a stage's event

-- what was sent, and what the chain still gives, is as it was
pub stage_keeps : {P L : Type 0} (setup : Setup) (refuses : Type 0) (stage : transform.Ghosts P L) (v : View)
    (c d : ChainState P) (place : Place) (short : Option Short)
    (ts us : List (Option StageContinuation)) (a b : Context)
    → StillGives stage.rest stage.soon c d ts us a b
    → RelaysBody setup refuses stage v c place short → RelaysBody setup refuses stage v d place short
stage_keeps setup refuses stage v c d place short ts us a b gives r = record {
  q = r.q;
  h = r.h;
  read = r.read;
  reads = r.reads;
  gives_end = subst (λ (g : Bool). GivesEnd setup refuses r.q r.h v.origin place g short) (sym gives.given)
      r.gives_end;
  sends = record {
    count = r.sends.count;
    some = r.sends.some;
    mode = r.sends.mode;
    body = r.sends.body;
    text = r.sends.text;
    sends = sends_kept stage.rest stage.soon (body_lines setup r.q.head r.h) r.read r.sends.body c d
        gives.flows
        gives.given r.sends.sends;
  };
}

-- ---- the ends are roused

rouses_by : (r : Result ⊤ SetFault) (must : Bool) (Live : Type 0) (t u : Option StageContinuation)
    (a b : Context) → AddsEvents 1 Live r a b
    → (must ≡ true → OnOk r (IsRousedIf u)) → OnGoes (step_after r) ((must ≡ true → IsRousedIf u)
    ⊎ (GREATEST ≤ b.log.state.next))
rouses_by (Ok x) must Live t u a b adds roused = inl roused
rouses_by (Err F.Spent) must Live t u a b adds roused = inr adds.cause
rouses_by (Err F.NoMemory) must Live t u a b adds roused = tt
rouses_by (Err F.Dead) must Live t u a b adds roused = tt

-- one that need not work, or was roused, is let be
rests_by : {X Y : Type 0} (must : Bool) → ((must ≡ false) ⊎ X → Y) → (must ≡ true → X) → Y
rests_by true rests roused = rests (inr (roused refl))
rests_by false rests roused = rests (inl refl)

pub rouses_one : (r : Result ⊤ SetFault) (must : Bool) (Live : Type 0) (t u : Option StageContinuation)
    (a b : Context) (step : BodyStep) → step ≡ step_after r
    → AddsEvents 1 Live r a b → KeepsStage a b t u → KeepsSeated (t ∷ []) (u ∷ []) a b
    → (must ≡ true → OnOk r (IsRousedIf u)) → ((must ≡ false) ⊎ IsRousedIf t → b ≡ a)
    → RousesOne step must t u a b
rouses_one r must Live t u a b step is adds stage seated roused rests = record {
  adds = record { grows = adds.grows; keeps = adds.keeps; few = adds.few };
  stage = stage;
  seated = seated;
  roused = subst (λ (s : BodyStep). OnGoes s ((must ≡ true → IsRousedIf u) ⊎ (GREATEST ≤ b.log.state.next)))
      (sym is) (rouses_by r must Live t u a b adds roused);
  rests = rests_by must rests;
}

both_roused : (step : BodyStep) (writes reads : Bool) (u s : Option StageContinuation) (b c : Context)
    → b.log.state.next ≤ c.log.state.next
    → (writes ≡ true → IsRousedIf u) ⊎ (GREATEST ≤ b.log.state.next)
    → OnGoes step ((reads ≡ true → IsRousedIf s) ⊎ (GREATEST ≤ c.log.state.next))
    → OnGoes step (((writes ≡ true → IsRousedIf u) × (reads ≡ true → IsRousedIf s))
    ⊎ (GREATEST ≤ c.log.state.next))
both_roused S.Goes writes reads u s b c later (inl main) (inl reader) = inl (main, reader)
both_roused S.Goes writes reads u s b c later (inl main) (inr spent) = inr spent
both_roused S.Goes writes reads u s b c later (inr spent) next = inr (omega (arith, spent, later))
both_roused S.Lacks writes reads u s b c later main next = tt
both_roused _ writes reads u s b c later main next = absurd next

pub rouses_both : (step : BodyStep) (writes reads : Bool) (t u r s : Option StageContinuation)
    (a b c : Context) → IsOrderly b → RousesOne S.Goes writes t u a b
    → RousesOne step reads r s b c → RousesBoth step writes reads t u r s a c
rouses_both step writes reads t u r s a b c orderly main reader = record {
  adds = record {
    grows = grows_trans main.adds.grows reader.adds.grows;
    keeps = keeps_trans main.adds.keeps reader.adds.keeps;
    few = few_trans 1 1 main.adds.few reader.adds.few;
  };
  main = λ role h. kept_if b c reader.adds.keeps role u (main.stage.of_stage role h);
  reader = λ role h. reader.stage.of_stage role (kept_if a b main.adds.keeps role r h);
  same = (main.stage.same, reader.stage.same);
  seated = λ ts. seated_then (t ∷ r ∷ ts) (u ∷ r ∷ ts) (u ∷ s ∷ ts) a b c (seated_front t u (r ∷ ts) a b
      main.seated)
      (seated_behind u (r ∷ ts) (s ∷ ts) b c (seated_front r s ts b c reader.seated));
  roused = both_roused step writes reads u s b c (grows_next b c orderly reader.adds.grows) main.roused
      reader.roused;
  rests = λ of_main of_reader. reader.rests of_reader ∙ main.rests of_main;
}

-- memory lacked for the first
pub rouses_lacks : (step : BodyStep) (writes reads : Bool) (t u r : Option StageContinuation) (a b : Context)
    → RousesOne step writes t u a b → RousesBoth S.Lacks writes reads t u r r a b
rouses_lacks step writes reads t u r a b main = record {
  adds = record {
    grows = main.adds.grows;
    keeps = main.adds.keeps;
    few = record {
      next = omega (
        arith,
        main.adds.few.next,
      );
      pending = omega (arith, main.adds.few.pending);
    };
  };
  main = main.stage.of_stage;
  reader = λ role h. kept_if a b main.adds.keeps role r h;
  same = (main.stage.same, refl);
  seated = λ ts. seated_front t u (r ∷ ts) a b main.seated;
  roused = tt;
  rests = λ of_main of_reader. main.rests of_main;
}

-- ---- what the first continuation must do

stops_there : (short : Option Short) → is_some short ≡ true → short ≢ None
stops_there None is none = false≢true is
stops_there (Some why) is none = (let wrong : ◌≡◌ {A = Option Short} (Some why) None = none in cc)

-- where nothing must be written and the chain has not finished, it must work where a body that stops short
-- rests
pub tells_short : {P : Type 0} (rests : Bool) (v : View) (r : Relay P) → (MustWriteOut v r → ⊥)
    → (MustWrite r.driven.chain → ⊥) → (IsFinished r.driven.chain → ⊥) → is_some r.short ≡ true
    → ((rests ≡ true → Rests r.driven.chain) × (Rests r.driven.chain → rests ≡ true)) → TellsDuty rests v r
tells_short {P} rests v r held none more stops both = record {
  must_send = λ so. inr (inr (inr (stops_there r.short stops, both.0 so)));
  only = by_must;
}
  where
    by_must : MustSend v r → rests ≡ true
    by_must (inl some) = absurd (held some)
    by_must (inr (inl some)) = absurd (none some)
    by_must (inr (inr (inl all))) = absurd (more all)
    by_must (inr (inr (inr (stops, resting)))) = both.1 resting

goes_on_there : (short : Option Short) → is_some short ≡ false → (short ≢ None) → ⊥
goes_on_there None is stops = stops refl
goes_on_there (Some why) is stops = false≢true (sym is)

-- and where more of the body comes, it has nothing to do
pub tells_none : {P : Type 0} (stops : Bool) (v : View) (r : Relay P) → (MustWriteOut v r → ⊥)
    → (MustWrite r.driven.chain → ⊥) → (IsFinished r.driven.chain → ⊥) → is_some r.short ≡ stops
    → stops ≡ false → TellsDuty stops v r
tells_none {P} stops v r held none more is goes = record {
  must_send = λ so. absurd (false≢true (sym goes ∙ so));
  only = by_must;
}
  where
    by_must : MustSend v r → stops ≡ true
    by_must (inl some) = absurd (held some)
    by_must (inr (inl some)) = absurd (none some)
    by_must (inr (inr (inl all))) = absurd (more all)
    by_must (inr (inr (inr (short, resting)))) = absurd (goes_on_there r.short (is ∙ goes) short)

-- ---- no wake is lost

-- with nothing pending no stage must work, and nothing waits for the client
none_rests : {P : Type 0} (v : View) (main : Option StageContinuation) (r : Relay P) (roles : List Named)
    → IsJoined r.driven.chain r.driven.table.items main r.reader [] roles → AreBodyEndsRoused v main r
    → Rests r.driven.chain
none_rests v main r roles joined ends = record {
  none = λ j must. none-roused roles 3 r.driven.table.items j joined.stages.of_stages (joined.stages.cover j
      must);
  wait = empty_unless (client_wait r.driven.chain) (λ some. none_pending roles MAIN main joined.of_writer
      (ends.writes (inr (inl some))));
}

-- with nothing pending no body is passed on: its chain would have given all, or rest where no more of it
-- comes,
-- and the first continuation would be roused
pub no_lost_wake : {P : Type 0} (v : View) (main : Option StageContinuation) (r : Relay P)
    (roles : List Named) → IsBodyJoined main r [] roles → r.driven.running ≡ true
    → AreBodyEndsRoused v main r → EndsInOrder true r.driven.chain.stages → ⊥
no_lost_wake v main r roles joined runs ends ordered = by_short r.short refl
  where
    roused : MustEnd r → ⊥
    roused must = none_pending roles MAIN main (joined runs).of_writer (ends.writes (inr (inr must)))

    by_short : (short : Option Short) → r.short ≡ short → ⊥
    by_short None comes =
        roused (inl (all_carried r.driven.chain r.driven.table.items main r.reader roles (joined runs)
        (record { writes = λ some. ends.writes (inr (inl some)); reads = λ must. ends.reads (comes, must) })
        ordered).0)
    by_short (Some end) stops =
        roused (inr (
          λ none. (let wrong : ◌≡◌ {A = Option Short} (Some end) None = sym stops ∙ none in cc),
          none_rests v main r roles (joined runs) ends,
        ))
