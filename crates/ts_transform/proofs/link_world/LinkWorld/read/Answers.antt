use Rattle.std.proofs.Common.{Some, arith, ◌≡◌, true, false, refl, sym, ap, subst, inl, inr, ◌∙◌}
use Rattle.ts_link.specs.Counts.{Counted}
use Rattle.ts_vconn.specs.MoveAnswers.{EndsPull, pull_failed}
use Rattle.ts_vconn.specs.declared.moves.TheConstants.{MOST_PULLED}
use Rattle.ts_transform.specs.Flow.{MustRead, client_wait, last_wait}
use Rattle.ts_transform.specs.Carrying.{AreLinked, MovesOn}
use Rattle.ts_transform.specs.declared.loss.Loss.TheVariants as L
use Rattle.ts_group.specs.declared.action.SetFault.TheVariants as F
use Rattle.ts_transform.proofs.Carrying.{counted_grows, moves_aborted, moves_as, moves_none, moves_pull, must_still, pulled_none}
use Rattle.ts_transform.proofs.Joined.{aborted_same, course_aborted, course_driven, course_same, joined_aborted, joined_as, joined_driven, linked_kept, lose_weaker, runs_before}
use Rattle.ts_transform.proofs.Living.{live_stages}
use Rattle.ts_transform.proofs.Kept.{acts_adds, keeps_refl}
use Rattle.ts_transform.specs.Driving.{SetsOnly}
use Rattle.ts_transform.specs.Along.{IsForDuty}
use Rattle.ts_transform.specs.declared.link_world.TheConstants.{FIRST}
use Rattle.ts_link.specs.declared.clock.TheConstants.{RETRY_AFTER}
use Rattle.ts_transform.proofs.Along.{duty_end, duty_none, duty_stage, rouses_reader}
use Rattle.ts_transform.proofs.link_world.LinkWorld.read.Goals as goal

-- Nothing more comes to the chain, or there is no room.
pub returns-then-not-must_read-clause-moves : goal.returns-then-not-must_read-clause-moves
returns-then-not-must_read-clause-moves g c =
    let self = c.args.self.now in
    moves_none g.P.Transform.rest g.I.Link.tells g.K.Link.tells (g.I.Link.look self.input)
    (g.K.Link.look self.output) self.driven.chain self.aborted ⊥

-- Bytes came.
pub returns-in-Ok-Some-clause-moves : goal.returns-in-Ok-Some-clause-moves
returns-in-Ok-Some-clause-moves g c =
    let self = c.args.self.now in
    let must : MustRead self.driven.chain = c.must_read.ensures.0 c.if-not-must_read.false in
    let pulled = c.pull.new.self in
    let kept = c.in-Ok-Some.ensures.kept in
    subst (λ x. MovesOn g.P.Transform.rest g.I.Link.tells g.K.Link.tells (g.I.Link.look self.input)
    (g.I.Link.look c.pull.new.link) (g.K.Link.look self.output) (g.K.Link.look self.output)
    self.driven.chain x
    self.aborted self.aborted ⊥) (sym c.rouse_first-told.ensures.chain)
    (moves_pull g.P.Transform.rest g.I.Link.tells g.K.Link.tells (g.I.Link.look self.input)
    (g.I.Link.look c.pull.new.link) (g.K.Link.look self.output) self.driven.chain pulled
    c.in-Ok-Some.field-0 self.aborted
    c.in-Ok-Some.ensures.pulled kept.0 must
    (λ given. absurd (let wrong : false ≡ true = sym must.0 ∙ sym kept.1 ∙ given in cc)))

pub returns-in-Ok-Some-clause-joined : goal.returns-in-Ok-Some-clause-joined
returns-in-Ok-Some-clause-joined g c = λ was runs.
    let self = c.args.self.now in
    let rouse = c.rouse_first-told in
    joined_driven self.driven.chain rouse.new.self.chain self.driven.table.items rouse.new.self.table.items
    self.writer self.reader c.args.cx.now rouse.new.cx rouse.ensures.adds.keeps
    (λ h. rouse.ensures.driven 3 self.driven.chain (sym c.in-Ok-Some.ensures.kept.0) (λ r. h) runs)
    (was (runs_before rouse.result (record self.driven { chain = c.pull.new.self }) rouse.new.self
    c.args.cx.now rouse.new.cx rouse.ensures.loses runs))

-- The end came.
pub returns-in-Ok-End-clause-moves : goal.returns-in-Ok-End-clause-moves
returns-in-Ok-End-clause-moves g c =
    let self = c.args.self.now in
    let must : MustRead self.driven.chain = c.must_read.ensures.0 c.if-not-must_read.false in
    let pulled = c.pull.new.self in
    subst (λ x. MovesOn g.P.Transform.rest g.I.Link.tells g.K.Link.tells (g.I.Link.look self.input)
    (g.I.Link.look c.pull.new.link) (g.K.Link.look self.output) (g.K.Link.look self.output)
    self.driven.chain x
    self.aborted self.aborted ⊥) (sym c.give_end-told.ensures.chain)
    (moves_pull g.P.Transform.rest g.I.Link.tells g.K.Link.tells (g.I.Link.look self.input)
    (g.I.Link.look c.pull.new.link) (g.K.Link.look self.output) self.driven.chain
    (record pulled { given = true }) c.in-Ok-End.field-0
    self.aborted c.in-Ok-End.ensures.pulled c.in-Ok-End.ensures.kept.0 must
    (λ given tells. subst (λ a. EndsPull a (g.I.Link.look c.pull.new.link).left) c.in-Ok-End.field-0-is
    (c.in-Ok-End.ensures.pulled.pulls.ends tells)))

-- The input made its caller wait.
pub returns-in-Ok-Again-clause-moves : goal.returns-in-Ok-Again-clause-moves
returns-in-Ok-Again-clause-moves g c =
    let self = c.args.self.now in
    let must : MustRead self.driven.chain = c.must_read.ensures.0 c.if-not-must_read.false in
    let same = c.rouse_reader.ensures.same in
    let now = c.rouse_reader.new.self in
    let kept = c.in-Ok-Again.ensures.kept in
    moves_as g.P.Transform.rest g.I.Link.tells g.K.Link.tells (g.I.Link.look self.input)
    (g.I.Link.look c.pull.new.link) (g.I.Link.look now.input) (g.K.Link.look self.output)
    (g.K.Link.look self.output)
    (g.K.Link.look now.output) self.driven.chain c.pull.new.self now.driven.chain self.aborted self.aborted
    now.aborted ⊥ (ap g.I.Link.look same.input) (ap g.K.Link.look same.output) same.chain same.aborted
    (moves_pull g.P.Transform.rest g.I.Link.tells g.K.Link.tells (g.I.Link.look self.input)
    (g.I.Link.look c.pull.new.link) (g.K.Link.look self.output) self.driven.chain c.pull.new.self
    c.in-Ok-Again.field-0 self.aborted
    c.in-Ok-Again.ensures.pulled kept.0 must
    (λ given. absurd (let wrong : false ≡ true = sym must.0 ∙ sym kept.1 ∙ given in cc)))

pub returns-in-Ok-Again-clause-retries : goal.returns-in-Ok-Again-clause-retries
returns-in-Ok-Again-clause-retries g c = λ named waited.
    let self = c.args.self.now in
    let same = c.rouse_reader.ensures.same in
    let kept = c.in-Ok-Again.ensures.kept in
    let first : c.pull.new.self.first ≡ self.driven.chain.first =
    pulled_none g.I.Link.tells (g.I.Link.look self.input) (g.I.Link.look c.pull.new.link)
    self.driven.chain.first c.pull.new.self.first c.in-Ok-Again.field-0 MOST_PULLED
    c.in-Ok-Again.field-0-is c.in-Ok-Again.ensures.pulled in
    let wait : client_wait c.rouse_reader.new.self.driven.chain ≡ client_wait self.driven.chain =
    ap (λ x. client_wait x) same.chain ∙ ap (λ l. last_wait l c.pull.new.self.stages) first ∙ ap
    (λ ss. last_wait self.driven.chain.first ss) kept.0 in
    record {
      chain = λ some none. some (wait ∙ none);
      writer = c.rouse_reader.ensures.kept;
      roused = λ runs. c.rouse_reader.ensures.roused runs refl;
      only = (c.rouse_reader.ensures.rouses.only named, c.rouse_reader.ensures.within.few);
    }

-- It failed.
pub returns-in-Ok-Failed-clause-moves : goal.returns-in-Ok-Failed-clause-moves
returns-in-Ok-Failed-clause-moves g c =
    let self = c.args.self.now in
    let now = c.abort.new.self in
    let old = g.I.Link.look self.input in
    let pulled = g.I.Link.look c.pull.new.link in
    moves_as g.P.Transform.rest g.I.Link.tells g.K.Link.tells old pulled (g.I.Link.look now.input)
    (g.K.Link.look self.output) (g.K.Link.look self.output)
    (g.K.Link.look now.output) self.driven.chain now.driven.chain now.driven.chain self.aborted true
    now.aborted ⊥ (ap g.I.Link.look c.abort.ensures.links.0) (ap g.K.Link.look c.abort.ensures.links.1)
    refl
    c.abort.ensures.aborted
    (moves_aborted g.P.Transform.rest g.I.Link.tells g.K.Link.tells old pulled (g.K.Link.look self.output)
    (g.K.Link.look self.output) self.driven.chain c.pull.new.self
    now.driven.chain self.aborted ⊥ (inr (inl (subst (λ a. Counted (pull_failed a) old.faults pulled.faults)
    c.in-Ok-Failed.field-0-is c.in-Ok-Failed.ensures.pulled.pulls.calls.faults))) c.abort.ensures.chain
    (counted_grows _ old.faults pulled.faults c.in-Ok-Failed.ensures.pulled.pulls.calls.faults, omega arith))

pub returns-in-Ok-Failed-clause-joined : goal.returns-in-Ok-Failed-clause-joined
returns-in-Ok-Failed-clause-joined g c = λ was runs.
    let self = c.args.self.now in
    let now = c.abort.new.self in
    let cx = c.args.cx.now in
    joined_as now.driven.chain now.driven.chain self.driven.table.items now.driven.table.items self.writer
    now.writer self.reader now.reader cx.log.state.pending cx.roles refl c.abort.ensures.course.table
    c.abort.ensures.ends.0 c.abort.ensures.ends.1
    (joined_aborted self.driven.chain now.driven.chain self.driven.table.items self.writer self.reader
    cx.log.state.pending cx.roles
    (c.abort.ensures.chain ∙ aborted_same self.driven.chain c.pull.new.self c.in-Ok-Failed.ensures.kept.0)
    (was (sym c.abort.ensures.course.running ∙ runs)))

-- Memory lacked.
pub returns-in-Err-clause-moves : goal.returns-in-Err-clause-moves
returns-in-Err-clause-moves g c =
    let self = c.args.self.now in
    let out = g.K.Link.look self.output in
    let input = g.I.Link.look self.input in
    moves_as g.P.Transform.rest g.I.Link.tells g.K.Link.tells input input (g.I.Link.look c.pull.new.link) out
    out out self.driven.chain self.driven.chain c.pull.new.self self.aborted self.aborted self.aborted ⊥
    (ap g.I.Link.look c.in-Err.ensures.err.1) refl c.in-Err.ensures.err.0 refl
    (moves_none g.P.Transform.rest g.I.Link.tells g.K.Link.tells input out self.driven.chain self.aborted ⊥)

-- The chain goes on, or is lost for a cause.
pub returns-then-not-must_read-clause-course : goal.returns-then-not-must_read-clause-course
returns-then-not-must_read-clause-course g c = course_same c.args.self.now c.args.cx.now c.requires.turn

pub returns-in-Ok-Some-clause-course : goal.returns-in-Ok-Some-clause-course
returns-in-Ok-Some-clause-course g c =
    let self = c.args.self.now in
    let rouse = c.rouse_first-told in
    let pulled = c.pull.new.self in
    let cx = c.args.cx.now in
    course_driven self (record self { input = c.pull.new.link; driven = rouse.new.self }) pulled cx
    rouse.new.cx rouse.result refl refl c.in-Ok-Some.ensures.kept.0
    (ap (λ x. x.stages) rouse.ensures.chain) rouse.ensures.adds.keeps rouse.ensures.same.same
    rouse.ensures.loses

pub returns-in-Ok-End-clause-course : goal.returns-in-Ok-End-clause-course
returns-in-Ok-End-clause-course g c =
    let self = c.args.self.now in
    let end = c.give_end-told in
    let pulled = c.pull.new.self in
    let cx = c.args.cx.now in
    course_driven self (record self { input = c.pull.new.link; driven = end.new.self }) pulled cx end.new.cx
    end.result refl refl c.in-Ok-End.ensures.kept.0
    (ap (λ x. x.stages) end.ensures.chain) end.ensures.adds.keeps end.ensures.same.same end.ensures.loses

pub returns-in-Ok-Again-clause-course : goal.returns-in-Ok-Again-clause-course
returns-in-Ok-Again-clause-course g c =
    let self = c.args.self.now in
    let pulled = c.pull.new.self in
    let cx = c.args.cx.now in
    let after = record self { input = c.pull.new.link; driven = record self.driven { chain = pulled } } in
    let course = c.rouse_reader.ensures.course in
    let found : AreLinked self cx → AreLinked after cx =
    linked_kept self.driven after.driven self.writer self.writer self.reader self.reader cx cx refl
    (live_stages self.driven.chain pulled self.driven.table.items cx c.in-Ok-Again.ensures.kept.0) refl
    refl in
    record {
      loses = lose_weaker self.driven c.rouse_reader.new.self.driven c.rouse_reader.new.cx found course.loses;
      keeps = course.keeps;
      live = λ all. course.live (found all);
      started = course.started;
    }

pub returns-in-Ok-Failed-clause-course : goal.returns-in-Ok-Failed-clause-course
returns-in-Ok-Failed-clause-course g c =
    course_aborted c.args.self.now c.abort.new.self c.pull.new.self c.args.cx.now c.requires.turn
    c.abort.ensures.chain c.abort.ensures.course.table c.abort.ensures.course.running
    c.abort.ensures.course.lost
    c.abort.ensures.ends.0 c.abort.ensures.ends.1

pub returns-in-Err-clause-course : goal.returns-in-Err-clause-course
returns-in-Err-clause-course g c =
    let self = c.args.self.now in
    let cx = c.args.cx.now in
    let stopped = record self.driven { chain = c.pull.new.self; running = false; lost = Some L.NoMemory } in
    record {
      loses = inr (F.NoMemory, refl, refl, tt);
      keeps = keeps_refl cx c.requires.turn;
      live = linked_kept self.driven stopped self.writer self.writer self.reader self.reader cx cx refl
          (live_stages self.driven.chain c.pull.new.self self.driven.table.items cx
          (ap (λ x. x.stages) c.in-Err.ensures.err.0)) refl refl;
      started = λ none. none;
    }

-- At most one event is set, for a duty.
pub returns-then-not-must_read-clause-duty : goal.returns-then-not-must_read-clause-duty
returns-then-not-must_read-clause-duty g c = duty_none g.P.Transform.pause c.args.self.now c.args.self.now
    c.args.cx.now c.requires.turn

pub returns-in-Ok-Some-clause-duty : goal.returns-in-Ok-Some-clause-duty
returns-in-Ok-Some-clause-duty g c =
    let self = c.args.self.now in
    let rouse = c.rouse_first-told in
    let cx = c.args.cx.now in
    record {
      within = acts_adds 1 1 rouse.result cx rouse.new.cx (omega arith) rouse.ensures.adds;
      only = λ named. subst (λ x. SetsOnly (IsForDuty g.P.Transform.pause x self.driven.table.items cx.moment
          cx.roles) cx rouse.new.cx) (sym rouse.ensures.chain)
          (duty_stage g.P.Transform.pause c.pull.new.self self.driven.table.items cx rouse.new.cx
          (rouse.ensures.only FIRST named.stages));
    }

pub returns-in-Ok-End-clause-duty : goal.returns-in-Ok-End-clause-duty
returns-in-Ok-End-clause-duty g c =
    let self = c.args.self.now in
    let end = c.give_end-told in
    let cx = c.args.cx.now in
    record {
      within = acts_adds 1 1 end.result cx end.new.cx (omega arith) end.ensures.adds;
      only = λ named. duty_stage g.P.Transform.pause end.new.self.chain self.driven.table.items cx end.new.cx
          (end.ensures.only FIRST named.stages);
    }

pub returns-in-Ok-Again-clause-duty : goal.returns-in-Ok-Again-clause-duty
returns-in-Ok-Again-clause-duty g c =
    let rouse = c.rouse_reader in
    let cx = c.args.cx.now in
    let self = c.args.self.now in
    let before : MustRead self.driven.chain = c.must_read.ensures.0 c.if-not-must_read.false in
    let kept = c.in-Ok-Again.ensures.kept in
    let first : c.pull.new.self.first ≡ self.driven.chain.first =
    pulled_none g.I.Link.tells (g.I.Link.look self.input) (g.I.Link.look c.pull.new.link)
    self.driven.chain.first c.pull.new.self.first c.in-Ok-Again.field-0 MOST_PULLED
    c.in-Ok-Again.field-0-is c.in-Ok-Again.ensures.pulled in
    let must : MustRead c.pull.new.self =
    must_still self.driven.chain c.pull.new.self kept.1 kept.0 first before in
    record {
      within = rouse.ensures.within;
      only = λ named. duty_end g.P.Transform.pause rouse.new.self.driven.chain
          c.args.self.now.driven.table.items cx rouse.new.cx
          (rouses_reader rouse.new.self.driven.chain RETRY_AFTER cx rouse.new.cx (inr refl)
          (inl (subst MustRead (sym rouse.ensures.same.chain) must))
          (rouse.ensures.rouses.only named.reader));
    }

pub returns-in-Ok-Failed-clause-duty : goal.returns-in-Ok-Failed-clause-duty
returns-in-Ok-Failed-clause-duty g c = duty_none g.P.Transform.pause c.args.self.now c.abort.new.self
    c.args.cx.now c.requires.turn

pub returns-in-Err-clause-duty : goal.returns-in-Err-clause-duty
returns-in-Err-clause-duty g c =
    let self = c.args.self.now in
    duty_none g.P.Transform.pause self (record self {
      input = c.pull.new.link;
      driven = record self.driven
          { chain = c.pull.new.self; running = false; lost = Some L.NoMemory };
    }) c.args.cx.now c.requires.turn

-- It reads once where it must.
pub returns-then-not-must_read-clause-does : goal.returns-then-not-must_read-clause-does
returns-then-not-must_read-clause-does g c = λ must. absurd
    (let wrong : false ≡ true = sym c.if-not-must_read.true ∙ c.must_read.ensures.1 must in cc)

pub returns-in-Ok-Some-clause-does : goal.returns-in-Ok-Some-clause-does
returns-in-Ok-Some-clause-does g c = λ must. inl c.in-Ok-Some.ensures.pulled.pulls.once.reads

pub returns-in-Ok-End-clause-does : goal.returns-in-Ok-End-clause-does
returns-in-Ok-End-clause-does g c = λ must. inl c.in-Ok-End.ensures.pulled.pulls.once.reads

pub returns-in-Ok-Again-clause-does : goal.returns-in-Ok-Again-clause-does
returns-in-Ok-Again-clause-does g c = λ must. inl
    (ap (λ x. (g.I.Link.look x).reads) c.rouse_reader.ensures.same.input ∙
    c.in-Ok-Again.ensures.pulled.pulls.once.reads)

pub returns-in-Ok-Failed-clause-does : goal.returns-in-Ok-Failed-clause-does
returns-in-Ok-Failed-clause-does g c = λ must. inl
    (ap (λ x. (g.I.Link.look x).reads) c.abort.ensures.links.0 ∙
    c.in-Ok-Failed.ensures.pulled.pulls.once.reads)

pub returns-in-Err-clause-does : goal.returns-in-Err-clause-does
returns-in-Err-clause-does g c = λ must. inr (refl, refl)
