use Rattle.std.proofs.Common.{Some, false, length, arith, true, refl, sym, ap, subst, inl, inr, ◌∙◌}
use Rattle.ts_transform.specs.Flow.{MustRead, MustWrite}
use Rattle.ts_transform.specs.Carrying.{MovesOn}
use Rattle.ts_transform.proofs.Carrying.{moves_aborted, moves_as, moves_none, moves_taken, moves_wait}
use Rattle.ts_transform.proofs.Joined.{course_aborted, course_same, joined_aborted, joined_as, linked_kept, lose_weaker}
use Rattle.ts_transform.proofs.Living.{all_live, live_taken}
use Rattle.ts_transform.specs.declared.loss.Loss.TheVariants as L
use Rattle.ts_group.specs.declared.action.SetFault.TheVariants as F
use Rattle.ts_transform.proofs.Driving.{may_lose}
use Rattle.ts_transform.proofs.Kept.{acts_adds, keeps_refl}
use Rattle.ts_transform.specs.declared.link_world.TheConstants.{FIRST}
use Rattle.ts_link.specs.declared.clock.TheConstants.{RETRY_AFTER}
use Rattle.ts_transform.proofs.Along.{duty_end, duty_none, duty_stage, rouses_writer}
use Rattle.ts_transform.proofs.link_world.LinkWorld.write.Goals as goal

-- Nothing waits for the output.
pub returns-in_default-clause-moves : goal.returns-in_default-clause-moves
returns-in_default-clause-moves g c =
    let self = c.args.self.now in
    moves_none g.P.Transform.rest g.I.Link.tells g.K.Link.tells (g.I.Link.look self.input)
    (g.K.Link.look self.output) self.driven.chain self.aborted ⊥

-- It took some bytes.
pub returns-in-Took-clause-moves : goal.returns-in-Took-clause-moves
returns-in-Took-clause-moves g c =
    let self = c.args.self.now in
    moves_taken g.P.Transform.rest g.I.Link.tells g.K.Link.tells (g.I.Link.look self.input)
    (g.K.Link.look self.output) (g.K.Link.look c.write.new.self) self.driven.chain
    c.take-told.new.self.chain c.in-Some.block.now
    c.in-Took.count self.aborted c.take-told.ensures.takes c.in-Took.ensures.writes.takes.1
    c.in-Some.ensures.2 (λ tells. (c.in-Took.ensures.writes.told tells).taken)
    (omega (arith, c.in-Took.ensures.writes.calls.faults))

-- It made its caller wait.
pub returns-in-Again-clause-moves : goal.returns-in-Again-clause-moves
returns-in-Again-clause-moves g c =
    let self = c.args.self.now in
    let same = c.rouse_writer.ensures.same in
    let now = c.rouse_writer.new.self in
    moves_as g.P.Transform.rest g.I.Link.tells g.K.Link.tells (g.I.Link.look self.input)
    (g.I.Link.look self.input) (g.I.Link.look now.input) (g.K.Link.look self.output)
    (g.K.Link.look c.write.new.self)
    (g.K.Link.look now.output) self.driven.chain self.driven.chain now.driven.chain self.aborted self.aborted
    now.aborted ⊥ (ap g.I.Link.look same.input) (ap g.K.Link.look same.output) same.chain same.aborted
    (moves_wait g.P.Transform.rest g.I.Link.tells g.K.Link.tells (g.I.Link.look self.input)
    (g.K.Link.look self.output) (g.K.Link.look c.write.new.self) self.driven.chain self.aborted ⊥
    (λ tells. (c.in-Again.ensures.writes.told tells).taken)
    (omega (arith, c.in-Again.ensures.writes.calls.faults)))

pub returns-in-Again-clause-retries : goal.returns-in-Again-clause-retries
returns-in-Again-clause-retries g c = λ named waited.
    let same = c.rouse_writer.ensures.same in
    record {
      chain = λ must. subst MustRead same.chain must;
      reader = c.rouse_writer.ensures.kept;
      roused = λ runs. c.rouse_writer.ensures.roused runs refl;
      only = (c.rouse_writer.ensures.rouses.only named, c.rouse_writer.ensures.within.few);
    }

-- It failed.
pub returns-in-Failed-clause-moves : goal.returns-in-Failed-clause-moves
returns-in-Failed-clause-moves g c =
    let self = c.args.self.now in
    let now = c.abort.new.self in
    moves_as g.P.Transform.rest g.I.Link.tells g.K.Link.tells (g.I.Link.look self.input)
    (g.I.Link.look self.input) (g.I.Link.look now.input) (g.K.Link.look self.output)
    (g.K.Link.look c.write.new.self)
    (g.K.Link.look now.output) self.driven.chain now.driven.chain now.driven.chain self.aborted true
    now.aborted ⊥ (ap g.I.Link.look c.abort.ensures.links.0) (ap g.K.Link.look c.abort.ensures.links.1)
    refl
    c.abort.ensures.aborted
    (moves_aborted g.P.Transform.rest g.I.Link.tells g.K.Link.tells (g.I.Link.look self.input)
    (g.I.Link.look self.input) (g.K.Link.look self.output) (g.K.Link.look c.write.new.self)
    self.driven.chain self.driven.chain
    now.driven.chain self.aborted ⊥ (inr (inr c.in-Failed.ensures.writes.calls.faults)) c.abort.ensures.chain
    (omega arith, omega (arith, c.in-Failed.ensures.writes.calls.faults)))

pub returns-in-Failed-clause-joined : goal.returns-in-Failed-clause-joined
returns-in-Failed-clause-joined g c = λ was runs.
    let self = c.args.self.now in
    let now = c.abort.new.self in
    let cx = c.args.cx.now in
    joined_as now.driven.chain now.driven.chain self.driven.table.items now.driven.table.items self.writer
    now.writer self.reader now.reader cx.log.state.pending cx.roles refl c.abort.ensures.course.table
    c.abort.ensures.ends.0 c.abort.ensures.ends.1
    (joined_aborted self.driven.chain now.driven.chain self.driven.table.items self.writer self.reader
    cx.log.state.pending cx.roles c.abort.ensures.chain (was (sym c.abort.ensures.course.running ∙ runs)))

-- Memory lacked.
pub returns-in-NoMemory-clause-moves : goal.returns-in-NoMemory-clause-moves
returns-in-NoMemory-clause-moves g c =
    let self = c.args.self.now in
    subst (λ p. MovesOn g.P.Transform.rest g.I.Link.tells g.K.Link.tells (g.I.Link.look self.input)
    (g.I.Link.look self.input) (g.K.Link.look self.output) p self.driven.chain self.driven.chain
    self.aborted self.aborted ⊥)
    (sym c.in-NoMemory.ensures.writes.lacks)
    (moves_none g.P.Transform.rest g.I.Link.tells g.K.Link.tells (g.I.Link.look self.input)
    (g.K.Link.look self.output) self.driven.chain self.aborted ⊥)

-- The chain goes on, or is lost for a cause.
pub returns-in_default-clause-course : goal.returns-in_default-clause-course
returns-in_default-clause-course g c = course_same c.args.self.now c.args.cx.now c.requires.turn

pub returns-in-Took-clause-course : goal.returns-in-Took-clause-course
returns-in-Took-clause-course g c =
    let self = c.args.self.now in
    let take = c.take-told in
    let cx = c.args.cx.now in
    let keys = take.ensures.adds.keeps.live in
    record {
      loses = lose_weaker self.driven take.new.self take.new.cx (λ all. all.stages)
          (may_lose take.result self.driven take.new.self cx take.new.cx take.ensures.loses);
      keeps = take.ensures.adds.keeps;
      live = linked_kept self.driven take.new.self self.writer self.writer self.reader self.reader cx
          take.new.cx keys
          (λ all. all_live take.new.self.chain take.new.self.chain self.driven.table.items
          take.new.self.table.items cx take.new.cx keys take.ensures.same.same (λ j going. going)
          (live_taken c.in-Took.count self.driven.chain take.new.self.chain self.driven.table.items cx
          take.ensures.takes.takes all)) refl refl;
      started = λ none. none;
    }

pub returns-in-Again-clause-course : goal.returns-in-Again-clause-course
returns-in-Again-clause-course g c = let course = c.rouse_writer.ensures.course in record
    { loses = course.loses; keeps = course.keeps; live = course.live; started = course.started }

pub returns-in-Failed-clause-course : goal.returns-in-Failed-clause-course
returns-in-Failed-clause-course g c =
    course_aborted c.args.self.now c.abort.new.self c.args.self.now.driven.chain c.args.cx.now c.requires.turn
    c.abort.ensures.chain c.abort.ensures.course.table c.abort.ensures.course.running
    c.abort.ensures.course.lost
    c.abort.ensures.ends.0 c.abort.ensures.ends.1

pub returns-in-NoMemory-clause-course : goal.returns-in-NoMemory-clause-course
returns-in-NoMemory-clause-course g c =
    let self = c.args.self.now in
    let cx = c.args.cx.now in
    let stopped = record self.driven { running = false; lost = Some L.NoMemory } in
    record {
      loses = inr (F.NoMemory, refl, refl, tt);
      keeps = keeps_refl cx c.requires.turn;
      live = linked_kept self.driven stopped self.writer self.writer self.reader self.reader cx cx refl
          (λ all. all) refl refl;
      started = λ none. none;
    }

-- At most one event is set, for a duty.
pub returns-in_default-clause-duty : goal.returns-in_default-clause-duty
returns-in_default-clause-duty g c = duty_none g.P.Transform.pause c.args.self.now c.args.self.now
    c.args.cx.now c.requires.turn

pub returns-in-Took-clause-duty : goal.returns-in-Took-clause-duty
returns-in-Took-clause-duty g c =
    let self = c.args.self.now in
    let take = c.take-told in
    let cx = c.args.cx.now in
    record {
      within = acts_adds 1 1 take.result cx take.new.cx (omega arith) take.ensures.adds;
      only = λ named. duty_stage g.P.Transform.pause take.new.self.chain self.driven.table.items cx
          take.new.cx (take.ensures.only FIRST named.stages);
    }

pub returns-in-Again-clause-duty : goal.returns-in-Again-clause-duty
returns-in-Again-clause-duty g c =
    let rouse = c.rouse_writer in
    let cx = c.args.cx.now in
    let must : MustWrite c.args.self.now.driven.chain = λ none. let low = c.in-Some.ensures.0 in let high =
    c.in-Some.ensures.1 in let empty = ap length none in omega (arith, low, high, empty) in
    record {
      within = rouse.ensures.within;
      only = λ named. duty_end g.P.Transform.pause rouse.new.self.driven.chain
          c.args.self.now.driven.table.items cx rouse.new.cx
          (rouses_writer rouse.new.self.driven.chain RETRY_AFTER cx rouse.new.cx (inr refl)
          (inl (subst MustWrite (sym rouse.ensures.same.chain) must))
          (rouse.ensures.rouses.only named.writer));
    }

pub returns-in-Failed-clause-duty : goal.returns-in-Failed-clause-duty
returns-in-Failed-clause-duty g c = duty_none g.P.Transform.pause c.args.self.now c.abort.new.self
    c.args.cx.now c.requires.turn

pub returns-in-NoMemory-clause-duty : goal.returns-in-NoMemory-clause-duty
returns-in-NoMemory-clause-duty g c =
    let self = c.args.self.now in
    duty_none g.P.Transform.pause self (record self {
      output = c.write.new.self;
      driven = record self.driven { running = false; lost = Some L.NoMemory };
    }) c.args.cx.now c.requires.turn

-- It writes once where it must.
pub returns-in_default-clause-does : goal.returns-in_default-clause-does
returns-in_default-clause-does g c = λ must. absurd (must c.in_default.ensures)

pub returns-in-Took-clause-does : goal.returns-in-Took-clause-does
returns-in-Took-clause-does g c = λ must. inl c.in-Took.ensures.writes.once.writes

pub returns-in-Again-clause-does : goal.returns-in-Again-clause-does
returns-in-Again-clause-does g c = λ must. inl
    (ap (λ x. (g.K.Link.look x).writes) c.rouse_writer.ensures.same.output ∙
    c.in-Again.ensures.writes.once.writes)

pub returns-in-Failed-clause-does : goal.returns-in-Failed-clause-does
returns-in-Failed-clause-does g c = λ must. inl
    (ap (λ x. (g.K.Link.look x).writes) c.abort.ensures.links.1 ∙ c.in-Failed.ensures.writes.once.writes)

pub returns-in-NoMemory-clause-does : goal.returns-in-NoMemory-clause-does
returns-in-NoMemory-clause-does g c = λ must. inr (refl, refl)
