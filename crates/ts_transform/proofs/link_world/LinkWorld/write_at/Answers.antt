use Rattle.std.proofs.Common.{◌≡◌, inl, inr, true, false, refl, ap, sym, subst, ◌∙◌}
use Rattle.ts_transform.specs.Flow.{MustWrite}
use Rattle.ts_transform.specs.Along.{EndRests, LeavesDuties}
use Rattle.ts_transform.specs.Carrying.{AreLinked, IsJoined}
use Rattle.ts_transform.specs.Driving.{IsNamedIf, unroused, works_at}
use Rattle.ts_transform.proofs.Carrying.{moves_none}
use Rattle.ts_transform.proofs.Joined.{course_same, joined_quiet, linked_kept, lose_weaker, none_same, joined_writer, named_unroused}
use Rattle.ts_transform.proofs.Along.{duty_none}
use Rattle.ts_transform.proofs.Told.{unroused_twice}
use Rattle.ts_transform.proofs.link_world.LinkWorld.write_at.Goals as goal

pub returns-then-works-clause-joined : goal.returns-then-works-clause-joined
returns-then-works-clause-joined g c = λ before handled was.
    let self = c.args.self.now in
    let cx = c.args.cx.now in
    c.write.ensures.joined
    (λ runs. subst (λ x. IsJoined self.driven.chain self.driven.table.items x self.reader cx.log.state.pending
    cx.roles) (sym c.unrouse.ensures)
    (joined_writer self.driven.chain self.driven.table.items self.writer self.reader before
    cx.log.state.pending cx.roles c.args.event handled (was runs)))

pub returns-else-works-clause-moves : goal.returns-else-works-clause-moves
returns-else-works-clause-moves g c =
    let self = c.args.self.now in
    moves_none g.P.Transform.rest g.I.Link.tells g.K.Link.tells (g.I.Link.look self.input)
    (g.K.Link.look self.output) self.driven.chain self.aborted ⊥

pub returns-else-works-clause-joined : goal.returns-else-works-clause-joined
returns-else-works-clause-joined g c = λ before handled was runs.
    let self = c.args.self.now in
    let cx = c.args.cx.now in
    joined_quiet self.driven.chain self.driven.table.items self.writer self.reader before cx.log.state.pending
    cx.roles 1 c.args.event handled (sym c.works.ensures ∙ c.if-works.false) (was runs)

pub returns-then-works-clause-retries : goal.returns-then-works-clause-retries
returns-then-works-clause-retries g c = λ named waited.
    let self = c.args.self.now in
    let roles = c.args.cx.now.roles in
    let h = c.write.ensures.retries (subst (IsNamedIf roles 1) (sym c.unrouse.ensures)
    (named_unroused roles 1 self.writer named)) waited in
    record { chain = h.chain; reader = h.reader; roused = h.roused; only = h.only }

pub returns-then-works-clause-course : goal.returns-then-works-clause-course
returns-then-works-clause-course g c =
    let self = c.args.self.now in
    let cx = c.args.cx.now in
    let course = c.write.ensures.course in
    let found : AreLinked self cx → AreLinked (record self { writer = c.unrouse.new.slot }) cx =
    linked_kept self.driven self.driven self.writer c.unrouse.new.slot self.reader self.reader cx cx refl
    (λ all. all) (ap unroused c.unrouse.ensures ∙ unroused_twice self.writer) refl in
    record {
      loses = lose_weaker self.driven c.write.new.self.driven c.write.new.cx found course.loses;
      keeps = course.keeps;
      live = λ all. course.live (found all);
      started = λ none. none_same self.writer c.unrouse.new.slot
          (ap unroused c.unrouse.ensures ∙ unroused_twice self.writer) (course.started none);
    }

pub returns-else-works-clause-course : goal.returns-else-works-clause-course
returns-else-works-clause-course g c = course_same c.args.self.now c.args.cx.now c.requires.turn

pub returns-then-works-clause-duty : goal.returns-then-works-clause-duty
returns-then-works-clause-duty g c =
    let duty = c.write.ensures.duty in
    record {
      within = duty.within;
      only = λ named. duty.only
          (record {
            stages = named.stages;
            reader = named.reader;
            writer = subst
                (IsNamedIf c.args.cx.now.roles 1) (sym c.unrouse.ensures)
                (named_unroused c.args.cx.now.roles 1 c.args.self.now.writer named.writer);
          });
    }

pub returns-else-works-clause-duty : goal.returns-else-works-clause-duty
returns-else-works-clause-duty g c = duty_none g.P.Transform.pause c.args.self.now c.args.self.now
    c.args.cx.now c.requires.turn

-- It does its duty where it works, and else nothing.
pub returns-then-works-clause-duties : goal.returns-then-works-clause-duties
returns-then-works-clause-duties g c = record {
  does = λ works. c.write.ensures.does;
  rests = leaves;
  sure = λ quiet. absurd (works_still quiet);
}
  where
    works_still : works_at c.args.event ≡ false → ⊥
    works_still quiet = let wrong : true ≡ false = sym c.if-works.true ∙ c.works.ensures ∙ quiet in cc

    leaves : EndRests c.args.event (MustWrite c.args.self.now.driven.chain)
        → LeavesDuties c.args.self.now c.write.new.self
    leaves (inl quiet) = absurd (works_still quiet)
    leaves (inr rests) =
        let same = c.write.ensures.leaves.1 rests in
        record {
          running = ap (λ x. x.driven.running) same;
          chain = ap (λ x. x.driven.chain) same;
          writer = λ must. absurd (rests must);
          reader = λ must. ap (λ x. x.reader) same;
        }

pub returns-else-works-clause-duties : goal.returns-else-works-clause-duties
returns-else-works-clause-duties g c = record {
  does = λ works. absurd (let wrong : false ≡ true = sym c.if-works.false ∙ c.works.ensures ∙ works in cc);
  rests = λ quiet. record { running = refl; chain = refl; writer = λ must. refl; reader = λ must. refl };
  sure = λ quiet. (refl, refl);
}

-- The other link is not touched.
pub returns-then-works-clause-input : goal.returns-then-works-clause-input
returns-then-works-clause-input g c = c.write.ensures.leaves.0
