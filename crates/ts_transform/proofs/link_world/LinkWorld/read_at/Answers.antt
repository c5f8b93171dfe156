use Rattle.std.proofs.Common.{◌≡◌, inl, inr, true, false, refl, ap, sym, subst, ◌∙◌}
use Rattle.ts_transform.specs.Flow.{MustRead}
use Rattle.ts_transform.specs.Along.{EndRests, LeavesDuties}
use Rattle.ts_transform.specs.Carrying.{AreLinked, IsJoined}
use Rattle.ts_transform.specs.Driving.{IsNamedIf, unroused, works_at}
use Rattle.ts_transform.proofs.Carrying.{moves_none}
use Rattle.ts_transform.proofs.Joined.{course_same, joined_quiet, linked_kept, lose_weaker, joined_reader, named_unroused}
use Rattle.ts_transform.proofs.Along.{duty_none}
use Rattle.ts_transform.proofs.Told.{unroused_twice}
use Rattle.ts_transform.proofs.link_world.LinkWorld.read_at.Goals as goal

pub returns-then-works-clause-joined : goal.returns-then-works-clause-joined
returns-then-works-clause-joined g c = λ before handled was.
    let self = c.args.self.now in
    let cx = c.args.cx.now in
    c.read.ensures.joined
    (λ runs. subst (λ x. IsJoined self.driven.chain self.driven.table.items self.writer x cx.log.state.pending
    cx.roles) (sym c.unrouse.ensures)
    (joined_reader self.driven.chain self.driven.table.items self.writer self.reader before
    cx.log.state.pending cx.roles c.args.event handled (was runs)))

pub returns-else-works-clause-moves : goal.returns-else-works-clause-moves
returns-else-works-clause-moves g c =
    let self = c.args.self.now in
    moves_none g.P.Transform.rest g.I.Link.tells g.K.Link.tells (g.I.Link.look self.input)
    (g.K.Link.look self.output) self.driven.chain self.aborted ⊥

pub returns-else-works-clause-joined : goal.returns-else-works-clause-joined
returns-else-works-clause-joined g c = λ before handled was runs.
    let self = c.args.self.now in
    let cx = c.args.cx.now in
    joined_quiet self.driven.chain self.driven.table.items self.writer self.reader before cx.log.state.pending
    cx.roles 2 c.args.event handled (sym c.works.ensures ∙ c.if-works.false) (was runs)

pub returns-then-works-clause-retries : goal.returns-then-works-clause-retries
returns-then-works-clause-retries g c = λ named waited.
    let self = c.args.self.now in
    let roles = c.args.cx.now.roles in
    let h = c.read.ensures.retries (subst (IsNamedIf roles 2) (sym c.unrouse.ensures)
    (named_unroused roles 2 self.reader named)) waited in
    record { chain = h.chain; writer = h.writer; roused = h.roused; only = h.only }

pub returns-then-works-clause-course : goal.returns-then-works-clause-course
returns-then-works-clause-course g c =
    let self = c.args.self.now in
    let cx = c.args.cx.now in
    let course = c.read.ensures.course in
    let found : AreLinked self cx → AreLinked (record self { reader = c.unrouse.new.slot }) cx =
    linked_kept self.driven self.driven self.writer self.writer self.reader c.unrouse.new.slot cx cx refl
    (λ all. all) refl (ap unroused c.unrouse.ensures ∙ unroused_twice self.reader) in
    record {
      loses = lose_weaker self.driven c.read.new.self.driven c.read.new.cx found course.loses;
      keeps = course.keeps;
      live = λ all. course.live (found all);
      started = course.started;
    }

pub returns-else-works-clause-course : goal.returns-else-works-clause-course
returns-else-works-clause-course g c = course_same c.args.self.now c.args.cx.now c.requires.turn

pub returns-then-works-clause-duty : goal.returns-then-works-clause-duty
returns-then-works-clause-duty g c =
    let duty = c.read.ensures.duty in
    record {
      within = duty.within;
      only = λ named. duty.only
          (record {
            stages = named.stages;
            writer = named.writer;
            reader = subst
                (IsNamedIf c.args.cx.now.roles 2) (sym c.unrouse.ensures)
                (named_unroused c.args.cx.now.roles 2 c.args.self.now.reader named.reader);
          });
    }

pub returns-else-works-clause-duty : goal.returns-else-works-clause-duty
returns-else-works-clause-duty g c = duty_none g.P.Transform.pause c.args.self.now c.args.self.now
    c.args.cx.now c.requires.turn

-- It does its duty where it works, and else nothing.
pub returns-then-works-clause-duties : goal.returns-then-works-clause-duties
returns-then-works-clause-duties g c = record {
  does = λ works. c.read.ensures.does;
  rests = leaves;
  sure = λ quiet. absurd (works_still quiet);
}
  where
    works_still : works_at c.args.event ≡ false → ⊥
    works_still quiet = let wrong : true ≡ false = sym c.if-works.true ∙ c.works.ensures ∙ quiet in cc

    leaves : EndRests c.args.event (MustRead c.args.self.now.driven.chain)
        → LeavesDuties c.args.self.now c.read.new.self
    leaves (inl quiet) = absurd (works_still quiet)
    leaves (inr rests) =
        let same = c.read.ensures.leaves.1 rests in
        record {
          running = ap (λ x. x.driven.running) same;
          chain = ap (λ x. x.driven.chain) same;
          reader = λ must. absurd (rests must);
          writer = λ must. ap (λ x. x.writer) same;
        }

pub returns-else-works-clause-duties : goal.returns-else-works-clause-duties
returns-else-works-clause-duties g c = record {
  does = λ works. absurd (let wrong : false ≡ true = sym c.if-works.false ∙ c.works.ensures ∙ works in cc);
  rests = λ quiet. record { running = refl; chain = refl; writer = λ must. refl; reader = λ must. refl };
  sure = λ quiet. (refl, refl);
}

-- The other link is not touched.
pub returns-then-works-clause-output : goal.returns-then-works-clause-output
returns-then-works-clause-output g c = c.read.ensures.leaves.0
