use Rattle.std.proofs.Common.{◌≡◌, ◌+◌, arith, inr, refl, ap, subst}
use Rattle.ts_transform.specs.Driving.{IsHandled}
use Rattle.ts_transform.proofs.Carrying.{moves_stage}
use Rattle.ts_transform.proofs.Joined.{joined_stage, linked_stage, lose_weaker, runs_before}
use Rattle.ts_transform.proofs.Driving.{may_lose}
use Rattle.ts_transform.proofs.Kept.{acts_none, acts_then}
use Rattle.ts_transform.proofs.Along.{along_duty, along_stage, sure_reader, sure_stage, sure_writer}
use Rattle.ts_transform.proofs.link_world.LinkWorld.work.Goals as goal

pub returns-else-role-eq-READER-clause-moves : goal.returns-else-role-eq-READER-clause-moves
returns-else-role-eq-READER-clause-moves g c =
    let self = c.args.self.now in
    let acted = c.handle-told in
    moves_stage g.P.Transform.rest g.P.Transform.soon g.I.Link.tells g.K.Link.tells (g.I.Link.look self.input)
    (g.K.Link.look self.output) self.driven.chain acted.new.self.chain self.driven.table.items
    acted.new.self.table.items
    c.args.cx.now acted.new.cx self.aborted acted.ensures.gives

pub returns-else-role-eq-READER-clause-joined : goal.returns-else-role-eq-READER-clause-joined
returns-else-role-eq-READER-clause-joined g c = λ before handled was runs.
    let self = c.args.self.now in
    let acted = c.handle-told in
    joined_stage self.driven.chain acted.new.self.chain self.driven.table.items acted.new.self.table.items
    self.writer self.reader before c.args.cx.now acted.new.cx c.args.role c.args.event handled
    c.if-role-eq-WRITER.false c.if-role-eq-READER.false acted.ensures.rest.others
    (λ h. acted.ensures.driven before handled (λ r. h) runs)
    (was (runs_before acted.result self.driven acted.new.self c.args.cx.now acted.new.cx acted.ensures.loses
    runs))

-- An event of one end leaves the other's link alone.
pub returns-then-role-eq-WRITER-clause-reads : goal.returns-then-role-eq-WRITER-clause-reads
returns-then-role-eq-WRITER-clause-reads g c = λ named waited. absurd
    (waited (ap (λ x. (g.I.Link.look x).waits) c.write_at.ensures.input))

pub returns-then-role-eq-READER-clause-writes : goal.returns-then-role-eq-READER-clause-writes
returns-then-role-eq-READER-clause-writes g c = λ named waited. absurd
    (waited (ap (λ x. (g.K.Link.look x).waits) c.read_at.ensures.output))

pub returns-else-role-eq-READER-clause-course : goal.returns-else-role-eq-READER-clause-course
returns-else-role-eq-READER-clause-course g c =
    let self = c.args.self.now in
    let acted = c.handle-told in
    let cx = c.args.cx.now in
    record {
      stage = acted.ensures.acts;
      does = λ works. (
        λ is. absurd (c.if-role-eq-WRITER.false is),
        λ is. absurd
            (c.if-role-eq-READER.false is),
      );
      loses = lose_weaker self.driven acted.new.self acted.new.cx (λ all. all.stages)
          (may_lose acted.result self.driven acted.new.self cx acted.new.cx acted.ensures.loses);
      live = linked_stage self (record self { driven = acted.new.self }) cx acted.new.cx refl refl
          acted.ensures.rest.live;
      started = λ none. none;
      only = along_stage g.P.Transform.rest g.P.Transform.pause c.args.role c.args.event self
          (record self { driven = acted.new.self }) cx acted.new.cx acted.ensures.acts
          (λ none. (acted.ensures.other none).1);
      sure = sure_stage g.P.Transform.rest g.P.Transform.pause c.args.role c.args.event self
          (record self { driven = acted.new.self }) cx acted.new.cx c.if-role-eq-WRITER.false
          c.if-role-eq-READER.false acted.ensures.acts
          refl refl;
    }

pub returns-then-role-eq-WRITER-clause-course : goal.returns-then-role-eq-WRITER-clause-course
returns-then-role-eq-WRITER-clause-course g c =
    let self = c.args.self.now in
    let acted = c.write_at in
    let course = acted.ensures.course in
    let is : c.args.role ≡ 1 = c.if-role-eq-WRITER.true in
    record {
      stage = λ at of_stage. let place : c.args.role ≡ 3 + at = of_stage in absurd (omega (arith, is, place));
      does = λ works. (
        λ w must. acted.ensures.duties.does works must,
        λ r. let other : c.args.role ≡ 2 = r in
            absurd (omega (arith, is, other)),
      );
      loses = course.loses;
      live = inr (course.keeps, course.live);
      started = course.started;
      only = λ named. along_duty g.P.Transform.pause c.args.role c.args.event self.driven.chain
          acted.new.self.driven.chain self.driven.table.items c.args.cx.now acted.new.cx
          (acted.ensures.duty.only named);
      sure = sure_writer c.args.role c.args.event self acted.new.self is acted.ensures.duties.rests;
    }

pub returns-then-role-eq-WRITER-clause-within : goal.returns-then-role-eq-WRITER-clause-within
returns-then-role-eq-WRITER-clause-within g c =
    let within = c.write_at.ensures.duty.within in acts_then 1 0 4 (omega arith) within
    (acts_none 0 c.write_at.new.cx within.turn)

pub returns-then-role-eq-READER-clause-course : goal.returns-then-role-eq-READER-clause-course
returns-then-role-eq-READER-clause-course g c =
    let self = c.args.self.now in
    let acted = c.read_at in
    let course = acted.ensures.course in
    let is : c.args.role ≡ 2 = c.if-role-eq-READER.true in
    record {
      stage = λ at of_stage. let place : c.args.role ≡ 3 + at = of_stage in absurd (omega (arith, is, place));
      does = λ works. (
        λ w. let other : c.args.role ≡ 1 = w in absurd (omega (arith, is, other)),
        λ r must.
            acted.ensures.duties.does works must,
      );
      loses = course.loses;
      live = inr (course.keeps, course.live);
      started = course.started;
      only = λ named. along_duty g.P.Transform.pause c.args.role c.args.event self.driven.chain
          acted.new.self.driven.chain self.driven.table.items c.args.cx.now acted.new.cx
          (acted.ensures.duty.only named);
      sure = sure_reader c.args.role c.args.event self acted.new.self is acted.ensures.duties.rests;
    }

pub returns-then-role-eq-READER-clause-within : goal.returns-then-role-eq-READER-clause-within
returns-then-role-eq-READER-clause-within g c =
    let within = c.read_at.ensures.duty.within in acts_then 1 0 4 (omega arith) within
    (acts_none 0 c.read_at.new.cx within.turn)

-- It is that of nobody.
pub returns-then-role-eq-WRITER-clause-other : goal.returns-then-role-eq-WRITER-clause-other
returns-then-role-eq-WRITER-clause-other g c = λ nobody. absurd (nobody.no_writer c.if-role-eq-WRITER.true)

pub returns-then-role-eq-READER-clause-other : goal.returns-then-role-eq-READER-clause-other
returns-then-role-eq-READER-clause-other g c = λ nobody. absurd (nobody.no_reader c.if-role-eq-READER.true)

pub returns-else-role-eq-READER-clause-other : goal.returns-else-role-eq-READER-clause-other
returns-else-role-eq-READER-clause-other g c = λ nobody.
    let other = c.handle-told.ensures.other nobody.no_stage in
    (ap (λ d. record c.args.self.now { driven = d }) other.0, other.1)

pub returns-then-role-eq-READER-clause-joined : goal.returns-then-role-eq-READER-clause-joined
returns-then-role-eq-READER-clause-joined g c = λ before handled was.
    let cx = c.args.cx.now in
    c.read_at.ensures.joined before
    (subst (λ r. IsHandled before cx.log.state.pending cx.roles r c.args.event) c.if-role-eq-READER.true
    handled) was
