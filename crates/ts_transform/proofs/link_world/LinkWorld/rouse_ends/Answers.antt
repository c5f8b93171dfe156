use Rattle.std.proofs.Common.{◌≡◌, true, false, inl, refl, arith, sym, subst, ◌∙◌}
use Rattle.ts_transform.specs.Flow.{MustRead, MustWrite}
use Rattle.ts_transform.specs.Carrying.{AreEndsRoused}
use Rattle.ts_transform.specs.Driving.{IsNamedIf}
use Rattle.ts_transform.specs.Along.{RousesAnEnd}
use Rattle.ts_transform.specs.declared.link_world.TheConstants.{READER}
use Rattle.ts_transform.proofs.Along.{ends_then, must_or, rouses_reader, rouses_writer}
use Rattle.ts_transform.proofs.Setting.{only_none}
use Rattle.ts_transform.proofs.Joined.{course_same, end_rests, may_break_then, while_runs}
use Rattle.ts_transform.proofs.Kept.{acts_none, acts_then, keeps_trans}
use Rattle.ts_transform.proofs.link_world.LinkWorld.rouse_ends.Goals as goal

pub returns-then-not-self-clause-within : goal.returns-then-not-self-clause-within
returns-then-not-self-clause-within g c = acts_none 2 c.args.cx.now c.requires.turn

pub returns-clause-within : goal.returns-clause-within
returns-clause-within g c = acts_then 1 1 2 (omega arith) c.rouse_writer.ensures.within
    c.rouse_reader.ensures.within

-- Where nobody must be roused, nothing is done.
pub returns-then-not-self-2-clause-idle : goal.returns-then-not-self-2-clause-idle
returns-then-not-self-2-clause-idle g c =
    let self = c.args.self.now in
    while_runs self.driven.running c.if-not-self.false
    (λ ends. c.rouse_writer.ensures.rouses.rests
    (end_rests c.has_output-writes.result self.writer (MustWrite self.driven.chain)
    c.has_output-writes.ensures.0 ends.writes))

pub returns-clause-idle : goal.returns-clause-idle
returns-clause-idle g c =
    let self = c.args.self.now in
    let mid = c.rouse_writer.new.self in
    while_runs self.driven.running c.if-not-self.false
    (λ ends.
    let first = c.rouse_writer.ensures.rouses.rests
    (end_rests c.has_output-writes.result self.writer (MustWrite self.driven.chain)
    c.has_output-writes.ensures.0 ends.writes) in
    let ends_then : AreEndsRoused mid.driven.chain mid.writer mid.reader = subst
    (λ x. AreEndsRoused x.driven.chain x.writer x.reader) (sym first.0) ends in
    let second = c.rouse_reader.ensures.rouses.rests
    (end_rests c.must_read-reads.result mid.reader (MustRead mid.driven.chain) c.must_read-reads.ensures.0
    ends_then.reads) in
    (second.0 ∙ first.0, second.1 ∙ first.1))

pub returns-clause-course : goal.returns-clause-course
returns-clause-course g c =
    let one = c.rouse_writer in
    let two = c.rouse_reader in
    record {
      loses = may_break_then c.args.self.now one.new.self two.new.self c.args.cx.now one.new.cx two.new.cx
          one.ensures.course.loses one.ensures.course.live
          (λ stopped. absurd (let wrong : true ≡ false = sym c.if-not-self-2.false ∙ stopped in cc))
          two.ensures.course.loses;
      keeps = keeps_trans one.ensures.course.keeps two.ensures.course.keeps;
      live = λ all. two.ensures.course.live (one.ensures.course.live all);
      started = λ none. one.ensures.course.started (two.ensures.course.started none);
    }

pub returns-then-not-self-clause-course : goal.returns-then-not-self-clause-course
returns-then-not-self-clause-course g c = course_same c.args.self.now c.args.cx.now c.requires.turn

-- Only the ends are roused, at once.
pub returns-then-not-self-clause-only : goal.returns-then-not-self-clause-only
returns-then-not-self-clause-only g c = λ writer reader. only_none
    (RousesAnEnd c.args.self.now.driven.chain c.args.cx.now.moment c.args.cx.now.roles) c.args.cx.now

pub returns-then-not-self-2-clause-only : goal.returns-then-not-self-2-clause-only
returns-then-not-self-2-clause-only g c = λ writer reader.
    rouses_writer c.args.self.now.driven.chain 0 c.args.cx.now c.rouse_writer.new.cx (inl refl)
    (must_or c.has_output-writes.result c.has_output-writes.ensures.0
    (λ not. (c.rouse_writer.ensures.rouses.rests (inl not)).1))
    (c.rouse_writer.ensures.rouses.only writer)

pub returns-clause-only : goal.returns-clause-only
returns-clause-only g c = λ writer reader.
    let one = c.rouse_writer in
    let two = c.rouse_reader in
    let cx = c.args.cx.now in
    let keeps = one.ensures.course.keeps in
    let reader_then = subst (λ t. IsNamedIf one.new.cx.roles READER t) (sym one.ensures.kept)
    (subst (λ rs. IsNamedIf rs READER c.args.self.now.reader) (sym keeps.roles) reader) in
    let chain = c.args.self.now.driven.chain in
    ends_then chain cx one.new.cx two.new.cx keeps one.ensures.within.grows.moment two.ensures.course.keeps
    (rouses_writer chain 0 cx one.new.cx (inl refl)
    (must_or c.has_output-writes.result c.has_output-writes.ensures.0
    (λ not. (one.ensures.rouses.rests (inl not)).1)) (one.ensures.rouses.only writer))
    (rouses_reader chain 0 one.new.cx two.new.cx (inl refl)
    (must_or c.must_read-reads.result (λ is. subst MustRead one.ensures.same.chain
    (c.must_read-reads.ensures.0 is)) (λ not. (two.ensures.rouses.rests (inl not)).1))
    (two.ensures.rouses.only reader_then))
