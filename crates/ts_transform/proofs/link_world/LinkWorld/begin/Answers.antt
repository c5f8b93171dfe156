use Rattle.std.proofs.Common.{false, true, inl, refl, ◌≡◌, ◌+◌, ◌<◌, Some, None, length, arith, sym, subst, ◌∙◌}
use Rattle.ts_vconn.specs.declared.moves.TheConstants.{MOST_PULLED}
use Rattle.ts_transform.specs.Stage.{MOST_WAITING}
use Rattle.ts_transform.specs.Flow.{EndsInOrder}
use Rattle.ts_transform.proofs.Joined.{acts_made, begun_made, begun_then, made_of}
use Rattle.ts_transform.proofs.Kept.{acts_then}
use Rattle.ts_transform.proofs.Losing.{told_begun}
use Rattle.ts_transform.proofs.Starting.{made_if}
use Rattle.ts_transform.proofs.link_world.LinkWorld.begin.Goals as goal

pub returns-in-Err-make_end-clause-within : goal.returns-in-Err-make_end-clause-within
returns-in-Err-make_end-clause-within g c =
    let stages = length c.args.self.now.driven.chain.stages in
    acts_then 0 0 (stages + 2) (omega arith) (acts_made 0 c.args.cx.now c.make_end.new.cx
    c.make_end.ensures.grows c.make_end.ensures.turn c.make_end.ensures.events)
    (acts_made 0 c.make_end.new.cx c.make_end-2.new.cx c.make_end-2.ensures.grows c.make_end-2.ensures.turn
    c.make_end-2.ensures.events)

pub returns-clause-within : goal.returns-clause-within
returns-clause-within g c =
    let stages = length c.args.self.now.driven.chain.stages in
    let most = stages + 2 in
    acts_then 0 most most (omega arith) (acts_made 0 c.args.cx.now c.make_end.new.cx c.make_end.ensures.grows
    c.make_end.ensures.turn c.make_end.ensures.events)
    (acts_then 0 most most (omega arith) (acts_made 0 c.make_end.new.cx c.make_end-2.new.cx
    c.make_end-2.ensures.grows c.make_end-2.ensures.turn c.make_end-2.ensures.events)
    (acts_then stages 2 most (omega arith) c.start.ensures.within c.rouse_ends.ensures.within))

-- It runs from now on, or is lost for a cause.
pub returns-in-Err-clause-cause : goal.returns-in-Err-clause-cause
returns-in-Err-clause-cause g c =
    begun_made (record c.args.self.now {
      driven = record c.args.self.now.driven
          { running = false; lost = Some c.of_make.result };
    }) c.in-Err.fault c.of_make.result c.make_end.new.cx
    refl refl c.of_make.ensures c.in-Err.ensures.cause

pub returns-in-Err-make_end-clause-cause : goal.returns-in-Err-make_end-clause-cause
returns-in-Err-make_end-clause-cause g c =
    begun_made (record c.args.self.now {
      writer = Some c.in-Ok.writer;
      driven = record c.args.self.now.driven
          { running = false; lost = Some c.of_make-in-Err-make_end.result };
    }) c.in-Err-make_end.fault
    c.of_make-in-Err-make_end.result c.make_end-2.new.cx refl refl c.of_make-in-Err-make_end.ensures
    c.in-Err-make_end.ensures.cause

pub returns-clause-cause : goal.returns-clause-cause
returns-clause-cause g c =
    let both = c.make_end-2.new.cx in
    let started = c.start.new.cx in
    let world = record c.args.self.now {
      writer = Some c.in-Ok.writer;
      reader = Some c.in-Ok-make_end.reader;
      driven = c.start.new.self;
    } in
    begun_then world c.rouse_ends.new.self started c.rouse_ends.new.cx c.start.ensures.begun
    (λ stages. record {
      stages = stages;
      writer = c.start.ensures.rest.made.live c.in-Ok.writer.key
          (c.make_end-2.ensures.keys.live c.in-Ok.writer.key c.in-Ok.ensures.live);
      reader = c.start.ensures.rest.made.live c.in-Ok-make_end.reader.key c.in-Ok-make_end.ensures.live;
    })
    (λ stopped. c.rouse_ends.ensures.idle (inl stopped)) c.rouse_ends.ensures.course

pub returns-clause-carried : goal.returns-clause-carried
returns-clause-carried g c = λ was.
    let self = c.args.self.now in
    let made = c.make_end.new.cx in
    let both = c.make_end-2.new.cx in
    let started = c.start.new.self in
    let chain : c.rouse_ends.new.self.driven.chain ≡ self.driven.chain = c.rouse_ends.ensures.same.chain ∙
    c.start.ensures.chain in
    record {
      joined = c.rouse_ends.ensures.joined (λ runs. record {
        stages = c.start.ensures.driven runs;
        of_writer = c.start.ensures.rest.made.of_stage 1 (Some c.in-Ok.writer)
            (made_if made both c.make_end-2.ensures.events c.make_end-2.ensures.keys 1 (Some c.in-Ok.writer)
            (made_of made.log.state.pending made.roles 1 c.in-Ok.writer c.in-Ok.ensures.named.0
            c.in-Ok.ensures.named.1));
        of_reader = c.start.ensures.rest.made.of_stage 2 (Some c.in-Ok-make_end.reader)
            (made_of both.log.state.pending both.roles 2 c.in-Ok-make_end.reader
            c.in-Ok-make_end.ensures.named.0 c.in-Ok-make_end.ensures.named.1);
      });
      ends = c.rouse_ends.ensures.ends;
      fresh = λ none. absurd (let wrong : Some c.in-Ok.writer ≡ None = c.rouse_ends.ensures.course.started
          none in cc);
      ordered = subst (λ x. EndsInOrder true x.stages) (sym chain) was.ordered;
      told = told_begun c.rouse_ends.new.self c.rouse_ends.new.cx (returns-clause-cause g c);
      bounded = subst (λ x. length x.first < MOST_WAITING + MOST_PULLED) (sym chain) was.bounded;
    }
