use Rattle.std.proofs.Common.{◌≡◌, Some, true, false, arith, refl, sym, ap, subst, inl, inr, ◌∙◌}
use Rattle.ts_transform.specs.Driving.{IsRousedIf}
use Rattle.ts_transform.specs.Carrying.{IsJoinedWhile, LacksMemory, MayBreak, StepsAlong}
use Rattle.ts_transform.proofs.Carrying.{moves_aborted, moves_as, moves_lacks, moves_none}
use Rattle.ts_transform.proofs.Joined.{again_reads, again_writes, aborted_quiet, joined_aborted, joined_as, break_after, lose_lacks, loses_runs, named_of, rests_then}
use Rattle.ts_transform.specs.declared.loss.Loss.TheVariants.{NoMemory, Spent}
use Rattle.ts_transform.proofs.Losing.{grows_next, told_then}
use Rattle.ts_transform.proofs.Kept.{acts_none, acts_then}
use Rattle.ts_transform.proofs.Along.{does_then, step_only, step_sure}
use Rattle.ts_transform.proofs.Setting.{of_stages_named, only_none}
use Rattle.ts_transform.specs.declared.link_world.TheConstants.{FIRST, READER, WRITER}
use Rattle.ts_transform.proofs.link_world.LinkWorld.step.Goals as goal

-- Something was lost before.
pub returns-then-not-self-clause-steps : goal.returns-then-not-self-clause-steps
returns-then-not-self-clause-steps g c =
    let self = c.args.self.now in
    moves_none g.P.Transform.rest g.I.Link.tells g.K.Link.tells (g.I.Link.look self.input)
    (g.K.Link.look self.output) self.driven.chain self.aborted (LacksMemory self)

pub returns-then-not-self-clause-within : goal.returns-then-not-self-clause-within
returns-then-not-self-clause-within g c = acts_none 6 c.args.cx.now c.requires.turn

-- Memory lacked.
pub returns-then-lacks_memory-clause-steps : goal.returns-then-lacks_memory-clause-steps
returns-then-lacks_memory-clause-steps g c =
    let self = c.args.self.now in
    let now = c.abort.new.self in
    let lacks = LacksMemory now in
    let lacked = c.lacks_memory.ensures.lacks c.if-lacks_memory.true in
    let mid = c.work.new.self in
    let same = c.rouse_ends.ensures.same in
    let counts = c.work.ensures.moves.counts in
    let reads : (g.I.Link.look now.input).faults ≡ (g.I.Link.look mid.input).faults = ap
    (λ x. (g.I.Link.look x).faults) (c.abort.ensures.links.0 ∙ same.input) in
    let writes : (g.K.Link.look now.output).faults ≡ (g.K.Link.look mid.output).faults = ap
    (λ x. (g.K.Link.look x).faults) (c.abort.ensures.links.1 ∙ same.output) in
    let input = g.I.Link.look now.input in
    let output = g.K.Link.look now.output in
    moves_as g.P.Transform.rest g.I.Link.tells g.K.Link.tells (g.I.Link.look self.input) input input
    (g.K.Link.look self.output) output output self.driven.chain now.driven.chain now.driven.chain
    self.aborted true
    now.aborted lacks refl refl refl c.abort.ensures.aborted
    (moves_aborted g.P.Transform.rest g.I.Link.tells g.K.Link.tells (g.I.Link.look self.input) input
    (g.K.Link.look self.output) output self.driven.chain c.rouse_ends.new.self.driven.chain
    now.driven.chain self.aborted
    lacks (inl (c.abort.ensures.course.running ∙ lacked.0, c.abort.ensures.course.lost ∙ lacked.1))
    c.abort.ensures.chain
    (omega (arith, counts.0, reads), omega (arith, counts.1, writes)))

pub returns-then-lacks_memory-clause-carried : goal.returns-then-lacks_memory-clause-carried
returns-then-lacks_memory-clause-carried g c = λ before next stood.
    let was = stood.carried in
    let handled = stood.handled in
    let self = c.args.self.now in
    let mid = c.rouse_ends.new.self in
    let now = c.abort.new.self in
    let cx = c.rouse_ends.new.cx in
    let joined : IsJoinedWhile mid cx.log.state.pending cx.roles = c.rouse_ends.ensures.joined
    (c.work.ensures.joined before handled was.joined) in
    let steps : StepsAlong g.P.Transform.rest g.I.Link.tells g.K.Link.tells g.I.Link.look g.K.Link.look self
    now = returns-then-lacks_memory-clause-steps g c in
    record {
      joined = λ runs.
          joined_as now.driven.chain now.driven.chain mid.driven.table.items now.driven.table.items mid.writer
          now.writer mid.reader now.reader cx.log.state.pending cx.roles refl c.abort.ensures.course.table
          c.abort.ensures.ends.0 c.abort.ensures.ends.1
          (joined_aborted mid.driven.chain now.driven.chain mid.driven.table.items mid.writer mid.reader
          cx.log.state.pending cx.roles c.abort.ensures.chain
          (joined (sym c.abort.ensures.course.running ∙ runs)));
      ends = λ runs. aborted_quiet mid.driven.chain now.driven.chain now.writer now.reader
          c.abort.ensures.chain;
      fresh = λ none. absurd (let wrong : false ≡ true = sym
          (was.fresh (c.work.ensures.course.started
          (c.rouse_ends.ensures.course.started (sym c.abort.ensures.ends.0 ∙ none)))).0 ∙ c.if-not-self.false
          in cc);
      ordered = steps.ordered was.ordered;
      bounded = steps.bounded was.bounded;
      told = λ spent. absurd (let wrong : Some NoMemory ≡ Some Spent = sym
          (c.abort.ensures.course.lost ∙ (c.lacks_memory.ensures.lacks c.if-lacks_memory.true).1) ∙ spent in
          cc);
    }

pub returns-then-lacks_memory-clause-within : goal.returns-then-lacks_memory-clause-within
returns-then-lacks_memory-clause-within g c = acts_then 4 2 6 (omega arith) c.work.ensures.within
    c.rouse_ends.ensures.within

-- It did not.
pub returns-else-lacks_memory-clause-steps : goal.returns-else-lacks_memory-clause-steps
returns-else-lacks_memory-clause-steps g c =
    let self = c.args.self.now in
    let mid = c.work.new.self in
    let now = c.rouse_ends.new.self in
    let same = c.rouse_ends.ensures.same in
    let rest = g.P.Transform.rest in
    moves_lacks rest g.I.Link.tells g.K.Link.tells (g.I.Link.look self.input) (g.I.Link.look now.input)
    (g.K.Link.look self.output) (g.K.Link.look now.output) self.driven.chain now.driven.chain self.aborted
    now.aborted
    (LacksMemory now)
    (moves_as rest g.I.Link.tells g.K.Link.tells (g.I.Link.look self.input) (g.I.Link.look mid.input)
    (g.I.Link.look now.input) (g.K.Link.look self.output) (g.K.Link.look mid.output)
    (g.K.Link.look now.output)
    self.driven.chain mid.driven.chain now.driven.chain self.aborted mid.aborted now.aborted ⊥
    (ap g.I.Link.look same.input) (ap g.K.Link.look same.output) same.chain same.aborted
    c.work.ensures.moves)

pub returns-else-lacks_memory-clause-carried : goal.returns-else-lacks_memory-clause-carried
returns-else-lacks_memory-clause-carried g c = λ before next stood.
    let was = stood.carried in
    let handled = stood.handled in
    let self = c.args.self.now in
    let mid = c.work.new.self in
    let now = c.rouse_ends.new.self in
    let then = c.work.new.cx in
    let last = c.rouse_ends.new.cx in
    let steps : StepsAlong g.P.Transform.rest g.I.Link.tells g.K.Link.tells g.I.Link.look g.K.Link.look self
    now = returns-else-lacks_memory-clause-steps g c in
    record {
      joined = c.rouse_ends.ensures.joined (c.work.ensures.joined before handled was.joined);
      ends = c.rouse_ends.ensures.ends;
      fresh = λ none. absurd (let wrong : false ≡ true = sym
          (was.fresh (c.work.ensures.course.started (c.rouse_ends.ensures.course.started none))).0 ∙
          c.if-not-self.false in cc);
      ordered = steps.ordered was.ordered;
      bounded = steps.bounded was.bounded;
      told = told_then mid.driven now.driven then.log.state.next last c.rouse_ends.ensures.course.loses
          (grows_next then last c.rouse_ends.ensures.within.grows)
          (told_then self.driven mid.driven c.args.cx.now.log.state.next then c.work.ensures.course.loses
          (grows_next c.args.cx.now then c.work.ensures.within.grows)
          (λ spent. let used = was.told spent in omega (arith, used, stood.next_rises)));
    }

pub returns-else-lacks_memory-clause-within : goal.returns-else-lacks_memory-clause-within
returns-else-lacks_memory-clause-within g c = acts_then 4 2 6 (omega arith) c.work.ensures.within
    c.rouse_ends.ensures.within

pub returns-then-lacks_memory-clause-again : goal.returns-then-lacks_memory-clause-again
returns-then-lacks_memory-clause-again g c = λ before next stood.
    let was = stood.carried in
    let handled = stood.handled in
    let self = c.args.self.now in
    let mid = c.work.new.self in
    let now = c.rouse_ends.new.self in
    let cx = c.args.cx.now in
    let joined = was.joined c.if-not-self.false in
    let ends = was.ends c.if-not-self.false in
    let same = c.rouse_ends.ensures.same in
    let links = c.abort.ensures.links in
    let before_end : c.abort.new.self.driven.running ≡ true → mid.driven.running ≡ true =
    λ runs. loses_runs mid.driven now.driven c.rouse_ends.new.cx c.rouse_ends.ensures.course.loses
    (sym c.abort.ensures.course.running ∙ runs) in
    record {
      reads = λ waited runs.
          let h = c.work.ensures.reads (named_of before cx.roles 2 self.reader joined.of_reader)
          (λ none. waited (ap (λ x. (g.I.Link.look x).waits) (links.0 ∙ same.input) ∙ none)) in
          let again = again_reads self mid now cx c.work.new.cx c.rouse_ends.new.cx ends h
          c.rouse_ends.ensures.idle (before_end runs) in
          (subst IsRousedIf (sym c.abort.ensures.ends.1) again.0, again.1);
      writes = λ waited runs.
          let h = c.work.ensures.writes (named_of before cx.roles 1 self.writer joined.of_writer)
          (λ none. waited (ap (λ x. (g.K.Link.look x).waits) (links.1 ∙ same.output) ∙ none)) in
          let again = again_writes self mid now cx c.work.new.cx c.rouse_ends.new.cx ends h
          c.rouse_ends.ensures.idle (before_end runs) in
          (subst IsRousedIf (sym c.abort.ensures.ends.0) again.0, again.1);
    }

pub returns-else-lacks_memory-clause-again : goal.returns-else-lacks_memory-clause-again
returns-else-lacks_memory-clause-again g c = λ before next stood.
    let was = stood.carried in
    let handled = stood.handled in
    let self = c.args.self.now in
    let mid = c.work.new.self in
    let now = c.rouse_ends.new.self in
    let cx = c.args.cx.now in
    let joined = was.joined c.if-not-self.false in
    let ends = was.ends c.if-not-self.false in
    let same = c.rouse_ends.ensures.same in
    let before_end : now.driven.running ≡ true
    → mid.driven.running ≡ true = λ runs. loses_runs mid.driven now.driven c.rouse_ends.new.cx
    c.rouse_ends.ensures.course.loses runs in
    record {
      reads = λ waited runs.
          let h = c.work.ensures.reads (named_of before cx.roles 2 self.reader joined.of_reader)
          (λ none. waited (ap (λ x. (g.I.Link.look x).waits) same.input ∙ none)) in
          again_reads self mid now cx c.work.new.cx c.rouse_ends.new.cx ends h c.rouse_ends.ensures.idle
          (before_end runs);
      writes = λ waited runs.
          let h = c.work.ensures.writes (named_of before cx.roles 1 self.writer joined.of_writer)
          (λ none. waited (ap (λ x. (g.K.Link.look x).waits) same.output ∙ none)) in
          again_writes self mid now cx c.work.new.cx c.rouse_ends.new.cx ends h c.rouse_ends.ensures.idle
          (before_end runs);
    }

-- It goes on as it did, or is lost for a cause.
pub returns-then-not-self-clause-acts : goal.returns-then-not-self-clause-acts
returns-then-not-self-clause-acts g c = λ before next stood. record {
  stage = λ runs. absurd (let wrong : false ≡ true = sym c.if-not-self.true ∙ runs in cc);
  does = λ runs. absurd (let wrong : false ≡ true = sym c.if-not-self.true ∙ runs in cc);
  loses = inl (refl, refl);
  only = λ runs. only_none _ c.args.cx.now;
  sure = λ nothing. refl;
}

pub returns-else-lacks_memory-clause-acts : goal.returns-else-lacks_memory-clause-acts
returns-else-lacks_memory-clause-acts g c = λ before next stood.
    let was = stood.carried in
    let handled = stood.handled in
    let self = c.args.self.now in
    let mid = c.work.new.self in
    let now = c.rouse_ends.new.self in
    let cx = c.args.cx.now in
    let then = c.work.new.cx in
    let last = c.rouse_ends.new.cx in
    let ends = was.ends c.if-not-self.false in
    let joined = was.joined c.if-not-self.false in
    let idle = c.rouse_ends.ensures.idle in
    record {
      stage = λ runs at is stage. record {
        acted = mid.driven;
        between = then;
        acts = c.work.ensures.course.stage at is stage;
        keeps = c.rouse_ends.ensures.course.keeps;
        table = c.rouse_ends.ensures.same.table;
        chain = inr c.rouse_ends.ensures.same.chain;
      };
      does = λ runs. does_then g.I.Link.look g.K.Link.look c.args.role c.args.event self mid now
          c.rouse_ends.ensures.same.input c.rouse_ends.ensures.same.output
          (λ lacks. subst LacksMemory (sym (idle (inl lacks.0)).0) lacks) c.work.ensures.course.does;
      loses = break_after self mid now cx then last ends c.work.ensures.course.loses
          c.work.ensures.course.live idle c.rouse_ends.ensures.course.loses;
      only = λ runs.
          let joined_then = c.work.ensures.joined before handled was.joined
          (loses_runs mid.driven now.driven last c.rouse_ends.ensures.course.loses runs) in
          step_only g.P.Transform.rest g.P.Transform.pause g.I.Link.look g.K.Link.look c.args.role
          c.args.event self mid now cx then last ends
          (record {
            stages = of_stages_named before cx.roles FIRST self.driven.table.items joined.stages.of_stages;
            writer = named_of before cx.roles WRITER self.writer joined.of_writer;
            reader = named_of before cx.roles READER self.reader joined.of_reader;
          })
          (named_of then.log.state.pending then.roles WRITER mid.writer joined_then.of_writer)
          (named_of then.log.state.pending then.roles READER mid.reader joined_then.of_reader)
          c.work.ensures.course idle c.work.ensures.within.grows.moment c.rouse_ends.ensures.course.keeps
          c.rouse_ends.ensures.only c.rouse_ends.ensures.same.chain;
      sure = λ nothing. step_sure self mid now then last ends idle (c.work.ensures.course.sure nothing);
    }

pub returns-then-lacks_memory-clause-acts : goal.returns-then-lacks_memory-clause-acts
returns-then-lacks_memory-clause-acts g c = λ before next stood.
    let was = stood.carried in
    let handled = stood.handled in
    let self = c.args.self.now in
    let mid = c.rouse_ends.new.self in
    let now = c.abort.new.self in
    let cx = c.rouse_ends.new.cx in
    let ends = was.ends c.if-not-self.false in
    let stopped = (c.lacks_memory.ensures.lacks c.if-lacks_memory.true).0 in
    let broke : MayBreak self mid c.args.cx.now cx =
    break_after self c.work.new.self mid c.args.cx.now c.work.new.cx cx ends c.work.ensures.course.loses
    c.work.ensures.course.live c.rouse_ends.ensures.idle c.rouse_ends.ensures.course.loses in
    record {
      stage = λ runs at is stage. record {
        acted = c.work.new.self.driven;
        between = c.work.new.cx;
        acts = c.work.ensures.course.stage at is stage;
        keeps = c.rouse_ends.ensures.course.keeps;
        table = c.abort.ensures.course.table ∙ c.rouse_ends.ensures.same.table;
        chain = inl (let kept = c.lacks_memory.ensures.lacks c.if-lacks_memory.true in
            (c.abort.ensures.course.running ∙ kept.0, c.abort.ensures.course.lost ∙ kept.1));
      };
      does = λ runs. does_then g.I.Link.look g.K.Link.look c.args.role c.args.event self c.work.new.self now
          (c.abort.ensures.links.0 ∙ c.rouse_ends.ensures.same.input)
          (c.abort.ensures.links.1 ∙ c.rouse_ends.ensures.same.output)
          (λ lacks. let kept = c.lacks_memory.ensures.lacks c.if-lacks_memory.true in
          (c.abort.ensures.course.running ∙ kept.0, c.abort.ensures.course.lost ∙ kept.1))
          c.work.ensures.course.does;
      loses = lose_lacks self.driven mid.driven now.driven cx
          (c.lacks_memory.ensures.lacks c.if-lacks_memory.true).1 c.abort.ensures.course.running
          c.abort.ensures.course.lost broke;
      only = λ runs. absurd (let wrong : true ≡ false = sym runs ∙ c.abort.ensures.course.running ∙ stopped in
          cc);
      sure = λ nothing. c.abort.ensures.course.running ∙ step_sure self c.work.new.self mid c.work.new.cx cx
          ends c.rouse_ends.ensures.idle (c.work.ensures.course.sure nothing);
    }

pub returns-else-lacks_memory-clause-stops : goal.returns-else-lacks_memory-clause-stops
returns-else-lacks_memory-clause-stops g c = λ runs lacks. absurd
    (c.lacks_memory.ensures.has c.if-lacks_memory.false lacks)

-- It is that of nobody.
pub returns-else-lacks_memory-clause-rests : goal.returns-else-lacks_memory-clause-rests
returns-else-lacks_memory-clause-rests g c =
    rests_then c.args.role c.args.self.now c.work.new.self c.rouse_ends.new.self c.args.cx.now c.work.new.cx
    c.rouse_ends.new.cx c.if-not-self.false c.work.ensures.other c.rouse_ends.ensures.idle

pub returns-then-lacks_memory-clause-rests : goal.returns-then-lacks_memory-clause-rests
returns-then-lacks_memory-clause-rests g c = λ idle.
    let same = rests_then c.args.role c.args.self.now c.work.new.self c.rouse_ends.new.self c.args.cx.now
    c.work.new.cx c.rouse_ends.new.cx c.if-not-self.false c.work.ensures.other c.rouse_ends.ensures.idle
    idle in
    absurd (let wrong : false ≡ true = sym (c.lacks_memory.ensures.lacks c.if-lacks_memory.true).0 ∙ ap
    (λ x. x.driven.running) same.0 ∙ c.if-not-self.false in cc)
