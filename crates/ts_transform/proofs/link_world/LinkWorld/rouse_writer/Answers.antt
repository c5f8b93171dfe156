use Rattle.std.proofs.Common.{Some, inl, refl, ◌≡◌, true, false, sym, ap, ◌∙◌}
use Rattle.std.specs.Prelude.{is_ok}
use Rattle.ts_transform.proofs.Covering.{driven_kept}
use Rattle.ts_transform.proofs.Joined.{end_loses, linked_kept, joined_ends, none_same}
use Rattle.ts_transform.proofs.Kept.{cause_weaker, kept_if}
use Rattle.ts_transform.proofs.Living.{all_live, end_live}
use Rattle.ts_transform.proofs.link_world.LinkWorld.rouse_writer.Goals as goal

pub returns-in-Ok-clause-joined : goal.returns-in-Ok-clause-joined
returns-in-Ok-clause-joined g c = λ was runs.
    let self = c.args.self.now in
    let now = c.rouse_end.new.cx in
    let keeps = c.rouse_end.ensures.adds.keeps in
    let stage = c.rouse_end.ensures.stage in
    joined_ends self.driven.chain self.driven.table.items self.writer c.rouse_end.new.slot self.reader
    self.reader c.args.cx.now now keeps
    (stage.of_stage 1) (kept_if c.args.cx.now now keeps 2 self.reader)
    (driven_kept 3 c.args.cx.now now self.driven.chain self.driven.table.items keeps) (was runs)

pub returns-in-Ok-clause-rouses : goal.returns-in-Ok-clause-rouses
returns-in-Ok-clause-rouses g c = record {
  only = c.rouse_end.ensures.only 1;
  rests = λ quiet. let h = c.rouse_end.ensures.rests quiet in
      (ap (λ x. record c.args.self.now { writer = x }) h.0, h.1);
}

pub returns-in-Err-clause-rouses : goal.returns-in-Err-clause-rouses
returns-in-Err-clause-rouses g c = record {
  only = c.rouse_end.ensures.only 1;
  rests = λ quiet. absurd (let wrong : false ≡ true = ap is_ok (sym c.in-Err.is) ∙
      (c.rouse_end.ensures.rests quiet).2 in cc);
}

pub returns-in-Ok-clause-course : goal.returns-in-Ok-clause-course
returns-in-Ok-clause-course g c =
    let self = c.args.self.now in
    let keys = c.rouse_end.ensures.adds.keeps.live in
    record {
      loses = inl (refl, refl);
      keeps = c.rouse_end.ensures.adds.keeps;
      live = linked_kept self.driven self.driven self.writer c.rouse_end.new.slot self.reader self.reader
          c.args.cx.now c.rouse_end.new.cx keys
          (all_live self.driven.chain self.driven.chain self.driven.table.items self.driven.table.items
          c.args.cx.now c.rouse_end.new.cx keys refl (λ j going. going)) c.rouse_end.ensures.stage.same
          refl;
      started = λ none. none_same c.args.self.now.writer c.rouse_end.new.slot c.rouse_end.ensures.stage.same
          none;
    }

pub returns-in-Err-clause-course : goal.returns-in-Err-clause-course
returns-in-Err-clause-course g c =
    let self = c.args.self.now in
    let keys = c.rouse_end.ensures.adds.keeps.live in
    let lost = record self.driven { running = false; lost = Some c.of_set.result } in
    record {
      keeps = c.rouse_end.ensures.adds.keeps;
      loses = end_loses self.driven lost c.in-Err.fault c.rouse_end.new.cx refl (ap Some c.of_set.ensures)
          (cause_weaker c.in-Err.fault c.rouse_end.new.cx
          (λ all. end_live self.writer c.rouse_end.new.slot c.args.cx.now c.rouse_end.new.cx keys
          c.rouse_end.ensures.stage.same all.writer) c.in-Err.ensures.adds.cause);
      live = linked_kept self.driven lost self.writer c.rouse_end.new.slot self.reader self.reader
          c.args.cx.now c.rouse_end.new.cx keys
          (all_live self.driven.chain self.driven.chain self.driven.table.items self.driven.table.items
          c.args.cx.now c.rouse_end.new.cx keys refl (λ j going. going)) c.rouse_end.ensures.stage.same
          refl;
      started = λ none. none_same c.args.self.now.writer c.rouse_end.new.slot c.rouse_end.ensures.stage.same
          none;
    }
