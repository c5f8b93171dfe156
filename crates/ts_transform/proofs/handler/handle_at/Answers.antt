use Rattle.std.proofs.Common.{◌<◌, refl, subst, sym, ◌∙◌}
use Rattle.std.specs.Prelude.{is_ok}
use Rattle.ts_transform.specs.Driving.{works_at}
use Rattle.ts_transform.proofs.Acting.{acts_handled, gives_handled, others_handled}
use Rattle.ts_transform.proofs.Handled.{begun_for}
use Rattle.ts_transform.proofs.Kept.{err_weaker}
use Rattle.ts_transform.proofs.Seating.{key_same, seated_as, seated_then}
use Rattle.ts_transform.proofs.Living.{all_live, live_found}
use Rattle.ts_transform.proofs.Told.{same_length}
use Rattle.std.proofs.lemmas.Result.{on_ok_weaker}
use Rattle.ts_transform.proofs.handler.handle_at.Goals as goal

pub act-requires : goal.act-requires
act-requires g c = record {
  turn = c.requires.turn;
  stage = record {
    within = subst (λ n. c.args.at < n) (sym (same_length c.args.table.now c.unrouse_for.new.table
        c.unrouse_for.ensures.same)) c.requires.stage.within;
    len = same_length c.args.table.now c.unrouse_for.new.table c.unrouse_for.ensures.same ∙
        c.requires.stage.len;
  };
}

pub returns-clause-acts : goal.returns-clause-acts
returns-clause-acts g c =
    acts_handled g.P.Transform.rest g.P.Transform.pause c.args.at c.args.event c.args.chain.now
    c.act.new.chain c.args.table.now c.unrouse_for.new.table c.act.new.table _ (is_ok c.act.result)
    c.args.cx.now c.act.new.cx c.unrouse_for.ensures.table c.unrouse_for.ensures.same c.act.ensures.acts

pub returns-clause-gives : goal.returns-clause-gives
returns-clause-gives g c =
    gives_handled g.P.Transform.rest g.P.Transform.soon c.args.chain.now c.act.new.chain c.args.table.now
    c.unrouse_for.new.table
    c.act.new.table c.args.cx.now c.act.new.cx c.unrouse_for.ensures.same c.act.ensures.gives

pub returns-clause-driven : goal.returns-clause-driven
returns-clause-driven g c =
    let now = c.args.cx.now in
    on_ok_weaker c.act.result
    (λ driven first before handled was. driven first
    (rw c.unrouse_for.ensures.table (begun_for first c.args.chain.now c.args.table.now before
    now.log.state.pending now.roles c.args.at _ c.args.event
    (works_at c.args.event) handled refl refl was)))
    c.act.ensures.driven

pub returns-clause-others : goal.returns-clause-others
returns-clause-others g c = λ first.
    others_handled first c.args.table.now c.unrouse_for.new.table c.args.cx.now c.act.new.cx
    c.unrouse_for.ensures.same (c.act.ensures.others first)

pub returns-clause-live : goal.returns-clause-live
returns-clause-live g c =
    let found = all_live c.args.chain.now c.args.chain.now c.args.table.now c.unrouse_for.new.table
    c.args.cx.now c.args.cx.now refl c.unrouse_for.ensures.same (λ j going. going) in
    record {
      seated = seated_then c.args.table.now c.unrouse_for.new.table c.act.new.table c.args.cx.now
          c.args.cx.now c.act.new.cx
          (seated_as c.args.table.now c.unrouse_for.new.table c.args.cx.now c.args.cx.now refl
          (λ k. key_same c.args.table.now c.unrouse_for.new.table k c.unrouse_for.ensures.same))
          c.act.ensures.live.seated;
      live = live_found c.args.chain.now c.act.new.chain c.args.table.now c.unrouse_for.new.table
          c.act.new.table c.args.cx.now c.act.new.cx found c.act.ensures.live.live;
      cause = err_weaker c.act.result c.act.new.cx found c.act.ensures.live.cause;
    }
