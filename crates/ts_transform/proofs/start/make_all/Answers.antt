use Rattle.std.proofs.Common.{◌+◌, Some, length, sym, ap, subst, refl, arith, ◌∙◌}
use Rattle.std.proofs.lemmas.List.{length_push}
use Rattle.ts_group.proofs.Grows.{grows_refl, grows_trans}
use Rattle.ts_transform.specs.Driving.{AreOfStages, EachIsLive}
use Rattle.ts_transform.proofs.Living.{each_more, each_push}
use Rattle.ts_transform.proofs.Starting.{keys_trans, same_events_trans, made_all}
use Rattle.ts_transform.proofs.start.make_all.Goals as goal

pub loop-at-init : goal.loop-at-init
loop-at-init c =
    let now = c.args.cx.now in
    record {
      grows = grows_refl now;
      turn = c.requires.turn;
      events = record { pending = refl; next = refl };
      keys = record { live = λ key was. was; roles = λ i role was. was };
      len = ap length c.requires.empty;
      of_stages = subst (AreOfStages now.log.state.pending now.roles c.args.first) (sym c.requires.empty) tt;
      each = subst (EachIsLive now.log.state.live) (sym c.requires.empty) tt;
    }

pub loop-at-preserved : goal.loop-at-preserved
loop-at-preserved c =
    let before = c.loop-at.invariant in
    let made = c.in_ok-continuation.ensures in
    record {
      grows = grows_trans before.grows made.grows;
      turn = made.turn;
      events = same_events_trans _ _ _ before.events made.events;
      keys = keys_trans c.args.cx.now c.loop-at.cx c.make_one.new.cx before.keys made.keys;
      len = ap length c.in_default.ensures.items ∙ length_push c.loop-at.table.items
          (Some c.in_ok-continuation.continuation) ∙ ap (λ n. n + 1) before.len;
      of_stages = subst (AreOfStages c.make_one.new.cx.log.state.pending c.make_one.new.cx.roles c.args.first)
          (sym c.in_default.ensures.items)
          (made_all c.loop-at.cx c.make_one.new.cx made.events made.keys c.args.first c.loop-at.table.items
          c.in_ok-continuation.continuation
          (made.named.0 ∙ ap Some (omega (arith, before.len))) made.named.1 before.of_stages);
      each = subst (EachIsLive c.make_one.new.cx.log.state.live) (sym c.in_default.ensures.items)
          (each_push c.make_one.new.cx.log.state.live c.loop-at.table.items c.in_ok-continuation.continuation
          (each_more c.loop-at.cx c.make_one.new.cx c.loop-at.table.items made.keys.live before.each)
          made.live);
    }

pub returns-in_err-continuation-clause-keys : goal.returns-in_err-continuation-clause-keys
returns-in_err-continuation-clause-keys c = keys_trans c.args.cx.now c.loop-at.cx c.make_one.new.cx
    c.loop-at.invariant.keys c.make_one.ensures.keys

pub returns-in-Err-clause-keys : goal.returns-in-Err-clause-keys
returns-in-Err-clause-keys c = keys_trans c.args.cx.now c.loop-at.cx c.make_one.new.cx
    c.loop-at.invariant.keys c.make_one.ensures.keys
