-- A piece was framed and taken from the chain, or there was no memory for it, or no piece.
use Rattle.std.proofs.Common.{[], length, take, refl, sym, ap, subst, ◌∙◌}
use Rattle.ts_lists.proofs.Fronts.{take_of_front}
use Rattle.ts_transform.specs.Flow.{ChainState, client_wait}
use Rattle.ts_relay.specs.Relaying.{StepsChain}
use Rattle.std.specs.Arc.{arc_value}
use Rattle.ts_phases.specs.View.{OriginRefuses, view_of}
use Rattle.ts_relay.specs.Duties.{MustSend}
use Rattle.ts_relay.specs.LoweringBody.{LowersBody}
use Rattle.ts_relay.proofs.BodyLinks.{calm_after, writer_framed, writer_queued}
use Rattle.ts_relay.proofs.LoweringRelay.{frames_after, loses_runs, must_weaker, queues_lacks, rest_to_send}
use Rattle.ts_relay.proofs.Queueing.{few_nothing, few_piece}
use Rattle.ts_relay.proofs.Relaying.{frames_lacks, frames_step}
use Rattle.ts_relay.proofs.Chaining.{chain_after, taken_order}
use Rattle.ts_relay.proofs.StepsOwed.{writer_still}
use Rattle.ts_relay.proofs.client_end.frame_some.Goals as goal

pub returns-in_default-frame_body-clause-leads : goal.returns-in_default-frame_body-clause-leads
returns-in_default-frame_body-clause-leads g c = λ told also.
    frames_lacks (arc_value c.args.core.now.setup) (OriginRefuses g.C.Link g.O.Upstream c.args.core.now)
    g.P.Transform c.args.relay.now.short
    (view_of g.C.Link g.O.Link c.args.core.now) (view_of g.C.Link g.O.Link c.frame_body.new.self)
    c.args.relay.now.driven.chain c.args.relay.now.body
    c.in_default-frame_body.ensures.err (c.requires.fact told also)

pub returns-clause-leads : goal.returns-clause-leads
returns-clause-leads g c = λ told also.
    frames_step (arc_value c.args.core.now.setup) (OriginRefuses g.C.Link g.O.Upstream c.args.core.now)
    g.P.Transform c.args.relay.now.short
    (view_of g.C.Link g.O.Link c.args.core.now) (view_of g.C.Link g.O.Link c.frame_body.new.self)
    c.args.relay.now.driven.chain
    c.take.new.self.chain c.args.relay.now.body c.piece_of-piece.result.now _ c.take.result
    c.step_after.result c.step_after.ensures c.in-Ok.ensures.ok c.piece_of-piece.ensures.piece
    c.take.ensures.takes
    (take_of_front (client_wait c.args.relay.now.driven.chain) c.in-Some.block.now
    c.piece_of-piece.result.now _ (c.in-Some.ensures.2 ∙ ap (λ (k : ChainState _). take
    (length c.in-Some.block.now) (client_wait k)) c.chain.ensures) c.piece_of-piece.ensures.front)
    (c.requires.fact told also)

-- there is nothing to frame, or the end
pub returns-in_default-clause-lowers : goal.returns-in_default-clause-lowers
returns-in_default-clause-lowers g c =
    must_weaker g.C.Link.tells g.O.Link.tells (MustSend (view_of g.C.Link g.O.Link c.args.core.now)
    c.args.relay.now) _ (arc_value c.args.core.now.setup) g.P.Transform.rest _
    (view_of g.C.Link g.O.Link c.args.core.now) (view_of g.C.Link g.O.Link c.end_some.new.core)
    c.args.relay.now c.args.relay.now c.args.cx.now c.args.cx.now
    (rest_to_send (view_of g.C.Link g.O.Link c.args.core.now) c.args.relay.now
    (ap client_wait (sym c.chain.ensures) ∙ c.in_default.ensures))
    (c.end_some.ensures.lowers c.args.cx.now)

pub returns-in_default-frame_body-clause-lowers : goal.returns-in_default-frame_body-clause-lowers
returns-in_default-frame_body-clause-lowers g c =
    queues_lacks g.C.Link.tells g.O.Link.tells (MustSend (view_of g.C.Link g.O.Link c.args.core.now)
    c.args.relay.now) (arc_value c.args.core.now.setup) g.P.Transform.rest
    (view_of g.C.Link g.O.Link c.args.core.now) (view_of g.C.Link g.O.Link c.frame_body.new.self)
    c.args.relay.now
    c.args.cx.now c.in_default-frame_body.ensures.err

pub returns-clause-lowers : goal.returns-clause-lowers
returns-clause-lowers g c =
    subst (λ s. LowersBody g.C.Link.tells g.O.Link.tells (MustSend (view_of g.C.Link g.O.Link c.args.core.now)
    c.args.relay.now) (arc_value c.args.core.now.setup) g.P.Transform.rest s
    (view_of g.C.Link g.O.Link c.args.core.now) (view_of g.C.Link g.O.Link c.frame_body.new.self)
    c.args.relay.now (record c.args.relay.now { driven = c.take.new.self }) c.args.cx.now c.take.new.cx)
    (sym c.step_after.ensures)
    (frames_after g.C.Link.tells g.O.Link.tells (MustSend (view_of g.C.Link g.O.Link c.args.core.now)
    c.args.relay.now) (arc_value c.args.core.now.setup) g.P.Transform.rest
    (view_of g.C.Link g.O.Link c.args.core.now) (view_of g.C.Link g.O.Link c.frame_body.new.self)
    c.args.relay.now
    (record c.args.relay.now { driven = c.take.new.self }) c.args.cx.now c.take.new.cx c.take.result _
    c.piece_of-piece.ensures.piece c.in-Ok.ensures.ok c.take.ensures.takes (
      c.take.ensures.same.same,
      loses_runs c.take.result c.args.relay.now.driven c.take.new.self c.args.cx.now
          c.take.new.cx c.take.ensures.loses,
    ) refl)

pub returns-in_default-clause-steps : goal.returns-in_default-clause-steps
returns-in_default-clause-steps g c = c.end_some.ensures.steps c.args.cx.now c.requires.turn

pub returns-in_default-frame_body-clause-steps : goal.returns-in_default-frame_body-clause-steps
returns-in_default-frame_body-clause-steps g c =
    writer_still g.C.Link g.O.Link g.O.Upstream _ _ _ _ _ c.requires.turn c.frame_body.ensures.keeps
    (writer_queued _ _ _ _ _ _ _ [] [] (record { client = refl; origin = refl; late = refl })
    (few_nothing _ _ c.in_default-frame_body.ensures.err) refl c.in_default-frame_body.ensures.err)

pub returns-clause-steps : goal.returns-clause-steps
returns-clause-steps g c = record {
  keeps = c.frame_body.ensures.keeps;
  links =
      writer_framed g.C.Link.tells g.O.Link.tells (view_of g.C.Link g.O.Link c.args.core.now)
      (view_of g.C.Link g.O.Link c.frame_body.new.self) c.args.relay.now
      (record c.args.relay.now { driven = c.take.new.self }) c.step_after.result _ _ g.P.Transform.rest _
      (calm_after c.take.result c.step_after.result
      c.step_after.ensures) (few_piece _ _ c.piece_of-piece.result.now c.args.most c.requires.room
      c.piece_of-piece.ensures.piece c.piece_of-piece.ensures.most c.in-Ok.ensures.ok) c.take.ensures.takes
      c.in-Ok.ensures.ok;
  chain =
      subst (λ s. StepsChain s 1 c.args.relay.now.driven c.take.new.self c.args.cx.now c.take.new.cx)
      (sym c.step_after.ensures)
      (chain_after 1 c.take.result c.args.relay.now.driven c.take.new.self c.args.cx.now c.take.new.cx
      c.take.ensures.adds c.take.ensures.driven c.take.ensures.loses c.take.ensures.same
      g.P.Transform.pause c.take.ensures.only (taken_order g.P.Transform.rest _ c.args.relay.now.driven.chain
      c.take.new.self.chain c.take.ensures.takes));
  relay = refl;
}
