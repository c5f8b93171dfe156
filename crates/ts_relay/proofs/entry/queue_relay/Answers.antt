-- The client's head is queued and the chain made, or there was no memory for them. The block that was begun
-- leaves what waits.
use Rattle.std.proofs.Common.{◌≡◌, refl, ap, subst, ◌∙◌}
use Rattle.std.specs.Arc.{arc_value}
use Rattle.ts_block.specs.Block.{framing_for, relayed_with}
use Rattle.ts_block.specs.Relayed.{mode_of}
use Rattle.ts_relay.specs.Entering.{IsFreshRelay}
use Rattle.ts_phases.specs.RelayMoves.{QueuesHead}
use Rattle.ts_phases.specs.View.{OriginRefuses, view_of}
use Rattle.ts_relay.specs.LoweringBody.{HasChainRoom}
use Rattle.ts_relay.proofs.Entered.{queues_head, unqueued}
use Rattle.ts_relay.proofs.LoweringEntry.{parts_have_room, queues_lower}
use Rattle.ts_relay.proofs.entry.queue_relay.Goals as goal

pub returns-in_default-clause-err : goal.returns-in_default-clause-err
returns-in_default-clause-err g c = λ told also.
    unqueued (arc_value c.args.core.now.setup) (OriginRefuses g.C.Link g.O.Upstream c.args.core.now)
    (view_of g.C.Link g.O.Link c.args.core.now) (view_of g.C.Link g.O.Link c.args.core.now) c.args.request.now
    c.args.head.now refl (c.requires.fact told also).0

pub returns-in_default-relayed_with-clause-err : goal.returns-in_default-relayed_with-clause-err
returns-in_default-relayed_with-clause-err g c = λ told also.
    unqueued (arc_value c.args.core.now.setup) (OriginRefuses g.C.Link g.O.Upstream c.args.core.now)
    (view_of g.C.Link g.O.Link c.args.core.now) (view_of g.C.Link g.O.Link c.args.core.now) c.args.request.now
    c.args.head.now refl (c.requires.fact told also).0

pub returns-in-Ok-queue_head-clause-ok : goal.returns-in-Ok-queue_head-clause-ok
returns-in-Ok-queue_head-clause-ok g c = λ told also.
    let q = c.args.request.now in
    let h = c.args.head.now in
    queues_head (arc_value c.args.core.now.setup) (OriginRefuses g.C.Link g.O.Upstream c.args.core.now)
    g.P.Transform
    (view_of g.C.Link g.O.Link c.args.core.now) (view_of g.C.Link g.O.Link c.queue_head.new.self) q h
    c.in-Ok.made c.bytes.result.now c.mode_of-mode.result
    (c.requires.fact told also).0
    (subst (λ s. IsFreshRelay g.P.Transform s q.head h c.in-Ok.made) c.deref.ensures
    c.in-Ok.ensures.fresh)
    (c.bytes.ensures ∙ c.in-Ok-relayed_with.ensures
    ∙ ap (λ s. relayed_with s q.head h c.args.fields.now) c.deref-2.ensures
    ∙ ap (λ fs. relayed_with (arc_value c.args.core.now.setup) q.head h fs) (c.requires.fact told also).1)
    (c.mode_of-mode.ensures ∙ ap mode_of (c.framing_for.ensures ∙ ap (λ s. framing_for s q.head h)
    c.deref-3.ensures))
    (subst (λ out. QueuesHead c.bytes.result.now c.mode_of-mode.result
    (record (view_of g.C.Link g.O.Link c.args.core.now) {
      client = record (view_of g.C.Link g.O.Link c.args.core.now).client { outbox = out };
    }) (view_of g.C.Link g.O.Link c.queue_head.new.self)) c.begin_block.ensures
    c.in-Ok-queue_head.ensures.ok)

pub returns-in-Err-clause-err : goal.returns-in-Err-clause-err
returns-in-Err-clause-err g c = λ told also.
    unqueued (arc_value c.args.core.now.setup) (OriginRefuses g.C.Link g.O.Upstream c.args.core.now)
    (view_of g.C.Link g.O.Link c.args.core.now) (view_of g.C.Link g.O.Link c.queue_head.new.self)
    c.args.request.now c.args.head.now
    (subst (λ out. view_of g.C.Link g.O.Link c.queue_head.new.self
    ≡ record (view_of g.C.Link g.O.Link c.args.core.now) {
      client = record (view_of g.C.Link g.O.Link c.args.core.now).client { outbox = out };
    }) c.begin_block.ensures c.in-Err.ensures.err) (c.requires.fact told also).0

pub returns-in-Ok-queue_head-clause-lowers : goal.returns-in-Ok-queue_head-clause-lowers
returns-in-Ok-queue_head-clause-lowers g c =
    let q = c.args.request.now in
    let h = c.args.head.now in
    queues_lower g.C.Link.tells g.O.Link.tells (arc_value c.args.core.now.setup)
    (OriginRefuses g.C.Link g.O.Upstream c.args.core.now) g.P.Transform.rest
    (view_of g.C.Link g.O.Link c.args.core.now) (view_of g.C.Link g.O.Link c.queue_head.new.self) q h
    c.bytes.result.now c.mode_of-mode.result c.in-Ok.made (λ told also. (c.requires.fact told also).0)
    (ap (λ d. d.first) c.in-Ok.ensures.parts.chain)
    (subst (λ s. HasChainRoom s g.P.Transform.rest c.in-Ok.made.driven.chain) c.deref.ensures
    (parts_have_room _ g.P.Transform q.head h c.in-Ok.made.driven.chain c.in-Ok.ensures.parts))
    (λ told also. c.bytes.ensures ∙ c.in-Ok-relayed_with.ensures
    ∙ ap (λ s. relayed_with s q.head h c.args.fields.now) c.deref-2.ensures
    ∙ ap (λ fs. relayed_with (arc_value c.args.core.now.setup) q.head h fs) (c.requires.fact told also).1)
    (subst (λ out. QueuesHead c.bytes.result.now c.mode_of-mode.result
    (record (view_of g.C.Link g.O.Link c.args.core.now) {
      client = record (view_of g.C.Link g.O.Link c.args.core.now).client { outbox = out };
    }) (view_of g.C.Link g.O.Link c.queue_head.new.self)) c.begin_block.ensures
    c.in-Ok-queue_head.ensures.ok)
