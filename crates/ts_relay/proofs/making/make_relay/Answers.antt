-- What passes on a body is fresh: its chain is of the lines that act, and nothing was read.
use Rattle.std.proofs.Common.{refl, subst, sym, ◌∙◌}
use Rattle.ts_transform.specs.Flow.{Composes}
use Rattle.ts_wire.specs.declared.framing.Framing.{Framing}
use Rattle.ts_block.specs.Block.{lines_for}
use Rattle.ts_passing.specs.Inserted.{AreOfLines}
use Rattle.ts_block.specs.Relayed.{if_body}
use Rattle.ts_relay.specs.Entering.{PausesNowhere}
use Rattle.ts_relay.proofs.Entered.{fresh_relay}
use Rattle.ts_passing.proofs.Parting.{compose_of_lines, soon_of_lines}
use Rattle.ts_relay.proofs.making.make_relay.Goals as goal

pub returns-clause-fresh : goal.returns-clause-fresh
returns-clause-fresh g c =
    fresh_relay g.P.Transform c.args.setup.now c.args.request.now c.args.head.now c.make-2.result
    c.in_ok-body.body c.has_pause-pauses.result c.in_ok-parts.parts.items c.framing_between-framing.result
    (c.make-2.ensures.fresh.0, c.make-2.ensures.fresh.1) (c.make-2.ensures.chain ∙ c.in_ok-chain.ensures.made)
    (subst (λ k. Composes g.P.Transform.rest g.P.Transform.soon c.in_ok-parts.parts.items k)
    (sym c.make-2.ensures.chain) c.in_ok-chain.ensures.flow)
    (compose_of_lines g.P.Transform (if_body c.framing_between-framing.result (lines_for c.args.setup.now
    c.args.head.now)) c.in_ok-parts.parts.items c.in_ok-parts.ensures)
    (soon_of_lines g.P.Transform (if_body c.framing_between-framing.result (lines_for c.args.setup.now
    c.args.head.now)) c.in_ok-parts.parts.items c.in_ok-parts.ensures)
    c.framing_between-framing.ensures c.in_ok-body.ensures

pub returns-clause-parts : goal.returns-clause-parts
returns-clause-parts g c = record {
  parts = c.in_ok-parts.parts.items;
  of_lines = subst (λ (f : Framing). AreOfLines g.P.Transform (if_body f (lines_for c.args.setup.now
      c.args.head.now)) c.in_ok-parts.parts.items)
      c.framing_between-framing.ensures c.in_ok-parts.ensures;
  chain = c.make-2.ensures.chain ∙ c.in_ok-chain.ensures.made;
}

pub returns-clause-pauses : goal.returns-clause-pauses
returns-clause-pauses g c =
    let same = c.make-2.ensures.chain in
    record {
      some = λ is nowhere. c.has_pause-pauses.ensures.some is
          (subst (λ k. PausesNowhere g.P.Transform.pause k.stages) same nowhere);
      none = λ is. subst (λ k. PausesNowhere g.P.Transform.pause k.stages) (sym same)
          (c.has_pause-pauses.ensures.none is);
      unfed = refl;
    }
