-- Nothing must be written, and the chain has not finished: the first continuation must work where a body that
-- stops short rests.
use Rattle.std.proofs.Common.{sym, subst, ◌∙◌}
use Rattle.std.proofs.lemmas.Bool.{false≢true}
use Rattle.ts_transform.specs.Flow.{IsFinished, MustWrite, Rests}
use Rattle.ts_relay.proofs.Duty.{tells_none, tells_short}
use Rattle.ts_relay.proofs.duties.must_send.Goals as goal

pub returns-then-is_some : goal.returns-then-is_some
returns-then-is_some g c =
    tells_short c.rests.result _ c.args.relay.now (λ some. false≢true (sym
    c.if-must_write_out.false ∙ c.must_write_out.ensures.1 some))
    (λ some. false≢true (sym c.if-has_output.false ∙ c.has_output.ensures.1 (subst (λ k. MustWrite k)
    (sym c.chain.ensures) some)))
    (λ all. false≢true (sym c.if-is_finished.false ∙ c.is_finished.ensures.finished.1 (subst (λ k. IsFinished
    k)
    (sym c.chain-2.ensures) all)))
    (sym c.is_some.ensures ∙ c.if-is_some.true) (
      λ so. subst (λ k. Rests k) c.chain-then-is_some.ensures (c.rests.ensures.0 so),
      λ rests. c.rests.ensures.1
          (subst (λ k. Rests k) (sym c.chain-then-is_some.ensures) rests),
    )

pub returns-else-is_some : goal.returns-else-is_some
returns-else-is_some g c =
    tells_none c.is_some.result _ c.args.relay.now
    (λ some. false≢true (sym c.if-must_write_out.false ∙ c.must_write_out.ensures.1 some))
    (λ some. false≢true (sym c.if-has_output.false ∙ c.has_output.ensures.1 (subst (λ k. MustWrite k)
    (sym c.chain.ensures) some)))
    (λ all. false≢true (sym c.if-is_finished.false ∙ c.is_finished.ensures.finished.1 (subst (λ k. IsFinished
    k)
    (sym c.chain-2.ensures) all)))
    (sym c.is_some.ensures) c.if-is_some.false
