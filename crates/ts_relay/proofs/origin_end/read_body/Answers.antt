-- The reader made a step: it was idle, or read or fed some of the body.
use Rattle.std.proofs.Common.{refl, subst, sym, ◌∙◌}
use Rattle.std.proofs.lemmas.Bool.{false≢true}
use Rattle.ts_block.specs.Relayed.{framing_of}
use Rattle.ts_phases.specs.View.{view_of}
use Rattle.ts_relay.specs.Duties.{MustReadOn}
use Rattle.ts_relay.specs.Relaying.{IsShort}
use Rattle.ts_relay.proofs.BodyLinks.{reader_drained, reader_rests, short_none}
use Rattle.ts_relay.proofs.StepsOwed.{reader_still}
use Rattle.ts_phases.proofs.Owed.{all_kept}
use Rattle.ts_relay.proofs.LoweringRelay.{feeds_lower, idles}
use Rattle.ts_relay.proofs.Stopping.{feeds_lead}
use Rattle.ts_relay.proofs.origin_end.read_body.Goals as goal

pub returns-then-not-must_read_on-clause-lowers : goal.returns-then-not-must_read_on-clause-lowers
returns-then-not-must_read_on-clause-lowers g c =
    idles g.C.Link.tells g.O.Link.tells (MustReadOn c.args.relay.now) _ g.P.Transform.rest _
    c.args.relay.now c.args.cx.now (λ must. absurd (false≢true (sym c.if-not-must_read_on.true
    ∙ c.must_read_on.ensures.1 must)))

pub returns-then-not-must_read_on-clause-steps : goal.returns-then-not-must_read_on-clause-steps
returns-then-not-must_read_on-clause-steps g c =
    reader_still g.C.Link g.O.Link g.O.Upstream _ _ _ _ _ c.requires.turn (all_kept g.C.Link g.O.Link
    g.O.Upstream _) (reader_rests _ _ _ _ _ _ _ (record { client = refl; origin = refl; late = refl })
    refl refl)

-- The reader was fed with what waits: where that leads, and that it lowers what is left to do.

pub returns-then-holds_body-clause-leads : goal.returns-then-holds_body-clause-leads
returns-then-holds_body-clause-leads g c = λ told also.
    let must : MustReadOn c.args.relay.now = c.must_read_on.ensures.0 c.if-not-must_read_on.false in
    feeds_lead _ _ g.P.Transform _ _ c.args.relay.now c.feed_body.new.relay c.feed_body.result must.1.0 must.0
    c.feed_body.ensures.others c.feed_body.ensures.feeds (c.requires.fact told also)

pub returns-then-holds_body-clause-steps : goal.returns-then-holds_body-clause-steps
returns-then-holds_body-clause-steps g c =
    let must : MustReadOn c.args.relay.now = c.must_read_on.ensures.0 c.if-not-must_read_on.false in
    record {
      keeps = c.feed_body.ensures.keeps;
      links = reader_drained _ _ _ _ c.args.relay.now c.feed_body.new.relay c.feed_body.result
          must c.feed_body.ensures.feeds c.feed_body.ensures.others;
      chain = c.feed_body.ensures.chain;
      reader = c.feed_body.ensures.reader;
      stays = short_none c.args.relay.now c.feed_body.new.relay must.0;
    }

pub returns-then-holds_body-clause-lowers : goal.returns-then-holds_body-clause-lowers
returns-then-holds_body-clause-lowers g c =
    let must : MustReadOn c.args.relay.now = c.must_read_on.ensures.0 c.if-not-must_read_on.false in
    feeds_lower g.C.Link.tells g.O.Link.tells (MustReadOn c.args.relay.now) _ g.P.Transform.rest _
    _ c.args.relay.now c.feed_body.new.relay c.args.cx.now c.feed_body.new.cx c.feed_body.result
    c.feed_body.ensures.feeds c.feed_body.ensures.others must (λ told also.
    let fact = c.requires.fact told also in
    subst (IsShort (framing_of fact.q.head fact.h)
    (view_of g.C.Link g.O.Link c.args.core.now).origin c.args.relay.now.body) must.0
    (fact.gives_end.goes_on must.1.0)) (
      c.feed_body.ensures.chain.seats.same,
      c.feed_body.ensures.chain.falls,
    ) c.feed_body.ensures.reader
