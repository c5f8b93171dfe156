-- There is nothing to do; or what waits was written, behind which no more may be framed.
use Rattle.std.proofs.Common.{length, arith, ap, refl, sym, ◌∙◌}
use Rattle.std.proofs.lemmas.Bool.{false≢true}
use Rattle.ts_relay.proofs.BodyLinks.{writer_rests}
use Rattle.ts_relay.proofs.LoweringRelay.{idles, must_weaker}
use Rattle.ts_relay.proofs.StepsOwed.{writer_still}
use Rattle.ts_phases.proofs.Owed.{all_kept}
use Rattle.ts_relay.proofs.client_end.write_body.Goals as goal

pub returns-then-not-must_send-clause-steps : goal.returns-then-not-must_send-clause-steps
returns-then-not-must_send-clause-steps g c =
    writer_still g.C.Link g.O.Link g.O.Upstream _ _ _ _ _ c.requires.turn (all_kept g.C.Link g.O.Link
    g.O.Upstream _) (writer_rests _ _ _ _ _ _ _ (record { client = refl; origin = refl; late = refl }) refl
    refl)

pub returns-then-not-must_send-clause-lowers : goal.returns-then-not-must_send-clause-lowers
returns-then-not-must_send-clause-lowers g c =
    idles g.C.Link.tells g.O.Link.tells _ _ g.P.Transform.rest _ c.args.relay.now c.args.cx.now
    (λ must. false≢true (sym c.if-not-must_send.true ∙ c.must_send.ensures.only must))

pub write_some-requires-clause-some : goal.write_some-requires-clause-some
write_some-requires-clause-some g c = λ none. omega (
  arith,
  c.if-room-eq0.true,
  c.room_behind-room.ensures.none (c.len.ensures ∙ ap length none),
)

pub returns-then-room-eq0-clause-steps : goal.returns-then-room-eq0-clause-steps
returns-then-room-eq0-clause-steps g c = c.write_some.ensures.steps c.args.cx.now c.requires.turn

pub returns-then-room-eq0-clause-lowers : goal.returns-then-room-eq0-clause-lowers
returns-then-room-eq0-clause-lowers g c = must_weaker _ _ _ _ _ g.P.Transform.rest _ _ _ _ _ c.args.cx.now
    c.args.cx.now (λ must. tt) (c.write_some.ensures.lowers c.args.cx.now)
