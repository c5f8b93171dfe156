-- A transaction that was started is covered by its first event.
use Rattle.std.specs.Prelude.{◌∷◌, []}
use Rattle.std.proofs.Common.{arith, subst}
use Rattle.ts_transform.specs.Seats.{AllSeated}
use Rattle.ts_transform.proofs.Kept.{acts_then}
use Rattle.ts_txn.proofs.CourseCalls.{alone_made}
use Rattle.ts_relay.proofs.BodyTimes.{made_acts}
use Rattle.ts_txn.proofs.continuation.begin.Goals as goal

pub returns-clause-within : goal.returns-clause-within
returns-clause-within g c =
    acts_then 0 1 1 (omega arith) (made_acts c.args.cx.now c.make_end.new.cx 0 c.make_end.ensures.grows
    c.make_end.ensures.turn c.make_end.ensures.events) c.lead_to.ensures.within

pub returns-clause-covered : goal.returns-clause-covered
returns-clause-covered g c = λ alone v.
    c.lead_to.ensures.covered
    (alone_made c.in-Ok.made c.args.cx.now c.make_end.new.cx
    (subst (λ m. AllSeated c.args.cx.now.log.state.pending (m ∷ [])) c.requires.none alone.seated)
    alone.plain
    c.make_end.ensures.events c.in-Ok.ensures.named.0 c.in-Ok.ensures.named.1) v
