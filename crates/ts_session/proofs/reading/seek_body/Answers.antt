-- Only a body in chunks is read on.
use Rattle.std.proofs.Common.{subst, sym}
use Rattle.ts_session.specs.Reading.{IsThere}
use Rattle.ts_session.proofs.Giving.{moves_none}
use Rattle.ts_session.proofs.reading.seek_body.Goals as goal

pub returns-in-Known-clause-moves : goal.returns-in-Known-clause-moves
returns-in-Known-clause-moves g c =
    moves_none g.C.Link.tells c.args.request.now (g.C.Link.look c.args.client.now)

pub returns-in-Known-clause-known : goal.returns-in-Known-clause-known
returns-in-Known-clause-known g c =
    subst (λ x. IsThere x c.args.request.now.held) (sym c.in-Known.is) tt

pub returns-in-Known-clause-goes : goal.returns-in-Known-clause-goes
returns-in-Known-clause-goes g c = g.met.C.Link.stays c.args.client.now

pub returns-in-Open-clause-moves : goal.returns-in-Open-clause-moves
returns-in-Open-clause-moves g c =
    moves_none g.C.Link.tells c.args.request.now (g.C.Link.look c.args.client.now)

pub returns-in-Open-clause-known : goal.returns-in-Open-clause-known
returns-in-Open-clause-known g c =
    subst (λ x. IsThere x c.args.request.now.held) (sym c.in-Open.is) tt

pub returns-in-Open-clause-goes : goal.returns-in-Open-clause-goes
returns-in-Open-clause-goes g c = g.met.C.Link.stays c.args.client.now
