-- The first span of a connection.
use Rattle.std.proofs.Common.{refl}
use Rattle.ts_session.proofs.Ends.{first_sound}
use Rattle.ts_session.proofs.span.Span.make.Goals as goal

pub invariant_of-result : goal.invariant_of-result
invariant_of-result g c =
    first_sound g.C.Link.look g.C.Link.tells _ c.args.client refl c.of-begun.ensures refl
    c.in_ok-request.ensures c.new-response.ensures c.known.ensures
