-- A handler of a session may go to another thread where its links and its transforms may. A span holds
-- snapshots, which own nothing; so the crossing is told here.
use denote.RattleType.{RattleType}
use denote.Struct.Declared.{shape}
use denote.Param.Send.{IsSend, sendable, view_send, recorded_send, struct_send}
use Rattle.std.proofs.Crossing.{crosses}
use Rattle.ts_group.proofs.either.Either.TheSendSync as either
use Rattle.ts_link.specs.declared.link.Link as link
use Rattle.ts_link.specs.declared.link.Sourced as sourced
use Rattle.ts_session.specs.contracts.span.Span as span
use Rattle.ts_session.specs.contracts.span.SpanLink.TheImpl as span_link
use Rattle.ts_session.specs.contracts.spanned.Spanned as spanned_row
use Rattle.ts_session.specs.contracts.spanned.SpannedLink.TheImpl as spanned_link
use Rattle.ts_session.proofs.spanned.Spanned.TheSendSync as spanned
use Rattle.ts_waiting.proofs.polling.WaitState.TheSendSync as state
use Rattle.ts_waiting.specs.contracts.waiting.Waiting as waiting
use Rattle.ts_serve.proofs.Crossing.{placed_send}
use Rattle.ts_serve.proofs.sessions.Ended.TheSendSync as ended
use Rattle.ts_serve.specs.contracts.session.SessionHandler as session
use Rattle.ts_serve.specs.contracts.session.SessionHandler.TheInside as inside

-- the span of a request
pub span_send : (C : RattleType) (g : link.Ghosts C.Denot) → IsSend C → IsSend (span.the_row C g)
span_send C g c = search (crosses, sendable) depth 60 fits 20000

-- a client that waits, with what is left of its transaction
wait_send : (C L : RattleType) (g : link.Ghosts C.Denot) → IsSend C → IsSend L
    → IsSend (waiting.the_row C L g)
wait_send C L g c l =
    let row = waiting.the_type C L g in
    recorded_send (waiting.the_field C L g).row _ _ row.to_one
    (struct_send (shape row) (span_send C g c, (l, (state.the_field_send, tt))))

-- a transaction of a session, or a client that waits
pub session_send : (C O P : RattleType) (s : sourced.Ghosts C.Denot) (g : link.Ghosts C.Denot)
    (h : link.Ghosts O.Denot) → IsSend C → IsSend O → IsSend P → IsSend (session.the_row C O P s g h)
session_send C O P s g h c o p =
    let exchange =
    placed_send (span.the_row C g) (spanned_row.the_row O) P
    (span_link.ghosts C s span_link.no_dict g span_link.no_dict)
    (spanned_link.ghosts O h spanned_link.no_dict) (span_send C g c) (spanned.the_send O o) p in
    let row = inside.the_type C O P s g h in
    view_send (inside.the_row C O P s g h) _ _ _ _
    (recorded_send (inside.the_field C O P s g h).row _ _ row.to_one
    (struct_send (shape row)
    (either.the_field_send _ _ exchange (wait_send C _ g c (ended.the_send O o)), tt)))
