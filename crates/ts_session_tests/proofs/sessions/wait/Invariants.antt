-- Nothing of the request was given.
use Rattle.ts_session.specs.Reading.{IsUnread}
use Rattle.ts_session_tests.proofs.sessions.wait.Given as goal

abbrev pub invariant-polls : goal.invariant-polls
invariant-polls l = IsUnread l.span.request
