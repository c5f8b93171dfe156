-- Where memory did not lack, the server says that nothing is left over of a client that could have gone on.
use Rattle.std.proofs.Common.{◌≡◌, ◌∙◌, sym}
use Rattle.ts_serve.specs.declared.acceptor.Served.TheVariants as served
use Rattle.ts_proxy.proofs.serve.serve_by_sessions.Goals as goal

-- want of memory is none of the other ends
not_whole : served.Whole ≡ served.NoMemory → ⊥
not_whole lacks = cc

not_failed : served.Failed ≡ served.NoMemory → ⊥
not_failed lacks = cc

pub returns-in-Whole-clause-sessions : goal.returns-in-Whole-clause-sessions
returns-in-Whole-clause-sessions g c = λ telling. record {
  last = c.serve_sessions.ensures.retired telling;
  had = c.serve_sessions.ensures.sessions telling;
  spent = λ enough. c.serve_sessions.ensures.spent telling (λ lacks. not_whole (sym c.in-Whole.is ∙ lacks));
}

pub returns-in-Failed-clause-sessions : goal.returns-in-Failed-clause-sessions
returns-in-Failed-clause-sessions g c = λ telling. record {
  last = c.serve_sessions.ensures.retired telling;
  had = c.serve_sessions.ensures.sessions telling;
  spent = λ enough. c.serve_sessions.ensures.spent telling (λ lacks. not_failed (sym c.in-Failed.is ∙ lacks));
}
