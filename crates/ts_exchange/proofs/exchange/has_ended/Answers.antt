-- A transaction that has ended has no continuation, and so nothing of it is pending.
use Rattle.std.proofs.Common.{◌∙◌, ap, is_some, sym}
use Rattle.ts_exchange.proofs.Left.{ended_rests}
use Rattle.ts_exchange.proofs.exchange.has_ended.Goals as goal

pub returns-clause-rests : goal.returns-clause-rests
returns-clause-rests g c = λ ended s roles sound.
    ended_rests c.args.exchange.now.course c.args.exchange.now.main s.pending
    (ap is_some (sym c.end.ensures.end) ∙ sym c.is_some.ensures ∙ ended) sound.covered.seated
    sound.covered.idles
