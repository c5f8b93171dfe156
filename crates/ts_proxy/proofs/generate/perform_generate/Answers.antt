-- The recording is made and run, and its summary written.
use Rattle.ts_proxy.specs.Outcome.{Summary}
use Rattle.ts_proxy.specs.Performed.{AreOfThreads}
use Rattle.ts_proxy.proofs.Performing.{work-lacking}
use Rattle.ts_proxy.proofs.generate.perform_generate.Goals as goal

pub returns-in_default : goal.returns-in_default
returns-in_default g c =
    rw c.without.ensures.answer
    (work-lacking AreOfThreads (Summary c.args.numbers) g.K.Sink.tells _ _ c.without.ensures.none)

pub returns : goal.returns
returns g c = c.send_summary.ensures c.args.numbers c.in-Ok.ensures
