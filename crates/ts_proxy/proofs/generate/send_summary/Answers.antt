-- The text that is written is the summary.
use Rattle.std.proofs.Common.{ap, ◌∙◌}
use Rattle.ts_proxy.specs.Outcome.{Summary}
use Rattle.ts_proxy.specs.Performed.{AreOfThreads}
use Rattle.ts_proxy.specs.Summary.{summary_of, summary_text}
use Rattle.ts_proxy.proofs.Performing.{run-to-summary, work-lacking}
use Rattle.ts_proxy.proofs.generate.send_summary.Goals as goal

pub returns-in_default : goal.returns-in_default
returns-in_default g c = λ numbers on.
    rw c.without.ensures.answer
    (work-lacking AreOfThreads (Summary numbers) g.K.Sink.tells _ _ c.without.ensures.none)

pub returns : goal.returns
returns g c = λ numbers on.
    c.performed_after.ensures (Summary numbers) c.as_slice-2.result.now g.K.Sink.tells _ _
    (run-to-summary numbers c.args.replayed c.as_slice-2.result.now on
    (c.as_slice-2.ensures.value ∙ c.in-Ok.ensures ∙ ap (λ bs. summary_text (summary_of bs))
    c.as_slice.ensures.value))
    (record { told = c.write_all-end.ensures.told; faults = c.write_all-end.ensures.faults })
