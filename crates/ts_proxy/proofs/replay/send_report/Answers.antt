-- The text that is written is the report.
use Rattle.std.proofs.Common.{refl}
use Rattle.ts_proxy.specs.Outcome.{Report}
use Rattle.ts_proxy.proofs.Performing.{run-to-report}
use Rattle.ts_proxy.proofs.replay.send_report.Goals as goal
use Rattle.ts_record.specs.Report.{report_text}

pub returns : goal.returns
returns g c = λ lines bytes on.
    let text = report_text c.args.ran.version c.args.ran.replayed.blocks.items in
    c.performed_after.ensures (Report lines bytes) text g.K.Sink.tells _ _
    (run-to-report lines bytes c.args.ran.version c.args.ran.replayed text on refl) c.write_report-end.ensures
