use Rattle.std.proofs.Common.{◌≡◌, ◌+◌, length, true}
use Rattle.ts_proxy.proofs.Fronts.{still_out}
use Rattle.ts_proxy.proofs.report.write_report.Given as goal
use Rattle.ts_proxy.specs.Took.{TookBut}
use Rattle.ts_record.specs.Report.{AreReported, report_text}

-- all of the report was taken but the lines that are gathered and those that are still to be made, and
-- nothing failed
abbrev pub invariant-report : goal.invariant-report
invariant-report g l = record {
  took : g.K.Sink.tells ≡ true → TookBut (g.K.Sink.seen l.initial.out) (g.K.Sink.seen l.out)
      (report_text l.version l.fn.blocks.items) (still_out l.lines.items (l.number + 1) l.rest.items);
  faults : (g.K.Sink.seen l.out).faults ≡ (g.K.Sink.seen l.initial.out).faults;
  count : l.number + length l.rest.items ≡ length l.fn.blocks.items;
  reported : AreReported l.rest.items;
}

abbrev pub decreases-report : goal.decreases-report
decreases-report g l = length l.rest.items
