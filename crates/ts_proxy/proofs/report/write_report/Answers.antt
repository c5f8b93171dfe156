-- The report goes out in fronts, one behind the other.
use Rattle.std.proofs.Common.{◌+◌, ◌++◌, arith, rules, subst, ◌∙◌}
use Rattle.ts_link.specs.Counts.{Counted, Rose}
use Rattle.ts_proxy.proofs.Fronts.{closed, gathered, took-broken, took-more, took-rest}
use Rattle.ts_proxy.proofs.report.write_report.Goals as goal
use Rattle.ts_proxy.specs.Sending.{is_failed}
use Rattle.ts_record.specs.Report.{block_text, blocks_text, report_end}

pub report-preserved : goal.report-preserved
report-preserved g c = record {
  took = λ tells.
      let number = c.report.number + 1 in
      let left = c.pop_front.new.self.items in
      took-more _ _ _ _ (c.report.lines.items ++ block_text number c.in-Some.block) _
      (blocks_text (number + 1) left ++ report_end)
      (gathered _ _ _ c.report.lines.items number c.in-Some.block left c.report.rest.items
      c.in-Some.ensures.items (c.report.invariant.took tells))
      (c.in-Done.ensures.told tells);
  faults = c.in-Done.ensures.faults ∙ c.report.invariant.faults;
  count = search rules;
  reported = search rules;
}

pub returns-in-Failed : goal.returns-in-Failed
returns-in-Failed g c = record {
  told = λ tells.
      let number = c.report.number + 1 in
      let left = c.pop_front.new.self.items in
      took-broken _ _ _ _ (c.report.lines.items ++ block_text number c.in-Some.block)
      (blocks_text (number + 1) left ++ report_end)
      (gathered _ _ _ c.report.lines.items number c.in-Some.block left c.report.rest.items
      c.in-Some.ensures.items (c.report.invariant.took tells))
      (c.in-Failed.ensures.told tells);
  faults =
      let rose : Rose (g.K.Sink.seen c.args.out.now).faults (g.K.Sink.seen c.send_block.new.out).faults =
      omega (arith, c.in-Failed.ensures.faults, c.report.invariant.faults) in
      rose;
}

pub returns-in-NoMemory : goal.returns-in-NoMemory
returns-in-NoMemory g c = record {
  told = λ tells.
      let number = c.report.number + 1 in
      let left = c.pop_front.new.self.items in
      took-broken _ _ _ _ (c.report.lines.items ++ block_text number c.in-Some.block)
      (blocks_text (number + 1) left ++ report_end)
      (gathered _ _ _ c.report.lines.items number c.in-Some.block left c.report.rest.items
      c.in-Some.ensures.items (c.report.invariant.took tells))
      (c.in-NoMemory.ensures.told tells);
  faults = c.in-NoMemory.ensures.faults ∙ c.report.invariant.faults;
}

pub returns : goal.returns
returns g c = record {
  told = λ tells.
      took-rest _ _ _ _ _ c.as_slice.result.now
      (closed _ _ _ c.report.lines.items _ (c.report.number + 1) c.report.rest.items
      (c.in_default-pop_front.ensures.items ∙ c.in_default-pop_front.ensures.rest)
      (c.as_slice.ensures.value ∙ c.in-Ok-extend_from_slice.ensures.items) (c.report.invariant.took tells))
      (c.write_all.ensures.told tells);
  faults = subst
      (λ n. Counted (is_failed c.write_all.result) n (g.K.Sink.seen c.write_all.new.out).faults)
      c.report.invariant.faults c.write_all.ensures.faults;
}
