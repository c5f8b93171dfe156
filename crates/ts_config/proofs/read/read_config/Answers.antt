-- Line by line.
use Rattle.std.proofs.Common.{◌≡◌, ℕ, List, arith, sym, subst}
use Rattle.ts_config.specs.Reading.{AreFew, RefusesRightly}
use Rattle.ts_config.specs.Lines.{config_lines}
use Rattle.ts_config.specs.Setup.{lines_of, no_lines}
use Rattle.std.proofs.lemmas.Bool.Decides.{nat_tests}
use Rattle.ts_config.proofs.Fresh.{come_printable, read-come}
use Rattle.ts_config.proofs.LinesSoFar.{LinesRead, all_lines, line_more, no_lines_few, none_read, refused_line}
use Rattle.ts_config.proofs.OneReading.{places_read}
use Rattle.ts_config.proofs.Printable.{files_named, rules_plain}
use Rattle.ts_config.proofs.ValueReads.{read_value, refusal_value}
use Rattle.ts_config.proofs.read.read_config.Goals as goal

pub loop-rest-init : goal.loop-rest-init
loop-rest-init c =
    let bytes : List ℕ = c.args.bytes.now in
    record {
      read = subst (λ ls. LinesRead bytes bytes 0 ls c.no_lines-setup.result.files.items) (sym c.no_lines-setup.ensures.lines)
          (subst (LinesRead bytes bytes 0 no_lines) (sym c.no_lines-setup.ensures.places) (none_read bytes));
      few = subst AreFew (sym c.no_lines-setup.ensures.lines) no_lines_few;
      counted = omega arith;
    }

pub loop-rest-preserved : goal.loop-rest-preserved
loop-rest-preserved c = record {
  read = line_more c.args.bytes.now c.loop-rest.rest.now c.loop-rest.line_number
      (lines_of c.loop-rest.setup) c.loop-rest.setup.files.items c.loop-rest.invariant.read
      c.cut_line.result.0.now c.cut_line.result.1.now c.cut_line.ensures.lines c.in-Ok.ensures.ok.e
      (lines_of c.add_line.new.setup) c.add_line.new.setup.files.items c.in-Ok.ensures.ok.means
      c.in-Ok.ensures.ok.adds.lines c.in-Ok.ensures.ok.adds.files c.in-Ok.ensures.few;
  few = c.in-Ok.ensures.few;
  counted = omega (arith, c.cut_line.ensures.shorter, c.loop-rest.invariant.counted);
}

pub returns-in-Err-clause-fault : goal.returns-in-Err-clause-fault
returns-in-Err-clause-fault c =
    subst (RefusesRightly (config_lines c.args.bytes.now)) (sym c.refusal_at.ensures)
    (refused_line c.args.bytes.now c.loop-rest.rest.now c.loop-rest.line_number
    (lines_of c.loop-rest.setup) c.loop-rest.setup.files.items c.loop-rest.invariant.read
    c.cut_line.result.0.now c.cut_line.result.1.now c.cut_line.ensures.lines c.in-Err.refusal
    c.in-Err.ensures.fault)

pub returns-in-Err-clause-refusal : goal.returns-in-Err-clause-refusal
returns-in-Err-clause-refusal c =
    refusal_value c.args.bytes.now c.refusal_at.result (returns-in-Err-clause-fault c)

-- the text was read to its end
pub returns-clause-read : goal.returns-clause-read
returns-clause-read c =
    (all_lines c.args.bytes.now c.loop-rest.rest.now c.loop-rest.line_number
    (lines_of c.loop-rest.setup) c.loop-rest.setup.files.items c.loop-rest.invariant.read
    (grind (arith, nat_tests))).0

pub returns-clause-files : goal.returns-clause-files
returns-clause-files c =
    (all_lines c.args.bytes.now c.loop-rest.rest.now c.loop-rest.line_number
    (lines_of c.loop-rest.setup) c.loop-rest.setup.files.items c.loop-rest.invariant.read
    (grind (arith, nat_tests))).1

pub returns-clause-value : goal.returns-clause-value
returns-clause-value c =
    read_value c.args.bytes.now (lines_of c.loop-rest.setup) c.loop-rest.setup.files.items
    (returns-clause-read c, returns-clause-files c)

pub returns-clause-printable : goal.returns-clause-printable
returns-clause-printable c = read-come c.args.bytes.now (lines_of c.loop-rest.setup) (returns-clause-read c)

pub returns-clause-names : goal.returns-clause-names
returns-clause-names c = record {
  names = files_named (lines_of c.loop-rest.setup)
      (come_printable (lines_of c.loop-rest.setup) (returns-clause-printable c));
  places = places_read c.args.bytes.now (lines_of c.loop-rest.setup) c.loop-rest.setup.files.items
      (returns-clause-read c) (returns-clause-files c);
}

pub returns-clause-rules : goal.returns-clause-rules
returns-clause-rules c =
    rules_plain c.loop-rest.setup.plugins.items
    (come_printable (lines_of c.loop-rest.setup) (returns-clause-printable c)).plugins
