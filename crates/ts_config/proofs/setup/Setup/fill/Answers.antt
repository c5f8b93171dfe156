-- The line that was filled is the same but for the text of its file.
use Rattle.std.proofs.Common.{ap, sym, ◌∙◌}
use Rattle.ts_config.specs.Setup.{lines_of, untexted_lines, with_text}
use Rattle.ts_config.specs.declared.setup.FilePlace.TheVariants as p
use Rattle.ts_config.specs.declared.setup.TransformLine.TheVariants.{Append}
use Rattle.ts_config.proofs.Filled.{filled_same, same_come, same_files, set_changed}
use Rattle.ts_config.proofs.setup.Setup.fill.Goals as goal

pub returns-clause-filled : goal.returns-clause-filled
returns-clause-filled c =
    let old = lines_of c.args.self.now in
    ap (λ lines. record old { transforms = lines })
    (set_changed (with_text c.args.text) old.transforms c.args.line c.index_mut.result.now
    (Append c.in-Append.file c.args.text)
    (ap (with_text c.args.text) (sym c.in-Append.is ∙ c.index_mut.ensures.value)))

pub returns-clause-lines : goal.returns-clause-lines
returns-clause-lines c =
    ap untexted_lines (returns-clause-filled c)
    ∙ filled_same (p.Transform c.args.line) c.args.text (lines_of c.args.self.now)

pub returns-clause-printable : goal.returns-clause-printable
returns-clause-printable c = same_come (lines_of c.args.self.now) _ (returns-clause-lines c)

pub returns-clause-names : goal.returns-clause-names
returns-clause-names c = same_files (lines_of c.args.self.now) _ (returns-clause-lines c)
