-- The intercept that was filled is the same but for the text of its file.
use Rattle.std.proofs.Common.{ap, sym, ◌∙◌}
use Rattle.ts_config.specs.Setup.{intercept_with_text, kind_with_text, lines_of, untexted_lines}
use Rattle.ts_config.specs.declared.setup.FilePlace.TheVariants as p
use Rattle.ts_config.specs.declared.setup.InterceptKind.{InterceptKind}
use Rattle.ts_config.specs.declared.setup.InterceptKind.TheVariants.{File}
use Rattle.ts_config.specs.declared.setup.InterceptLine.{InterceptLine}
use Rattle.ts_config.proofs.Filled.{filled_same, same_come, same_files, set_changed}
use Rattle.ts_config.proofs.setup.Setup.fill_intercept.Goals as goal

pub returns-clause-filled : goal.returns-clause-filled
returns-clause-filled c =
    let old = lines_of c.args.self.now in
    let put : InterceptKind → InterceptLine = λ kind. record {
      site = c.index_mut.result.now.site;
      kind = kind_with_text c.args.text kind;
    } in
    ap (λ lines. record old { intercepts = lines })
    (set_changed (intercept_with_text c.args.text) old.intercepts c.args.line c.index_mut.result.now
    (put (File c.in-File.file c.args.text))
    (ap put (sym c.in-File.is) ∙ ap (intercept_with_text c.args.text) c.index_mut.ensures.value))

pub returns-clause-lines : goal.returns-clause-lines
returns-clause-lines c =
    ap untexted_lines (returns-clause-filled c)
    ∙ filled_same (p.Intercept c.args.line) c.args.text (lines_of c.args.self.now)

pub returns-clause-printable : goal.returns-clause-printable
returns-clause-printable c = same_come (lines_of c.args.self.now) _ (returns-clause-lines c)

pub returns-clause-names : goal.returns-clause-names
returns-clause-names c = same_files (lines_of c.args.self.now) _ (returns-clause-lines c)
