use Rattle.std.specs.Prelude.{Some, codes}
use Rattle.std.proofs.Common.{◌∙◌, sym}
use Rattle.ts_wire.proofs.CheckLemmas.{last_case}
use Rattle.ts_wire.proofs.check.has_form.Goals as goal

pub returns : goal.returns
returns c = λ host.
    c.is_absolute_form.ensures c.args.method.now
    ∙ last_case _ _ (Some (c.args.target.now, host)) (Some (codes "*", host)) _
    (sym c.begins_with_slash.ensures ∙ c.if-begins_with_slash.false)
    (sym c.is_asterisk.ensures ∙ c.if-is_asterisk.false)
