use Rattle.std.proofs.Common.{map, ap, sym, subst, ◌∙◌}
use Rattle.std.specs.Prelude.{All}
use Rattle.ts_wire.specs.Heads.{span_field, IsFieldAt}
use Rattle.ts_wire.proofs.HeadLemmas.{fields_good, fields_kept}
use Rattle.ts_wire.proofs.reading.response_of.Goals as goal

pub fields_at-requires : goal.fields_at-requires
fields_at-requires c =
    let front = c.split_at.ensures.front in
    let at = c.requires.at.1 in
    let section = c.requires.within.section in
    subst (All (IsFieldAt c.args.text.now)) (sym front)
    (fields_good c.args.text.now _ _ c.args.spans.now.len at.fields at.reads.0.fields section.len_fits
    c.requires.short section.headers_fit)

pub returns : goal.returns
returns c h at = record {
  status = at.code;
  reason = c.in_ok-reason.ensures ∙ c.of.ensures ∙ at.reason;
  minor = at.version;
  fields = c.in_ok-fields.ensures ∙ ap (map (span_field c.args.text.now)) c.split_at.ensures.front
      ∙ fields_kept c.args.text.now _ _ at.fields;
}
