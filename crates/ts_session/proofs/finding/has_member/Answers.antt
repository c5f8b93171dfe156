use Rattle.std.proofs.Common.{rules, tests, sym, ◌∙◌}
use Rattle.std.specs.List.{slice_split}
use Rattle.std.specs.Str.{str_eq_ignore_ascii_case}
use Rattle.std.proofs.lemmas.Iterator.Splits.{YieldsList-from_slice_split}
use Rattle.std.proofs.lemmas.Iterator.Search.{any_from_yields_List}
use Rattle.httparse.specs.Grammar.{trim_ows}
use Rattle.ts_wire.specs.Values.{is_comma}
use Rattle.ts_session.proofs.Members.{list_any-map}
use Rattle.ts_session.proofs.finding.has_member.Goals as goal

pub returns : goal.returns
returns c =
    any_from_yields_List (λ p. str_eq_ignore_ascii_case (trim_ows p) c.args.name.now) _ _ _ c.any.ensures.ran
    (YieldsList-from_slice_split _ is_comma c.args.value.now c.split.ensures.rest c.split.ensures.done
    c.split.ensures.closure (λ x b q k. search (rules, tests)))
    (λ x b q k. search (rules, tests))
    ∙ sym (list_any-map (λ m. str_eq_ignore_ascii_case m c.args.name.now) trim_ows
    (slice_split is_comma c.args.value.now))
