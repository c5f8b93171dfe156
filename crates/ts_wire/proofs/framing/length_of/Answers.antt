use Rattle.std.proofs.Common.{fold, sym, ap, ◌∙◌}
use Rattle.std.specs.Prelude.{codes, flat_map}
use Rattle.std.proofs.lemmas.List.{take_all}
use Rattle.ts_wire.specs.declared.framing.ContentLength.TheVariants.{Absent}
use Rattle.ts_wire.specs.Framing.{add_length}
use Rattle.ts_wire.specs.FieldList.{members_named, members_in}
use Rattle.ts_wire.proofs.FramingLemmas.{content_length_is_fold}
use Rattle.ts_wire.proofs.framing.length_of.Goals as goal

pub returns : goal.returns
returns c =
    let seen = take_all c.loop-field.field-index _ c.loop-field-test.false ∙ c.items-field-items.ensures in
    c.loop-field.invariant ∙ ap (λ l. fold add_length Absent
    (flat_map (members_in (codes "content-length")) l)) seen
    ∙ sym (content_length_is_fold (members_named (codes "content-length") c.args.fields.now))
