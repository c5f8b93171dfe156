use Rattle.std.proofs.Common.{fold, sym, ap, ◌∙◌}
use Rattle.std.specs.Prelude.{codes, flat_map}
use Rattle.std.proofs.lemmas.List.{take_all}
use Rattle.ts_wire.specs.declared.framing.TransferCoding.TheVariants.{Absent}
use Rattle.ts_wire.specs.Framing.{add_coding}
use Rattle.ts_wire.specs.FieldList.{values_named, value_in}
use Rattle.ts_wire.proofs.FramingLemmas.{transfer_coding_is_fold}
use Rattle.ts_wire.proofs.framing.coding_of.Goals as goal

pub returns : goal.returns
returns c =
    let seen = take_all c.loop-field.field-index _ c.loop-field-test.false ∙ c.items-field-items.ensures in
    c.loop-field.invariant ∙ ap (λ l. fold add_coding Absent
    (flat_map (value_in (codes "transfer-encoding")) l)) seen
    ∙ sym (transfer_coding_is_fold (values_named (codes "transfer-encoding") c.args.fields.now))
