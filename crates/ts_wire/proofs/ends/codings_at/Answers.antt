use Rattle.std.proofs.Common.{fold, map, sym, ap, ◌∙◌}
use Rattle.std.specs.Prelude.{codes, flat_map}
use Rattle.std.proofs.lemmas.List.{take_all}
use Rattle.ts_wire.specs.declared.framing.TransferCoding.TheVariants.{Absent}
use Rattle.ts_wire.specs.FieldList.{values_named, value_in}
use Rattle.ts_wire.specs.Framing.{add_coding}
use Rattle.ts_wire.specs.Heads.{span_field}
use Rattle.ts_wire.proofs.FramingLemmas.{transfer_coding_is_fold}
use Rattle.ts_wire.proofs.ends.codings_at.Goals as goal

pub returns : goal.returns
returns c =
    let seen = take_all c.loop-header.header-index _ c.loop-header-test.false in
    c.loop-header.invariant
    ∙ ap (λ l. fold add_coding Absent (flat_map (value_in (codes "transfer-encoding")) (map (span_field c.args.text.now) l))) seen
    ∙ sym (transfer_coding_is_fold (values_named (codes "transfer-encoding") (map (span_field c.args.text.now) c.args.headers.now)))
