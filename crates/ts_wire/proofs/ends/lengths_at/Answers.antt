use Rattle.std.proofs.Common.{fold, map, sym, ap, ◌∙◌}
use Rattle.std.specs.Prelude.{codes, flat_map}
use Rattle.std.proofs.lemmas.List.{take_all}
use Rattle.ts_wire.specs.declared.framing.ContentLength.TheVariants.{Absent}
use Rattle.ts_wire.specs.FieldList.{members_named, members_in}
use Rattle.ts_wire.specs.Framing.{add_length}
use Rattle.ts_wire.specs.Heads.{span_field}
use Rattle.ts_wire.proofs.FramingLemmas.{content_length_is_fold}
use Rattle.ts_wire.proofs.ends.lengths_at.Goals as goal

pub returns : goal.returns
returns c =
    let seen = take_all c.loop-header.header-index _ c.loop-header-test.false in
    c.loop-header.invariant
    ∙ ap (λ l. fold add_length Absent (flat_map (members_in (codes "content-length")) (map (span_field c.args.text.now) l))) seen
    ∙ sym (content_length_is_fold (members_named (codes "content-length") (map (span_field c.args.text.now) c.args.headers.now)))
