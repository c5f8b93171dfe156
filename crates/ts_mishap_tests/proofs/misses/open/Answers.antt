-- The slots have the tags of a row, of which the first is that of a transaction.
use Rattle.std.proofs.Common.{sym, subst}
use Rattle.std.proofs.lemmas.Result.{IfOk-at_ok}
use Rattle.ts_slot.specs.Words.{tags_of}
use Rattle.ts_mishap_tests.specs.Begun.{HasRowTags}
use Rattle.ts_mishap_tests.proofs.Rows.{row_starts}
use Rattle.ts_mishap_tests.proofs.misses.open.Goals as goal

pub start_groups-requires-clause-tags : goal.start_groups-requires-clause-tags
start_groups-requires-clause-tags g c =
    let row = IfOk-at_ok _ c.expect-made.ensures c.make_row.ensures in
    row_starts (tags_of c.expect-slots.result.0)
    (subst HasRowTags (sym (IfOk-at_ok _ c.expect-slots.ensures c.make.ensures.tags))
    (record { tag = row.tag; are = row.tags_are }))

pub returns-clause-tags : goal.returns-clause-tags
returns-clause-tags g c =
    let row = IfOk-at_ok _ c.expect-made.ensures c.make_row.ensures in
    subst HasRowTags (sym (IfOk-at_ok _ c.expect-slots.ensures c.make.ensures.tags))
    (record { tag = row.tag; are = row.tags_are })
