-- The groups fit the tags of the row and tell their numbers, and the transaction has ended then.
use Rattle.std.proofs.Common.{◌≡◌, ◌∙◌, sym, subst}
use Rattle.ts_group.specs.declared.either.Either.TheVariants.{One}
use Rattle.ts_journal.specs.Log.{Log}
use Rattle.ts_mishap_tests.specs.Begun.{HasEndedOr}
use Rattle.ts_mishap_tests.proofs.ByFinish.{all_tell, first_ended, row_ends}
use Rattle.ts_mishap_tests.proofs.Rows.{can_ask}
use Rattle.ts_mishap_tests.proofs.exchange.drive.Goals as goal

pub finish-requires-clause-fits : goal.finish-requires-clause-fits
finish-requires-clause-fits g c = (
  c.requires.begun.tags,
  can_ask g.C.Link g.O.Link g.O.Upstream g.P.Transform c.requires.begun.tag c.requires.begun.tags
      c.requires.begun.tags_are,
  c.requires.begun.fit,
)

pub finish-requires-clause-tells : goal.finish-requires-clause-tells
finish-requires-clause-tells g c =
    all_tell g.C.Link g.O.Link g.O.Upstream g.P.Transform c.requires.tells c.args.row.groups.items

pub returns : goal.returns
returns g c =
    let begun = c.requires.begun in
    let first = row_ends g.C.Link g.O.Link g.O.Upstream g.P.Transform c.args.row.groups.items
    c.finish.new.groups.items c.finish.result begun c.in_ok-finish.was c.finish.ensures.finishes in
    let taken = c.in-Some.ensures in
    let world : taken.group.world ≡ One c.in-One.txn = sym taken.world_is ∙ (cc) in
    let ended = first_ended g.C.Link g.O.Link g.O.Upstream g.P.Transform begun.tag c.finish.new.groups.items
    taken.behind taken.group c.in-One.txn begun.started first taken.are world in
    record { ended = subst (λ (l : Log). HasEndedOr c.in-One.txn l.state) (sym taken.journal_is) ended }
