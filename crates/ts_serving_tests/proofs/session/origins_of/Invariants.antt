-- No origin that was added was used.
use Rattle.std.specs.List.{All}
use Rattle.ts_link.specs.MemLink.{look_of}
use Rattle.ts_txn.specs.Making.{IsNewLinkIf}
use Rattle.ts_serving_tests.proofs.session.origins_of.Given as goal

abbrev pub invariant-loop-turn : goal.invariant-loop-turn
invariant-loop-turn l = All (IsNewLinkIf look_of) l.origins.items
