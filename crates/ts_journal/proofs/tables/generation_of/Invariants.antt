-- So far no key that was passed has the index.
use Rattle.std.proofs.Common.{◌≡◌, drop}
use Rattle.ts_journal.specs.State.{generation_at}
use Rattle.ts_journal.proofs.tables.generation_of.Given as goal

abbrev pub invariant-loop-key : goal.invariant-loop-key
invariant-loop-key l = generation_at l.index (drop l.key-index l.keys) ≡ generation_at l.index l.keys
