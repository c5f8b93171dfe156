-- So far no key has the index.
use Rattle.std.proofs.Common.{◌≡◌, ◌++◌, take, drop}
use Rattle.ts_journal.specs.declared.entry.ContKey.{ContKey}
use Rattle.ts_journal.specs.State.{without_index, with_key}
use Rattle.ts_journal.proofs.tables.find_index.Given as goal

abbrev pub invariant-loop-i : goal.invariant-loop-i
invariant-loop-i l =
    (take l.i l.keys ++ without_index l.index (drop l.i l.keys) ≡ without_index l.index l.keys)
    × ((key : ContKey) → key.index ≡ l.index → take l.i l.keys ++ with_key key (drop l.i l.keys) ≡ with_key
    key l.keys)
