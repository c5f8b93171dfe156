-- A journal with one key begins, and has lived no entry yet.
use Rattle.std.proofs.Common.{rules}
use Rattle.ts_journal.specs.Machine.{IsReached}
use Rattle.ts_journal.specs.Tables.{state_in, CanHold}
use Rattle.ts_journal.proofs.Validity.{reached_with, lived_with}
use Rattle.ts_journal.proofs.journal.Journal.with_key.Goals as goal

pub invariant_of-result : goal.invariant_of-result
invariant_of-result c =
    let base = c.in_ok-with_key.field-0 in
    let tables = c.in_ok-with_key-2.field-0 in
    let reached : IsReached (state_in base) c.new.result.items (state_in tables) =
    search (rules, reached_with) in
    let holds : CanHold base tables = search rules in
    (reached, holds, lived_with (state_in base) c.args.turns c.args.key c.in_ok-with_key.ensures)
