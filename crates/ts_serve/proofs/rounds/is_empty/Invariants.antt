-- So far no client is in the row.
use Rattle.std.proofs.Common.{◌≡◌, drop}
use Rattle.std.specs.List.{sum_by}
use Rattle.ts_serve.specs.Balance.{is_taken}
use Rattle.ts_serve.proofs.rounds.is_empty.Given as goal

abbrev pub invariant-loop-connection : goal.invariant-loop-connection
invariant-loop-connection l = sum_by is_taken (drop l.connection-index l.row) ≡ sum_by is_taken l.fn.row
