-- So far the handler of each client in the row was started.
use Rattle.std.proofs.Common.{◌≡◌, drop}
use Rattle.std.specs.List.{sum_by}
use Rattle.ts_serve.specs.Starting.{is_waiting}
use Rattle.ts_serve.proofs.rounds.are_started.Given as goal

abbrev pub invariant-loop-connection : goal.invariant-loop-connection
invariant-loop-connection l =
    sum_by is_waiting (drop l.connection-index l.row) ≡ sum_by is_waiting l.fn.row
