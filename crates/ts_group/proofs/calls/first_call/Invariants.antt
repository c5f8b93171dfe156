-- So far no direct call that was passed is pending.
use Rattle.std.proofs.Common.{◌≡◌, drop}
use Rattle.ts_group.specs.Context.{AllCalls}
use Rattle.ts_group.specs.Calls.{next_in}
use Rattle.ts_group.proofs.calls.first_call.Given as goal

abbrev pub invariant-loop-place : goal.invariant-loop-place
invariant-loop-place l =
    (next_in l.journal.state.pending (drop l.place l.calls) ≡ next_in l.journal.state.pending
    (drop l.from l.calls))
    × AllCalls l.journal.state l.moment (drop l.place l.calls)
