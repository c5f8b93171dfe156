-- So far one event was set for each call, where each call was answered so.
use Rattle.std.proofs.Common.{◌≡◌, true}
use Rattle.ts_group.specs.Entries.{Grows}
use Rattle.ts_toys.specs.Sets.{SetsEvents}
use Rattle.ts_toys.proofs.burst.call_target.Given as goal

abbrev pub invariant-calls : goal.invariant-calls
invariant-calls l = Grows l.initial.cx l.cx × SetsEvents l.all l._call l.initial.cx.log.state l.cx.log.state ×
    (l.cx.log.state.held ≡ true)
