-- So far a front of what the client took was seen and shown.
use Rattle.std.proofs.Common.{length}
use Rattle.ts_tap.proofs.Writing.{ShowsSoFar}
use Rattle.ts_tap.proofs.tapped.show.Given as goal

abbrev pub invariant-loop-rest : goal.invariant-loop-rest
invariant-loop-rest g l =
    ShowsSoFar g.W.Watcher.took g.W.Watcher.lefts g.W.Watcher.goes l.fn.sent l.fn.watch l.taken l.sent
    l.watch l.rest

abbrev pub decreases-loop-rest : goal.decreases-loop-rest
decreases-loop-rest g l = length l.rest
