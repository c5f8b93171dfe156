use Rattle.std.proofs.Common.{false, []}
use Rattle.ts_request.specs.Front.{Holds, Moves}
use Rattle.ts_request.proofs.FrontMoves.{heading_left}
use Rattle.ts_request.proofs.reading.seek.Given as goal

-- nothing was shown yet
abbrev pub invariant-head : goal.invariant-head
invariant-head g l = record {
  moves : Moves g.C.Link.tells l.initial.text l.text (g.C.Link.look l.initial.client)
      (g.C.Link.look l.client) false false [];
  holds : Holds g.C.Link.tells l.text (g.C.Link.look l.client);
  goes : g.C.Link.goes l.initial.client l.client;
}

abbrev pub decreases-head : goal.decreases-head
decreases-head g l = heading_left l.text
