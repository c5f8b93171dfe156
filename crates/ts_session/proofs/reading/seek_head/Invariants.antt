use Rattle.std.proofs.Common.{[], false}
use Rattle.ts_session.specs.Course.{HoldsHead}
use Rattle.ts_session.specs.Reading.{MovesOn}
use Rattle.ts_session.proofs.Giving.{heading_left}
use Rattle.ts_session.proofs.reading.seek_head.Given as goal

-- nothing was given yet
abbrev pub invariant-head : goal.invariant-head
invariant-head g l = record {
  moves : MovesOn g.C.Link.tells l.initial.request l.request (g.C.Link.look l.initial.client)
      (g.C.Link.look l.client) false false [];
  room : HoldsHead l.request.reading l.request.held;
  goes : g.C.Link.goes l.initial.client l.client;
}

abbrev pub decreases-head : goal.decreases-head
decreases-head g l = heading_left l.request
