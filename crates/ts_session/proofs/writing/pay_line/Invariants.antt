-- What was passed on so far stands before the place.
use Rattle.std.proofs.Common.{false, ◌-◌, ◌≤◌}
use Rattle.ts_session.specs.Writing.{PaysLine}
use Rattle.ts_session.proofs.writing.pay_line.Given as goal

abbrev pub invariant-owed : goal.invariant-owed
invariant-owed g l = record {
  within : l.at ≤ l.to;
  pays : PaysLine g.C.Link.tells l.from l.at (g.C.Link.look l.initial.client) (g.C.Link.look l.client) false false;
  goes : g.C.Link.goes l.initial.client l.client;
}

abbrev pub decreases-owed : goal.decreases-owed
decreases-owed g l = l.to - l.at
