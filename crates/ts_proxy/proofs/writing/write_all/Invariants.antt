use Rattle.std.proofs.Common.{◌≡◌, length, true}
use Rattle.ts_proxy.specs.Took.{TookBut}
use Rattle.ts_proxy.proofs.writing.write_all.Given as goal

-- all but the rest was taken, and nothing failed
abbrev pub invariant-loop-rest : goal.invariant-loop-rest
invariant-loop-rest g l = record {
  took : g.K.Sink.tells ≡ true → TookBut (g.K.Sink.seen l.initial.out) (g.K.Sink.seen l.out) l.text l.rest;
  faults : (g.K.Sink.seen l.out).faults ≡ (g.K.Sink.seen l.initial.out).faults;
  lacks : (g.K.Sink.seen l.out).lacks ≡ (g.K.Sink.seen l.initial.out).lacks;
}

abbrev pub decreases-loop-rest : goal.decreases-loop-rest
decreases-loop-rest g l = length l.rest
