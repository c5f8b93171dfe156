use Rattle.std.proofs.Common.{◌≡◌, true, map, drop}
use Rattle.std.specs.List.{concat}
use Rattle.ts_proxy.specs.Took.{TookBut}
use Rattle.ts_proxy.proofs.telling.tell.Given as goal

-- all but the parts that are left was taken
abbrev pub invariant-loop-part : goal.invariant-loop-part
invariant-loop-part g l = record {
  took : g.E.Sink.tells ≡ true → TookBut (g.E.Sink.seen l.initial.err) (g.E.Sink.seen l.err)
      (concat (map (λ p. p.now) l.parts)) (concat (map (λ p. p.now) (drop l.part-index l.parts)));
  faults : (g.E.Sink.seen l.err).faults ≡ (g.E.Sink.seen l.initial.err).faults;
  lacks : (g.E.Sink.seen l.err).lacks ≡ (g.E.Sink.seen l.initial.err).lacks;
}
