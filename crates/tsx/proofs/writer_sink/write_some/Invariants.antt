use Rattle.std.specs.Io.KnownBytes.{Keeps}
use Rattle.tsx.proofs.writer_sink.write_some.Given as goal

-- the writes that were broken off left what the writer holds as it was
abbrev pub invariant-loop : goal.invariant-loop
invariant-loop g l = Keeps (g.W.Write.contents l.initial.writer) (g.W.Write.contents l.writer)
