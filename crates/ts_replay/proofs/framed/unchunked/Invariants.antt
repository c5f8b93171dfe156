-- A front of the frames was fed to the reader, and the body so far is what it gave.
use Rattle.std.specs.Prelude.{length}
use Rattle.ts_replay.proofs.Unframing.{FedTo}
use Rattle.ts_replay.proofs.framed.unchunked.Given as goal

-- what is left was not fed
abbrev pub invariant-parts : goal.invariant-parts
invariant-parts l = FedTo l.framed l.rest l.body.items l.reader

abbrev pub decreases-parts : goal.decreases-parts
decreases-parts l = length l.rest
