-- With the bytes that are left the place is that behind all of them.
use Rattle.std.proofs.Common.{◌≡◌, drop, fold}
use Rattle.ts_phases.specs.Place.{place_next}
use Rattle.ts_phases.proofs.looking.pass.Given as goal

abbrev pub invariant-loop-byte : goal.invariant-loop-byte
invariant-loop-byte g l =
    fold place_next l.ahead.place (drop l.byte-index l.bytes) ≡ fold place_next l.fn.before.place l.bytes
