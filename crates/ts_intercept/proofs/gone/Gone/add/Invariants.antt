-- The bytes that went so far are those before the loop, and the front of the piece.
use Rattle.std.proofs.Common.{◌≡◌, ◌++◌, take}
use Rattle.ts_intercept.specs.Gone.{bytes_of}
use Rattle.ts_intercept.proofs.gone.Gone.add.Given as goal

abbrev pub invariant-bytes : goal.invariant-bytes
invariant-bytes l =
    bytes_of l.self-inside.trail ≡ bytes_of l.initial.self-inside.trail ++ take l.byte-index l.piece
