-- What becomes of a buffer whose room was lent to be filled in place.
use Rattle.std.specs.Prelude.{ℕ, List}
use Rattle.std.specs.Borrow.{Lends, MutBor, Fml, u8, Array}
use Rattle.ts_iobuf.specs.Buffer.{Buffer}
use Rattle.ts_iobuf.specs.Stored.{written_over}
use Rattle.ts_iobuf.specs.contracts.buffer.IoBuffer.{the_row}

-- the buffer ends with the room as it was left, and all else as it was: `w` has the room's length, since a
-- slice keeps its own
abbrev pub LendsRoom : MutBor Buffer → MutBor (List ℕ) → Fml
LendsRoom s r = Lends the_row (Array u8 0) s r (λ w. record s.now { room = written_over s.now.room w })

-- the buffer ends with the room that was lent, as it was left, and all else as it was
abbrev pub LendsSpace : MutBor Buffer → MutBor (List ℕ) → Fml
LendsSpace s r = Lends the_row (Array u8 0) s r (λ w. record s.now { room = written_over r.now w })
