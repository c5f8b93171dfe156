-- What becomes of a store whose free bytes were lent to be filled in place.
use Rattle.std.specs.Prelude.{ℕ, List}
use Rattle.std.specs.Borrow.{Lends, MutBor, Fml, u8, Array}
use Rattle.ts_iobuf.specs.Stored.{Contents, written_over}
use Rattle.ts_iobuf.specs.contracts.store.Store.{the_row}

-- the store ends with its free bytes as they were left, and its blocks as they were
abbrev pub LendsBehind : MutBor Contents → MutBor (List ℕ) → Fml
LendsBehind s r = Lends the_row (Array u8 0) s r (λ w. record s.now { behind = written_over s.now.behind w })
