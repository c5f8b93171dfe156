-- What contracts see of an object of the outside.
use Rattle.std.specs.Prelude.{ℕ, List, Option}

-- Of a sink: the bytes that it has taken since it was made, in order, and how many of its answers were
-- `Failed`, and `NoMemory`. Counts never fall, and stay at the greatest u64.
pub record SinkSeen : Type 0 where
  pub taken : List ℕ
  pub faults : ℕ
  pub lacks : ℕ

-- Of a shelf: the bytes of the file of a name, if it has one, and how many of its answers were `Failed`, and
-- `TooLong`, counted in the same way.
pub record ShelfSeen : Type 0 where
  pub file : List ℕ → Option (List ℕ)
  pub faults : ℕ
  pub longs : ℕ
