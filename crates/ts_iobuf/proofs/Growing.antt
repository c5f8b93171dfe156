-- A buffer that grows: what was added behind its bytes is what every reader gets more to read.
use Rattle.std.proofs.Common.{◌≡◌, ℕ, ◌≤◌, List, ◌++◌, length, Option, Some, None, IfSome, IsTrue, is_some, ap, ◌∙◌}
use Rattle.std.proofs.lemmas.List.{drop-append-le}
use Rattle.ts_iobuf.specs.Buffer.{Buffer, GrowsBy}
use Rattle.ts_iobuf.specs.Places.{place_in, bytes_from, StandsWithin}
use Rattle.ts_iobuf.proofs.Places.{all_by_recursion, place_at-all}

-- what is readable from a place among the first of two lists
bytes_from-append : (o : Option ℕ) (a b : List ℕ) → IfSome o (λ p. p ≤ length a) → IsTrue (is_some o)
    → bytes_from o (a ++ b) ≡ bytes_from o a ++ b
bytes_from-append None a b h there = cc
bytes_from-append (Some p) a b h there = drop-append-le p a b h

-- a buffer that has more bytes, and the same readers, each within the old bytes
pub grows : (old new : Buffer) (more : List ℕ) → new.bytes ≡ old.bytes ++ more → new.readers ≡ old.readers
    → new.mark ≡ old.mark
    → StandsWithin (length old.bytes) old.readers → GrowsBy old new more
grows old new more bytes readers mark within = record {
  bytes = bytes;
  readers = readers;
  mark = mark;
  read = λ q live.
      ap (λ l. bytes_from (place_in new.readers q) l) bytes
      ∙ ap (λ ss. bytes_from (place_in ss q) (old.bytes ++ more)) readers
      ∙ bytes_from-append (place_in old.readers q) old.bytes more
      (place_at-all old.readers q.index q.generation (λ p. p ≤ length old.bytes)
      (all_by_recursion old.readers (λ s. IfSome s.place (λ p. p ≤ length old.bytes)) within)) live;
}
