-- What is handed on to a writer.
use Rattle.std.specs.Prelude.{ℕ, List, Option, take}
use Rattle.std.specs.Io.KnownBytes.{Appends, Keeps}
use Rattle.ts_link.specs.declared.sink.Wrote.{Wrote}
use Rattle.ts_link.specs.declared.sink.Wrote.TheVariants.{Took}

-- what a writer holds, where it is known, grew by what was taken of a piece, and else stayed as it was
abbrev pub HandsOn : Option (List ℕ) → Option (List ℕ) → Wrote → List ℕ → Type 0
HandsOn old new (Took n) piece = Appends old new (take n piece)
HandsOn old new _ piece = Keeps old new
