-- The states of the stock transforms. There are no others, so no line but bnull holds bytes back.
use Rattle.std.specs.Prelude.{◌≡◌, ◌≤◌, ◌-◌, ℕ, ◌++◌, List, [], length, take, nat_le, Option, Some, None, if◌then◌else◌}
use Rattle.ts_config.specs.Bodies.{mapped, without_byte}
use Rattle.ts_iobuf.specs.Buffer.{Buffer, GrowsBy}
use Rattle.ts_config.specs.declared.setup.TransformLine.{TransformLine}
use Rattle.ts_config.specs.declared.setup.TransformLine.TheVariants as t
use Rattle.ts_stock.specs.declared.stock.State.{State}
use Rattle.ts_stock.specs.declared.stock.State.TheVariants as s

-- what a transform still writes, if z is all that it still gets
abbrev pub still_writes : State → List ℕ → List ℕ
still_writes (s.Appending text) z = z ++ text
still_writes (s.Holding held) z = held ++ z
still_writes (s.Prepending text) z = text ++ z
still_writes (s.Mapping from to) z = mapped from to z
still_writes (s.Dropping byte) z = without_byte byte z
still_writes (s.Limiting left) z = take left z
still_writes _ z = z

-- the state of a line's transform that got nothing yet
abbrev pub start_of : TransformLine → State
start_of t.Null = s.Passing
start_of (t.Append file text) = s.Appending text
start_of t.Bnull = s.Holding []
start_of (t.Prepend text) = s.Prepending text
start_of (t.Map from to) = s.Mapping from to
start_of (t.Drop byte) = s.Dropping byte
start_of (t.Delay ms) = s.Delaying ms
start_of (t.Limit most) = s.Limiting most

-- what a transform writes when it is fed c, which is not empty
abbrev pub written_at_feed : State → List ℕ → List ℕ
written_at_feed (s.Holding held) c = []
written_at_feed (s.Prepending text) c = text ++ c
written_at_feed (s.Mapping from to) c = mapped from to c
written_at_feed (s.Dropping byte) c = without_byte byte c
written_at_feed (s.Limiting left) c = take left c
written_at_feed _ c = c

-- the state after that
abbrev pub fed : State → List ℕ → State
fed (s.Holding held) c = s.Holding (held ++ c)
fed (s.Prepending text) c = s.Passing
fed (s.Limiting left) c = s.Limiting (left - length c)
fed state c = state

-- what a transform has written once it got these bytes, and no end; none where it is done then: a limit that
-- has no byte left to pass on
abbrev pub soon_writes : State → List ℕ → Option (List ℕ)
soon_writes (s.Limiting left) z = if nat_le left (length z) then None else Some (take left z)
soon_writes (s.Prepending text) [] = Some []
soon_writes state z = Some (written_at_feed state z)

-- a transform was fed c, and wrote what its state then writes
pub record WasFed (old new : State) (c : List ℕ) (before after : Buffer) : Type 0 where
  pub writes : GrowsBy before after (written_at_feed old c)
  pub state : new ≡ fed old c

-- n bytes of so many are taken at a feed: all, but by a map or a drop, which may take fewer
abbrev pub CountTaken : State → ℕ → ℕ → Type 0
CountTaken (s.Mapping from to) n most = n ≤ most
CountTaken (s.Dropping byte) n most = n ≤ most
CountTaken _ n most = n ≡ most

-- the same of bytes in a buffer, of which a prepend takes those of the first block alone, and a limit maybe
-- only those that it passes on
abbrev pub CountFrom : State → ℕ → ℕ → Type 0
CountFrom (s.Prepending text) n most = n ≤ most
CountFrom (s.Limiting left) n most = n ≤ most
CountFrom state n most = CountTaken state n most

-- how long its stage waits between two of its events, in milliseconds
abbrev pub pause_of : State → ℕ
pause_of (s.Delaying ms) = ms
pause_of _ = 0

-- how long that of a line waits
abbrev pub pause_of_line : TransformLine → ℕ
pause_of_line (t.Delay ms) = ms
pause_of_line _ = 0
