-- Where in a head some bytes end, told byte by byte (RFC 9112, sections 2 and 5): a head is lines, of which the
-- first that is not empty begins it, and the first empty one behind that ends it.
use Rattle.std.specs.Prelude.{◌≡◌, ℕ, ◌==◌, ◌≤◌, Bool, true, false, List, length, take, fold, if◌then◌else◌}
use Rattle.httparse.specs.Ascii.{carriage_return, colon, line_feed, space}
use Rattle.ts_phases.specs.declared.place.Place.{Place}
use Rattle.ts_phases.specs.declared.place.Place.TheVariants as p

-- one byte more in a line: a line feed ends the line, and this byte the part of it
abbrev pub in_line : Place → Place → ℕ → ℕ → Place
in_line part next stop byte =
    if byte == line_feed then p.Behind else (if byte == stop then next else part)

-- one byte more where a line may end that is empty: it is `ended`, or with CR `half` so, or another line begins
abbrev pub at_line : Place → Place → Place → ℕ → Place
at_line ended half other byte =
    if byte == line_feed then ended else (if byte == carriage_return then half else other)

-- the place behind one byte more
abbrev pub place_next : Place → ℕ → Place
place_next p.Before byte = at_line p.Before p.BeforeReturn p.First byte
place_next p.BeforeReturn byte = at_line p.Before p.First p.First byte
place_next p.First byte = in_line p.First p.Second space byte
place_next p.Second byte = in_line p.Second p.Third space byte
place_next p.Third byte = in_line p.Third p.Third space byte
place_next p.Name byte = in_line p.Name p.Value colon byte
place_next p.Value byte = in_line p.Value p.Value colon byte
place_next p.Behind byte = at_line p.Ended p.BehindReturn p.Name byte
place_next p.BehindReturn byte = at_line p.Ended p.Name p.Name byte
place_next p.Ended byte = p.Ended

-- where the bytes end
abbrev pub place_of : List ℕ → Place
place_of bytes = fold place_next p.Before bytes

-- a head ended among the bytes
abbrev pub has_ended : Place → Bool
has_ended p.Ended = true
has_ended place = false

-- the first bytes, so many, end there
pub record IsLookedAt (looked : ℕ) (place : Place) (bytes : List ℕ) : Type 0 where
  pub within : looked ≤ length bytes
  pub place_is : place ≡ place_of (take looked bytes)
