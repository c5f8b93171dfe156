-- What a text is that begins where a chunk line or a trailer section does: which phase follows, and how many
-- of the bytes belong to it.
use Rattle.std.specs.Prelude.{◌≡◌, ℕ, ◌+◌, ◌<◌, ◌≤◌, ◌⊎◌, Bool, true, false, List, ◌++◌, length, drop, if◌then◌else◌, ◌==◌, nat_lt, ◌-◌}
use Rattle.httparse.specs.Grammar.{ChunkLine, print_chunk_line, chunk_size, HasNoChunkLine, NeverHasChunkLine, MayBecomeChunkLine, Field, LineEnd, print_section, ReadsSection, HasNoSection, NeverHasSection, MayBecomeSection}
use Rattle.ts_wire.specs.declared.phases.BodyPhase.{BodyPhase}
use Rattle.ts_wire.specs.declared.phases.BodyPhase.TheVariants.{Line, Content, Trailer, Ended, Bad}
use Rattle.ts_wire.specs.Limits.{body_limit, line_limit, trailer_limit, trailer_fields, trailer_lines}
use Rattle.ts_wire.specs.Body.{line_feeds, IsShortLine, LacksTrailer}

-- the first bytes, so many, are a chunk line of this size
pub record IsLineOf (text : List ℕ) (len size : ℕ) : Type 0 where
  pub line : ChunkLine
  pub good : IsShortLine line
  pub text_is : text ≡ print_chunk_line line ++ drop len text
  pub len_is : len ≡ length (print_chunk_line line)
  pub size_is : size ≡ chunk_size line

-- what follows a chunk line of this size, in a body that has so many bytes before it
abbrev pub phase_after : ℕ → ℕ → BodyPhase
phase_after size total =
    if nat_lt (body_limit - total) size then Bad else (if size == 0 then Trailer else Content size)

-- why the body is bad at this line, where it has so many bytes before it
pub data IsBadLine (text : List ℕ) (total len : ℕ) : Type 0 where
  never : NeverHasChunkLine text → len ≡ length text → IsBadLine text total len
  full : HasNoChunkLine text → length text ≡ line_limit → len ≡ length text → IsBadLine text total len
  large : (size : ℕ) → IsLineOf text len size → body_limit < total + size → IsBadLine text total len

-- which phase follows a text where a chunk line begins
abbrev pub JudgesLine : List ℕ → ℕ → BodyPhase → ℕ → Type 0
JudgesLine text total Line len =
    (len ≡ length text) × (length text < line_limit) × HasNoChunkLine text × MayBecomeChunkLine text
JudgesLine text total (Content size) len = (0 < size) × (total + size ≤ body_limit) × IsLineOf text len size
JudgesLine text total Trailer len = IsLineOf text len 0
JudgesLine text total Bad len = IsBadLine text total len
JudgesLine text total _ len = ⊥

-- the first bytes, so many, are a trailer section within the limits
pub record IsTrailerOf (text : List ℕ) (len : ℕ) : Type 0 where
  pub fields : List Field
  pub last : LineEnd
  pub reads : ReadsSection text fields last (drop len text)
  pub len_is : len ≡ length (print_section fields last)
  pub few : length fields ≤ trailer_fields

-- why the body is bad at this trailer section
pub data IsBadTrailer (text : List ℕ) : Type 0 where
  never : NeverHasSection text → IsBadTrailer text
  long : (trailer_lines ≤ line_feeds text) ⊎ (trailer_limit ≤ length text) → LacksTrailer text
      → IsBadTrailer text

-- which phase follows a text where a trailer section begins
abbrev pub JudgesTrailer : List ℕ → BodyPhase → ℕ → Type 0
JudgesTrailer text Trailer len =
    (len ≡ length text) × (length text < trailer_limit) × (line_feeds text < trailer_lines)
    × HasNoSection text × MayBecomeSection text
JudgesTrailer text Ended len = IsTrailerOf text len
JudgesTrailer text Bad len = (len ≡ length text) × IsBadTrailer text
JudgesTrailer text _ len = ⊥

-- a chunk line goes on
abbrev pub is_line : BodyPhase → Bool
is_line Line = true
is_line _ = false

-- a trailer section goes on
abbrev pub is_trailer : BodyPhase → Bool
is_trailer Trailer = true
is_trailer _ = false
