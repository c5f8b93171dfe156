-- The body of a message, on the whole list of its bytes (RFC 9112, sections 6.3 and 7.1).
use Rattle.std.specs.Prelude.{◌≡◌, ◌≢◌, ℕ, ◌+◌, ◌<◌, ◌≤◌, ◌⊎◌, List, [], ◌∷◌, ◌++◌, length, take, All, flat_map, count_by, ◌==◌, nat_lt, if◌then◌else◌}
use Rattle.httparse.specs.Ascii.{carriage_return, line_feed, crlf_bytes}
use Rattle.httparse.specs.Grammar.{ChunkLine, IsChunkLine, print_chunk_line, chunk_size, HasNoChunkLine, NeverHasChunkLine, MayBecomeChunkLine, Field, LineEnd, print_section, ReadsSection, HasNoSection, NeverHasSection, MayBecomeSection}
use Rattle.ts_wire.specs.declared.framing.Framing.{Framing}
use Rattle.ts_wire.specs.declared.framing.Framing.TheVariants.{Nothing, Sized, Chunked, UntilClose, Faulty}
use Rattle.ts_wire.specs.declared.body.BodyState.{BodyState}
use Rattle.ts_wire.specs.declared.body.BodyState.TheVariants.{Unfinished, Ended, Bad}
use Rattle.ts_wire.specs.Limits.{body_limit, trailer_lines, line_limit, trailer_limit, trailer_fields}

-- how many line feeds there are
abbrev pub line_feeds : List ℕ → ℕ
line_feeds bytes = count_by (λ b. b == line_feed) bytes

-- a chunk line of httparse's grammar that is not too long
pub record IsShortLine (l : ChunkLine) : Type 0 where
  pub line : IsChunkLine l
  pub short : length (print_chunk_line l) ≤ line_limit

-- a chunk: its line, and its part of the body
pub record Chunk : Type 0 where
  pub line : ChunkLine
  pub content : List ℕ

-- the line says how long the content is, and it is not empty
pub record IsChunk (c : Chunk) : Type 0 where
  pub line : IsShortLine c.line
  pub size : chunk_size c.line ≡ length c.content
  pub some : 0 < length c.content

-- chunk line, content, CR LF
abbrev pub print_chunk : Chunk → List ℕ
print_chunk c = print_chunk_line c.line ++ (c.content ++ crlf_bytes)

abbrev pub print_chunks : List Chunk → List ℕ
print_chunks cs = flat_map print_chunk cs

abbrev pub contents : List Chunk → List ℕ
contents cs = flat_map (λ c. c.content) cs

-- the bytes are whole chunks and then tail, and the body is their content and then more
pub record AfterChunks (bytes body tail more : List ℕ) : Type 0 where
  pub chunks : List Chunk
  pub good : All IsChunk chunks
  pub text : bytes ≡ print_chunks chunks ++ tail
  pub content : body ≡ contents chunks ++ more
  pub fits : length (contents chunks) ≤ body_limit

-- after whole chunks come a chunk line of this size, this part of its content, and then tail
pub record InChunk (bytes body : List ℕ) (size : ℕ) (part tail : List ℕ) : Type 0 where
  pub line : ChunkLine
  pub good : IsShortLine line
  pub after : AfterChunks bytes body (print_chunk_line line ++ (part ++ tail)) part
  pub size_is : chunk_size line ≡ size
  pub some : 0 < size
  pub fits : length body + size ≤ length part + body_limit

-- after whole chunks come a chunk line of size 0 and then text, where the trailer section begins
pub record InTrailer (bytes body text : List ℕ) : Type 0 where
  pub line : ChunkLine
  pub good : IsShortLine line
  pub after : AfterChunks bytes body (print_chunk_line line ++ text) []
  pub zero : chunk_size line ≡ 0

-- no prefix is a trailer section within the limits
abbrev pub LacksTrailer : List ℕ → Type 0
LacksTrailer text =
    (fields : List Field) (last : LineEnd) (rest : List ℕ) → ReadsSection text fields last rest
    → length fields ≤ trailer_fields → length (print_section fields last) ≤ trailer_limit → ⊥

-- the bytes are no prefix of CR LF, and do not begin with it
abbrev pub BreaksCrlf : List ℕ → Type 0
BreaksCrlf [] = ⊥
BreaksCrlf (a ∷ []) = a ≢ carriage_return
BreaksCrlf (a ∷ b ∷ rest) = (a ≢ carriage_return) ⊎ (b ≢ line_feed)

-- a body in chunks of which more may come, by where the bytes end
pub data IsUnfinishedChunked (bytes body : List ℕ) : Type 0 where
  -- in a chunk line, or before it
  in_line : (text : List ℕ) → AfterChunks bytes body text [] → HasNoChunkLine text → MayBecomeChunkLine text
      → length text < line_limit → IsUnfinishedChunked bytes body
  -- in the content of a chunk, or before it
  in_content : (size : ℕ) (part : List ℕ) → InChunk bytes body size part [] → length part < size
      → IsUnfinishedChunked bytes body
  -- in the CR LF after it, or before that
  in_gap : (part tail : List ℕ) → InChunk bytes body (length part) part tail
      → (tail ≡ []) ⊎ (tail ≡ carriage_return ∷ []) → IsUnfinishedChunked bytes body
  -- in the trailer section, or before it
  in_trailer : (text : List ℕ) → InTrailer bytes body text → HasNoSection text → MayBecomeSection text
      → line_feeds text < trailer_lines → length text < trailer_limit → IsUnfinishedChunked bytes body

-- the trailer section is whole
pub record IsEndedChunked (bytes body : List ℕ) : Type 0 where
  pub text : List ℕ
  pub trailer : InTrailer bytes body text
  pub fields : List Field
  pub last : LineEnd
  pub rest : List ℕ
  pub reads : ReadsSection text fields last rest
  pub few : length fields ≤ trailer_fields
  pub short : length (print_section fields last) ≤ trailer_limit

-- a body in chunks is bad in exactly these cases
pub data IsBadChunked (bytes body : List ℕ) : Type 0 where
  -- no continuation of the chunk line that has begun is one
  no_line : (text : List ℕ) → AfterChunks bytes body text [] → NeverHasChunkLine text
      → IsBadChunked bytes body
  -- 4,096 bytes are there from the beginning of a chunk line on, and no prefix of these is one
  long_line : (text : List ℕ) → AfterChunks bytes body text [] → line_limit ≤ length text
      → HasNoChunkLine (take line_limit text) → IsBadChunked bytes body
  -- a chunk line is whole, and with its size the body would be too long
  long_body : (l : ChunkLine) (rest : List ℕ) → AfterChunks bytes body (print_chunk_line l ++ rest) []
      → IsShortLine l → body_limit < length body + chunk_size l → IsBadChunked bytes body
  -- the content of a chunk is followed by something else than CR LF
  no_crlf : (part tail : List ℕ) → InChunk bytes body (length part) part tail → BreaksCrlf tail
      → IsBadChunked bytes body
  -- no continuation of the trailer section that has begun is one
  no_trailer : (text : List ℕ) → InTrailer bytes body text → NeverHasSection text → IsBadChunked bytes body
  -- 65 line feeds or 16,384 bytes are there from the beginning of the trailer section on, and no prefix is
  -- a section within the limits
  long_trailer : (text : List ℕ) → InTrailer bytes body text
      → (trailer_lines ≤ line_feeds text) ⊎ (trailer_limit ≤ length text) → LacksTrailer text
      → IsBadChunked bytes body

abbrev pub ChunkedBody : List ℕ → List ℕ → BodyState → Type 0
ChunkedBody bytes body Unfinished = IsUnfinishedChunked bytes body
ChunkedBody bytes body Ended = IsEndedChunked bytes body
ChunkedBody bytes body Bad = IsBadChunked bytes body

-- the body that the bytes have so far, and how far it is. What follows a body that has ended is none of it.
abbrev pub BodyOf : Framing → List ℕ → List ℕ → BodyState → Type 0
BodyOf Nothing bytes body state = (body ≡ []) × (state ≡ Ended)
BodyOf (Sized n) bytes body state =
    (body ≡ take n bytes) × (state ≡ (if nat_lt (length bytes) n then Unfinished else Ended))
BodyOf Chunked bytes body state = ChunkedBody bytes body state
BodyOf UntilClose bytes body state =
    (body ≡ take body_limit bytes) × (state ≡ (if nat_lt body_limit (length bytes) then Bad else Unfinished))
BodyOf Faulty bytes body state = ⊥

-- bytes have one body, which is in one state
abbrev pub HasOneBody : Type 0
HasOneBody =
    (framing : Framing) (bytes a b : List ℕ) (s t : BodyState)
    → BodyOf framing bytes a s → BodyOf framing bytes b t → (a ≡ b) × (s ≡ t)

-- whatever bytes come yet, the body goes on with the body so far
abbrev pub BodyGrows : Type 0
BodyGrows =
    (framing : Framing) (front more read body : List ℕ) (s t : BodyState)
    → BodyOf framing front read s → BodyOf framing (front ++ more) body t
    → (yet : List ℕ) × (body ≡ read ++ yet)

-- the bytes have ended before the body, which does not end with them
abbrev pub IsCutShort : Framing → List ℕ → List ℕ → Type 0
IsCutShort framing bytes body = BodyOf framing bytes body Unfinished × (framing ≢ UntilClose)
