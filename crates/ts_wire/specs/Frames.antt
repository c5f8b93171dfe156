-- A body as it is sent on: as it is, or in chunks (RFC 9112, section 7.1).
use Rattle.std.specs.Prelude.{ℕ, ◌+◌, ◌-◌, ◌/◌, ◌%◌, ◌≡◌, ◌<◌, ◌≤◌, Bool, false, true, List, [], ◌∷◌, ◌++◌, length, map, take, drop, All, flat_map, codes, if◌then◌else◌, nat_lt}
use Rattle.std.specs.Fmt.{digits, digit_glyph}
use Rattle.httparse.specs.Ascii.{crlf_bytes}
use Rattle.ts_wire.specs.declared.framing.Framing.TheVariants as F
use Rattle.ts_wire.specs.declared.body.BodyState.{BodyState}
use Rattle.ts_wire.specs.declared.body.BodyState.TheVariants.{Ended}
use Rattle.ts_wire.specs.declared.frames.Mode.{Mode}
use Rattle.ts_wire.specs.declared.frames.Mode.TheVariants.{Plain, Chunked}
use Rattle.ts_wire.specs.Limits.{body_limit, piece_limit}
use Rattle.ts_wire.specs.Body.{BodyOf}

-- a piece that may be sent
abbrev pub IsPiece : List ℕ → Type 0
IsPiece piece = (0 < length piece) × (length piece ≤ piece_limit)

-- the number in lower-case hexadecimal, with no leading zero
abbrev pub hex : ℕ → List ℕ
hex n = digits 16 false n

-- the length of the piece, CR LF, the piece, CR LF
abbrev pub chunk_text : List ℕ → List ℕ
chunk_text piece = hex (length piece) ++ (crlf_bytes ++ (piece ++ crlf_bytes))

-- `0` CR LF CR LF
abbrev pub last_chunk : List ℕ
last_chunk = codes "0\r\n\r\n"

-- a piece as it is sent
abbrev pub frame_of : Mode → List ℕ → List ℕ
frame_of Plain piece = piece
frame_of Chunked piece = chunk_text piece

-- the end of a body as it is sent
abbrev pub end_of : Mode → List ℕ
end_of Plain = []
end_of Chunked = last_chunk

-- the pieces of a body as they are sent, and its end if it has come
abbrev pub frames : Mode → List (List ℕ) → Bool → List ℕ
frames mode pieces fin = flat_map (frame_of mode) pieces ++ (if fin then end_of mode else [])

-- the body that is cut into the pieces
abbrev pub cut_body : List (List ℕ) → List ℕ
cut_body pieces = flat_map (λ p. p) pieces

-- a body cut into pieces of these lengths
abbrev pub cut : List ℕ → List ℕ → List (List ℕ)
cut [] body = []
cut (n ∷ ns) body = take n body ∷ cut ns (drop n body)

-- the lengths of the pieces cut the body again as it was cut
abbrev pub CutsBack : Type 0
CutsBack = (pieces : List (List ℕ)) → cut (map length pieces) (cut_body pieces) ≡ pieces

-- what is sent in chunks is read again as the body, and the body ends with it
abbrev pub ReadsBack : Type 0
ReadsBack =
    (pieces : List (List ℕ)) → All IsPiece pieces → length (cut_body pieces) ≤ body_limit
    → BodyOf F.Chunked (frames Chunked pieces true) (cut_body pieces) Ended

-- the bytes of the pieces that stand in the first n bytes of their frames
abbrev pub content_in : Mode → List (List ℕ) → ℕ → List ℕ
content_in Plain pieces n = take n (cut_body pieces)
content_in Chunked [] n = []
content_in Chunked (p ∷ ps) n =
    take (n - (length (hex (length p)) + length crlf_bytes)) p
    ++ content_in Chunked ps (n - length (chunk_text p))

-- what is read of a front of what is sent in chunks are the bytes of the pieces that stand in it
abbrev pub ReadsFronts : Type 0
ReadsFronts =
    (pieces : List (List ℕ)) (sent more body : List ℕ) (state : BodyState) → All IsPiece pieces
    → length (cut_body pieces) ≤ body_limit → sent ++ more ≡ frames Chunked pieces true
    → BodyOf F.Chunked sent body state → body ≡ content_in Chunked pieces (length sent)

-- the last four hexadecimal digits of a number, and how many of them are leading zeros
abbrev pub four_digits : ℕ → List ℕ
four_digits n =
    digit_glyph false (n / 4096 % 16) ∷ digit_glyph false (n / 256 % 16)
    ∷ digit_glyph false (n / 16 % 16) ∷ digit_glyph false (n % 16) ∷ []

abbrev pub leading_zeros : ℕ → ℕ
leading_zeros n = if nat_lt n 16 then 3 else (if nat_lt n 256 then 2 else (if nat_lt n 4096 then 1 else 0))
