-- What is sent in chunks is read back.
use Rattle.std.proofs.Common.{◌≡◌, ℕ, ◌*◌, ◌<◌, ◌≤◌, true, List, [], ◌∷◌, ◌++◌, map, length, refl, sym, ap, ◌∙◌, arith, append_assoc, length-append}
use Rattle.std.specs.Prelude.{All, flat_map, None}
use Rattle.std.proofs.lemmas.List.{append-nil, take_at, drop_at}
use Rattle.std.proofs.lemmas.List.Elements.{All-nil, All-cons, All-head, All-tail}
use Rattle.httparse.specs.Ascii.{crlf_bytes}
use Rattle.httparse.specs.Grammar.{ChunkLine, IsChunkLine, print_chunk_line, chunk_size, IsField, crlf}
use Rattle.ts_wire.specs.declared.frames.Mode.{Mode}
use Rattle.ts_wire.specs.declared.frames.Mode.TheVariants.{Plain, Chunked}
use Rattle.ts_wire.specs.Body.{IsShortLine, Chunk, IsChunk, print_chunk, print_chunks, contents, InTrailer}
use Rattle.ts_wire.specs.Frames.{IsPiece, hex, chunk_text, frame_of, frames, cut_body, cut, last_chunk, ReadsBack}
use Rattle.ts_wire.proofs.OneBody as whole
use Rattle.ts_wire.proofs.HexLemmas.{hex_pass, length-hex, hex_value, hex_zero}

-- the line of a chunk of so many bytes
pub line_of : ℕ → ChunkLine
line_of n = record { digits = hex n; pad = []; extension = None }

pub line_text : (n : ℕ) → print_chunk_line (line_of n) ≡ hex n ++ crlf_bytes
unfolding print_chunk_line line_of
line_text n = ap (λ l. l ++ crlf_bytes) (append-nil (hex n ++ []) ∙ append-nil (hex n))

pub line_size : (n : ℕ) → n < 65536 → chunk_size (line_of n) ≡ n
unfolding line_of
line_size n fits = (hex_value n fits).2

pub line_good : (n : ℕ) → n < 65536 → IsShortLine (line_of n)
unfolding line_of
line_good n fits =
    let value = hex_value n fits in
    let len = length-hex n fits in
    let line : IsChunkLine (line_of n) = record {
      digits = (value.0, omega arith, hex_pass (hex n) value.1);
      pad = All-nil _;
      extension = tt;
    } in
    record { line = line; short = omega (arith, ap length (line_text n), length-append (hex n) crlf_bytes) }

pub chunk_of : List ℕ → Chunk
chunk_of piece = record { line = line_of (length piece); content = piece }

pub chunk_of_text : (piece : List ℕ) → chunk_text piece ≡ print_chunk (chunk_of piece)
unfolding chunk_of
chunk_of_text piece =
    sym (append_assoc (hex (length piece)) crlf_bytes (piece ++ crlf_bytes))
    ∙ ap (λ l. l ++ (piece ++ crlf_bytes)) (sym (line_text (length piece)))

pub chunk_of_good : (piece : List ℕ) → IsPiece piece → IsChunk (chunk_of piece)
unfolding chunk_of
chunk_of_good piece is = record {
  line = line_good (length piece) (omega (arith, is.1));
  size = line_size (length piece) (omega (arith, is.1));
  some = is.0;
}

pub chunk_of_content : (piece : List ℕ) → (chunk_of piece).content ≡ piece
unfolding chunk_of
chunk_of_content piece = refl

-- its line, the piece and the end of both
pub chunk_of_parts : (piece rest : List ℕ) → print_chunk (chunk_of piece) ++ rest
    ≡ print_chunk_line (line_of (length piece)) ++ (piece ++ (crlf_bytes ++ rest))
unfolding chunk_of
chunk_of_parts piece rest = whole.chunk_text (chunk_of piece) rest

chunks_text : (pieces : List (List ℕ)) → flat_map (frame_of Chunked) pieces
    ≡ print_chunks (map chunk_of pieces)
chunks_text [] = refl
chunks_text (p ∷ ps) = λ i. chunk_of_text p i ++ chunks_text ps i

chunks_content : (pieces : List (List ℕ)) → cut_body pieces ≡ contents (map chunk_of pieces)
unfolding chunk_of
chunks_content [] = refl
chunks_content (p ∷ ps) = ap (λ l. p ++ l) (chunks_content ps)

chunks_good : (pieces : List (List ℕ)) → All IsPiece pieces → All IsChunk (map chunk_of pieces)
chunks_good [] all = All-nil IsChunk
chunks_good (p ∷ ps) all =
    All-cons IsChunk (chunk_of p) (map chunk_of ps) (chunk_of_good p (All-head IsPiece p ps all))
    (chunks_good ps (All-tail IsPiece p ps all))

-- the last chunk is a line and an empty one
pub last_text : last_chunk ≡ print_chunk_line (line_of 0) ++ crlf_bytes
last_text = sym (ap (λ l. l ++ crlf_bytes) (line_text 0) ∙ ap (λ d. d ++ crlf_bytes ++ crlf_bytes) hex_zero)

pub reads_back : ReadsBack
reads_back pieces all fits =
    let last = line_of 0 in
    let trailer : InTrailer (frames Chunked pieces true) (cut_body pieces) crlf_bytes = record {
      line = last;
      good = line_good 0 (omega arith);
      after = record {
        chunks = map chunk_of pieces;
        good = chunks_good pieces all;
        text = λ i. chunks_text pieces i ++ last_text i;
        content = chunks_content pieces ∙ sym (append-nil (contents (map chunk_of pieces)));
        fits = omega (arith, fits, ap length (chunks_content pieces));
      };
      zero = line_size 0 (omega arith);
    } in
    record {
      text = crlf_bytes;
      trailer = trailer;
      fields = [];
      last = crlf;
      rest = [];
      reads = (All-nil IsField, refl);
      few = omega arith;
      short = omega arith;
    }

-- the lengths of the pieces and the body that they join to give the pieces again
pub cut-joined : (pieces : List (List ℕ)) → cut (map length pieces) (cut_body pieces) ≡ pieces
cut-joined [] = refl
cut-joined (p ∷ ps) =
    λ i. take_at p (cut_body ps) (length p) refl i ∷
    (ap (cut (map length ps)) (drop_at p (cut_body ps) (length p) refl) ∙ cut-joined ps) i

-- a piece that is sent in a frame is at most nine times as long
pub length-frame_of : (mode : Mode) (piece : List ℕ) → IsPiece piece
    → length (frame_of mode piece) ≤ 9 * length piece
length-frame_of Plain piece is = omega arith
length-frame_of Chunked piece is =
    omega (
      arith,
      is.0,
      is.1,
      length-hex (length piece) (omega (arith, is.1)),
      length-append (hex (length piece)) (crlf_bytes ++ (piece ++ crlf_bytes)),
      length-append crlf_bytes (piece ++ crlf_bytes),
      length-append piece crlf_bytes,
    )
