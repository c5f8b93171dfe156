-- How the parts of a body in chunks grow by more bytes.
use Rattle.std.proofs.Common.{◌≡◌, ℕ, ◌<◌, List, [], ◌∷◌, ◌++◌, length, refl, sym, ap, subst, ◌∙◌, arith, append_assoc, length-append}
use Rattle.std.proofs.lemmas.List.{append-nil}
use Rattle.std.proofs.lemmas.List.Elements.{All-nil, All-push}
use Rattle.std.proofs.lemmas.Grind.{flat_map-append}
use Rattle.httparse.specs.Ascii.{crlf_bytes}
use Rattle.httparse.specs.Grammar.{ChunkLine, IsChunkLine, print_chunk_line, print_extension, HasNoChunkLine, MayBecomeChunkLine, HasNoSection, MayBecomeSection, IsField, lf, print_section}
use Rattle.httparse.proofs.OpenLemmas.{digits_cut, chunk_may}
use Rattle.ts_wire.specs.Body.{Chunk, IsChunk, print_chunk, print_chunks, contents, AfterChunks, InChunk, InTrailer}
use Rattle.ts_wire.proofs.HeadLemmas.{ends_some}

-- a chunk line has at least one digit
pub line_some : (l : ChunkLine) → IsChunkLine l → 0 < length (print_chunk_line l)
unfolding print_chunk_line
line_some l good =
    let end = length-append (l.digits ++ l.pad ++ print_extension l.extension) crlf_bytes in
    omega (arith, end)

pub no_line_yet : HasNoChunkLine []
no_line_yet l rest reads =
    absurd (omega (arith, ap length reads.1, length-append (print_chunk_line l) rest, line_some l reads.0))

pub line_may_begin : MayBecomeChunkLine []
line_may_begin = chunk_may (digits_cut [] (All-nil _) (omega arith))

pub no_section_yet : HasNoSection []
no_section_yet fields last rest reads =
    absurd (omega (
      arith,
      ap length reads.1,
      length-append (print_section fields last) rest,
      ends_some [] fields last,
    ))

pub section_may_begin : MayBecomeSection []
section_may_begin = (10 ∷ [], [], lf, (All-nil IsField, refl))

-- nothing was fed
pub no_chunks : AfterChunks [] [] [] []
no_chunks = record { chunks = []; good = All-nil IsChunk; text = refl; content = refl; fits = omega arith }

-- more bytes follow the chunks, and some of them are body
pub grow : (fed body tail more t u whole : List ℕ) → AfterChunks fed body tail more → whole ≡ tail ++ t
    → AfterChunks (fed ++ t) (body ++ u) whole (more ++ u)
grow fed body tail more t u whole after is = record {
  chunks = after.chunks;
  good = after.good;
  text = ap (λ l. l ++ t) after.text ∙ append_assoc (print_chunks after.chunks) tail t
      ∙ ap (λ l. print_chunks after.chunks ++ l) (sym is);
  content = ap (λ l. l ++ u) after.content ∙ append_assoc (contents after.chunks) more u;
  fits = after.fits;
}

pub grow_chunk : (fed body part tail t u part' tail' : List ℕ) (size : ℕ) → InChunk fed body size part tail
    → part' ≡ part ++ u
    → part' ++ tail' ≡ (part ++ tail) ++ t → InChunk (fed ++ t) (body ++ u) size part' tail'
grow_chunk fed body part tail t u part' tail' size chunk is whole =
    let pl = print_chunk_line chunk.line in
    record {
      line = chunk.line;
      good = chunk.good;
      after = subst (AfterChunks (fed ++ t) (body ++ u) (pl ++ (part' ++ tail'))) (sym is)
          (grow fed body (pl ++ (part ++ tail)) part t u (pl ++ (part' ++ tail')) chunk.after
          (ap (λ l. pl ++ l) whole ∙ sym (append_assoc pl (part ++ tail) t)));
      size_is = chunk.size_is;
      some = chunk.some;
      fits = omega (arith, chunk.fits, length-append body u, ap length is, length-append part u);
    }

-- more content
pub more_content : (fed body part t : List ℕ) (size : ℕ) → InChunk fed body size part []
    → InChunk (fed ++ t) (body ++ t) size (part ++ t) []
more_content fed body part t size chunk =
    grow_chunk fed body part [] t t (part ++ t) [] size chunk refl (append-nil (part ++ t)
    ∙ ap (λ l. l ++ t) (sym (append-nil part)))

-- more after the content
pub more_tail : (fed body part tail t : List ℕ) (size : ℕ) → InChunk fed body size part tail
    → InChunk (fed ++ t) (body ++ []) size part (tail ++ t)
more_tail fed body part tail t size chunk =
    grow_chunk fed body part tail t [] part (tail ++ t) size chunk (sym (append-nil part))
    (sym (append_assoc part tail t))

-- CR LF closes a chunk
pub close_chunk : (fed body part : List ℕ) → InChunk fed body (length part) part crlf_bytes
    → AfterChunks fed body [] []
close_chunk fed body part chunk =
    let after = chunk.after in
    let last : Chunk = record { line = chunk.line; content = part } in
    let good : IsChunk last = record { line = chunk.good; size = chunk.size_is; some = chunk.some } in
    let text : print_chunks (after.chunks ++ last ∷ []) ≡ print_chunks after.chunks
    ++ (print_chunk last ++ []) = flat_map-append print_chunk after.chunks (last ∷ []) in
    let content : contents (after.chunks ++ last ∷ []) ≡ contents after.chunks ++ (part ++ []) =
    flat_map-append (λ c. c.content) after.chunks (last ∷ []) in
    let body_is : body ≡ contents (after.chunks ++ last ∷ []) =
    after.content ∙ ap (λ l. contents after.chunks ++ l) (sym (append-nil part)) ∙ sym content in
    record {
      chunks = after.chunks ++ last ∷ [];
      good = All-push IsChunk after.chunks last after.good good;
      text = after.text ∙ ap (λ l. print_chunks after.chunks ++ l) (sym (append-nil (print_chunk last)))
          ∙ sym text ∙ sym (append-nil _);
      content = body_is ∙ sym (append-nil _);
      fits = omega (arith, chunk.fits, ap length body_is);
    }

pub more_trailer : (fed body text t : List ℕ) → InTrailer fed body text
    → InTrailer (fed ++ t) (body ++ []) (text ++ t)
more_trailer fed body text t trailer =
    let pl = print_chunk_line trailer.line in
    record {
      line = trailer.line;
      good = trailer.good;
      after = grow fed body (pl ++ text) [] t [] (pl ++ (text ++ t)) trailer.after
          (sym (append_assoc pl text t));
      zero = trailer.zero;
    }
