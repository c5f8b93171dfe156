-- What is read of a front of what is sent in chunks are the bytes of the pieces that stand in it.
use Rattle.std.proofs.Common.{◌≡◌, ℕ, ◌+◌, ◌-◌, ◌<◌, ◌≤◌, ⊎_elim, true, List, [], ◌∷◌, ◌++◌, length, take, drop, refl, sym, ap, subst, ◌∙◌, arith, append_assoc, length-append}
use Rattle.std.specs.Prelude.{All, flat_map}
use Rattle.std.proofs.lemmas.Bool.{cases_lt}
use Rattle.std.proofs.lemmas.List.{append-nil, take_all, take_at, take-append-drop, take-append-le}
use Rattle.std.proofs.lemmas.List.Elements.{All-head, All-tail}
use Rattle.httparse.specs.Ascii.{crlf_bytes}
use Rattle.httparse.specs.Grammar.{print_chunk_line, chunk_size}
use Rattle.httparse.proofs.ChunkLemmas.{chunk_line_unique}
use Rattle.ts_wire.specs.declared.body.BodyState.{BodyState}
use Rattle.ts_wire.specs.declared.frames.Mode.TheVariants.{Chunked}
use Rattle.ts_wire.specs.Limits.{body_limit}
use Rattle.ts_wire.specs.Body.{Chunk, IsChunk, print_chunk, print_chunks, contents}
use Rattle.ts_wire.specs.Frames.{IsPiece, ReadsFronts, chunk_text, content_in, cut_body, frame_of, frames, hex, last_chunk}
use Rattle.ts_wire.proofs.FrameLemmas.{chunk_of, chunk_of_content, chunk_of_good, chunk_of_parts, chunk_of_text, last_text, line_good, line_of, line_size, line_text}
use Rattle.ts_wire.proofs.FrontBody.{chunks_and_more, line_stays}
use Rattle.ts_wire.proofs.OneBody as whole
use Rattle.ts_wire.proofs.OneBody.{AfterLine, LastIs, PartIs, chunk_one, content, cut, has, lacks, line_lacks, over, part_front, part_of_whole, trailer}

-- ---- lists that begin alike

-- the longer of two lists that begin alike begins with the shorter
begins_with : (xs more ys rest : List ℕ) → xs ++ more ≡ ys ++ rest → length ys ≤ length xs
    → xs ≡ ys ++ drop (length ys) xs
begins_with xs more ys rest is within =
    let front : take (length ys) xs ≡ ys =
    sym (take-append-le (length ys) xs more within) ∙ ap (take (length ys)) is
    ∙ take_at ys rest (length ys) refl in
    sym (take-append-drop (length ys) xs) ∙ ap (λ l. l ++ drop (length ys) xs) front

-- as much of each as there is of the other is one list
common_front : (xs more ys rest : List ℕ) → xs ++ more ≡ ys ++ rest
    → take (length ys) xs ≡ take (length xs) ys
common_front xs more ys rest is =
    ⊎_elim
    (λ (short : length xs < length ys).
    take_all (length ys) xs (omega (arith, short)) ∙ sym (take_at xs more (length xs) refl)
    ∙ ap (take (length xs)) is ∙ take-append-le (length xs) ys rest (omega (arith, short)))
    (λ (long : length ys ≤ length xs).
    sym (take-append-le (length ys) xs more long) ∙ ap (take (length ys)) is
    ∙ take_at ys rest (length ys) refl ∙ sym (take_all (length xs) ys long))
    (cases_lt (length xs) (length ys))

-- ---- the texts

-- a piece's frame, and the others
frames_more : (p : List ℕ) (ps : List (List ℕ))
    → frames Chunked (p ∷ ps) true ≡ print_chunk (chunk_of p) ++ frames Chunked ps true
frames_more p ps =
    append_assoc (chunk_text p) (flat_map (frame_of Chunked) ps) last_chunk
    ∙ ap (λ l. l ++ frames Chunked ps true) (chunk_of_text p)

line_length : (n : ℕ) → length (print_chunk_line (line_of n)) ≡ length (hex n) + length crlf_bytes
line_length n = ap length (line_text n) ∙ length-append (hex n) crlf_bytes

frame_length : (p : List ℕ) → length (chunk_text p) ≡ length (hex (length p)) + 2 + length p + 2
frame_length p = omega (
  arith,
  length-append (hex (length p)) (crlf_bytes ++ (p ++ crlf_bytes)),
  length-append crlf_bytes (p ++ crlf_bytes),
  length-append p crlf_bytes,
)

-- in no bytes stands nothing
content_none : (ps : List (List ℕ)) → content_in Chunked ps 0 ≡ []
content_none [] = refl
content_none (p ∷ ps) =
    let a : 0 - (length (hex (length p)) + length crlf_bytes) ≡ 0 = omega arith in
    let b : 0 - length (chunk_text p) ≡ 0 = omega arith in
    (λ i. take (a i) p ++ content_in Chunked ps (b i)) ∙ content_none ps

-- ---- the bytes end in the last chunk, or in the frame of a piece

small : (p : List ℕ) → IsPiece p → length p < 65536
small p piece = omega (arith, piece.1)

-- a line that is the last chunk's
last_none : (total : ℕ) (x more m : List ℕ) (s : BodyState) → x ++ more ≡ last_chunk → LastIs total x m s
    → m ≡ []
last_none total x more m s is (lacks none lacking) = none
last_none total x more m s is (has l rest good text after) =
    let same = chunk_line_unique (x ++ more) l (line_of 0) (rest ++ more) crlf_bytes
    (good.line, line_stays x rest more l text) ((line_good 0 (omega arith)).line, is ∙ last_text) in
    by_after (ap chunk_size same.0 ∙ line_size 0 (omega arith)) after
  where
    by_after : chunk_size l ≡ 0 → AfterLine (chunk_size l) total rest m s → m ≡ []
    by_after size (over long none bad) = none
    by_after size (trailer low zero none part) = none
    by_after size (content low some part) = absurd (omega (arith, size, some))

-- what follows a line reaches up to the last byte of the frame at most
within_frame : (size : ℕ) (p rest more behind m : List ℕ) (s : BodyState) → size ≡ length p
    → rest ++ more ≡ p ++ (crlf_bytes ++ behind) → PartIs size rest m s → length rest ≤ length p + 1
within_frame size p rest more behind m s long is part =
    ⊎_elim
    (λ (short : length rest < length p + 2). let up : length rest ≤ length p + 1 = omega (arith, short) in up)
    (λ (over : length p + 2 ≤ length rest).
    let end = p ++ crlf_bytes in
    let front : length end ≤ length rest = omega (arith, over, length-append p crlf_bytes) in
    let left = drop (length end) rest in
    let begins : rest ≡ end ++ left =
    begins_with rest more end behind (is ∙ sym (append_assoc p crlf_bytes behind)) front in
    absurd (part_of_whole size rest p left m s long (begins ∙ append_assoc p crlf_bytes left) part))
    (cases_lt (length rest) (length p + 2))

-- what follows the line of a piece
after_line : (p rest more behind m : List ℕ) (ps : List (List ℕ)) (size n : ℕ) (s : BodyState)
    → size ≡ length p → n ≡ (length (hex (length p)) + length crlf_bytes) + length rest
    → rest ++ more ≡ p ++ (crlf_bytes ++ behind) → PartIs size rest m s
    → m ≡ content_in Chunked (p ∷ ps) n
after_line p rest more behind m ps size n s long here is part =
    let within = within_frame size p rest more behind m s long is part in
    let a : n - (length (hex (length p)) + length crlf_bytes) ≡ length rest = omega (arith, here) in
    let b : n - length (chunk_text p) ≡ 0 = omega (arith, here, frame_length p, within) in
    let piece : m ≡ take (length rest) p =
    part_front size rest m s part ∙ ap (λ k. take k rest) long
    ∙ common_front rest more p (crlf_bytes ++ behind) is in
    let right : content_in Chunked (p ∷ ps) n ≡ take (length rest) p ++ [] =
    (λ i. take (a i) p ++ content_in Chunked ps (b i)) ∙ ap (λ l. take (length rest) p ++ l) (content_none ps) in
    piece ∙ sym (append-nil (take (length rest) p)) ∙ sym right

-- the bytes end before the end of this piece's frame
part_in : (p : List ℕ) (ps : List (List ℕ)) (total : ℕ) (x more m : List ℕ) (s : BodyState) → IsPiece p
    → total + length p ≤ body_limit → x ++ more ≡ print_chunk (chunk_of p) ++ frames Chunked ps true
    → LastIs total x m s → m ≡ content_in Chunked (p ∷ ps) (length x)
part_in p ps total x more m s piece fits is (lacks none lacking) =
    let line = print_chunk_line (line_of (length p)) in
    ⊎_elim
    (λ (short : length x < length line).
    let a : length x - (length (hex (length p)) + length crlf_bytes) ≡ 0 =
    omega (arith, short, line_length (length p)) in
    let b : length x - length (chunk_text p) ≡ 0 =
    omega (arith, short, line_length (length p), frame_length p) in
    none ∙ sym ((λ i. take (a i) p ++ content_in Chunked ps (b i)) ∙ content_none ps))
    (λ (long : length line ≤ length x).
    absurd (line_lacks x (drop (length line) x) (line_of (length p)) s (line_good (length p) (small p piece))
    (begins_with x more line (p ++ (crlf_bytes ++ frames Chunked ps true))
    (is ∙ chunk_of_parts p (frames Chunked ps true)) long) lacking))
    (cases_lt (length x) (length line))
part_in p ps total x more m s piece fits is (has l rest good text after) =
    let same = chunk_line_unique (x ++ more) l (line_of (length p)) (rest ++ more)
    (p ++ (crlf_bytes ++ frames Chunked ps true)) (good.line, line_stays x rest more l text)
    ((line_good (length p) (small p piece)).line, is ∙ chunk_of_parts p (frames Chunked ps true)) in
    let size : chunk_size l ≡ length p = ap chunk_size same.0 ∙ line_size (length p) (small p piece) in
    let line : length (print_chunk_line l) ≡ length (hex (length p)) + length crlf_bytes =
    ap (λ k. length (print_chunk_line k)) same.0 ∙ line_length (length p) in
    let here : length x ≡ (length (hex (length p)) + length crlf_bytes) + length rest =
    omega (arith, ap length text, length-append (print_chunk_line l) rest, line) in
    by_after size here same.1 after
  where
    by_after : chunk_size l ≡ length p → length x ≡ (length (hex (length p)) + length crlf_bytes) + length rest
        → rest ++ more ≡ p ++ (crlf_bytes ++ frames Chunked ps true) → AfterLine (chunk_size l) total rest m s
        → m ≡ content_in Chunked (p ∷ ps) (length x)
    by_after size here behind (over long none bad) = absurd (omega (arith, long, fits, size))
    by_after size here behind (trailer low zero none part) = absurd (omega (arith, zero, size, piece.0))
    by_after size here behind (content low some part) =
        after_line p rest more (frames Chunked ps true) m ps (chunk_size l) (length x) s size here behind part

-- no chunk of a body is the last chunk
not_last : (c : Chunk) (behind : List ℕ) → IsChunk c → print_chunk c ++ behind ≡ last_chunk → ⊥
not_last c behind good is =
    let same = chunk_line_unique last_chunk c.line (line_of 0) (c.content ++ (crlf_bytes ++ behind)) crlf_bytes
    (good.line.line, sym is ∙ whole.chunk_text c behind) ((line_good 0 (omega arith)).line, last_text) in
    let size : chunk_size c.line ≡ 0 = ap chunk_size same.0 ∙ line_size 0 (omega arith) in
    omega (arith, size, good.size, good.some)

-- ---- the whole

-- a chunk that is read whole is the piece
chunk_is : (c : Chunk) (p x y : List ℕ) → IsChunk c → IsPiece p
    → print_chunk c ++ x ≡ print_chunk (chunk_of p) ++ y
    → (c.content ≡ p) × (x ≡ y) × (length (print_chunk c) ≡ length (chunk_text p))
chunk_is c p x y good piece is =
    let one = chunk_one c (chunk_of p) x y good (chunk_of_good p piece) is in
    let long : length (print_chunk c) ≡ length (print_chunk (chunk_of p)) =
    omega (
      arith,
      ap length is,
      length-append (print_chunk c) x,
      length-append (print_chunk (chunk_of p)) y,
      ap length one.1,
    ) in
    (one.0 ∙ chunk_of_content p, one.1, long ∙ sym (ap length (chunk_of_text p)))

chunks_read : (cs : List Chunk) (ps : List (List ℕ)) (total : ℕ) (x more m : List ℕ) (s : BodyState)
    → All IsChunk cs → All IsPiece ps → (print_chunks cs ++ x) ++ more ≡ frames Chunked ps true
    → total + length (contents cs) ≤ body_limit → total + length (cut_body ps) ≤ body_limit
    → LastIs (total + length (contents cs)) x m s
    → contents cs ++ m ≡ content_in Chunked ps (length (print_chunks cs ++ x))
chunks_read [] [] total x more m s good all is fits fits' last = last_none (total + 0) x more m s is last
chunks_read [] (p ∷ ps) total x more m s good all is fits fits' last =
    part_in p ps (total + 0) x more m s (All-head IsPiece p ps all)
    (omega (arith, fits', length-append p (cut_body ps))) (is ∙ frames_more p ps) last
chunks_read (c ∷ cs) [] total x more m s good all is fits fits' last =
    absurd (not_last c ((print_chunks cs ++ x) ++ more) (All-head IsChunk c cs good)
    (sym (chunks_and_more c cs x more) ∙ is))
chunks_read (c ∷ cs) (p ∷ ps) total x more m s good all is fits fits' last =
    let inner = print_chunks cs ++ x in
    let one = chunk_is c p (inner ++ more) (frames Chunked ps true) (All-head IsChunk c cs good)
    (All-head IsPiece p ps all) (sym (chunks_and_more c cs x more) ∙ is ∙ frames_more p ps) in
    let n = length (print_chunks (c ∷ cs) ++ x) in
    let long : n ≡ length (chunk_text p) + length inner =
    omega (
      arith,
      ap length (append_assoc (print_chunk c) (print_chunks cs) x),
      length-append (print_chunk c) inner,
      one.2,
    ) in
    let a : take (n - (length (hex (length p)) + length crlf_bytes)) p ≡ p =
    take_all (n - (length (hex (length p)) + length crlf_bytes)) p (omega (arith, long, frame_length p)) in
    let b : n - length (chunk_text p) ≡ length inner = omega (arith, long) in
    let sum : total + length (c.content ++ contents cs) ≡ total + length c.content + length (contents cs) =
    omega (arith, length-append c.content (contents cs)) in
    let sum' : total + length (p ++ cut_body ps) ≡ total + length c.content + length (cut_body ps) =
    omega (arith, length-append p (cut_body ps), ap length one.0) in
    let later = chunks_read cs ps (total + length c.content) x more m s (All-tail IsChunk c cs good)
    (All-tail IsPiece p ps all) one.1 (omega (arith, fits, sum)) (omega (arith, fits', sum'))
    (subst (λ k. LastIs k x m s) sum last) in
    append_assoc c.content (contents cs) m ∙ (λ i. one.0 i ++ later i)
    ∙ sym (λ i. a i ++ content_in Chunked ps (b i))

pub reads_fronts : ReadsFronts
reads_fronts pieces sent more body state all fits is body_of =
    let parts = cut sent body state body_of in
    parts.after.content
    ∙ chunks_read parts.after.chunks pieces 0 parts.tail more parts.more state parts.after.good all
    (ap (λ l. l ++ more) (sym parts.after.text) ∙ is) (omega (arith, parts.after.fits)) (omega (arith, fits))
    (subst (λ k. LastIs k parts.tail parts.more state) (omega arith) parts.last)
    ∙ ap (λ l. content_in Chunked pieces (length l)) (sym parts.after.text)
