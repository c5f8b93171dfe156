-- Bytes have one body, which is in one state: a body in chunks is read in one way.
use Rattle.std.proofs.Common.{◌≡◌, ℕ, ◌+◌, ◌-◌, ◌<◌, ◌≤◌, ◌⊎◌, List, [], ◌∷◌, ◌++◌, length, take, drop, refl, sym, ap, subst, ◌∙◌, ⊎_elim, arith, inl, inr, append_assoc, length-append}
use Rattle.std.specs.Prelude.{All}
use Rattle.std.proofs.lemmas.List.{append-nil, take_all, take_at, drop_at}
use Rattle.std.proofs.lemmas.List.Elements.{All-head, All-tail}
use Rattle.ts_lists.proofs.Fronts.{same_fronts, take_past}
use Rattle.httparse.specs.Ascii.{crlf_bytes}
use Rattle.httparse.specs.Grammar.{ChunkLine, print_chunk_line, chunk_size, HasNoChunkLine, NeverHasChunkLine, MayBecomeChunkLine, Field, LineEnd, print_section, ReadsSection, HasNoSection, NeverHasSection, MayBecomeSection}
use Rattle.httparse.proofs.ChunkLemmas.{chunk_line_unique}
use Rattle.ts_wire.specs.declared.framing.Framing.TheVariants as F
use Rattle.ts_wire.specs.declared.body.BodyState.{BodyState}
use Rattle.ts_wire.specs.declared.body.BodyState.TheVariants.{Unfinished, Ended, Bad}
use Rattle.ts_wire.specs.Limits.{body_limit, line_limit, trailer_limit, trailer_fields, trailer_lines}
use Rattle.ts_wire.specs.Body.{line_feeds, IsShortLine, Chunk, IsChunk, print_chunk, print_chunks, contents, AfterChunks, LacksTrailer, BreaksCrlf, IsUnfinishedChunked, in_line, in_content, in_gap, in_trailer, IsEndedChunked, IsBadChunked, no_line, long_line, long_body, no_crlf, no_trailer, long_trailer, ChunkedBody, HasOneBody}

-- ---- what follows the whole chunks, in the order in which it is read

-- no chunk line is there
pub LacksLine : List ℕ → BodyState → Type 0
LacksLine text Unfinished = HasNoChunkLine text × MayBecomeChunkLine text × (length text < line_limit)
LacksLine text Ended = ⊥
LacksLine text Bad = NeverHasChunkLine text ⊎ ((line_limit ≤ length text)
    × HasNoChunkLine (take line_limit text))

-- the trailer section
pub TrailerIs : List ℕ → BodyState → Type 0
TrailerIs text Unfinished =
    HasNoSection text × MayBecomeSection text × (line_feeds text < trailer_lines)
    × (length text < trailer_limit)
TrailerIs text Ended =
    (fields : List Field) × (last : LineEnd) × (rest : List ℕ) × ReadsSection text fields last rest
    × (length fields ≤ trailer_fields) × (length (print_section fields last) ≤ trailer_limit)
TrailerIs text Bad =
    NeverHasSection text ⊎ (((trailer_lines ≤ line_feeds text) ⊎ (trailer_limit ≤ length text))
    × LacksTrailer text)

-- a chunk that is not whole: a front of its content, or all of it and then tail
pub PartIs : ℕ → List ℕ → List ℕ → BodyState → Type 0
PartIs size bytes more Unfinished =
    ((length bytes < size) × (more ≡ bytes))
    ⊎ ((tail : List ℕ) × (length more ≡ size) × (bytes ≡ more ++ tail) × ((tail ≡ []) ⊎ (tail ≡ 13 ∷ [])))
PartIs size bytes more Ended = ⊥
PartIs size bytes more Bad = (tail : List ℕ) × (length more ≡ size) × (bytes ≡ more ++ tail) × BreaksCrlf tail

pub data AfterLine (size total : ℕ) (rest more : List ℕ) (state : BodyState) : Type 0 where
  over : body_limit < total + size → more ≡ [] → state ≡ Bad → AfterLine size total rest more state
  trailer : total + size ≤ body_limit → size ≡ 0 → more ≡ [] → TrailerIs rest state
      → AfterLine size total rest more state
  content : total + size ≤ body_limit → 0 < size → PartIs size rest more state
      → AfterLine size total rest more state

pub data LastIs (total : ℕ) (tail more : List ℕ) (state : BodyState) : Type 0 where
  lacks : more ≡ [] → LacksLine tail state → LastIs total tail more state
  has : (l : ChunkLine) (rest : List ℕ) → IsShortLine l → tail ≡ print_chunk_line l ++ rest
      → AfterLine (chunk_size l) total rest more state
      → LastIs total tail more state

-- ---- each part is one

-- a line that is there is not lacking
pub line_lacks : (tail rest : List ℕ) (l : ChunkLine) (s : BodyState) → IsShortLine l
    → tail ≡ print_chunk_line l ++ rest → LacksLine tail s → ⊥
unfolding LacksLine
line_lacks tail rest l Unfinished good is (none, may, short) = none l rest (good.line, is)
line_lacks tail rest l Ended good is none = none
line_lacks tail rest l Bad good is (inl never) = never [] l rest (good.line, append-nil tail ∙ is)
line_lacks tail rest l Bad good is (inr (long, none)) =
    let p = print_chunk_line l in
    let front : take line_limit tail ≡ p ++ take (line_limit - length p) rest =
    take_past line_limit tail p rest is good.short in
    none l (take (line_limit - length p) rest) (good.line, front)

lacks_one : (tail : List ℕ) (s t : BodyState) → LacksLine tail s → LacksLine tail t → s ≡ t
unfolding LacksLine
lacks_one tail Unfinished Unfinished a b = refl
lacks_one tail Unfinished Ended a b = absurd b
lacks_one tail Unfinished Bad (none, (more, l, reads), short) (inl never) = absurd (never more l [] reads)
lacks_one tail Unfinished Bad (none, may, short) (inr (long, lacking)) = absurd (omega (arith, short, long))
lacks_one tail Ended t a b = absurd a
lacks_one tail Bad Unfinished (inl never) (none, (more, l, reads), short) = absurd (never more l [] reads)
lacks_one tail Bad Unfinished (inr (long, lacking)) (none, may, short) = absurd (omega (arith, short, long))
lacks_one tail Bad Ended a b = absurd b
lacks_one tail Bad Bad a b = refl

-- a trailer section that may still come to be is not bad, and one that is whole is neither
trailer_open : (text : List ℕ) → TrailerIs text Unfinished → TrailerIs text Bad → ⊥
unfolding TrailerIs
trailer_open text (none, (more, fields, last, reads), few, short) (inl never) =
    never more fields last [] reads
trailer_open text (none, may, few, short) (inr (full, lacking)) =
    ⊎_elim (λ (lines : trailer_lines ≤ line_feeds text). absurd (omega (arith, lines, few)))
    (λ (bytes : trailer_limit ≤ length text). absurd (omega (arith, bytes, short))) full

trailer_whole : (text : List ℕ) → TrailerIs text Ended → TrailerIs text Bad → ⊥
unfolding TrailerIs
trailer_whole text (fields, last, rest, reads, few, short) (inl never) =
    never [] fields last rest (reads.0, append-nil text ∙ reads.1)
trailer_whole text (fields, last, rest, reads, few, short) (inr (full, lacking)) =
    lacking fields last rest reads few short

trailer_partial : (text : List ℕ) → TrailerIs text Unfinished → TrailerIs text Ended → ⊥
unfolding TrailerIs
trailer_partial text (none, may, few, short) (fields, last, rest, reads, count, size) =
    none fields last rest reads

trailer_one : (text : List ℕ) (s t : BodyState) → TrailerIs text s → TrailerIs text t → s ≡ t
trailer_one text Unfinished Unfinished a b = refl
trailer_one text Unfinished Ended a b = absurd (trailer_partial text a b)
trailer_one text Unfinished Bad a b = absurd (trailer_open text a b)
trailer_one text Ended Unfinished a b = absurd (trailer_partial text b a)
trailer_one text Ended Ended a b = refl
trailer_one text Ended Bad a b = absurd (trailer_whole text a b)
trailer_one text Bad Unfinished a b = absurd (trailer_open text b a)
trailer_one text Bad Ended a b = absurd (trailer_whole text b a)
trailer_one text Bad Bad a b = refl

-- the content of a chunk that is not whole is a front of what follows the line
pub part_front : (size : ℕ) (bytes more : List ℕ) (s : BodyState) → PartIs size bytes more s
    → more ≡ take size bytes
unfolding PartIs
part_front size bytes more Unfinished (inl (short, is)) =
    is ∙ sym (take_all size bytes (omega (arith, short)))
part_front size bytes more Unfinished (inr (tail, len, is, ends)) =
    sym (take_at more tail size len) ∙ ap (take size) (sym is)
part_front size bytes more Ended part = absurd part
part_front size bytes more Bad (tail, len, is, broken) =
    sym (take_at more tail size len) ∙ ap (take size) (sym is)

cr_not_broken : (tail : List ℕ) → (tail ≡ []) ⊎ (tail ≡ 13 ∷ []) → BreaksCrlf tail → ⊥
cr_not_broken tail (inl none) broken = subst BreaksCrlf none broken
cr_not_broken tail (inr cr) broken = let b : BreaksCrlf (13 ∷ []) = subst BreaksCrlf cr broken in b refl

part_open : (size : ℕ) (bytes m n : List ℕ) → PartIs size bytes m Unfinished → PartIs size bytes n Bad → ⊥
unfolding PartIs
part_open size bytes m n (inl (short, is)) (tail, len, bytes_are, broken) =
    absurd (omega (arith, short, len, ap length bytes_are, length-append n tail))
part_open size bytes m n (inr (rest, whole, are, ends)) (tail, len, bytes_are, broken) =
    let same : rest ≡ tail =
    sym (drop_at m rest size whole) ∙ ap (drop size) (sym are ∙ bytes_are) ∙ drop_at n tail size len in
    cr_not_broken tail (subst (λ x. (x ≡ []) ⊎ (x ≡ 13 ∷ [])) same ends) broken

part_one : (size : ℕ) (bytes m n : List ℕ) (s t : BodyState) → PartIs size bytes m s → PartIs size bytes n t
    → s ≡ t
unfolding PartIs
part_one size bytes m n Unfinished Unfinished a b = refl
part_one size bytes m n Unfinished Ended a b = absurd b
part_one size bytes m n Unfinished Bad a b = absurd (part_open size bytes m n a b)
part_one size bytes m n Ended t a b = absurd a
part_one size bytes m n Bad Unfinished a b = absurd (part_open size bytes n m b a)
part_one size bytes m n Bad Ended a b = absurd b
part_one size bytes m n Bad Bad a b = refl

abbrev Same : List ℕ → List ℕ → BodyState → BodyState → Type 0
Same m n s t = (m ≡ n) × (s ≡ t)

after_one : (size total : ℕ) (rest m n : List ℕ) (s t : BodyState) → AfterLine size total rest m s
    → AfterLine size total rest n t → Same m n s t
after_one size total rest m n s t (over a none bad) (over b none' bad') = (none ∙ sym none', bad ∙ sym bad')
after_one size total rest m n s t (over a none bad) (trailer b zero none' is) = absurd (omega (arith, a, b))
after_one size total rest m n s t (over a none bad) (content b some is) = absurd (omega (arith, a, b))
after_one size total rest m n s t (trailer a zero none is) (over b none' bad') = absurd (omega (arith, a, b))
after_one size total rest m n s t (trailer a zero none is) (trailer b zero' none' is') =
    (none ∙ sym none', trailer_one rest s t is is')
after_one size total rest m n s t (trailer a zero none is) (content b some is') =
    absurd (omega (arith, zero, some))
after_one size total rest m n s t (content a some is) (over b none' bad') = absurd (omega (arith, a, b))
after_one size total rest m n s t (content a some is) (trailer b zero none' is') =
    absurd (omega (arith, zero, some))
after_one size total rest m n s t (content a some is) (content b some' is') =
    (part_front size rest m s is ∙ sym (part_front size rest n t is'), part_one size rest m n s t is is')

last_one : (total : ℕ) (tail m n : List ℕ) (s t : BodyState) → LastIs total tail m s → LastIs total tail n t
    → Same m n s t
last_one total tail m n s t (lacks none a) (lacks none' b) = (none ∙ sym none', lacks_one tail s t a b)
last_one total tail m n s t (lacks none a) (has l rest good is after) =
    absurd (line_lacks tail rest l s good is a)
last_one total tail m n s t (has l rest good is after) (lacks none b) =
    absurd (line_lacks tail rest l t good is b)
last_one total tail m n s t (has l rest good is after) (has k rest' good' is' after') =
    let same = chunk_line_unique tail l k rest rest' (good.line, is) (good'.line, is') in
    after_one (chunk_size k) total rest' m n s t
    (subst (λ r. AfterLine (chunk_size k) total r m s) same.1
    (subst (λ x. AfterLine (chunk_size x) total rest m s) same.0 after)) after'

-- ---- a whole chunk is no last part

pub part_of_whole : (size : ℕ) (bytes part rest more : List ℕ) (s : BodyState) → size ≡ length part
    → bytes ≡ part ++ (crlf_bytes ++ rest) → PartIs size bytes more s → ⊥
unfolding PartIs
part_of_whole size bytes part rest more Unfinished len is (inl (short, same)) =
    omega (arith, short, len, ap length is, length-append part (crlf_bytes ++ rest))
part_of_whole size bytes part rest more Unfinished len is (inr (tail, whole, are, ends)) =
    let same : tail ≡ crlf_bytes ++ rest =
    sym (drop_at more tail size whole) ∙ ap (drop size) (sym are ∙ is)
    ∙ drop_at part (crlf_bytes ++ rest) size (sym len) in
    ⊎_elim (λ (e : tail ≡ []). absurd (omega (arith, ap length same, ap length e)))
    (λ (e : tail ≡ 13 ∷ []). absurd (omega (arith, ap length same, ap length e))) ends
part_of_whole size bytes part rest more Ended len is none = none
part_of_whole size bytes part rest more Bad len is (tail, whole, are, broken) =
    let same : tail ≡ crlf_bytes ++ rest =
    sym (drop_at more tail size whole) ∙ ap (drop size) (sym are ∙ is)
    ∙ drop_at part (crlf_bytes ++ rest) size (sym len) in
    crlf_not_broken (subst BreaksCrlf same broken)
  where
    crlf_not_broken : BreaksCrlf (crlf_bytes ++ rest) → ⊥
    crlf_not_broken (inl a) = a refl
    crlf_not_broken (inr b) = b refl

pub chunk_text : (c : Chunk) (rest : List ℕ) → print_chunk c ++ rest ≡ print_chunk_line c.line
    ++ (c.content ++ (crlf_bytes ++ rest))
chunk_text c rest =
    append_assoc (print_chunk_line c.line) (c.content ++ crlf_bytes) rest
    ∙ ap (λ l. print_chunk_line c.line ++ l) (append_assoc c.content crlf_bytes rest)

pub chunk_not_last : (c : Chunk) (total : ℕ) (rest tail more : List ℕ) (s : BodyState) → IsChunk c
    → total + length c.content ≤ body_limit
    → tail ≡ print_chunk c ++ rest → LastIs total tail more s → ⊥
chunk_not_last c total rest tail more s good fits is (lacks none a) =
    line_lacks tail (c.content ++ (crlf_bytes ++ rest)) c.line s good.line (is ∙ chunk_text c rest) a
chunk_not_last c total rest tail more s good fits is (has l after line text last) =
    let same = chunk_line_unique tail c.line l (c.content ++ (crlf_bytes ++ rest)) after (
      good.line.line,
      is
          ∙ chunk_text c rest,
    ) (line.line, text) in
    let size : chunk_size l ≡ length c.content = ap chunk_size (sym same.0) ∙ good.size in
    by_last size (sym same.1) last
  where
    by_last : chunk_size l ≡ length c.content → after ≡ c.content ++ (crlf_bytes ++ rest)
        → AfterLine (chunk_size l) total after more s → ⊥
    by_last size same (over long none bad) = omega (arith, long, fits, size)
    by_last size same (trailer short zero none part) = omega (arith, zero, size, good.some)
    by_last size same (content short some part) =
        part_of_whole (chunk_size l) after c.content rest more s size same part

-- ---- the whole

-- two chunks that the same bytes begin with are the same, and so is what follows
pub chunk_one : (c d : Chunk) (x y : List ℕ) → IsChunk c → IsChunk d → print_chunk c ++ x ≡ print_chunk d ++ y
    → (c.content ≡ d.content) × (x ≡ y)
chunk_one c d x y good good' is =
    let lines = chunk_line_unique (print_chunk c ++ x) c.line d.line (c.content ++ (crlf_bytes ++ x))
    (d.content ++ (crlf_bytes ++ y)) (good.line.line, chunk_text c x) (
      good'.line.line,
      is
          ∙ chunk_text d y,
    ) in
    let len : length c.content ≡ length d.content = sym good.size ∙ ap chunk_size lines.0 ∙ good'.size in
    let parts = same_fronts c.content d.content (crlf_bytes ++ x) (crlf_bytes ++ y) len lines.1 in
    (parts.0, ap (drop 2) parts.1)

chunks_one : (cs ds : List Chunk) (total : ℕ) (x y m n : List ℕ) (s t : BodyState) → All IsChunk cs
    → All IsChunk ds
    → print_chunks cs ++ x ≡ print_chunks ds ++ y → total + length (contents cs) ≤ body_limit
    → total + length (contents ds) ≤ body_limit
    → LastIs (total + length (contents cs)) x m s → LastIs (total + length (contents ds)) y n t
    → Same (contents cs ++ m) (contents ds ++ n) s t
chunks_one [] [] total x y m n s t good good' is fits fits' last last' =
    last_one (total + 0) y m n s t (subst (λ l. LastIs (total + 0) l m s) is last) last'
chunks_one [] (d ∷ ds) total x y m n s t good good' is fits fits' last last' =
    absurd (chunk_not_last d (total + 0) (print_chunks ds ++ y) x m s (All-head IsChunk d ds good')
    (omega (arith, fits', length-append d.content (contents ds)))
    (is ∙ append_assoc (print_chunk d) (print_chunks ds) y) last)
chunks_one (c ∷ cs) [] total x y m n s t good good' is fits fits' last last' =
    absurd (chunk_not_last c (total + 0) (print_chunks cs ++ x) y n t (All-head IsChunk c cs good)
    (omega (arith, fits, length-append c.content (contents cs)))
    (sym is ∙ append_assoc (print_chunk c) (print_chunks cs) x) last')
chunks_one (c ∷ cs) (d ∷ ds) total x y m n s t good good' is fits fits' last last' =
    let here = All-head IsChunk c cs good in
    let here' = All-head IsChunk d ds good' in
    let one = chunk_one c d (print_chunks cs ++ x) (print_chunks ds ++ y) here here'
    (sym (append_assoc (print_chunk c) (print_chunks cs) x) ∙ is
    ∙ append_assoc (print_chunk d) (print_chunks ds) y) in
    let len : length c.content ≡ length d.content = ap length one.0 in
    let sum : total + length (c.content ++ contents cs) ≡ total + length c.content + length (contents cs) =
    omega (arith, length-append c.content (contents cs)) in
    let sum' : total + length (d.content ++ contents ds) ≡ total + length c.content + length (contents ds) =
    omega (arith, length-append d.content (contents ds), len) in
    let later = chunks_one cs ds (total + length c.content) x y m n s t (All-tail IsChunk c cs good)
    (All-tail IsChunk d ds good') one.1 (omega (arith, fits, sum)) (omega (arith, fits', sum'))
    (subst (λ k. LastIs k x m s) sum last) (subst (λ k. LastIs k y n t) sum' last') in (
      append_assoc c.content (contents cs) m ∙ (λ i. one.0 i ++ later.0 i)
          ∙ sym (append_assoc d.content (contents ds) n),
      later.1,
    )

-- a body in chunks, as whole chunks and what follows them
pub record Cut (bytes body : List ℕ) (state : BodyState) : Type 0 where
  pub tail : List ℕ
  pub more : List ℕ
  pub after : AfterChunks bytes body tail more
  pub last : LastIs (length (contents after.chunks)) tail more state

cut_unfinished : (bytes body : List ℕ) → IsUnfinishedChunked bytes body → Cut bytes body Unfinished
unfolding LacksLine PartIs TrailerIs
cut_unfinished bytes body (in_line text after none may short) = record {
  tail = text;
  more = [];
  after = after;
  last = lacks refl (none, may, short);
}
cut_unfinished bytes body (in_content size part chunk short) = record {
  tail = print_chunk_line chunk.line ++ (part ++ []);
  more = part;
  after = chunk.after;
  last = has chunk.line (part ++ []) chunk.good refl
      (content (omega (
        arith,
        chunk.fits,
        chunk.size_is,
        ap length chunk.after.content,
        length-append (contents chunk.after.chunks) part,
      )) (omega (arith, chunk.some, chunk.size_is))
      (inl (omega (arith, short, chunk.size_is, length-append part []), sym (append-nil part))));
}
cut_unfinished bytes body (in_gap part rest chunk ends) = record {
  tail = print_chunk_line chunk.line ++ (part ++ rest);
  more = part;
  after = chunk.after;
  last = has chunk.line (part ++ rest) chunk.good refl
      (content (omega (
        arith,
        chunk.fits,
        chunk.size_is,
        ap length chunk.after.content,
        length-append (contents chunk.after.chunks) part,
      )) (omega (arith, chunk.some, chunk.size_is))
      (inr (rest, sym chunk.size_is, refl, ends)));
}
cut_unfinished bytes body (in_trailer text section none may few short) = record {
  tail = print_chunk_line section.line ++ text;
  more = [];
  after = section.after;
  last = has section.line text section.good refl (trailer
      (omega (arith, section.zero, section.after.fits)) section.zero refl (none, may, few, short));
}

cut_ended : (bytes body : List ℕ) → IsEndedChunked bytes body → Cut bytes body Ended
unfolding TrailerIs
cut_ended bytes body e =
    let section = e.trailer in
    record {
      tail = print_chunk_line section.line ++ e.text;
      more = [];
      after = section.after;
      last = has section.line e.text section.good refl
          (trailer (omega (arith, section.zero, section.after.fits)) section.zero refl (
            e.fields,
            e.last,
            e.rest,
            e.reads,
            e.few,
            e.short,
          ));
    }

cut_bad : (bytes body : List ℕ) → IsBadChunked bytes body → Cut bytes body Bad
unfolding LacksLine PartIs TrailerIs
cut_bad bytes body (no_line text after never) = record {
  tail = text;
  more = [];
  after = after;
  last = lacks refl (inl never);
}
cut_bad bytes body (long_line text after long none) = record {
  tail = text;
  more = [];
  after = after;
  last = lacks refl (inr (long, none));
}
cut_bad bytes body (long_body l rest after good long) = record {
  tail = print_chunk_line l ++ rest;
  more = [];
  after = after;
  last = has l rest good refl (over (omega (
    arith,
    long,
    ap length after.content,
    length-append (contents after.chunks) [],
  )) refl refl);
}
cut_bad bytes body (no_crlf part rest chunk broken) = record {
  tail = print_chunk_line chunk.line ++ (part ++ rest);
  more = part;
  after = chunk.after;
  last = has chunk.line (part ++ rest) chunk.good refl
      (content (omega (
        arith,
        chunk.fits,
        chunk.size_is,
        ap length chunk.after.content,
        length-append (contents chunk.after.chunks) part,
      )) (omega (arith, chunk.some, chunk.size_is))
      (rest, sym chunk.size_is, refl, broken));
}
cut_bad bytes body (no_trailer text section never) = record {
  tail = print_chunk_line section.line ++ text;
  more = [];
  after = section.after;
  last = has section.line text section.good refl (trailer
      (omega (arith, section.zero, section.after.fits)) section.zero refl (inl never));
}
cut_bad bytes body (long_trailer text section full none) = record {
  tail = print_chunk_line section.line ++ text;
  more = [];
  after = section.after;
  last = has section.line text section.good refl (trailer
      (omega (arith, section.zero, section.after.fits)) section.zero refl (inr (full, none)));
}

pub cut : (bytes body : List ℕ) (state : BodyState) → ChunkedBody bytes body state → Cut bytes body state
cut bytes body Unfinished is = cut_unfinished bytes body is
cut bytes body Ended is = cut_ended bytes body is
cut bytes body Bad is = cut_bad bytes body is

cuts_one : (bytes a b : List ℕ) (s t : BodyState) → Cut bytes a s → Cut bytes b t → Same a b s t
cuts_one bytes a b s t x y =
    let same = chunks_one x.after.chunks y.after.chunks 0 x.tail y.tail x.more y.more s t x.after.good
    y.after.good (sym x.after.text ∙ y.after.text)
    (omega (arith, x.after.fits)) (omega (arith, y.after.fits))
    (subst (λ k. LastIs k x.tail x.more s) (omega arith) x.last)
    (subst (λ k. LastIs k y.tail y.more t) (omega arith) y.last) in
    (x.after.content ∙ same.0 ∙ sym y.after.content, same.1)

pub one_body : HasOneBody
one_body F.Nothing bytes a b s t x y = (x.0 ∙ sym y.0, x.1 ∙ sym y.1)
one_body (F.Sized n) bytes a b s t x y = (x.0 ∙ sym y.0, x.1 ∙ sym y.1)
one_body F.Chunked bytes a b s t x y = cuts_one bytes a b s t (cut bytes a s x) (cut bytes b t y)
one_body F.UntilClose bytes a b s t x y = (x.0 ∙ sym y.0, x.1 ∙ sym y.1)
one_body F.Faulty bytes a b s t x y = absurd x
