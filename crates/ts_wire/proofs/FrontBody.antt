-- The body of a front of the bytes is a front of their body.
use Rattle.std.proofs.Common.{◌≡◌, ℕ, ◌+◌, ◌≤◌, zero, suc, List, [], ◌∷◌, ◌++◌, length, take, refl, sym, ap, subst, ◌∙◌, arith, append_assoc, length-append}
use Rattle.std.specs.Prelude.{All}
use Rattle.std.proofs.lemmas.List.{take_at}
use Rattle.std.proofs.lemmas.List.Elements.{All-head, All-tail}
use Rattle.httparse.specs.Ascii.{crlf_bytes}
use Rattle.httparse.specs.Grammar.{ChunkLine, print_chunk_line, chunk_size}
use Rattle.httparse.proofs.ChunkLemmas.{chunk_line_unique}
use Rattle.ts_wire.specs.declared.framing.Framing.TheVariants as F
use Rattle.ts_wire.specs.declared.body.BodyState.{BodyState}
use Rattle.ts_wire.specs.Limits.{body_limit}
use Rattle.ts_wire.specs.Body.{Chunk, IsChunk, print_chunk, print_chunks, contents, BodyGrows}
use Rattle.ts_wire.proofs.OneBody.{AfterLine, over, trailer, content, LastIs, lacks, has, Cut, cut, line_lacks, part_front, chunk_text, chunk_one, chunk_not_last}

-- the second list goes on with the first
abbrev GoesOn : List ℕ → List ℕ → Type 0
GoesOn read body = (yet : List ℕ) × (body ≡ read ++ yet)

-- what begins with nothing
from_none : (read body : List ℕ) → read ≡ [] → GoesOn read body
from_none read body none = (body, ap (λ l. l ++ body) (sym none))

-- more bytes behind a list add to its front
pub take_grows : (n : ℕ) (bytes more : List ℕ) → GoesOn (take n bytes) (take n (bytes ++ more))
take_grows zero bytes more = ([], refl)
take_grows (suc n) [] more = (take (suc n) more, refl)
take_grows (suc n) (b ∷ bytes) more =
    let later = take_grows n bytes more in (later.0, ap (λ l. b ∷ l) later.1)

-- ---- what follows the whole chunks

after_grows : (size total : ℕ) (rest more m n : List ℕ) (s t : BodyState) → AfterLine size total rest m s
    → AfterLine size total (rest ++ more) n t → GoesOn m n
after_grows size total rest more m n s t (over long none bad) behind = from_none m n none
after_grows size total rest more m n s t (trailer short size_zero none is) behind = from_none m n none
after_grows size total rest more m n s t (content short some is) (over long none bad) =
    absurd (omega (arith, short, long))
after_grows size total rest more m n s t (content short some is) (trailer fits size_zero none part) =
    absurd (omega (arith, size_zero, some))
after_grows size total rest more m n s t (content short some is) (content fits also part) =
    let grown = take_grows size rest more in (
      grown.0,
      part_front size (rest ++ more) n t part ∙ grown.1
          ∙ ap (λ l. l ++ grown.0) (sym (part_front size rest m s is)),
    )

-- bytes that begin with a line begin with it whatever follows them
pub line_stays : (tail rest more : List ℕ) (l : ChunkLine) → tail ≡ print_chunk_line l ++ rest
    → tail ++ more ≡ print_chunk_line l ++ (rest ++ more)
line_stays tail rest more l is = ap (λ x. x ++ more) is ∙ append_assoc (print_chunk_line l) rest more

last_grows : (total : ℕ) (tail more m n : List ℕ) (s t : BodyState) → LastIs total tail m s
    → LastIs total (tail ++ more) n t → GoesOn m n
last_grows total tail more m n s t (lacks none is) last = from_none m n none
last_grows total tail more m n s t (has l rest good is after) (lacks none lacking) =
    absurd (line_lacks (tail ++ more) (rest ++ more) l t good (line_stays tail rest more l is) lacking)
last_grows total tail more m n s t (has l rest good is after) (has k behind good' is' after') =
    let same = chunk_line_unique (tail ++ more) k l behind (rest ++ more) (good'.line, is')
    (good.line, line_stays tail rest more l is) in
    after_grows (chunk_size l) total rest more m n s t after
    (subst (λ r. AfterLine (chunk_size l) total r n t) same.1
    (subst (λ x. AfterLine (chunk_size x) total behind n t) same.0 after'))

-- a front of a chunk that is then whole
part_of_chunk : (c : Chunk) (total : ℕ) (tail more behind m later : List ℕ) (s : BodyState) → IsChunk c
    → total + length c.content ≤ body_limit
    → tail ++ more ≡ print_chunk c ++ behind → LastIs total tail m s → GoesOn m (c.content ++ later)
part_of_chunk c total tail more behind m later s good fits is (lacks none lacking) = from_none m _ none
part_of_chunk c total tail more behind m later s good fits is (has l rest short line after) =
    let same = chunk_line_unique (tail ++ more) l c.line (rest ++ more) (c.content ++ (crlf_bytes ++ behind))
    (short.line, line_stays tail rest more l line) (good.line.line, is ∙ chunk_text c behind) in
    by_after (ap chunk_size same.0 ∙ good.size) same.1 after
  where
    by_after : chunk_size l ≡ length c.content → rest ++ more ≡ c.content ++ (crlf_bytes ++ behind)
        → AfterLine (chunk_size l) total rest m s → GoesOn m (c.content ++ later)
    by_after size text (over long none bad) = from_none m _ none
    by_after size text (trailer low size_zero none part) = from_none m _ none
    by_after size text (content low some part) =
        let grown = take_grows (chunk_size l) rest more in
        let front : c.content ≡ take (chunk_size l) (rest ++ more) =
        sym (ap (take (chunk_size l)) text
        ∙ take_at c.content (crlf_bytes ++ behind) (chunk_size l) (sym size)) in
        let whole : c.content ≡ m ++ grown.0 =
        front ∙ grown.1 ∙ ap (λ x. x ++ grown.0) (sym (part_front (chunk_size l) rest m s part)) in (
          grown.0 ++ later,
          ap (λ x. x ++ later) whole ∙ append_assoc m grown.0 later,
        )

-- ---- the whole

-- chunks and what follows them, and then more
pub chunks_and_more : (c : Chunk) (cs : List Chunk) (tail more : List ℕ)
    → (print_chunks (c ∷ cs) ++ tail) ++ more ≡ print_chunk c ++ ((print_chunks cs ++ tail) ++ more)
chunks_and_more c cs tail more =
    ap (λ l. l ++ more) (append_assoc (print_chunk c) (print_chunks cs) tail)
    ∙ append_assoc (print_chunk c) (print_chunks cs ++ tail) more

-- a list goes on with another behind a front too
behind_front : (front rest m yet later : List ℕ) → later ≡ (rest ++ m) ++ yet
    → front ++ later ≡ ((front ++ rest) ++ m) ++ yet
behind_front front rest m yet later is =
    ap (λ l. front ++ l) is ∙ sym (append_assoc front (rest ++ m) yet)
    ∙ ap (λ l. l ++ yet) (sym (append_assoc front rest m))

chunk_behind : (c d : Chunk) (cs ds : List Chunk) (m n : List ℕ) → c.content ≡ d.content
    → GoesOn (contents cs ++ m) (contents ds ++ n)
    → GoesOn (contents (c ∷ cs) ++ m) (contents (d ∷ ds) ++ n)
chunk_behind c d cs ds m n same (yet, is) = (
  yet,
  append_assoc d.content (contents ds) n ∙ ap (λ l. l ++ (contents ds ++ n)) (sym same)
      ∙ behind_front c.content (contents cs) m yet (contents ds ++ n) is,
)

chunks_grow : (cs ds : List Chunk) (total : ℕ) (x y more m n : List ℕ) (s t : BodyState) → All IsChunk cs
    → All IsChunk ds
    → (print_chunks cs ++ x) ++ more ≡ print_chunks ds ++ y → total + length (contents cs) ≤ body_limit
    → total + length (contents ds) ≤ body_limit
    → LastIs (total + length (contents cs)) x m s → LastIs (total + length (contents ds)) y n t
    → GoesOn (contents cs ++ m) (contents ds ++ n)
chunks_grow [] [] total x y more m n s t good good' is fits fits' last last' =
    last_grows (total + 0) x more m n s t last (subst (λ l. LastIs (total + 0) l n t) (sym is) last')
chunks_grow [] (d ∷ ds) total x y more m n s t good good' is fits fits' last last' =
    let grown = part_of_chunk d (total + 0) x more (print_chunks ds ++ y) m (contents ds ++ n) s
    (All-head IsChunk d ds good')
    (omega (arith, fits', length-append d.content (contents ds)))
    (is ∙ append_assoc (print_chunk d) (print_chunks ds) y) last in
    (grown.0, append_assoc d.content (contents ds) n ∙ grown.1)
chunks_grow (c ∷ cs) [] total x y more m n s t good good' is fits fits' last last' =
    absurd (chunk_not_last c (total + 0) ((print_chunks cs ++ x) ++ more) y n t (All-head IsChunk c cs good)
    (omega (arith, fits, length-append c.content (contents cs)))
    (sym is ∙ chunks_and_more c cs x more) last')
chunks_grow (c ∷ cs) (d ∷ ds) total x y more m n s t good good' is fits fits' last last' =
    let one = chunk_one c d ((print_chunks cs ++ x) ++ more) (print_chunks ds ++ y)
    (All-head IsChunk c cs good) (All-head IsChunk d ds good')
    (sym (chunks_and_more c cs x more) ∙ is ∙ append_assoc (print_chunk d) (print_chunks ds) y) in
    let len : length c.content ≡ length d.content = ap length one.0 in
    let sum : total + length (c.content ++ contents cs) ≡ total + length c.content + length (contents cs) =
    omega (arith, length-append c.content (contents cs)) in
    let sum' : total + length (d.content ++ contents ds) ≡ total + length c.content + length (contents ds) =
    omega (arith, length-append d.content (contents ds), len) in
    chunk_behind c d cs ds m n one.0 (chunks_grow cs ds (total + length c.content) x y more m n s t
    (All-tail IsChunk c cs good) (All-tail IsChunk d ds good') one.1 (omega (arith, fits, sum))
    (omega (arith, fits', sum')) (subst (λ k. LastIs k x m s) sum last)
    (subst (λ k. LastIs k y n t) sum' last'))

cuts_grow : (front more read body : List ℕ) (s t : BodyState) → Cut front read s
    → Cut (front ++ more) body t → GoesOn read body
cuts_grow front more read body s t x y =
    let grown = chunks_grow x.after.chunks y.after.chunks 0 x.tail y.tail more x.more y.more s t x.after.good
    y.after.good (ap (λ l. l ++ more) (sym x.after.text) ∙ y.after.text)
    (omega (arith, x.after.fits)) (omega (arith, y.after.fits))
    (subst (λ k. LastIs k x.tail x.more s) (omega arith) x.last)
    (subst (λ k. LastIs k y.tail y.more t) (omega arith) y.last) in
    (grown.0, y.after.content ∙ grown.1 ∙ ap (λ l. l ++ grown.0) (sym x.after.content))

-- the front of a list's front
taken_grows : (n : ℕ) (front more read body : List ℕ) → read ≡ take n front → body ≡ take n (front ++ more)
    → GoesOn read body
taken_grows n front more read body is whole =
    let grown = take_grows n front more in
    (grown.0, whole ∙ grown.1 ∙ ap (λ l. l ++ grown.0) (sym is))

pub body_grows : BodyGrows
body_grows F.Nothing front more read body s t x y = from_none read body x.0
body_grows (F.Sized n) front more read body s t x y = taken_grows n front more read body x.0 y.0
body_grows F.Chunked front more read body s t x y =
    cuts_grow front more read body s t (cut front read s x) (cut (front ++ more) body t y)
body_grows F.UntilClose front more read body s t x y = taken_grows body_limit front more read body x.0 y.0
body_grows F.Faulty front more read body s t x y = absurd x
