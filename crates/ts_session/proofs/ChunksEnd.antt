-- The end of a body in chunks is a function of its bytes.
use Rattle.std.proofs.Common.{◌≡◌, ℕ, zero, suc, ◌+◌, ◌<◌, ◌≤◌, Bool, true, false, List, [], ◌∷◌, ◌++◌}
use Rattle.std.proofs.Common.{length}
use Rattle.std.proofs.Common.{take, drop, ⊎_elim, refl, sym, ap, subst, ◌∙◌, arith, append_assoc}
use Rattle.std.proofs.Common.{Some, None, cond, length-append}
use Rattle.std.specs.Prelude.{◌&&◌, ◌==◌, All, bytes_eq, nat_le}
use Rattle.std.proofs.lemmas.Bool.{and_from, and_parts, cases_Bool, cases_eq, cond-false, cond-true}
use Rattle.std.proofs.lemmas.Bool.{eq-eqb, le-leb, leb-true, ne_eqb}
use Rattle.std.proofs.lemmas.List.{append-nil, drop_at, length-drop, length-take, take-append-drop}
use Rattle.std.proofs.lemmas.List.{take-append-le}
use Rattle.std.proofs.lemmas.List.{drop-drop, take_at}
use Rattle.std.proofs.lemmas.List.Elements.{All-cons, All-head, All-nil, All-tail}
use Rattle.std.proofs.lemmas.Slice.Eq.{bytes_eq-Decides}
use Rattle.httparse.specs.Ascii.{crlf_bytes}
use Rattle.httparse.specs.Grammar.{ChunkLine, Field, IsChunkLine, IsField, LineEnd, chunk_size}
use Rattle.httparse.specs.Grammar.{print_chunk_line}
use Rattle.httparse.specs.Grammar.{print_extension, print_section}
use Rattle.ts_wire.specs.Body.{Chunk, IsBadChunked, IsChunk, IsEndedChunked, IsShortLine, contents}
use Rattle.ts_wire.specs.Body.{print_chunk, print_chunks}
use Rattle.ts_wire.specs.Limits.{body_limit, trailer_fields, trailer_limit}
use Rattle.ts_wire.specs.declared.body.BodyState.TheVariants as B
use Rattle.ts_wire.specs.declared.framing.Framing.TheVariants as F
use Rattle.ts_wire.proofs.OneBody.{chunk_text, one_body}
use Rattle.ts_session.specs.ChunksEnd.{FindsChunksEnd, begins_with_line, chunks_end, is_body, is_content}
use Rattle.ts_session.specs.ChunksEnd.{is_whole_body, least}
use Rattle.ts_session.specs.Cuts.{is_section_with}
use Rattle.ts_session.proofs.OneList.{one_chunked}
use Rattle.ts_session.proofs.ChunkCuts.{begun_found, begun_there}
use Rattle.ts_session.proofs.Cuts.{section_found, section_there}

-- ---- a body, line by line

-- the bytes are whole chunks, a last chunk line and a trailer section, where so many bytes of content came
-- before
record IsBodyOf (total : ℕ) (bytes : List ℕ) : Type 0 where
  chunks : List Chunk
  good : All IsChunk chunks
  line : ChunkLine
  short_line : IsShortLine line
  zero_is : chunk_size line ≡ 0
  fields : List Field
  fields_are : All IsField fields
  last : LineEnd
  few : length fields ≤ trailer_fields
  short : length (print_section fields last) ≤ trailer_limit
  is : bytes ≡ print_chunks chunks ++ (print_chunk_line line ++ print_section fields last)
  fits : total + length (contents chunks) ≤ body_limit

-- what is asked of what follows a chunk line of this size
abbrev follows : ℕ → ℕ → ℕ → List ℕ → Bool
follows most total size rest =
    cond (size == 0) (nat_le (length rest) trailer_limit && is_section_with (λ fields. true) trailer_fields rest)
    (nat_le (total + size) body_limit && is_content size (is_body most (total + size)) rest)

last_found : (total : ℕ) (bytes : List ℕ) (line : ChunkLine) (rest : List ℕ) → total ≤ body_limit
    → IsShortLine line → bytes ≡ print_chunk_line line ++ rest → chunk_size line ≡ 0
    → (nat_le (length rest) trailer_limit && is_section_with (λ fields. true) trailer_fields rest) ≡ true → IsBodyOf total bytes
last_found total bytes line rest fits good is zero_is found =
    let parts = and_parts (nat_le (length rest) trailer_limit) (is_section_with (λ fields. true) trailer_fields rest) found in
    let s = section_found (λ fields. true) trailer_fields rest parts.1 in
    record {
      chunks = [];
      good = All-nil IsChunk;
      line = line;
      short_line = good;
      zero_is = zero_is;
      fields = s.fields;
      fields_are = s.good;
      last = s.last;
      few = s.few;
      short = subst (λ t. length t ≤ trailer_limit) s.is (leb-true (length rest) trailer_limit parts.0);
      is = is ∙ ap (λ t. print_chunk_line line ++ t) s.is;
      fits = omega (arith, fits);
    }

-- one chunk more stands before
chunk_found : (total : ℕ) (bytes : List ℕ) (line : ChunkLine) (rest : List ℕ) → IsShortLine line
    → bytes ≡ print_chunk_line line ++ rest → 0 < chunk_size line → chunk_size line + 2 ≤ length rest
    → take 2 (drop (chunk_size line) rest) ≡ crlf_bytes
    → IsBodyOf (total + chunk_size line) (drop (chunk_size line + 2) rest) → IsBodyOf total bytes
chunk_found total bytes line rest good is some long gap r =
    record {
      chunks = c ∷ r.chunks;
      good = All-cons IsChunk c r.chunks here r.good;
      line = r.line;
      short_line = r.short_line;
      zero_is = r.zero_is;
      fields = r.fields;
      fields_are = r.fields_are;
      last = r.last;
      few = r.few;
      short = r.short;
      is = is ∙ ap (λ t. print_chunk_line line ++ t) parts ∙ sym (chunk_text c (print_chunks r.chunks ++ tail))
          ∙ sym (append_assoc (print_chunk c) (print_chunks r.chunks) tail);
      fits = omega (arith, r.fits, content_long, length-append c.content (contents r.chunks));
    }
  where
    c : Chunk
    c = record { line = line; content = take (chunk_size line) rest }

    tail : List ℕ
    tail = print_chunk_line r.line ++ print_section r.fields r.last

    content_long : length (take (chunk_size line) rest) ≡ chunk_size line
    content_long = omega (arith, length-take (chunk_size line) rest, long)

    here : IsChunk (record { line = line; content = take (chunk_size line) rest })
    here = record { line = good; size = sym content_long; some = omega (arith, content_long, some) }

    behind : drop 2 (drop (chunk_size line) rest) ≡ print_chunks r.chunks ++ tail
    behind = drop-drop 2 (chunk_size line) rest ∙ r.is

    parts : rest ≡ take (chunk_size line) rest ++ (crlf_bytes ++ (print_chunks r.chunks ++ tail))
    parts =
        sym (take-append-drop (chunk_size line) rest)
        ∙ ap (λ t. take (chunk_size line) rest ++ t)
        (sym (take-append-drop 2 (drop (chunk_size line) rest)) ∙ (λ i. gap i ++ behind i))

body_found : (most total : ℕ) (bytes : List ℕ) → total ≤ body_limit → is_body most total bytes ≡ true
    → IsBodyOf total bytes
unfolding is_body is_content
body_found zero total bytes fits found = absurd (cc)
body_found (suc most) total bytes fits found =
    let b = begun_found (follows most total) bytes found in
    let size : ℕ = chunk_size b.line in
    let last : Bool = nat_le (length b.rest) trailer_limit && is_section_with (λ fields. true) trailer_fields b.rest in
    let more : Bool = nat_le (total + size) body_limit && is_content size (is_body most (total + size)) b.rest in
    ⊎_elim
    (λ (none : size ≡ 0). last_found total bytes b.line b.rest fits b.good b.is none
    (sym (cond-true (size == 0) last more (eq-eqb size 0 none)) ∙ b.passes))
    (λ (some : size ≡ 0 → ⊥).
    let passes : more ≡ true = sym (cond-false (size == 0) last more (ne_eqb size 0 some)) ∙ b.passes in
    let a = and_parts (nat_le (total + size) body_limit)
    (is_content size (is_body most (total + size)) b.rest) passes in
    let rest : List ℕ = drop (size + 2) b.rest in
    let c = and_parts (nat_le (size + 2) (length b.rest))
    (bytes_eq (take 2 (drop size b.rest)) crlf_bytes && is_body most (total + size) rest) a.1 in
    let d = and_parts (bytes_eq (take 2 (drop size b.rest)) crlf_bytes) (is_body most (total + size) rest) c.1 in
    let positive : 0 < size = omega (arith, some) in
    chunk_found total bytes b.line b.rest b.good b.is positive (leb-true (size + 2) (length b.rest) c.0)
    ((bytes_eq-Decides (take 2 (drop size b.rest)) crlf_bytes).0 d.0)
    (body_found most (total + size) rest (leb-true (total + size) body_limit a.0) d.1))
    (cases_eq size 0)

body_there : (most total : ℕ) (cs : List Chunk) (line : ChunkLine) (fields : List Field) (last : LineEnd)
    → All IsChunk cs → IsShortLine line → chunk_size line ≡ 0 → All IsField fields
    → length fields ≤ trailer_fields → length (print_section fields last) ≤ trailer_limit → length cs < most
    → total + length (contents cs) ≤ body_limit
    → is_body most total (print_chunks cs ++ (print_chunk_line line ++ print_section fields last)) ≡ true
unfolding is_body is_content
body_there zero total cs line fields last good short_line zero_is are few short fewer fits =
    absurd (omega (arith, fewer))
body_there (suc most) total [] line fields last good short_line zero_is are few short fewer fits =
    let rest : List ℕ = print_section fields last in
    let size : ℕ = chunk_size line in
    begun_there (follows most total) line rest short_line
    (cond-true (size == 0) (nat_le (length rest) trailer_limit && is_section_with (λ fields. true) trailer_fields rest)
    (nat_le (total + size) body_limit && is_content size (is_body most (total + size)) rest)
    (eq-eqb size 0 zero_is)
    ∙ and_from (nat_le (length rest) trailer_limit) (is_section_with (λ fields. true) trailer_fields rest)
    (le-leb (length rest) trailer_limit short) (section_there (λ fields. true) trailer_fields fields last are few refl))
body_there (suc most) total (c ∷ cs) line fields last good short_line zero_is are few short fewer fits =
    let here = All-head IsChunk c cs good in
    let size : ℕ = chunk_size c.line in
    let behind : List ℕ = print_chunks cs ++ (print_chunk_line line ++ print_section fields last) in
    let rest : List ℕ = c.content ++ (crlf_bytes ++ behind) in
    let at : drop size rest ≡ crlf_bytes ++ behind =
    drop_at c.content (crlf_bytes ++ behind) size (sym here.size) in
    let on : drop (size + 2) rest ≡ behind = sym (drop-drop 2 size rest) ∙ ap (drop 2) at in
    let some : size ≡ 0 → ⊥ = λ none. omega (arith, here.size, here.some, none) in
    let sum : total + size + length (contents cs) ≤ body_limit =
    omega (arith, fits, here.size, length-append c.content (contents cs)) in
    let later : is_body most (total + size) (drop (size + 2) rest) ≡ true =
    ap (is_body most (total + size)) on
    ∙ body_there most (total + size) cs line fields last (All-tail IsChunk c cs good) short_line zero_is are few
    short (omega (arith, fewer)) sum in
    let long : size + 2 ≤ length rest =
    omega (arith, here.size, length-append c.content (crlf_bytes ++ behind), length-append crlf_bytes behind) in
    let low : total + size ≤ body_limit = omega (arith, sum) in
    let whole : begins_with_line (follows most total) (print_chunk_line c.line ++ rest) ≡ true =
    begun_there (follows most total) c.line rest here.line
    (cond-false (size == 0) (nat_le (length rest) trailer_limit && is_section_with (λ fields. true) trailer_fields rest)
    (nat_le (total + size) body_limit && is_content size (is_body most (total + size)) rest)
    (ne_eqb size 0 some)
    ∙ and_from (nat_le (total + size) body_limit) (is_content size (is_body most (total + size)) rest)
    (le-leb (total + size) body_limit low)
    (and_from (nat_le (size + 2) (length rest))
    (bytes_eq (take 2 (drop size rest)) crlf_bytes && is_body most (total + size) (drop (size + 2) rest))
    (le-leb (size + 2) (length rest) long)
    (and_from (bytes_eq (take 2 (drop size rest)) crlf_bytes) (is_body most (total + size) (drop (size + 2) rest))
    ((bytes_eq-Decides (take 2 (drop size rest)) crlf_bytes).1 (ap (take 2) at)) later))) in
    subst (λ t. begins_with_line (follows most total) t ≡ true)
    (sym (chunk_text c behind)
    ∙ sym (append_assoc (print_chunk c) (print_chunks cs) (print_chunk_line line ++ print_section fields last)))
    whole

-- ---- the whole

-- a body that has ended, with nothing behind it
pub record HasEndedBody (bytes : List ℕ) : Type 0 where
  pub body : List ℕ
  pub ended : IsEndedChunked bytes body
  pub over : ended.rest ≡ []

pub whole_found : (bytes : List ℕ) → is_whole_body bytes ≡ true → HasEndedBody bytes
whole_found bytes found =
    let b = body_found (length bytes) 0 bytes (omega arith) found in
    let text : List ℕ = print_section b.fields b.last in
    record {
      body = contents b.chunks;
      ended = record {
        text = text;
        trailer = record {
          line = b.line;
          good = b.short_line;
          after = record {
            chunks = b.chunks;
            good = b.good;
            text = b.is;
            content = sym (append-nil (contents b.chunks));
            fits = omega (arith, b.fits);
          };
          zero = b.zero_is;
        };
        fields = b.fields;
        last = b.last;
        rest = [];
        reads = (b.fields_are, sym (append-nil text));
        few = b.few;
        short = b.short;
      };
      over = refl;
    }

-- a chunk line has some bytes
pub line_some : (l : ChunkLine) → IsChunkLine l → 0 < length (print_chunk_line l)
unfolding print_chunk_line
line_some l good = omega (arith, length-append (l.digits ++ l.pad ++ print_extension l.extension) crlf_bytes)

chunks_count : (cs : List Chunk) → length cs ≤ length (print_chunks cs)
chunks_count [] = omega arith
chunks_count (c ∷ cs) =
    omega (
      arith,
      chunks_count cs,
      length-append (print_chunk c) (print_chunks cs),
      length-append (print_chunk_line c.line) (c.content ++ crlf_bytes),
      length-append c.content crlf_bytes,
    )

pub whole_there : (bytes body : List ℕ) (e : IsEndedChunked bytes body) → e.rest ≡ [] → is_whole_body bytes ≡ true
whole_there bytes body e over =
    let t = e.trailer in
    let section : List ℕ = print_section e.fields e.last in
    let text : e.text ≡ section = e.reads.1 ∙ ap (λ r. section ++ r) over ∙ append-nil section in
    let is : bytes ≡ print_chunks t.after.chunks ++ (print_chunk_line t.line ++ section) =
    t.after.text ∙ ap (λ s. print_chunks t.after.chunks ++ (print_chunk_line t.line ++ s)) text in
    let few : length t.after.chunks < length bytes =
    omega (
      arith,
      chunks_count t.after.chunks,
      ap length is,
      length-append (print_chunks t.after.chunks) (print_chunk_line t.line ++ section),
      length-append (print_chunk_line t.line) section,
      line_some t.line t.good.line,
    ) in
    ap (is_body (length bytes) 0) is
    ∙ body_there (length bytes) 0 t.after.chunks t.line e.fields e.last t.after.good t.good t.zero e.reads.0 e.few
    e.short few (omega (arith, t.after.fits))

-- ---- the least one

pub least_found : (test : ℕ → Bool) (from count n : ℕ) → least test from count ≡ Some n
    → (n < from + count) × (test n ≡ true)
least_found test from zero n is = absurd (cc)
least_found test from (suc count) n is =
    ⊎_elim
    (λ (passes : test from ≡ true).
    let here : Some from ≡ Some n =
    sym (cond-true (test from) (Some from) (least test (from + 1) count) passes) ∙ is in
    let same : from ≡ n = cc in
    let low : n < from + suc count = omega (arith, same) in
    (low, subst (λ k. test k ≡ true) same passes))
    (λ (fails : test from ≡ false).
    let later = least_found test (from + 1) count n
    (sym (cond-false (test from) (Some from) (least test (from + 1) count) fails) ∙ is) in
    let low : n < from + suc count = omega (arith, later.0) in
    (low, later.1))
    (cases_Bool (test from))

pub least_there : (test : ℕ → Bool) (from count n : ℕ) → from ≤ n → n < from + count → test n ≡ true
    → ((m : ℕ) → m < n → test m ≡ false) → least test from count ≡ Some n
least_there test from zero n low high passes before = absurd (omega (arith, low, high))
least_there test from (suc count) n low high passes before =
    ⊎_elim
    (λ (here : from ≡ n).
    cond-true (test from) (Some from) (least test (from + 1) count) (ap test here ∙ passes) ∙ ap Some here)
    (λ (other : from ≡ n → ⊥).
    let below : from < n = omega (arith, low, other) in
    let on : from + 1 ≤ n = omega (arith, below) in
    let end : n < from + 1 + count = omega (arith, high) in
    cond-false (test from) (Some from) (least test (from + 1) count) (before from below)
    ∙ least_there test (from + 1) count n on end passes before)
    (cases_eq from n)

pub least_none : (test : ℕ → Bool) (from count : ℕ) → ((m : ℕ) → test m ≡ false) → least test from count ≡ None
least_none test from zero never = refl
least_none test from (suc count) never =
    cond-false (test from) (Some from) (least test (from + 1) count) (never from)
    ∙ least_none test (from + 1) count never

pub not_true : (b : Bool) → (b ≡ true → ⊥) → b ≡ false
not_true true never = absurd (never refl)
not_true false never = refl

-- ---- the law

abbrev whole_front : List ℕ → ℕ → Bool
whole_front bytes n = is_whole_body (take n bytes)

ended_at : (bytes : List ℕ) (n : ℕ) → chunks_end bytes ≡ Some n
    → (n ≤ length bytes) × (body : List ℕ) × (e : IsEndedChunked (take n bytes) body) × (e.rest ≡ [])
ended_at bytes n is =
    let found = least_found (whole_front bytes) 0 (length bytes + 1) n is in
    let whole = whole_found (take n bytes) found.1 in
    (omega (arith, found.0), whole.body, whole.ended, whole.over)

whole_at : (bytes more body : List ℕ) (e : IsEndedChunked bytes body) → e.rest ≡ []
    → chunks_end (bytes ++ more) ≡ Some (length bytes)
whole_at bytes more body e over =
    least_there (whole_front (bytes ++ more)) 0 (length (bytes ++ more) + 1) (length bytes) (omega arith)
    (omega (arith, length-append bytes more))
    (ap is_whole_body (take_at bytes more (length bytes) refl) ∙ whole_there bytes body e over)
    (λ m below. not_true (whole_front (bytes ++ more) m) (λ so. early m below
    (whole_found (take m bytes) (sym (ap is_whole_body (take-append-le m bytes more (omega (arith, below)))) ∙ so))))
  where
    early : (m : ℕ) → m < length bytes → HasEndedBody (take m bytes) → ⊥
    early m below w =
        let none : drop m bytes ≡ [] =
        one_chunked (take m bytes) bytes w.body body (drop m bytes) [] w.ended e w.over over
        (take-append-drop m bytes ∙ sym (append-nil bytes)) in
        omega (arith, below, ap length none, length-drop m bytes)

-- a body that has ended stays so, whatever follows
pub ended_on : (bytes more body : List ℕ) → IsEndedChunked bytes body → IsEndedChunked (bytes ++ more) body
ended_on bytes more body e =
    let t = e.trailer in
    record {
      text = e.text ++ more;
      trailer = record {
        line = t.line;
        good = t.good;
        after = record {
          chunks = t.after.chunks;
          good = t.after.good;
          text = ap (λ b. b ++ more) t.after.text
              ∙ append_assoc (print_chunks t.after.chunks) (print_chunk_line t.line ++ e.text) more
              ∙ ap (λ b. print_chunks t.after.chunks ++ b) (append_assoc (print_chunk_line t.line) e.text more);
          content = t.after.content;
          fits = t.after.fits;
        };
        zero = t.zero;
      };
      fields = e.fields;
      last = e.last;
      rest = e.rest ++ more;
      reads = (
        e.reads.0,
        ap (λ t. t ++ more) e.reads.1 ∙ append_assoc (print_section e.fields e.last) e.rest more,
      );
      few = e.few;
      short = e.short;
    }

never_at : (bytes body : List ℕ) → IsBadChunked bytes body → chunks_end bytes ≡ None
never_at bytes body bad =
    least_none (whole_front bytes) 0 (length bytes + 1)
    (λ m. not_true (whole_front bytes m) (λ so. ended m (whole_found (take m bytes) so)))
  where
    ended : (m : ℕ) → HasEndedBody (take m bytes) → ⊥
    ended m w =
        let on : IsEndedChunked bytes w.body =
        subst (λ t. IsEndedChunked t w.body) (take-append-drop m bytes)
        (ended_on (take m bytes) (drop m bytes) w.body w.ended) in
        let wrong : B.Ended ≡ B.Bad = (one_body F.Chunked bytes w.body body B.Ended B.Bad on bad).1 in
        absurd (cc)

pub finds_chunks_end : FindsChunksEnd
finds_chunks_end = record { ended = ended_at; whole = whole_at; never = never_at }
