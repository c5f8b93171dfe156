-- The bytes of a client are cut into requests in one way.
use Rattle.std.proofs.Common.{◌≡◌, ℕ, List, [], ◌∷◌, ◌++◌, refl, sym, ap, subst, ◌∙◌, arith, append_assoc}
use Rattle.std.specs.Prelude.{All}
use Rattle.std.proofs.lemmas.List.{append-nil, append_cancel_right}
use Rattle.std.proofs.lemmas.List.Elements.{All-head, All-tail}
use Rattle.ts_lists.proofs.Fronts.{same_fronts}
use Rattle.httparse.specs.Grammar as grammar
use Rattle.httparse.specs.Grammar.{ChunkLine, Field, LineEnd, chunk_size, print_chunk_line, print_section}
use Rattle.httparse.specs.Ascii.{crlf_bytes}
use Rattle.httparse.proofs.ChunkLemmas.{chunk_line_unique}
use Rattle.httparse.proofs.GrammarLemmas.{section_unique}
use Rattle.ts_wire.specs.Body.{Chunk, IsChunk, IsEndedChunked, print_chunk, print_chunks}
use Rattle.ts_wire.specs.Heads.{BeginsWithRequest}
use Rattle.ts_wire.specs.RequestEnds.{end_of_request}
use Rattle.ts_wire.specs.declared.ends.RequestEnd.{RequestEnd}
use Rattle.ts_wire.specs.declared.ends.RequestEnd.TheVariants as E
use Rattle.ts_wire.proofs.OneBody.{chunk_one, chunk_text}
use Rattle.ts_wire.proofs.OneRequest.{one_request}
use Rattle.ts_session.specs.Requests.{AreRequests, HasOneList, IsBodyBy, IsRequest, next, none}
use Rattle.ts_session.proofs.FoundHeads.{begins_more}

-- ---- a body in chunks

-- what ends it: its last chunk line and its trailer section
pub record IsChunksEnd (l : ChunkLine) (fields : List Field) (last : LineEnd) : Type 0 where
  pub line : grammar.IsChunkLine l
  pub zero : chunk_size l ≡ 0
  pub fields_are : All grammar.IsField fields

abbrev print_last : ChunkLine → List Field → LineEnd → List ℕ → List ℕ
print_last l fields last rest = print_chunk_line l ++ (print_section fields last ++ rest)

-- a chunk is not the last one
not_last : (c : Chunk) (l : ChunkLine) (fields : List Field) (last : LineEnd) (x y : List ℕ) → IsChunk c
    → IsChunksEnd l fields last → print_chunk c ++ x ≡ print_last l fields last y → ⊥
not_last c l fields last x y good end same =
    let one = chunk_line_unique (print_chunk c ++ x) c.line l (c.content ++ (crlf_bytes ++ x))
    (print_section fields last ++ y) (good.line.line, chunk_text c x) (end.line, same) in
    omega (arith, good.size, good.some, end.zero, ap chunk_size one.0)

-- so what follows the end of one is one
one_end : (cs ds : List Chunk) (l k : ChunkLine) (fs gs : List Field) (a b : LineEnd) (x y : List ℕ)
    → All IsChunk cs → All IsChunk ds → IsChunksEnd l fs a → IsChunksEnd k gs b
    → print_chunks cs ++ print_last l fs a x ≡ print_chunks ds ++ print_last k gs b y → x ≡ y
one_end [] [] l k fs gs a b x y good good' end end' same =
    let lines = chunk_line_unique (print_last l fs a x) l k (print_section fs a ++ x) (print_section gs b ++ y)
    (end.line, refl) (end'.line, same) in
    (section_unique (print_section fs a ++ x) fs gs a b x y (end.fields_are, refl)
    (end'.fields_are, lines.1)).2
one_end [] (d ∷ ds) l k fs gs a b x y good good' end end' same =
    absurd (not_last d l fs a (print_chunks ds ++ print_last k gs b y) x (All-head IsChunk d ds good') end
    (sym (same ∙ append_assoc (print_chunk d) (print_chunks ds) (print_last k gs b y))))
one_end (c ∷ cs) [] l k fs gs a b x y good good' end end' same =
    absurd (not_last c k gs b (print_chunks cs ++ print_last l fs a x) y (All-head IsChunk c cs good) end'
    (sym (append_assoc (print_chunk c) (print_chunks cs) (print_last l fs a x)) ∙ same))
one_end (c ∷ cs) (d ∷ ds) l k fs gs a b x y good good' end end' same =
    let one = chunk_one c d (print_chunks cs ++ print_last l fs a x) (print_chunks ds ++ print_last k gs b y)
    (All-head IsChunk c cs good) (All-head IsChunk d ds good')
    (sym (append_assoc (print_chunk c) (print_chunks cs) (print_last l fs a x)) ∙ same
    ∙ append_assoc (print_chunk d) (print_chunks ds) (print_last k gs b y)) in
    one_end cs ds l k fs gs a b x y (All-tail IsChunk c cs good) (All-tail IsChunk d ds good') end end' one.1

-- the text of one that has ended, and what follows it
ended_text : (bytes body more : List ℕ) (e : IsEndedChunked bytes body) → e.rest ≡ []
    → bytes ++ more
    ≡ print_chunks e.trailer.after.chunks ++ print_last e.trailer.line e.fields e.last more
ended_text bytes body more e over =
    let t = e.trailer in
    ap (λ b. b ++ more) (t.after.text ∙ ap (λ s. print_chunks t.after.chunks ++ (print_chunk_line t.line ++ s))
    (e.reads.1 ∙ ap (λ r. print_section e.fields e.last ++ r) over
    ∙ append-nil (print_section e.fields e.last)))
    ∙ append_assoc (print_chunks t.after.chunks) (print_chunk_line t.line ++ print_section e.fields e.last) more
    ∙ ap (λ s. print_chunks t.after.chunks ++ s)
    (append_assoc (print_chunk_line t.line) (print_section e.fields e.last) more)

pub one_chunked : (f g a b m n : List ℕ) (d : IsEndedChunked f a) (e : IsEndedChunked g b) → d.rest ≡ []
    → e.rest ≡ [] → f ++ m ≡ g ++ n → m ≡ n
one_chunked f g a b m n d e over over' same =
    one_end d.trailer.after.chunks e.trailer.after.chunks d.trailer.line e.trailer.line d.fields e.fields d.last
    e.last m n d.trailer.after.good e.trailer.after.good
    (record { line = d.trailer.good.line; zero = d.trailer.zero; fields_are = d.reads.0 })
    (record { line = e.trailer.good.line; zero = e.trailer.zero; fields_are = e.reads.0 })
    (sym (ended_text f a m d over) ∙ same ∙ ended_text g b n e over')

-- ---- a request

-- two bodies that end so and begin the same bytes are one
one_body : (end : RequestEnd) (f g m n : List ℕ) → IsBodyBy end f → IsBodyBy end g → f ++ m ≡ g ++ n → m ≡ n
one_body (E.Sized size) f g m n long long' same = (same_fronts f g m n (long ∙ sym long') same).1
one_body E.Chunked f g m n (body, ended, over) (body', ended', over') same =
    one_chunked f g body body' m n ended ended' over over' same
one_body E.Unknown f g m n never other same = absurd never

-- two requests that begin the same bytes are one
pub one_whole : (f g m n : List ℕ) → IsRequest f → IsRequest g → f ++ m ≡ g ++ n → (f ≡ g) × (m ≡ n)
one_whole f g m n r s same =
    let heads = one_request (f ++ m) r.head s.head (r.whole.body ++ m) (s.whole.body ++ n)
    (begins_more f m r.head r.whole.body r.whole.begins)
    (subst (λ t. BeginsWithRequest t s.head (s.whole.body ++ n)) (sym same)
    (begins_more g n s.head s.whole.body s.whole.begins)) in
    let behind : m ≡ n =
    one_body (end_of_request r.head) r.whole.body s.whole.body m n r.whole.ends
    (subst (λ h. IsBodyBy (end_of_request h) s.whole.body) (sym heads.0) s.whole.ends) heads.1 in
    (append_cancel_right f g n (ap (λ t. f ++ t) (sym behind) ∙ same), behind)

-- ---- all of them

one_list : (c d : List ℕ) (a b : List (List ℕ)) (x y : List ℕ) → c ≡ d → AreRequests c a x → AreRequests d b y
    → (a ≡ b) × (x ≡ y)
one_list c d a b x y same (none bytes lacks) (none bytes' lacks') = (refl, same)
one_list c d a b x y same (none bytes lacks) (next first more last others whole later) =
    absurd (lacks first more same whole)
one_list c d a b x y same (next first more last others whole later) (none bytes lacks) =
    absurd (lacks first more (sym same) whole)
one_list c d a b x y same (next first more last others whole later)
    (next first' more' last' others' whole' later') =
    let one = one_whole first first' more more' whole whole' same in
    let rest = one_list more more' others others' last last' one.1 later later' in
    (λ i. one.0 i ∷ rest.0 i, rest.1)

pub has_one_list : HasOneList
has_one_list bytes a b x y p q = one_list bytes bytes a b x y refl p q
