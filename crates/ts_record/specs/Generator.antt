-- The recording that a seed, a number of transactions and a greatest size of their bodies stand for. What is
-- drawn comes from a linear congruential generator of 64 bits (multiplier and increment are those of Knuth's
-- MMIX), of which a draw is the upper 31 bits.
use Rattle.std.specs.Prelude.{ℕ, zero, suc, ◌+◌, ◌*◌, ◌/◌, ◌%◌, ◌^◌, List, [], ◌∷◌, ◌++◌}
use Rattle.std.specs.Prelude.{length, take, drop, codes, None}
use Rattle.std.specs.Fmt.{decimal}
use Rattle.ts_wire.specs.Frames.{chunk_text, last_chunk}
use Rattle.ts_link.specs.declared.piece.Piece.{Piece}
use Rattle.ts_link.specs.declared.piece.Piece.TheVariants.{Bytes}
use Rattle.ts_record.specs.declared.generator.DrawnFraming.{DrawnFraming}
use Rattle.ts_record.specs.declared.generator.DrawnFraming.TheVariants as D
use Rattle.ts_record.specs.Grammar.{TxnPieces}

abbrev pub multiplier : ℕ
multiplier = 6364136223846793005

abbrev pub increment : ℕ
increment = 1442695040888963407

-- how many letters there are, from `a` on
abbrev pub letter_count : ℕ
letter_count = 26

-- in how many ways a body is framed
abbrev pub framing_count : ℕ
framing_count = 3

-- how many bytes a chunk has, but for the last one
abbrev pub chunk_length : ℕ
chunk_length = 1000

-- the most bytes that are sent at once
abbrev pub most_sent : ℕ
most_sent = 1460

-- the state that a draw leads to
abbrev pub next : ℕ → ℕ
next x = (x * multiplier + increment) % 2 ^ 64

-- what the draw gives that leads to a state
abbrev pub drawn : ℕ → ℕ
drawn x = x / 2 ^ 33

-- the state after so many draws
abbrev pub after : ℕ → ℕ → ℕ
after zero x = x
after (suc n) x = after n (next x)

-- the letter of the draw that leads to a state: `a` to `z`
abbrev pub letter : ℕ → ℕ
letter x = 97 + drawn x % letter_count

-- so many letters, one a draw
abbrev pub letters : ℕ → ℕ → List ℕ
letters zero x = []
letters (suc n) x = letter (next x) ∷ letters n (next x)

-- the framings by their numbers
abbrev pub framing_of : ℕ → DrawnFraming
framing_of zero = D.Length
framing_of (suc zero) = D.Chunks
framing_of (suc (suc n)) = D.Close

-- how a body is framed, by the draw that leads to a state
abbrev pub framing_by : ℕ → DrawnFraming
framing_by x = framing_of (drawn x % framing_count)

-- how many bytes are sent at once, by the draw that leads to a state
abbrev pub sent_at_once : ℕ → ℕ
sent_at_once x = 1 + drawn x % most_sent

-- bytes in pieces, one a draw, the last one as long as what is left; at most so many
abbrev pub pieces_by : ℕ → ℕ → List ℕ → List Piece
pieces_by zero x bytes = []
pieces_by (suc k) x [] = []
pieces_by (suc k) x (b ∷ bs) =
    Bytes (take (sent_at_once (next x)) (b ∷ bs))
    ∷ pieces_by k (next x) (drop (sent_at_once (next x)) (b ∷ bs))

-- bytes in pieces, until none is left
abbrev pub pieces : ℕ → List ℕ → List Piece
pieces x bytes = pieces_by (length bytes) x bytes

-- bytes in chunks, the rest in a last one, at most so many, and the end of the body
abbrev pub chunks_by : ℕ → List ℕ → List ℕ
chunks_by zero bytes = last_chunk
chunks_by (suc k) [] = last_chunk
chunks_by (suc k) (b ∷ bs) =
    chunk_text (take chunk_length (b ∷ bs)) ++ chunks_by k (drop chunk_length (b ∷ bs))

-- what stands behind the first line of a response, by how its body is framed: of a known length, in chunks,
-- or up to the close of the connection (RFC 9112, section 6.3)
abbrev pub framed : DrawnFraming → List ℕ → List ℕ
framed D.Length body = codes "Content-Length: " ++ decimal (length body) ++ codes "\r\n\r\n" ++ body
framed D.Chunks body = codes "Transfer-Encoding: chunked\r\n\r\n" ++ chunks_by (length body) body
framed D.Close body = codes "\r\n" ++ body

-- a response
abbrev pub response : DrawnFraming → List ℕ → List ℕ
response framing body = codes "HTTP/1.1 200 OK\r\n" ++ framed framing body

-- the request of each client
abbrev pub request : List ℕ
request = codes "GET / HTTP/1.1\r\nHost: a\r\n\r\n"

-- of the transaction that begins in a state: the length of its body
abbrev pub length_at : ℕ → ℕ → ℕ
length_at size x = drawn (next x) % (size + 1)

-- how it is framed
abbrev pub framing_at : ℕ → DrawnFraming
framing_at x = framing_by (next (next x))

-- its body
abbrev pub body_at : ℕ → ℕ → List ℕ
body_at size x = letters (length_at size x) (next (next x))

-- the state in which its response is cut
abbrev pub cut_from : ℕ → ℕ → ℕ
cut_from size x = after (length_at size x) (next (next x))

-- the pieces of its response
abbrev pub origin_at : ℕ → ℕ → List Piece
origin_at size x = pieces (cut_from size x) (response (framing_at x) (body_at size x))

-- the transaction: no side stalls, and no client leaves
abbrev pub txn_at : ℕ → ℕ → TxnPieces
txn_at size x = record { client = Bytes request ∷ []; origin = origin_at size x; leave = None }

-- the state in which the next one begins
abbrev pub txn_after : ℕ → ℕ → ℕ
txn_after size x = after (length (origin_at size x)) (cut_from size x)

-- THE GENERATOR: so many transactions with bodies of at most `size` bytes, from a state on
abbrev pub generated : ℕ → ℕ → ℕ → List TxnPieces
generated zero size x = []
generated (suc n) size x = txn_at size x ∷ generated n size (txn_after size x)
