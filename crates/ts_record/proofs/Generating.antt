-- How a recording is generated, a step of each loop at a time.
use Rattle.std.proofs.Common.{◌≡◌, ℕ, zero, suc, ◌+◌, ◌-◌, ◌<◌, ◌≤◌, List, [], ◌∷◌, ◌++◌, length}
use Rattle.std.proofs.Common.{take, drop}
use Rattle.std.proofs.Common.{min, inl, refl, sym, ap, subst, ◌∙◌, arith, append_assoc}
use Rattle.std.specs.List.{AllByRecursion}
use Rattle.std.proofs.lemmas.List.{append-nil, length-drop, length-take, take_min, drop_min}
use Rattle.ts_link.specs.Inputs.{stalled_reads}
use Rattle.ts_link.specs.declared.piece.Piece.{Piece}
use Rattle.ts_link.specs.declared.piece.Piece.TheVariants.{Bytes}
use Rattle.ts_wire.specs.Frames.{chunk_text}
use Rattle.ts_record.specs.declared.generator.DrawnFraming.{DrawnFraming}
use Rattle.ts_record.specs.Generator.{after, body_at, chunk_length, chunks_by, cut_from, framing_at}
use Rattle.ts_record.specs.Generator.{framing_by, generated, letter, most_sent}
use Rattle.ts_record.specs.Generator.{length_at, letters, next, pieces, pieces_by, response}
use Rattle.ts_record.specs.Generator.{sent_at_once, txn_after, txn_at}
use Rattle.ts_record.specs.Grammar.{IsItem, IsTxn, KeepsLimits, TxnPieces, contents, stalls_in}
use Rattle.ts_record.specs.declared.recording.TheConstants.{FIRST_VERSION, MOST_TXNS}

-- of so many, one is left more than behind it
one_more : (count n : ℕ) → n < count → count - n ≡ suc (count - (n + 1))
one_more count n below = omega (arith, below)

-- one letter more
pub letter_more : (count n x y : ℕ) (body body' whole : List ℕ) → n < count → y ≡ next x
    → body' ≡ body ++ letter y ∷ [] → body ++ letters (count - n) x ≡ whole
    → body' ++ letters (count - (n + 1)) y ≡ whole
letter_more count n x y body body' whole below state push so_far =
    ap (λ t. t ++ letters (count - (n + 1)) y) push
    ∙ ap (λ s. (body ++ letter s ∷ []) ++ letters (count - (n + 1)) s) state
    ∙ append_assoc body (letter (next x) ∷ []) (letters (count - (n + 1)) (next x))
    ∙ ap (λ k. body ++ letters k x) (sym (one_more count n below)) ∙ so_far

-- and one draw
pub draw_more : (count n x y end : ℕ) → n < count → y ≡ next x → after (count - n) x ≡ end
    → after (count - (n + 1)) y ≡ end
draw_more count n x y end below state so_far =
    ap (λ s. after (count - (n + 1)) s) state ∙ ap (λ k. after k x) (sym (one_more count n below)) ∙ so_far

-- the number that bounds the chunks does not matter, where it is at least that of the bytes
same_chunks : (k m : ℕ) (bytes : List ℕ) → length bytes ≤ k → length bytes ≤ m
    → chunks_by k bytes ≡ chunks_by m bytes
same_chunks zero zero bytes p q = refl
same_chunks zero (suc m) [] p q = refl
same_chunks zero (suc m) (b ∷ bs) p q = absurd (omega (arith, p))
same_chunks (suc k) zero [] p q = refl
same_chunks (suc k) zero (b ∷ bs) p q = absurd (omega (arith, q))
same_chunks (suc k) (suc m) [] p q = refl
same_chunks (suc k) (suc m) (b ∷ bs) p q =
    let left = length-drop chunk_length (b ∷ bs) in
    ap (λ t. chunk_text (take chunk_length (b ∷ bs)) ++ t)
    (same_chunks k m (drop chunk_length (b ∷ bs)) (omega (arith, left, p)) (omega (arith, left, q)))

-- bytes in chunks begin with the first chunk
first_chunk : (rest : List ℕ) → 0 < length rest
    → chunks_by (length rest) rest
    ≡ chunk_text (take chunk_length rest)
    ++ chunks_by (length (drop chunk_length rest)) (drop chunk_length rest)
first_chunk [] some = absurd (omega (arith, some))
first_chunk (b ∷ bs) some =
    let behind : List ℕ = drop chunk_length (b ∷ bs) in
    let left = length-drop chunk_length (b ∷ bs) in
    ap (λ t. chunk_text (take chunk_length (b ∷ bs)) ++ t)
    (same_chunks (length bs) (length behind) behind (omega (arith, left)) (omega arith))

-- one chunk more
pub chunk_more : (out new rest chunk behind whole : List ℕ) → 0 < length rest
    → chunk ≡ take (min chunk_length (length rest)) rest → behind ≡ drop (min chunk_length (length rest)) rest
    → out ++ chunks_by (length rest) rest ≡ whole → new ≡ out ++ chunk_text chunk
    → new ++ chunks_by (length behind) behind ≡ whole
chunk_more out new rest chunk behind whole some chunk_is behind_is so_far grown =
    ap (λ t. t ++ chunks_by (length behind) behind) (grown ∙ ap (λ c. out ++ chunk_text c) front)
    ∙ append_assoc out (chunk_text (take chunk_length rest)) (chunks_by (length behind) behind)
    ∙ ap (λ l. out ++ (chunk_text (take chunk_length rest) ++ chunks_by (length l) l)) back
    ∙ ap (λ t. out ++ t) (sym (first_chunk rest some)) ∙ so_far
  where
    front : chunk ≡ take chunk_length rest
    front = chunk_is ∙ take_min chunk_length rest

    back : behind ≡ drop chunk_length rest
    back = behind_is ∙ drop_min chunk_length rest

-- nor does the number that bounds the pieces
same_pieces : (k m x : ℕ) (bytes : List ℕ) → length bytes ≤ k → length bytes ≤ m
    → pieces_by k x bytes ≡ pieces_by m x bytes
same_pieces zero zero x bytes p q = refl
same_pieces zero (suc m) x [] p q = refl
same_pieces zero (suc m) x (b ∷ bs) p q = absurd (omega (arith, p))
same_pieces (suc k) zero x [] p q = refl
same_pieces (suc k) zero x (b ∷ bs) p q = absurd (omega (arith, q))
same_pieces (suc k) (suc m) x [] p q = refl
same_pieces (suc k) (suc m) x (b ∷ bs) p q =
    let n : ℕ = sent_at_once (next x) in
    let left = length-drop n (b ∷ bs) in
    ap (λ t. Bytes (take n (b ∷ bs)) ∷ t)
    (same_pieces k m (next x) (drop n (b ∷ bs)) (omega (arith, left, p)) (omega (arith, left, q)))

-- bytes in pieces begin with the first piece
first_piece : (x : ℕ) (bytes : List ℕ) → 0 < length bytes
    → pieces x bytes
    ≡ Bytes (take (sent_at_once (next x)) bytes) ∷ pieces (next x) (drop (sent_at_once (next x)) bytes)
first_piece x [] some = absurd (omega (arith, some))
first_piece x (b ∷ bs) some =
    let n : ℕ = sent_at_once (next x) in
    let behind : List ℕ = drop n (b ∷ bs) in
    let left = length-drop n (b ∷ bs) in
    ap (λ t. Bytes (take n (b ∷ bs)) ∷ t)
    (same_pieces (length bs) (length behind) (next x) behind (omega (arith, left)) (omega arith))

-- So many bytes are cut and so many are left, in this state: those with the pieces of what is left are all
-- pieces, and the draws for what is left lead to the state behind all.
pub record IsCutTo (x : ℕ) (bytes : List ℕ) (cut : List Piece) (y : ℕ) (left : List ℕ) : Type 0 where
  pub pieces_are : cut ++ pieces y left ≡ pieces x bytes
  pub state_is : after (length (pieces y left)) y ≡ after (length (pieces x bytes)) x

-- one piece more
pub piece_more : (x y y' : ℕ) (bytes left left' piece : List ℕ) (cut cut' : List Piece) → 0 < length left
    → y' ≡ next y → piece ≡ take (sent_at_once y') left → left' ≡ drop (sent_at_once y') left
    → cut' ≡ cut ++ Bytes piece ∷ [] → IsCutTo x bytes cut y left → IsCutTo x bytes cut' y' left'
piece_more x y y' bytes left left' piece cut cut' some state piece_is left_is push so_far =
    subst (λ s. IsCutTo x bytes cut' s left') (sym state) (record {
      pieces_are =
          ap (λ t. t ++ pieces (next y) left') (push ∙ ap (λ p. cut ++ Bytes p ∷ []) front)
          ∙ ap (λ l. (cut ++ Bytes (take (sent_at_once (next y)) left) ∷ []) ++ pieces (next y) l) back
          ∙ append_assoc cut (Bytes (take (sent_at_once (next y)) left) ∷ [])
          (pieces (next y) (drop (sent_at_once (next y)) left))
          ∙ ap (λ t. cut ++ t) (sym (first_piece y left some)) ∙ so_far.pieces_are;
      state_is =
          ap (λ l. after (length (pieces (next y) l)) (next y)) back
          ∙ ap (λ ps. after (length ps) y) (sym (first_piece y left some)) ∙ so_far.state_is;
    })
  where
    front : piece ≡ take (sent_at_once (next y)) left
    front = piece_is ∙ ap (λ s. take (sent_at_once s) left) state

    back : left' ≡ drop (sent_at_once (next y)) left
    back = left_is ∙ ap (λ s. drop (sent_at_once s) left) state

-- one transaction more
pub txn_more : (size count n x x' : ℕ) (t : TxnPieces) (txns txns' whole : List TxnPieces) → n < count
    → t ≡ txn_at size x → x' ≡ txn_after size x → txns' ≡ txns ++ t ∷ []
    → txns ++ generated (count - n) size x ≡ whole
    → txns' ++ generated (count - (n + 1)) size x' ≡ whole
txn_more size count n x x' t txns txns' whole below is state push so_far =
    ap (λ ts. ts ++ generated (count - (n + 1)) size x') (push ∙ ap (λ u. txns ++ u ∷ []) is)
    ∙ ap (λ s. (txns ++ txn_at size x ∷ []) ++ generated (count - (n + 1)) size s) state
    ∙ append_assoc txns (txn_at size x ∷ []) (generated (count - (n + 1)) size (txn_after size x))
    ∙ ap (λ k. txns ++ generated k size x) (sym (one_more count n below)) ∙ so_far

-- where none is left to be drawn, those so far are all
pub txns_all : (size count n x : ℕ) (txns whole : List TxnPieces) → count ≤ n
    → txns ++ generated (count - n) size x ≡ whole → txns ≡ whole
txns_all size count n x txns whole past so_far =
    let none : count - n ≡ 0 = omega (arith, past) in
    sym (append-nil txns) ∙ ap (λ k. txns ++ generated k size x) (sym none) ∙ so_far

-- The draws of a transaction, in their order: the length of its body, how it is framed, and its letters. They
-- lead to the state in which the response is cut that is made of them.
pub response_made : (size x y z w length : ℕ) (framing : DrawnFraming) (body bytes : List ℕ) → y ≡ next x
    → length ≡ length_at size x → z ≡ next y → framing ≡ framing_by z → body ≡ letters length z
    → w ≡ after length z → bytes ≡ response framing body
    → (w ≡ cut_from size x) × (bytes ≡ response (framing_at x) (body_at size x))
response_made size x y z w length framing body bytes first counted second framing_is body_is third made = (
  third ∙ ap (λ n. after n z) counted ∙ ap (λ s. after (length_at size x) s) twice,
  made
      ∙ ap (λ b. response framing b)
      (body_is ∙ ap (λ n. letters n z) counted ∙ ap (λ s. letters (length_at size x) s) twice)
      ∙ ap (λ f. response f (body_at size x)) (framing_is ∙ ap framing_by twice),
)
  where
    twice : z ≡ next (next x)
    twice = second ∙ ap next first

-- at most 1,460 bytes are sent at once, and at least one
sent_some : (x : ℕ) → (1 ≤ sent_at_once x) × (sent_at_once x ≤ most_sent)
sent_some x = (omega arith, omega arith)

-- each piece has the length of one
small_pieces : (k x : ℕ) (bytes : List ℕ) → AllByRecursion IsItem (pieces_by k x bytes)
small_pieces zero x bytes = tt
small_pieces (suc k) x [] = tt
small_pieces (suc k) x (b ∷ bs) =
    let n : ℕ = sent_at_once (next x) in
    let bounds = sent_some (next x) in
    let long = length-take n (b ∷ bs) in (
      (omega (arith, bounds, long), omega (arith, bounds, long)),
      small_pieces k (next x) (drop n (b ∷ bs)),
    )

-- so many transactions are generated
count_txns : (count size x : ℕ) → length (generated count size x) ≡ count
count_txns zero size x = refl
count_txns (suc n) size x = ap suc (count_txns n size (txn_after size x))

-- none of them is a stall
no_stalls : (k x : ℕ) (bytes : List ℕ) → stalled_reads (pieces_by k x bytes) ≡ 0
no_stalls zero x bytes = refl
no_stalls (suc k) x [] = refl
no_stalls (suc k) x (b ∷ bs) = no_stalls k (next x) (drop (sent_at_once (next x)) (b ∷ bs))

each_txn : (count size x : ℕ) → AllByRecursion (IsTxn FIRST_VERSION) (generated count size x)
each_txn zero size x = tt
each_txn (suc n) size x =
    let bytes : List ℕ = response (framing_at x) (body_at size x) in (
      record {
        client = ((omega arith, omega arith), tt);
        origin = small_pieces (length bytes) (cut_from size x) bytes;
        leave = tt;
      },
      each_txn n size (txn_after size x),
    )

none_stall : (count size x : ℕ) → stalls_in (generated count size x) ≡ 0
none_stall zero size x = refl
none_stall (suc n) size x =
    let bytes : List ℕ = response (framing_at x) (body_at size x) in
    omega (arith, none_stall n size (txn_after size x), no_stalls (length bytes) (cut_from size x) bytes)

-- what is generated is a recording
pub keeps_limits : (count size x : ℕ) → count ≤ MOST_TXNS
    → KeepsLimits (contents FIRST_VERSION (generated count size x))
keeps_limits count size x few = record {
  version = inl refl;
  few = omega (arith, few, count_txns count size x);
  each = each_txn count size x;
  stalls = omega (arith, none_stall count size x);
}
