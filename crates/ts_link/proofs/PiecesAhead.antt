-- What holds of the pieces that are ahead of a link in memory: which bytes and stalls they have, and how a
-- read moves on among them.
use Rattle.std.proofs.Common.{get_or, leb-false, ◌≡◌, ℕ, zero, suc, ◌+◌, ◌-◌, ◌≤◌, ◌<◌, ◌++◌, min, List, [], ◌∷◌, length, take, drop, refl, sym, ap, subst, ◌∙◌, cond, false, append_assoc, arith}
use Rattle.std.proofs.Math.Seq.{take-append_seam, drop-cons, take-nil, drop-nil}
use Rattle.std.proofs.lemmas.List.{drop_all, drop-take, drop-drop, drop_min, take-take, length-take, take-append-drop, take-append-le, take_min, length-drop, length-append, append-nil}
use Rattle.ts_link.specs.Inputs.{bytes_of, given_of, stalls_from, stalled_reads, from_next, cut_up, next_answer, next_ahead}
use Rattle.ts_link.specs.InputView.{HasAhead, IsFront, IsSoundInput, begun, front_cut, is_passed, seen_cut, seen_pieces}
use Rattle.ts_link.specs.LinkAnswers.{count_got, got_again, EndsWell, FillsSome}
use Rattle.ts_link.specs.declared.piece.Piece.{Piece}
use Rattle.ts_link.specs.declared.piece.Piece.TheVariants.{Bytes, Stall}
use Rattle.ts_link.proofs.StallsAhead.{Parts, ahead_at, cut_stalls, pass_empty, pieces_pass}

pub bytes-from_next : (ps : List Piece) → bytes_of (from_next ps) ≡ bytes_of ps
bytes-from_next [] = refl
bytes-from_next (Bytes [] ∷ ps) = bytes-from_next ps
bytes-from_next (Bytes (b ∷ bs) ∷ ps) = refl
bytes-from_next (Stall zero ∷ ps) = bytes-from_next ps
bytes-from_next (Stall (suc k) ∷ ps) = refl

pub stalls-from_next : (ps : List Piece) → stalled_reads (from_next ps) ≡ stalled_reads ps
stalls-from_next [] = refl
stalls-from_next (Bytes [] ∷ ps) = stalls-from_next ps
stalls-from_next (Bytes (b ∷ bs) ∷ ps) = refl
stalls-from_next (Stall zero ∷ ps) = omega (arith, stalls-from_next ps)
stalls-from_next (Stall (suc k) ∷ ps) = refl

pub front-from_next : (ps : List Piece) → IsFront (from_next ps)
front-from_next [] = tt
front-from_next (Bytes [] ∷ ps) = front-from_next ps
front-from_next (Bytes (b ∷ bs) ∷ ps) = tt
front-from_next (Stall zero ∷ ps) = front-from_next ps
front-from_next (Stall (suc k) ∷ ps) = tt

-- a read that goes well takes the bytes that it answers from the front of what is ahead
pub next_moves : (room : ℕ) (ps : List Piece)
    → bytes_of ps ≡ take (count_got (next_answer room ps)) (bytes_of ps) ++ bytes_of (next_ahead room ps)
next_moves room [] = refl
next_moves room (Bytes bs ∷ ps) =
    let n : ℕ = min room (length bs) in
    let within : n ≤ length bs = omega arith in
    let front : take n (bs ++ bytes_of ps) ≡ take room bs = take-append-le n bs (bytes_of ps) within ∙
    take_min room bs in
    let rest : bytes_of (from_next (Bytes (drop room bs) ∷ ps)) ≡ drop room bs ++ bytes_of ps =
    bytes-from_next (Bytes (drop room bs) ∷ ps) in
    let joined : take room bs ++ (drop room bs ++ bytes_of ps) ≡ bs ++ bytes_of ps =
    sym (append_assoc (take room bs) (drop room bs) (bytes_of ps)) ∙ ap (λ xs. xs ++ bytes_of ps)
    (take-append-drop room bs) in
    rw (front, rest) (sym joined)
next_moves room (Stall k ∷ ps) = sym (bytes-from_next (Stall (k - 1) ∷ ps))

-- it ends only where nothing is left
pub next_ends : (room : ℕ) (ps : List Piece) → EndsWell (next_answer room ps) (bytes_of (next_ahead room ps))
next_ends room [] = refl
next_ends room (Bytes bs ∷ ps) = tt
next_ends room (Stall k ∷ ps) = tt

-- it fills some of the room
pub next_fills : (room : ℕ) (ps : List Piece) → 0 < room → IsFront ps → FillsSome (next_answer room ps) room
next_fills room [] h f = tt
next_fills room (Bytes [] ∷ ps) h f = absurd f
next_fills room (Bytes (b ∷ bs) ∷ ps) h f = (omega arith, omega arith)
next_fills room (Stall k ∷ ps) h f = tt

-- a stall that it meets is shorter by a read
pub next_stalls : (room : ℕ) (ps : List Piece) → IsFront ps
    → stalled_reads (next_ahead room ps) + cond (got_again (next_answer room ps)) 1 0 ≤ stalled_reads ps
next_stalls room [] f = omega arith
next_stalls room (Bytes bs ∷ ps) f =
    let same : stalled_reads (from_next (Bytes (drop room bs) ∷ ps)) ≡ stalled_reads ps = stalls-from_next
    (Bytes (drop room bs) ∷ ps) in
    omega arith
next_stalls room (Stall zero ∷ ps) f = absurd f
next_stalls room (Stall (suc k) ∷ ps) f =
    let same : stalled_reads (from_next (Stall (suc k - 1) ∷ ps)) ≡ suc k - 1 + stalled_reads ps =
    stalls-from_next (Stall (suc k - 1) ∷ ps) in
    omega arith

-- what a list ends with, and all of it before that
pub whole_by : (source before left : List ℕ) → source ≡ before ++ left
    → take (length source - length left) source ≡ before
whole_by source before left e =
    let n : length source ≡ length before + length left = ap length e ∙ length-append before left in
    let same : length source - length left ≡ length before = omega arith in
    rw (same, e) (take-append_seam before left)

pub bytes-cut_up : (cuts bytes : List ℕ) → bytes_of (cut_up cuts bytes) ≡ bytes
bytes-cut_up [] bytes = append-nil bytes
bytes-cut_up (c ∷ cs) bytes = rw (bytes-cut_up cs (drop c bytes)) (take-append-drop c bytes)

-- a list that is given in pieces is sound
pub sound_cut : (n : ℕ) (cuts : List ℕ) (at : ℕ) (bytes : List ℕ)
    → IsSoundInput (seen_cut n cuts (drop at bytes) bytes)
sound_cut n cuts at bytes =
    let pieces : List Piece = cut_up (n ∷ cuts) (drop at bytes) in
    let left : bytes_of (from_next pieces) ≡ drop at bytes = bytes-from_next pieces ∙ bytes-cut_up (n ∷ cuts)
    (drop at bytes) in
    let e : bytes ≡ take at bytes ++ bytes_of (from_next pieces) = rw left (sym (take-append-drop at bytes))
    in
    record {
      whole = rw (whole_by bytes (take at bytes) (bytes_of (from_next pieces)) e) (sym e);
      front = front-from_next pieces;
      stalls = cut_stalls (length (given_of (seen_cut n cuts (drop at bytes) bytes))) (n ∷ cuts)
          (drop at bytes);
    }

-- pieces that are given one after the other are sound
pub sound_pieces : (n next : ℕ) (ps : List Piece) → IsSoundInput (seen_pieces n next ps)
sound_pieces n next ps =
    let stalls : List (ℕ × ℕ) = stalls_from 0 ps in
    let rest : List Piece = begun n (drop next ps) in
    let parts : Parts stalls 0 ps rest = pieces_pass n next ps in
    let before : List ℕ = parts.before in
    let e : bytes_of ps ≡ before ++ bytes_of (from_next rest) = rw (bytes-from_next rest) parts.bytes in
    let given : given_of (seen_pieces n next ps) ≡ before =
    whole_by (bytes_of ps) before (bytes_of (from_next rest)) e in
    let place : 0 + length before ≡ length (given_of (seen_pieces n next ps)) =
    omega (arith, ap length given) in
    record {
      whole = rw given (sym e);
      front = front-from_next rest;
      stalls = subst (λ at. HasAhead stalls at (from_next rest)) place
          (ahead_at stalls (0 + length before) (from_next rest)
          (pass_empty stalls rest (0 + length before) parts.passes));
    }

-- the bytes of a piece that was begun are its next ones
pub front_cut-some : (n : ℕ) (bytes : List ℕ) → (n ≡ 0 → ⊥) → front_cut n bytes ≡ take n bytes
front_cut-some zero bytes h = absurd (h refl)
front_cut-some (suc n) bytes h = refl

front_bytes : (bs : List ℕ) (ps : List Piece) → 0 < length bs → IsFront (Bytes bs ∷ ps)
front_bytes [] ps h = omega arith
front_bytes (b ∷ bs) ps h = tt

front_stall : (k : ℕ) (ps : List Piece) → 0 < k → IsFront (Stall k ∷ ps)
front_stall zero ps h = omega arith
front_stall (suc k) ps h = tt

-- a piece that was not passed is in front
pub front_begun : (n : ℕ) (p : Piece) (ps : List Piece) → is_passed p n ≡ false → IsFront (begun n (p ∷ ps))
front_begun n (Bytes bs) ps h = front_bytes (drop n bs) ps
    (let less : n < length bs = leb-false (length bs) n h in omega (arith, length-drop n bs))
front_begun n (Stall k) ps h = let less : n < k = leb-false k n h in front_stall (k - n) ps (omega arith)

pub front_at : (ps : List Piece) (i n : ℕ) (p : Piece) → i < length ps → p ≡ get_or ps i p
    → is_passed p n ≡ false → IsFront (begun n (drop i ps))
front_at ps i n p h e passed =
    rw (drop-cons ps i p, ← e) (front_begun n p (drop (suc i) ps) passed)

-- no byte is left where none is in the piece that was begun
pub cut_up-nil : (cuts : List ℕ) → from_next (cut_up cuts []) ≡ []
cut_up-nil [] = refl
cut_up-nil (c ∷ cs) = rw (take-nil c, drop-nil c) (cut_up-nil cs)

pub front_cut-nil : (n : ℕ) (rest : List ℕ) → front_cut n rest ≡ [] → rest ≡ []
front_cut-nil zero rest e = e
front_cut-nil (suc n) [] e = refl
front_cut-nil (suc n) (b ∷ bs) e = cc

pub cut_end : (n : ℕ) (cuts rest : List ℕ) → front_cut n rest ≡ [] → from_next (cut_up (n ∷ cuts) rest) ≡ []
cut_end n cuts rest e = rw (front_cut-nil n rest e) (cut_up-nil (n ∷ cuts))

-- the bytes of the piece that was begun are in front of the rest
pub front_cut-within : (n : ℕ) (rest : List ℕ) → length (front_cut n rest) ≤ length rest
front_cut-within zero rest = omega arith
front_cut-within (suc n) rest = omega (arith, length-take (suc n) rest)

pub take-front_cut : (k n : ℕ) (rest : List ℕ) → k ≤ length (front_cut n rest)
    → take k (front_cut n rest) ≡ take k rest
take-front_cut k zero rest h = refl
take-front_cut k (suc n) rest h = take-take k (suc n) rest (omega (arith, length-take (suc n) rest))

-- a read takes its bytes from a first piece that is not empty
pub next_first : (room : ℕ) (bs : List ℕ) (ps : List Piece) → 0 < length bs
    → next_ahead room (from_next (Bytes bs ∷ ps)) ≡ from_next (Bytes (drop room bs) ∷ ps)
next_first room [] ps h = let none : ⊥ = omega arith in absurd none
next_first room (b ∷ bs) ps h = refl

pub cut_moves : (n : ℕ) (cuts rest : List ℕ) (room k : ℕ) → (n ≡ 0 → cuts ≡ [])
    → 0 < length (front_cut n rest) → k ≡ min room (length (front_cut n rest))
    → from_next (cut_up ((n - k) ∷ cuts) (drop k rest)) ≡ next_ahead room (from_next (cut_up (n ∷ cuts) rest))
cut_moves zero cuts rest room k none h e =
    let left : 0 - k ≡ 0 = omega arith in
    let same : drop k rest ≡ drop room rest = ap (λ i. drop i rest) e ∙ drop_min room rest in
    rw (none refl, left, same, next_first room rest [] h) refl
cut_moves (suc n) cuts rest room k none h e =
    let front : List ℕ = take (suc n) rest in
    let within : k ≤ suc n = omega (arith, length-take (suc n) rest) in
    let joined : k + (suc n - k) ≡ suc n = omega arith in
    let piece : take (suc n - k) (drop k rest) ≡ drop room front =
    sym (drop-take k (suc n - k) rest) ∙ ap (λ i. drop k (take i rest)) joined ∙ ap (λ i. drop i front) e ∙
    drop_min room front in
    let behind : drop (suc n - k) (drop k rest) ≡ drop (suc n) rest = drop-drop (suc n - k) k rest ∙ ap
    (λ i. drop i rest) joined in
    rw (piece, behind, next_first room front (cut_up cuts (drop (suc n) rest)) h) refl

-- pieces of which none is left give nothing
pub begun_end : (n i : ℕ) (ps : List Piece) → length ps ≤ i → from_next (begun n (drop i ps)) ≡ []
begun_end n i ps h = rw (drop_all i ps h) refl

-- the bytes of the piece in front are in front of all that is ahead
pub bytes_at : (ps : List Piece) (i n : ℕ) (p : Piece) (bs : List ℕ) (k : ℕ) → i < length ps
    → p ≡ get_or ps i p → p ≡ Bytes bs → k ≤ length (drop n bs)
    → take k (bytes_of (from_next (begun n (drop i ps)))) ≡ take k (drop n bs)
bytes_at ps i n p bs k h e is within =
    let at : drop i ps ≡ Bytes bs ∷ drop (suc i) ps = drop-cons ps i p h ∙ ap (λ q. q ∷ drop (suc i) ps)
    (sym e ∙ is) in
    rw (bytes-from_next (begun n (drop i ps)), at)
    (take-append-le k (drop n bs) (bytes_of (drop (suc i) ps)) within)

some_left : (k : ℕ) (ps : List Piece) → IsFront (Stall k ∷ ps) → 0 < k
some_left zero ps f = absurd f
some_left (suc k) ps f = omega arith

-- of a stall in front some reads are left
pub stall_at : (ps : List Piece) (i n : ℕ) (p : Piece) (k : ℕ) → i < length ps → p ≡ get_or ps i p
    → p ≡ Stall k → IsFront (begun n (drop i ps)) → n < k
stall_at ps i n p k h e is f =
    let at : drop i ps ≡ Stall k ∷ drop (suc i) ps = drop-cons ps i p h ∙ ap (λ q. q ∷ drop (suc i) ps)
    (sym e ∙ is) in
    let some : 0 < k - n = some_left (k - n) (drop (suc i) ps) (subst (λ qs. IsFront (begun n qs)) at f) in
    omega arith

-- of pieces that were not begun all is left
pub bytes-begun_none : (ps : List Piece) → bytes_of (begun 0 ps) ≡ bytes_of ps
bytes-begun_none [] = refl
bytes-begun_none (Bytes bs ∷ ps) = refl
bytes-begun_none (Stall k ∷ ps) = refl
