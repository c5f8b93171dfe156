-- What holds of the stalls that are ahead of a link in memory: which they are, and that a read waits exactly
-- where one of them stands.
use Rattle.std.proofs.Common.{◌≡◌, ℕ, zero, suc, ◌+◌, ◌-◌, ◌≤◌, ◌<◌, ◌++◌, List, [], ◌∷◌, length, take, drop, refl, sym, ap, subst, ◌∙◌, true, Bool, append_assoc, arith}
use Rattle.std.specs.Prelude.{◌==◌, ◌||◌, nat_lt, if◌then◌else◌}
use Rattle.std.proofs.Math.Bool.{or-true}
use Rattle.std.proofs.lemmas.List.{take-append-drop, length-append}
use Rattle.ts_link.specs.Inputs.{bytes_of, stalls_from, stalled_reads, from_next, cut_up, next_answer}
use Rattle.ts_link.specs.InputView.{HasAhead, IsFront, begun}
use Rattle.ts_link.specs.LinkAnswers.{got_again}
use Rattle.ts_link.specs.Stalls.{StallsAt, reads_beyond, stands_at}
use Rattle.ts_link.specs.declared.piece.Piece.{Piece}
use Rattle.ts_link.specs.declared.piece.Piece.TheVariants.{Bytes, Stall}

-- of all these stalls those at a place from this one on are the ones of these pieces
pub record Passes (stalls : List (ℕ × ℕ)) (from : ℕ) (ps : List Piece) : Type 0 where
  here : (at : ℕ) → stands_at at (stalls_from from ps) ≡ true → stands_at at stalls ≡ true
  beyond : (at : ℕ) → from ≤ at → reads_beyond at stalls ≡ reads_beyond at (stalls_from from ps)

-- pieces of which some were passed, with these bytes, and the rest of them
pub record Parts (stalls : List (ℕ × ℕ)) (from : ℕ) (ps rest : List Piece) : Type 0 where
  pub before : List ℕ
  pub bytes : bytes_of ps ≡ before ++ bytes_of rest
  pub passes : Passes stalls (from + length before) rest

-- a stall that is not beyond a place adds no reads beyond it
not_beyond : (at place k r : ℕ) → place ≤ at → (if nat_lt at place then k else 0) + r ≡ r
not_beyond at place k r h = grind arith

-- the reads beyond a place are among those of the pieces
beyond_most : (at place : ℕ) (ps : List Piece) → reads_beyond at (stalls_from place ps) ≤ stalled_reads ps
beyond_most at place [] = omega arith
beyond_most at place (Bytes bs ∷ ps) = beyond_most at (place + length bs) ps
beyond_most at place (Stall k ∷ ps) =
    let rest : reads_beyond at (stalls_from place ps) ≤ stalled_reads ps = beyond_most at place ps in
    grind (arith, rest)

-- and are all of them, where the pieces stand beyond it
beyond_all : (at place : ℕ) (ps : List Piece) → at < place
    → reads_beyond at (stalls_from place ps) ≡ stalled_reads ps
beyond_all at place [] h = refl
beyond_all at place (Bytes bs ∷ ps) h = beyond_all at (place + length bs) ps (omega (arith, h))
beyond_all at place (Stall k ∷ ps) h =
    let rest : reads_beyond at (stalls_from place ps) ≡ stalled_reads ps = beyond_all at place ps h in
    grind (arith, rest)

module _ (stalls : List (ℕ × ℕ)) where
  -- nothing was passed
  none_passed : (from : ℕ) (ps qs : List Piece) → bytes_of ps ≡ bytes_of qs → Passes stalls from qs
      → Parts stalls from ps qs
  none_passed from ps qs same h =
      let e : from ≡ from + length {A = ℕ} [] = omega arith in
      record { before = []; bytes = same; passes = subst (λ n. Passes stalls n qs) e h }

  pass_bytes : (from : ℕ) (bs : List ℕ) (ps : List Piece) → Passes stalls from (Bytes bs ∷ ps)
      → Passes stalls (from + length bs) ps
  pass_bytes from bs ps h = record {
    here = h.here;
    beyond = λ at le. h.beyond at (omega (arith, le));
  }

  pass_stall : (from k : ℕ) (ps : List Piece) → Passes stalls from (Stall k ∷ ps) → Passes stalls from ps
  pass_stall from k ps h = record {
    here = λ at e. h.here at (ap (λ b. (from == at) || b) e ∙ or-true (from == at));
    beyond = λ at le. h.beyond at le ∙ not_beyond at from k (reads_beyond at (stalls_from from ps)) le;
  }

  -- the pieces from an index on
  pass_pieces : (i : ℕ) (ps : List Piece) (from : ℕ) → Passes stalls from ps
      → Parts stalls from ps (drop i ps)
  pass_pieces zero ps from h = none_passed from ps ps refl h
  pass_pieces (suc i) [] from h = none_passed from [] [] refl h
  pass_pieces (suc i) (Bytes bs ∷ ps) from h =
      let r : Parts stalls (from + length bs) ps (drop i ps) =
      pass_pieces i ps (from + length bs) (pass_bytes from bs ps h) in
      let n : from + length bs + length r.before ≡ from + length (bs ++ r.before) =
      omega (arith, length-append bs r.before) in
      record {
        before = bs ++ r.before;
        bytes = ap (λ xs. bs ++ xs) r.bytes ∙ sym (append_assoc bs r.before (bytes_of (drop i ps)));
        passes = subst (λ m. Passes stalls m (drop i ps)) n r.passes;
      }
  pass_pieces (suc i) (Stall k ∷ ps) from h =
      let r : Parts stalls from ps (drop i ps) = pass_pieces i ps from (pass_stall from k ps h) in
      record { before = r.before; bytes = r.bytes; passes = r.passes }

  -- the rest of the first of them
  pass_begun : (n : ℕ) (ps : List Piece) (from : ℕ) → Passes stalls from ps
      → Parts stalls from ps (begun n ps)
  pass_begun n [] from h = none_passed from [] [] refl h
  pass_begun n (Bytes bs ∷ ps) from h =
      let all : take n bs ++ drop n bs ≡ bs = take-append-drop n bs in
      let long : from + length bs ≡ from + length (take n bs) + length (drop n bs) =
      omega (arith, ap length all, length-append (take n bs) (drop n bs)) in
      record {
        before = take n bs;
        bytes = ap (λ xs. xs ++ bytes_of ps) (sym all) ∙ append_assoc (take n bs) (drop n bs) (bytes_of ps);
        passes = record {
          here = λ at e. h.here at (subst (λ m. stands_at at (stalls_from m ps) ≡ true) (sym long) e);
          beyond = λ at le. h.beyond at (omega (arith, le)) ∙ ap (λ m. reads_beyond at (stalls_from m ps)) long;
        };
      }
  pass_begun n (Stall k ∷ ps) from h = none_passed from (Stall k ∷ ps) (Stall (k - n) ∷ ps) refl (record {
    here = h.here;
    beyond = λ at le. h.beyond at le ∙ not_beyond at from k (reads_beyond at (stalls_from from ps)) le ∙ sym
        (not_beyond at from (k - n) (reads_beyond at (stalls_from from ps)) le);
  })

  -- those from the first on that is not empty
  pub pass_empty : (ps : List Piece) (from : ℕ) → Passes stalls from ps → Passes stalls from (from_next ps)
  pass_empty [] from h = h
  pass_empty (Bytes [] ∷ ps) from h =
      let same : from + length {A = ℕ} [] ≡ from = omega arith in
      pass_empty ps from (subst (λ m. Passes stalls m ps) same (pass_bytes from [] ps h))
  pass_empty (Bytes (b ∷ bs) ∷ ps) from h = h
  pass_empty (Stall zero ∷ ps) from h = pass_empty ps from (pass_stall from 0 ps h)
  pass_empty (Stall (suc k) ∷ ps) from h = h

  -- at the place behind what was passed the stalls ahead are those that are left
  pub ahead_at : (place : ℕ) (ps : List Piece) → Passes stalls place ps → HasAhead stalls place ps
  ahead_at place ps h = record { here = h.here place; beyond = h.beyond place (omega arith) }

-- of some pieces, those from an index on, without n bytes or reads of the first one
pub pieces_pass : (n next : ℕ) (ps : List Piece)
    → Parts (stalls_from 0 ps) 0 ps (begun n (drop next ps))
pieces_pass n next ps =
    let all : List (ℕ × ℕ) = stalls_from 0 ps in
    let whole : Passes all 0 ps = record { here = λ at e. e; beyond = λ at le. refl } in
    let dropped : Parts all 0 ps (drop next ps) = pass_pieces all next ps 0 whole in
    let passed : Parts all (0 + length dropped.before) (drop next ps) (begun n (drop next ps)) =
    pass_begun all n (drop next ps) (0 + length dropped.before) dropped.passes in
    let long : 0 + length dropped.before + length passed.before ≡ 0 + length
    (dropped.before ++ passed.before) = omega (arith, length-append dropped.before passed.before) in
    record {
      before = dropped.before ++ passed.before;
      bytes = dropped.bytes ∙ ap (λ xs. dropped.before ++ xs) passed.bytes ∙ sym
          (append_assoc dropped.before passed.before (bytes_of (begun n (drop next ps))));
      passes = subst (λ m. Passes all m (begun n (drop next ps))) long passed.passes;
    }

-- pieces of which none is a stall
stalls_none-from_next : (ps : List Piece) → ((from : ℕ) → stalls_from from ps ≡ [])
    → (from : ℕ) → stalls_from from (from_next ps) ≡ []
stalls_none-from_next [] h from = refl
stalls_none-from_next (Bytes [] ∷ ps) h from =
    stalls_none-from_next ps (λ m. let same : m + length {A = ℕ} [] ≡ m = omega arith in
    subst (λ i. stalls_from i ps ≡ []) same (h m)) from
stalls_none-from_next (Bytes (b ∷ bs) ∷ ps) h from = h from
stalls_none-from_next (Stall k ∷ ps) h from = let none : ⊥ = cc (h from) in absurd none

stalls_none-cut_up : (cuts bytes : List ℕ) (from : ℕ) → stalls_from from (cut_up cuts bytes) ≡ []
stalls_none-cut_up [] bytes from = refl
stalls_none-cut_up (c ∷ cs) bytes from = stalls_none-cut_up cs (drop c bytes) (from + length (take c bytes))

-- a list that is given in pieces has no stall ahead
pub cut_stalls : (place : ℕ) (cuts bytes : List ℕ) → HasAhead [] place (from_next (cut_up cuts bytes))
cut_stalls place cuts bytes =
    let ahead : List Piece = from_next (cut_up cuts bytes) in
    let none : stalls_from place ahead ≡ [] =
    stalls_none-from_next (cut_up cuts bytes) (stalls_none-cut_up cuts bytes) place in
    record {
      here = λ e. sym (ap (stands_at place) none) ∙ e;
      beyond = sym (ap (reads_beyond place) none);
    }

-- a place is its own
same_place : (place : ℕ) (others : Bool) → ((place == place) || others) ≡ true
same_place place others = grind arith

-- a read that waits meets a stall
pub waits_here : (room place waiting : ℕ) (stalls : List (ℕ × ℕ)) (ps : List Piece) → IsFront ps
    → HasAhead stalls place ps → waiting ≡ stalled_reads ps → got_again (next_answer room ps) ≡ true
    → StallsAt place waiting stalls
waits_here room place waiting stalls [] f h n e = let none : ⊥ = cc in absurd none
waits_here room place waiting stalls (Bytes bs ∷ ps) f h n e = let none : ⊥ = cc in absurd none
waits_here room place waiting stalls (Stall zero ∷ ps) f h n e = absurd f
waits_here room place waiting stalls (Stall (suc k) ∷ ps) f h n e =
    let rest : List (ℕ × ℕ) = stalls_from place ps in
    let same : (if nat_lt place place then suc k else 0) + reads_beyond place rest ≡ reads_beyond place rest =
    not_beyond place place (suc k) (reads_beyond place rest) (omega arith) in
    let few : reads_beyond place rest ≤ stalled_reads ps = beyond_most place place ps in
    record {
      stands = h.here (same_place place (stands_at place rest));
      more = omega (arith, h.beyond, same, few, n);
    }

-- and a read that meets a stall waits
pub here_waits : (room place waiting : ℕ) (stalls : List (ℕ × ℕ)) (ps : List Piece) → IsFront ps
    → HasAhead stalls place ps → waiting ≡ stalled_reads ps → StallsAt place waiting stalls
    → got_again (next_answer room ps) ≡ true
here_waits room place waiting stalls [] f h n at = let none : ⊥ = omega (arith, n, at.more) in absurd none
here_waits room place waiting stalls (Bytes [] ∷ ps) f h n at = absurd f
here_waits room place waiting stalls (Bytes (b ∷ bs) ∷ ps) f h n at =
    let all : reads_beyond place (stalls_from (place + length (b ∷ bs)) ps) ≡ stalled_reads ps =
    beyond_all place (place + length (b ∷ bs)) ps (omega arith) in
    let none : ⊥ = omega (arith, h.beyond, all, n, at.more) in absurd none
here_waits room place waiting stalls (Stall k ∷ ps) f h n at = refl
