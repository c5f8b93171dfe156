-- Lists of which a part was lent and written.
use Rattle.std.proofs.Common.{◌≡◌, ℕ, zero, suc, ◌+◌, ◌-◌, ◌≤◌, List, [], ◌∷◌, ◌++◌, length, take, drop, arith, refl, sym, ap, ◌∙◌, append_assoc, length-append, length-drop}
use Rattle.ts_iobuf.specs.Buffer.{one_block}
use Rattle.ts_iobuf.specs.Stored.{Contents, written_over}
use Rattle.std.proofs.lemmas.List.{take-take, take_at, drop_at, drop-take, take-append-le, length-take-le}

-- the list with w written over the part from f on, as a `Vec` of this length holds it
abbrev pub over : ℕ → List ℕ → List ℕ → List ℕ
over f w items =
    let written = take f items ++ (w ++ drop (length w) (drop f items)) in take (length items)
    (written ++ drop (length written) items)

-- what stands before the part stays
pub over-front : (f : ℕ) (w items : List ℕ) → f ≤ length items → take f (over f w items) ≡ take f items
over-front f w items within =
    let written : List ℕ = take f items ++ (w ++ drop (length w) (drop f items)) in
    let behind : List ℕ = drop (length written) items in
    take-take f (length items) (written ++ behind) within
    ∙ ap (take f) (append_assoc (take f items) (w ++ drop (length w) (drop f items)) behind)
    ∙ take_at (take f items) ((w ++ drop (length w) (drop f items)) ++ behind) f
    (length-take-le f items within)

-- the first n bytes of a list that w was written over
same_front : (n : ℕ) (w rest : List ℕ)
    → take n (w ++ drop (length w) (take n rest)) ≡ take n (w ++ drop (length w) rest)
same_front zero w rest = refl
same_front (suc n) [] rest = take-take (suc n) (suc n) rest (omega arith)
same_front (suc n) (x ∷ w) [] = refl
same_front (suc n) (x ∷ w) (y ∷ rest) = ap (λ l. x ∷ l) (same_front n w rest)

-- what stands from the part on is the old rest with w written over its front
pub over-behind : (f : ℕ) (w items : List ℕ) → f ≤ length items
    → drop f (over f w items) ≡ written_over (drop f items) w
over-behind f w items within =
    let part : List ℕ = w ++ drop (length w) (drop f items) in
    let behind : List ℕ = drop (length (take f items ++ part)) items in
    let all : f + (length items - f) ≡ length items = omega arith in
    let long : length items - f ≤ length part = omega (
      arith,
      length-append w (drop (length w) (drop f items)),
      length-drop (length w) (drop f items),
      length-drop f items,
    ) in
    ap (λ m. drop f (take m ((take f items ++ part) ++ behind))) (sym all)
    ∙ drop-take f (length items - f) ((take f items ++ part) ++ behind)
    ∙ ap (λ l. take (length items - f) (drop f l)) (append_assoc (take f items) part behind)
    ∙ ap (take (length items - f)) (drop_at (take f items) (part ++ behind) f (length-take-le f items within))
    ∙ take-append-le (length items - f) part behind long
    ∙ ap (λ n. take n part) (sym (length-drop f items))

-- a store by its full blocks, the filled front of its block in filling, and the free bytes
abbrev pub made : List (List ℕ) → ℕ → List ℕ → List ℕ → Contents
made blocks start front behind = record { blocks = blocks ++ one_block (drop start front); behind = behind }

-- a store whose free bytes were written has them as they were left, and its blocks as they were
pub contents-over : (blocks : List (List ℕ)) (start filled : ℕ) (items w : List ℕ) → filled ≤ length items
    → made blocks start (take filled (over filled w items)) (drop filled (over filled w items))
    ≡ made blocks start (take filled items) (written_over (drop filled items) w)
contents-over blocks start filled items w within =
    let behind : List ℕ = drop filled (over filled w items) in
    ap (λ front. made blocks start front behind) (over-front filled w items within)
    ∙ ap (made blocks start (take filled items)) (over-behind filled w items within)

-- a front of free bytes that were written is the front as it was left
pub over-room : (n : ℕ) (w free : List ℕ) → n ≤ length free
    → take n (written_over free w) ≡ written_over (take n free) w
over-room n w free within =
    take-take n (length free) (w ++ drop (length w) free) within
    ∙ sym (same_front n w free)
    ∙ ap (λ m. take m (w ++ drop (length w) (take n free))) (sym (length-take-le n free within))
