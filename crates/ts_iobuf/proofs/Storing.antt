-- A store's fields: what becomes of the bytes that it holds as its blocks are filled, passed and sealed.
use Rattle.std.proofs.Common.{◌≡◌, ℕ, ◌+◌, ◌-◌, ◌≤◌, List, [], ◌++◌, length, take, drop, arith, sym, ap, ◌∙◌, append_assoc, append-nil, length-append, length-drop, length-take, drop-drop}
use Rattle.std.proofs.lemmas.List.{take_all, drop_all, drop-append-le, length-take-le}
use Rattle.std.proofs.Math.Seq.{take-add}
use Rattle.ts_iobuf.specs.Buffer.{blocks_after, one_block}
use Rattle.ts_iobuf.specs.Stored.{held, joined, stored}
use Rattle.ts_iobuf.proofs.Cutting.{joined-after, joined-more, drop-append}

-- how many bytes the block in filling holds
pub length-stored : (start filled : ℕ) (filling : List ℕ) → filled ≤ length filling
    → length (stored start filled filling) ≡ filled - start
length-stored start filled filling within = omega
    (arith, length-drop start (take filled filling), length-take filled filling)

-- how many bytes are held
pub held-len : (xs : List (List ℕ)) (start filled : ℕ) (filling : List ℕ) → filled ≤ length filling
    → length (joined (held xs start filled filling)) ≡ length (joined xs) + (filled - start)
held-len xs start filled filling within =
    ap length (joined-more xs (stored start filled filling))
    ∙ length-append (joined xs) (stored start filled filling)
    ∙ ap (λ n. length (joined xs) + n) (length-stored start filled filling within)

-- bytes that were put behind the first `filled`
stored-put : (start filled : ℕ) (filling bytes filling' : List ℕ) → start ≤ filled → filled ≤ length filling
    → filling' ≡ take filled filling ++ bytes
    → stored start (length filling') filling' ≡ stored start filled filling ++ bytes
stored-put start filled filling bytes filling' order within is =
    ap (drop start) (take_all (length filling') filling' (omega arith))
    ∙ ap (drop start) is
    ∙ drop-append-le start (take filled filling) bytes (omega (arith, length-take-le filled filling within))

-- the same of all that is held
pub held-put : (xs : List (List ℕ)) (start filled : ℕ) (filling bytes filling' : List ℕ) → start ≤ filled
    → filled ≤ length filling → filling' ≡ take filled filling ++ bytes
    → joined (held xs start (length filling') filling') ≡ joined (held xs start filled filling) ++ bytes
held-put xs start filled filling bytes filling' order within is =
    joined-more xs (stored start (length filling') filling')
    ∙ ap (λ l. joined xs ++ l) (stored-put start filled filling bytes filling' order within is)
    ∙ sym (append_assoc (joined xs) (stored start filled filling) bytes)
    ∙ ap (λ l. l ++ bytes) (sym (joined-more xs (stored start filled filling)))

-- the first n of the free bytes
stored-more : (start filled n : ℕ) (filling : List ℕ) → start ≤ filled → filled ≤ length filling
    → stored start (filled + n) filling ≡ stored start filled filling ++ take n (drop filled filling)
stored-more start filled n filling order within =
    ap (drop start) (take-add filled n filling)
    ∙ drop-append-le start (take filled filling) (take n (drop filled filling))
    (omega (arith, length-take-le filled filling within))

-- the same of all that is held
pub held-produced : (xs : List (List ℕ)) (start filled n : ℕ) (filling : List ℕ) → start ≤ filled
    → filled ≤ length filling
    → joined (held xs start (filled + n) filling)
    ≡ joined (held xs start filled filling) ++ take n (drop filled filling)
held-produced xs start filled n filling order within =
    joined-more xs (stored start (filled + n) filling)
    ∙ ap (λ l. joined xs ++ l) (stored-more start filled n filling order within)
    ∙ sym (append_assoc (joined xs) (stored start filled filling) (take n (drop filled filling)))
    ∙ ap (λ l. l ++ take n (drop filled filling)) (sym (joined-more xs (stored start filled filling)))

-- what is left after the first n bytes, of which so many are left to drop after the full blocks
pub held-passed : (xs : List (List ℕ)) (start filled n left : ℕ) (filling : List ℕ)
    → left ≡ n - length (joined xs)
    → joined (held (blocks_after n xs) (start + left) filled filling)
    ≡ drop n (joined (held xs start filled filling))
held-passed xs start filled n left filling is =
    joined-more (blocks_after n xs) (stored (start + left) filled filling)
    ∙ ap (λ l. l ++ stored (start + left) filled filling) (joined-after n xs)
    ∙ ap (λ l. drop n (joined xs) ++ l) (sym (drop-drop left start (take filled filling)))
    ∙ ap (λ m. drop n (joined xs) ++ drop m (stored start filled filling)) is
    ∙ sym (drop-append n (joined xs) (stored start filled filling))
    ∙ ap (drop n) (sym (joined-more xs (stored start filled filling)))

-- what is left to drop after the full blocks stands in the block in filling
pub passed-within : (xs : List (List ℕ)) (start filled n left : ℕ) (filling : List ℕ) → start ≤ filled
    → filled ≤ length filling → n ≤ length (joined (held xs start filled filling))
    → left ≡ n - length (joined xs) → start + left ≤ filled
passed-within xs start filled n left filling order within few is =
    omega (arith, held-len xs start filled filling within)

-- a new block in filling, all of which is filled
pub held-begun : (xs : List (List ℕ)) (n : ℕ) (filling : List ℕ) → n ≡ length filling
    → joined (held xs 0 n filling) ≡ joined xs ++ filling
held-begun xs n filling is =
    joined-more xs (stored 0 n filling)
    ∙ ap (λ l. joined xs ++ l) (take_all n filling (omega arith))

-- a part that begins behind the full blocks
pub held-past : (xs : List (List ℕ)) (start filled at : ℕ) (filling : List ℕ) → length (joined xs) ≤ at
    → drop at (joined (held xs start filled filling))
    ≡ drop (at - length (joined xs)) (stored start filled filling)
held-past xs start filled at filling past =
    let front : List ℕ = stored start filled filling in
    ap (drop at) (joined-more xs front)
    ∙ drop-append at (joined xs) front
    ∙ ap (λ l. l ++ drop (at - length (joined xs)) front) (drop_all at (joined xs) past)

-- how many bytes there are once more were added
pub joined-len : (xs xs' : List (List ℕ)) (more : List ℕ) → joined xs' ≡ joined xs ++ more
    → length (joined xs') ≡ length (joined xs) + length more
joined-len xs xs' more is = ap length is ∙ length-append (joined xs) more

-- a block in filling that holds nothing
pub stored-none : (n : ℕ) (filling : List ℕ) → stored n n filling ≡ []
stored-none n filling = drop_all n (take n filling) (omega (arith, length-take n filling))

-- then all that is held stands in full blocks
pub held-none : (xs : List (List ℕ)) (start filled : ℕ) (filling : List ℕ) → start ≡ filled
    → held xs start filled filling ≡ xs
held-none xs start filled filling is =
    rw is (ap (λ l. xs ++ one_block l) (stored-none filled filling) ∙ append-nil xs)
