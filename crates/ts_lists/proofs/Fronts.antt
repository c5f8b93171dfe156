-- Fronts and rests of a list: what `take`, `drop` and `++` make of one another.
use Rattle.std.proofs.Common.{◌≡◌, ℕ, ◌+◌, ◌-◌, ◌≤◌, ◌⊎◌, inl, inr, List, [], ◌∷◌, ◌++◌, length, take, drop}
use Rattle.std.proofs.Common.{refl, ap, sym, ◌∙◌, subst, arith}
use Rattle.std.proofs.lemmas.List.{append_assoc, take-append-drop, take-append-le, take-take, take_at}
use Rattle.std.proofs.lemmas.List.{drop_at, length-take, length-append}
use Rattle.std.proofs.Math.Seq.{take-append-add}

module _ {A : Type 0} where
  -- two lists that are one have one front of a length, and one rest
  pub same_fronts : (front also rest others : List A) → length front ≡ length also
      → front ++ rest ≡ also ++ others
      → (front ≡ also) × (rest ≡ others)
  same_fronts front also rest others long same = (
    sym (take_at front rest (length also) long) ∙ ap (take (length also)) same
        ∙ take_at also others (length also) refl,
    sym (drop_at front rest (length also) long) ∙ ap (drop (length also)) same
        ∙ drop_at also others (length also) refl,
  )

  -- a front and its rest are the list
  pub front_and_rest : (xs front rest : List A) (n : ℕ) → front ≡ take n xs → rest ≡ drop n xs
      → xs ≡ front ++ rest
  front_and_rest xs front rest n is left =
      sym (take-append-drop n xs) ∙ ap (λ zs. zs ++ drop n xs) (sym is) ∙ ap (λ zs. front ++ zs) (sym left)

  -- a list with more behind it, cut at n
  pub cut_before : (n : ℕ) (xs more : List A) → xs ++ more ≡ take n xs ++ (drop n xs ++ more)
  cut_before n xs more =
      ap (λ zs. zs ++ more) (sym (take-append-drop n xs)) ∙ append_assoc (take n xs) (drop n xs) more

  -- a cut behind the front
  pub take_past : (n : ℕ) (xs front rest : List A) → xs ≡ front ++ rest → length front ≤ n
      → take n xs ≡ front ++ take (n - length front) rest
  take_past n xs front rest is short =
      let same : n ≡ length front + (n - length front) = omega arith in
      ap (take n) is ∙ ap (λ k. take k (front ++ rest)) same ∙ take-append-add front rest (n - length front)

  -- the front of a front is a front of the whole
  pub front_of_front : (n : ℕ) (xs cut front rest : List A) → cut ≡ take n xs → cut ≡ front ++ rest
      → xs ≡ front ++ drop (length front) xs
  front_of_front n xs cut front rest is begins =
      let whole : xs ≡ front ++ (rest ++ drop n xs) =
      sym (take-append-drop n xs) ∙ ap (λ l. l ++ drop n xs) (sym is ∙ begins)
      ∙ append_assoc front rest (drop n xs) in
      whole ∙ ap (λ l. front ++ l) (sym (ap (drop (length front)) whole
      ∙ drop_at front (rest ++ drop n xs) (length front) refl))

  -- the first n of a front are the first n of the whole, and what is left of the whole stands behind them
  pub front_then_rest : (xs rest front : List A) (n : ℕ) → front ≡ take (length front) xs → n ≤ length front
      → rest ≡ drop n xs
      → xs ≡ take n front ++ rest
  front_then_rest xs rest front n is within left =
      front_and_rest xs (take n front) rest n (ap (take n) is ∙ take-take n (length front) xs within) left

  -- a front of a front, by its length
  pub take_of_front : (xs front piece : List A) (m : ℕ) → front ≡ take (length front) xs
      → piece ≡ take m front
      → piece ≡ take (length piece) xs
  take_of_front xs front piece m is part =
      let whole : xs ≡ piece ++ (drop m front ++ drop (length front) xs) =
      front_and_rest xs front (drop (length front) xs) (length front) is refl
      ∙ ap (λ zs. zs ++ drop (length front) xs) (front_and_rest front piece (drop m front) m part refl)
      ∙ append_assoc piece (drop m front) (drop (length front) xs) in
      sym (ap (take (length piece)) whole
      ∙ take_at piece (drop m front ++ drop (length front) xs) (length piece) refl)

  -- the first n of a front twice cut are the first n of the whole
  pub take_of_takes : (n m k : ℕ) (xs cut : List A) → cut ≡ take m (take k xs) → n ≤ length cut
      → take n cut ≡ take n xs
  take_of_takes n m k xs cut is within =
      let long : n ≤ length (take m (take k xs)) = subst (λ l. n ≤ length l) is within in
      let below : n ≤ m = omega (arith, length-take m (take k xs)) in
      let few : n ≤ k = omega (arith, length-take m (take k xs), length-take k xs) in
      ap (take n) is ∙ take-take n m (take k xs) below ∙ take-take n k xs few

  -- a front that is no longer than what stands first begins it
  pub front_was_there : (held piece front rest : List A) → held ++ piece ≡ front ++ rest
      → length front ≤ length held
      → held ≡ front ++ drop (length front) held
  front_was_there held piece front rest is short =
      let same : take (length front) held ≡ front =
      sym (take-append-le (length front) held piece short) ∙ ap (take (length front)) is
      ∙ take_at front rest (length front) refl in
      sym (take-append-drop (length front) held) ∙ ap (λ l. l ++ drop (length front) held) same

  -- a front that is longer than what stands first ends in what stands behind
  pub front_ends_in : (held piece front rest : List A) → held ++ piece ≡ front ++ rest
      → length held ≤ length front
      → front ≡ held ++ take (length front - length held) piece
  front_ends_in held piece front rest is long =
      sym (take_at front rest (length front) refl) ∙ ap (take (length front)) (sym is)
      ∙ take_past (length front) (held ++ piece) held piece refl long

  -- what is left of a list is a front's rest
  pub rest_by_length : (xs before left : List A) → xs ≡ before ++ left
      → take (length xs - length left) xs ≡ before
  rest_by_length xs before left is =
      let long : length xs ≡ length before + length left = ap length is ∙ length-append before left in
      let same : length xs - length left ≡ length before = omega arith in
      ap (λ n. take n xs) same ∙ ap (take (length before)) is ∙ take_at before left (length before) refl

  -- a list of length n that is written over a table's front is what the first n are
  pub taken_table : (P : List A → Type 0) (n : ℕ) (us xs : List A) → length us ≡ n → P us
      → P (take n (us ++ drop (length us) xs))
  taken_table P n us xs long is = subst P (sym (take_at us (drop (length us) xs) n long)) is

  -- the first elements and one more, of a list that goes on behind
  pub take_one_more : (xs : List A) (x : A) (ys : List A) (k : ℕ) → length xs ≡ k
      → take (k + 1) (xs ++ x ∷ ys) ≡ xs ++ x ∷ []
  take_one_more xs x ys k long =
      let more : length (xs ++ x ∷ []) ≡ k + 1 = omega (arith, length-append xs (x ∷ [])) in
      ap (take (k + 1)) (sym (append_assoc xs (x ∷ []) ys)) ∙ take_at (xs ++ x ∷ []) ys (k + 1) more

  -- two cuts of one list are one, or one stands behind the other
  pub two_cuts : (before : List A) (x : A) (after also_before : List A) (y : A) (also_after : List A)
      → before ++ x ∷ after ≡ also_before ++ y ∷ also_after
      → ((before ≡ also_before) × (x ≡ y))
      ⊎ (((more : List A) × (also_before ≡ before ++ x ∷ more))
      ⊎ ((more : List A) × (before ≡ also_before ++ y ∷ more)))
  two_cuts [] x after [] y also_after is = inl (refl, cc)
  two_cuts [] x after (b ∷ bs) y also_after is =
      inr (inl (bs, let same : x ≡ b = cc in ap (λ z. z ∷ bs) (sym same)))
  two_cuts (b ∷ bs) x after [] y also_after is =
      inr (inr (bs, let same : b ≡ y = cc in ap (λ z. z ∷ bs) same))
  two_cuts (b ∷ bs) x after (d ∷ ds) y also_after is =
      let head : b ≡ d = cc in
      let tail : bs ++ x ∷ after ≡ ds ++ y ∷ also_after = cc in
      with_head head (two_cuts bs x after ds y also_after tail)
    where
      with_head : b ≡ d → ((bs ≡ ds) × (x ≡ y))
          ⊎ (((more : List A) × (ds ≡ bs ++ x ∷ more)) ⊎ ((more : List A) × (bs ≡ ds ++ y ∷ more)))
          → ((b ∷ bs ≡ d ∷ ds) × (x ≡ y))
          ⊎ (((more : List A) × (d ∷ ds ≡ (b ∷ bs) ++ x ∷ more))
          ⊎ ((more : List A) × (b ∷ bs ≡ (d ∷ ds) ++ y ∷ more)))
      with_head head (inl (same, lines)) = inl (cc, lines)
      with_head head (inr (inl (more, same))) = inr (inl (more, cc))
      with_head head (inr (inr (more, same))) = inr (inr (more, cc))
