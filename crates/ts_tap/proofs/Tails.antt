-- How a text ends, by its last bytes.
use Rattle.std.proofs.Common.{◌≡◌, ℕ, zero, suc, ◌+◌, ◌-◌, ◌<◌, ◌≤◌, List, [], ◌++◌, length, take, drop, inl}
use Rattle.std.proofs.Common.{inr, ⊎_elim, refl, sym, ap, ◌∙◌, arith, append_assoc, length-append}
use Rattle.std.proofs.Common.{length-drop, take-append-drop}
use Rattle.std.specs.Prelude.{◌⊎◌}
use Rattle.std.proofs.lemmas.List.{append-nil, drop_at, drop-append-le}
use Rattle.ts_tap.specs.declared.sent_reader.TheConstants.{TAIL}
use Rattle.ts_tap.specs.Sending.{IsTail}
use Rattle.ts_tap.specs.SentBody.{EndsWith}

-- a text ends as its last bytes do
pub ends_text : (text tail end : List ℕ) → IsTail text tail → EndsWith tail end → EndsWith text end
ends_text text tail end t (front, is) = (
  t.front ++ front,
  t.whole ∙ ap (λ l. t.front ++ l) is ∙ sym (append_assoc t.front front end),
)

-- and these as the text does, where the end is short
pub ends_tail : (text tail end : List ℕ) → IsTail text tail → length end ≤ TAIL → EndsWith text end
    → EndsWith tail end
ends_tail text tail end t short (front, is) =
    let same : t.front ++ tail ≡ front ++ end = sym t.whole ∙ is in
    let sums : length t.front + length tail ≡ length front + length end =
    sym (length-append t.front tail) ∙ ap length same ∙ length-append front end in
    let within : length t.front ≤ length front =
    ⊎_elim
    (λ (none : t.front ≡ []). let zero_long : length t.front ≡ 0 = ap length none in omega (arith, zero_long))
    (λ (enough : TAIL ≤ length tail). omega (arith, enough, short, sums))
    t.enough in (
      drop (length t.front) front,
      sym (drop_at t.front tail (length t.front) refl) ∙ ap (drop (length t.front)) same
          ∙ drop-append-le (length t.front) front end within,
    )

-- a text that goes on with as many bytes as are kept: the last of these
pub keeps_long : (text bytes : List ℕ) → TAIL ≤ length bytes
    → IsTail (text ++ bytes) (drop (length bytes - TAIL) bytes)
keeps_long text bytes long =
    let gone = length bytes - TAIL in
    record {
      front = text ++ take gone bytes;
      whole = ap (λ l. text ++ l) (sym (take-append-drop gone bytes))
          ∙ sym (append_assoc text (take gone bytes) (drop gone bytes));
      enough = inr (omega (arith, length-drop gone bytes, long));
    }

-- with fewer: these, behind as many as there is place for
module _ (text tail bytes : List ℕ) (t : IsTail text tail) (short : length bytes < TAIL) where
  whole_is : (over : ℕ) → text ++ bytes ≡ (t.front ++ take over tail) ++ (drop over tail ++ bytes)
  whole_is over =
      ap (λ l. l ++ bytes) t.whole ∙ append_assoc t.front tail bytes
      ∙ ap (λ l. t.front ++ (l ++ bytes)) (sym (take-append-drop over tail))
      ∙ ap (λ l. t.front ++ l) (append_assoc (take over tail) (drop over tail) bytes)
      ∙ sym (append_assoc t.front (take over tail) (drop over tail ++ bytes))

  enough_in : (over : ℕ) → over ≡ length tail - (TAIL - length bytes)
      → (t.front ++ take over tail ≡ []) ⊎ (TAIL ≤ length (drop over tail ++ bytes))
  enough_in zero is =
      ⊎_elim
      (λ (none : t.front ≡ []). inl (append-nil t.front ∙ none))
      (λ (enough : TAIL ≤ length tail). inr (omega (arith, enough, length-append tail bytes)))
      t.enough
  enough_in (suc n) is =
      inr (omega (
        arith,
        is,
        short,
        length-append (drop (suc n) tail) bytes,
        length-drop (suc n) tail,
      ))

  pub keeps_short : (over : ℕ) → over ≡ length tail - (TAIL - length bytes)
      → IsTail (text ++ bytes) (drop over tail ++ bytes)
  keeps_short over is = record {
    front = t.front ++ take over tail;
    whole = whole_is over;
    enough = enough_in over is;
  }
